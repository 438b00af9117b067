-- 01, "What a frame shows": the whole frame, and refusals 1 and 2. s is the frame's bytes.
-- Assumes nothing.
use Rattle.std.specs.Prelude.{ℕ, List, Bool, cond, ◌&&◌, ◌||◌, Result, Ok, Err, length, ltb}
use Rattle.packets.specs.Link.{tagged_bytes, tagged, link_of}
use Rattle.packets.specs.Ip.{ip_of}
use Rattle.payloads.specs.Transport.{transport_of}
use Rattle.payloads.specs.Someip.{someip_of}
use Rattle.layers.specs.declared.Layers.{Layers}
use Rattle.layers.specs.declared.FrameRefusal.{FrameRefusal}
use Rattle.layers.specs.declared.FrameRefusal.TheVariants as refusal

-- the layers, each in what the one below it leaves
unfoldable pub layers_of : List ℕ → Layers
layers_of s =
    let l = link_of s in
    let i = ip_of s l.ether l.hlen in
    let t = transport_of s i in
    record { link = l; ip = i; transport = t; someip = someip_of s t }

-- "The frame comes without its check sequence, 14 to 1,518 bytes"
abbrev pub least : ℕ
least = 14

abbrev pub most : ℕ
most = 1518

-- refusal 1: "frame under 14 bytes, or 0x8100 at 12 and under 18"
unfoldable pub too_short : List ℕ → Bool
too_short s = ltb (length s) least || (tagged s && ltb (length s) tagged_bytes)

-- refusal 2: "frame over 1,518"
abbrev pub too_long : List ℕ → Bool
too_long s = ltb most (length s)

-- 01's number of each refusal
abbrev pub refusal_number : FrameRefusal → ℕ
refusal_number refusal.TooShort = 1
refusal_number refusal.TooLong = 2

-- the answer: refusal 1, else refusal 2, else what the frame shows
unfoldable pub shown_of : List ℕ → Result Layers FrameRefusal
shown_of s =
    cond (too_short s) (Err refusal.TooShort)
    (cond (too_long s) (Err refusal.TooLong) (Ok (layers_of s)))
