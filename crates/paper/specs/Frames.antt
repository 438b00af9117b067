-- Document 01, 'Worked set': the bytes of each frame, by name.
-- Assumes nothing.
use Rattle.std.specs.Prelude.{ℕ, zero, suc, ◌-◌, ◌/◌, ◌%◌, ◌^◌, List, [], ◌∷◌, ◌++◌, length, set, take, drop}
use Rattle.numbers.specs.Lists.{copies}
use Rattle.paper.specs.declared.Frame.{Frame}
use Rattle.paper.specs.declared.Frame.TheVariants as frame

-- n bytes, as a number that is printed in hexadecimal shows them
unfoldable pub hex : ℕ → ℕ → List ℕ
hex zero v = []
hex (suc n) v = v / 256 ^ n % 256 ∷ hex n v

-- "Frame A (003, figure 6.7)"
unfoldable pub frame_a : List ℕ
frame_a =
    hex 6 0x021bbbbbbbbb
    ++ hex 6 0x021aaaaaaaaa
    ++ hex 2 0x0800
    ++ hex 20 0x4500003a00010000401166b00a0000010a010001
    ++ hex 8 0x771b77250026e8b9
    ++ hex 14 0x1000011100000016000100030101
    ++ hex 2 0x8000
    ++ hex 14 0x3433393741303842373530303436

-- zero bytes added
unfoldable pub padded : ℕ → List ℕ
padded n = frame_a ++ copies n 0

-- "A with type": the message type is byte 56
unfoldable pub with_type : ℕ → List ℕ
with_type v = set frame_a 56 v

-- "A with destination port": bytes 36 and 37
unfoldable pub with_port : ℕ → List ℕ
with_port v = take 36 frame_a ++ hex 2 v ++ drop 38 frame_a

-- an 0x0806 frame of 60 bytes: who has 10.1.0.1, tell 10.0.0.1
unfoldable pub frame0806 : List ℕ
frame0806 =
    hex 6 0xffffffffffff
    ++ hex 6 0x021aaaaaaaaa
    ++ hex 2 0x0806
    ++ hex 28 0x0001080006040001021aaaaaaaaa0a0000010000000000000a010001
    ++ hex 18 0

-- a TCP frame of 60 bytes from 10.0.0.2 to 10.1.0.1, the last 6 of them padding, by its TCP header of 20 bytes; all checksums are right
unfoldable pub tcp : ℕ → List ℕ
tcp header =
    hex 6 0x021bbbbbbbbb
    ++ hex 6 0x021aaaaaaaaa
    ++ hex 2 0x0800
    ++ hex 20 0x4500002800024000400626cb0a0000020a010001
    ++ hex 20 header
    ++ hex 6 0

-- from port 443 to 50,001, 50,002 and 50,003, with the flags in the name
unfoldable pub ack1 : List ℕ
ack1 = tcp 0x01bbc35100000000000000005010400096c40000

unfoldable pub syn_ack1 : List ℕ
syn_ack1 = tcp 0x01bbc35100000000000000005012400096c20000

unfoldable pub syn1 : List ℕ
syn1 = tcp 0x01bbc35100000000000000005002400096d20000

unfoldable pub syn2 : List ℕ
syn2 = tcp 0x01bbc35200000000000000005002400096d10000

unfoldable pub syn3 : List ℕ
syn3 = tcp 0x01bbc35300000000000000005002400096d00000

-- ---- the frames by name

-- "13 bytes", "17 bytes tagged"
unfoldable pub first13 : List ℕ
first13 = take 13 frame_a

unfoldable pub tagged17 : List ℕ
tagged17 = take 12 frame_a ++ hex 5 0x8100000108

unfoldable pub frame_bytes : Frame → List ℕ
frame_bytes frame.A = frame_a
frame_bytes frame.Padded = padded 4
frame_bytes frame.Type81 = with_type 0x81
frame_bytes frame.Cut = take 71 frame_a
frame_bytes frame.Ether0806 = frame0806
frame_bytes frame.Ack1 = ack1
frame_bytes frame.SynAck1 = syn_ack1
frame_bytes frame.Syn1 = syn1
frame_bytes frame.Syn2 = syn2
frame_bytes frame.Syn3 = syn3
frame_bytes frame.Port68 = with_port 68
frame_bytes frame.Port1024 = with_port 1024
frame_bytes frame.First13 = first13
frame_bytes frame.Tagged17 = tagged17
frame_bytes frame.Longest = padded 1446
frame_bytes frame.TooLong = padded 1447

-- a frame as its buffer of 1,519 bytes holds it: zeros after it
unfoldable pub laid : List ℕ → List ℕ
laid s = s ++ copies (1519 - length s) 0
