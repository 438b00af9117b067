-- Laws of the frames: bytes copied to the front of zeros, and what the stores make of them.
-- Assumes nothing.
use Prim.Native.Nat.{ℕ, ◌-◌, ◌≤◌}
use mathlib.Core.Path.{◌≡◌, refl, ap, sym, ◌∙◌}
use mathlib.Core.List.{List, ◌++◌}
use lib.ListN.{length, drop, set, replicate, length-append}
use native.Mathlib.Omega.{arith}
use Rattle.std.proofs.lemmas.List.{drop-replicate}
use Rattle.numbers.specs.Lists.{copies}
use Rattle.numbers.proofs.Lists.{copies_replicate}
use Rattle.paper.specs.declared.Frame.{Frame}
use Rattle.paper.specs.declared.Frame.TheVariants as frame
use Rattle.paper.specs.Frames.{hex, frame_a, padded, with_type, with_port, frame0806, tcp, ack1, syn_ack1, syn1, syn2, syn3, first13, tagged17, frame_bytes, laid}

-- copied to the front of zeros
pub copied :
    (s : List ℕ) {t : List ℕ} → t ≡ s → t ++ drop (length s) (replicate 1519 0) ≡ s ++ copies (1519 - length s) 0
copied s {t} e = rw (e, drop-replicate {X = ℕ} (length s) 1519 0, copies_replicate {A = ℕ} 0 (1519 - length s))

-- ---- each frame as the code makes it

abbrev pub with_bytes : ℕ → ℕ → List ℕ
with_bytes high low = set (set (laid frame_a) 36 high) 37 low

abbrev pub tcp_with : ℕ → ℕ → ℕ → List ℕ
tcp_with port flags sum = set (set (set (laid (tcp 0x01bbc35000000000000000005000400096000000)) 37 port) 47 flags) 51 sum

abbrev pub made : Frame → List ℕ
made frame.A = laid frame_a
made frame.Padded = laid frame_a
made frame.Type81 = set (laid frame_a) 56 0x81
made frame.Cut = set (laid frame_a) 71 0
made frame.Ether0806 = laid frame0806
made frame.Ack1 = tcp_with 0x51 0x10 0xc4
made frame.SynAck1 = tcp_with 0x51 0x12 0xc2
made frame.Syn1 = tcp_with 0x51 0x02 0xd2
made frame.Syn2 = tcp_with 0x52 0x02 0xd1
made frame.Syn3 = tcp_with 0x53 0x02 0xd0
made frame.Port68 = with_bytes 0 68
made frame.Port1024 = with_bytes 4 0
made frame.First13 = laid first13
made frame.Tagged17 = laid tagged17
made frame.Longest = laid frame_a
made frame.TooLong = laid frame_a

made_right : (f : Frame) → made f ≡ laid (frame_bytes f)
unfolding hex frame_a padded with_type with_port tcp ack1 syn_ack1 syn1 syn2 syn3 first13 tagged17 frame_bytes laid
made_right frame.A = refl
made_right frame.Padded = refl
made_right frame.Type81 = refl
made_right frame.Cut = refl
made_right frame.Ether0806 = refl
made_right frame.Ack1 = refl
made_right frame.SynAck1 = refl
made_right frame.Syn1 = refl
made_right frame.Syn2 = refl
made_right frame.Syn3 = refl
made_right frame.Port68 = refl
made_right frame.Port1024 = refl
made_right frame.First13 = refl
made_right frame.Tagged17 = refl
made_right frame.Longest = refl
made_right frame.TooLong = refl

pub put_right : {l : List ℕ} {f g : Frame} → f ≡ g → l ≡ made g → l ≡ laid (frame_bytes f)
put_right {l} {f} {g} e p = p ∙ made_right g ∙ ap (λ h. laid (frame_bytes h)) (sym e)

-- a frame lies within its buffer
pub within : (s : List ℕ) → length s ≤ length (laid s)
unfolding laid
within s = rw (length-append) (omega arith)
