-- Laws of bytes written one after the other.
-- Assumes nothing.
use Prim.Native.Nat.{ℕ, suc, ◌+◌, ◌-◌, ◌^◌, ◌<◌}
use mathlib.Core.Path.{◌≡◌, refl, sym, subst, ◌∙◌}
use mathlib.Core.List.{List, [], ◌∷◌, ◌++◌, append_assoc, append-nil}
use lib.ListN.{length, take, drop, set, get_or, length-append}
use lib.Seq.{set_at, take_at, drop_at, drop-cons, drop-drop}
use native.Mathlib.Omega.{arith}
use Rattle.numbers.specs.Lists.{Wrote}
use Rattle.numbers.proofs.Elements.{part_all, part_none}
use Rattle.std.specs.Fmt as Fmt
use Rattle.lines.specs.Decimal.{decimal}
use Rattle.lines.specs.Lines.{row, letter_r}
use Rattle.lines.proofs.Decimals.{as_printed}

-- one byte behind
pub wrote_byte : {b s t : List ℕ} {n : ℕ} (a : ℕ) → Wrote b s t n → n < length s → Wrote (b ++ (a ∷ [])) s (set t n a) (n + 1)
wrote_byte {b} {s} {t} {n} a w h =
    let l : length b < length s = omega (arith, w.count) in
    let m : length (b ++ (a ∷ [])) ≡ suc (length b) = simp length-append (omega arith) in record {
      count = omega (arith, m, w.count);
      left = rw (m, w.left, drop-cons s (length b) 0 l, set_at b (get_or s (length b) 0) (drop (suc (length b)) s) a n (sym w.count))
          (sym (append_assoc b (a ∷ []) (drop (suc (length b)) s)));
    }

-- more behind, in the part of the space that begins there
pub wrote_two :
    {b d s t y : List ℕ} {n k : ℕ} → Wrote b s t n → Wrote d (take (length t - n) (drop n t)) y k
    → Wrote (b ++ d) s (take n t ++ (y ++ drop (length t - n) (drop n t))) (n + k)
wrote_two {b} {d} {s} {t} {y} {n} {k} w v =
    let p : take n t ≡ b = rw w.left (take_at b (drop (length b) s) n (sym w.count)) in
    let q : drop n t ≡ drop (length b) s = rw w.left (drop_at b (drop (length b) s) n (sym w.count)) in
    let r : y ≡ d ++ drop (length b + length d) s = v.left ∙ rw (part_all t n, q, drop-drop (length d) (length b) s) refl in record {
      count = rw (length-append b d) (omega (arith, w.count, v.count));
      left = rw (part_none t n, append-nil y, p, r, length-append b d) (sym (append_assoc b d (drop (length b + length d) s)));
    }

-- and behind a number, as the library prints it
pub wrote_word :
    {t s u : List ℕ} {n : ℕ} (x a : ℕ) → Wrote t s u n → n < length s → t ≡ Fmt.decimal x → x < 10 ^ 20
    → Wrote (decimal x ++ (a ∷ [])) s (set u n a) (n + 1)
wrote_word {t} {s} {u} {n} x a w l e h = subst (λ d. Wrote (d ++ (a ∷ [])) s (set u n a) (n + 1)) (e ∙ as_printed x h) (wrote_byte a w l)

-- ---- the words of a line

module _ {s t : List ℕ} {k : ℕ} where
  pub row_refused :
      (a b n : List ℕ) → Wrote ((((a ++ (32 ∷ [])) ++ (b ++ (32 ∷ []))) ++ (82 ∷ 32 ∷ [])) ++ (n ++ (10 ∷ []))) s t k
      → Wrote (row (a ∷ b ∷ letter_r ∷ n ∷ [])) s t k
  row_refused a b n w = simp append_assoc at w

  pub row_judged :
      (a b c d e : List ℕ)
      → Wrote ((((a ++ (32 ∷ [])) ++ (b ++ (32 ∷ []))) ++ ((c ++ (32 ∷ [])) ++ (d ++ (32 ∷ [])))) ++ (e ++ (10 ∷ []))) s t k
      → Wrote (row (a ∷ b ∷ c ∷ d ∷ e ∷ [])) s t k
  row_judged a b c d e w = simp append_assoc at w
