-- The digits of a number say it, and a line fits its space.
-- Assumes nothing.
use Prim.Native.Nat.{ℕ, zero, suc, ◌+◌, ◌-◌, ◌*◌, ◌/◌, ◌%◌, ◌^◌, ◌<◌, ◌≤◌}
use mathlib.Core.Path.{◌≡◌, refl, sym, ◌∙◌}
use mathlib.Core.List.{List, [], ◌∷◌, ◌++◌}
use lib.ListN.{length, get_or, length-append, get_or-append}
use native.Mathlib.Omega.{arith}
use Rattle.numbers.specs.Lists.{All}
use Rattle.numbers.proofs.Tests.{by_less}
use Rattle.lines.specs.Decimal.{digit, decimal_by, decimal}
use Rattle.lines.specs.Meaning.{read_on, Says, DecimalRight}
use Rattle.lines.specs.Lines.{row, letter_r, text_of, line_room}
use Rattle.lines.specs.declared.Line.{Line}
use Rattle.lines.specs.declared.Line.TheVariants as line
use Rattle.lines.proofs.Decimals.{by_one, by_more, tenth, decimal_most}

-- ---- one digit more

read_more : (v : ℕ) (l : List ℕ) (b : ℕ) → read_on v (l ++ (b ∷ [])) ≡ read_on v l * 10 + (b - 48)
read_more v [] b = refl
read_more v (c ∷ l) b = read_more (v * 10 + (c - 48)) l b

all_more : (P : ℕ → Type 0) (l : List ℕ) (b : ℕ) → All P l → P b → All P (l ++ (b ∷ []))
all_more P [] b a p = (p, tt)
all_more P (c ∷ l) b a p = (a.0, all_more P l b a.1 p)

-- a single zero says zero
read_zero : (l : List ℕ) → get_or l 0 0 ≡ 48 → length l ≡ 1 → read_on 0 l ≡ 0
read_zero [] e h = absurd (omega arith)
read_zero (b ∷ []) e h = omega arith
read_zero (b ∷ c ∷ l) e h = absurd (omega arith)

says_one : (x : ℕ) → x < 10 → Says x (digit x ∷ [])
says_one x h = record { value = omega arith; digits = ((omega arith, omega arith), tt); some = omega arith; first = λ e. refl }

says_more : (x : ℕ) (l : List ℕ) → 10 ≤ x → Says (x / 10) l → Says x (l ++ (digit (x % 10) ∷ []))
says_more x l h s = record {
  value = rw (read_more 0 l (digit (x % 10)), s.value) (omega arith);
  digits = all_more (λ b. (48 ≤ b) × (b ≤ 57)) l (digit (x % 10)) s.digits (omega arith, omega arith);
  some = simp length-append (omega (arith, s.some));
  first = λ e.
      let z : get_or l 0 0 ≡ 48 = sym (get_or-append l (digit (x % 10) ∷ []) 0 0 s.some) ∙ e in
      absurd (omega (arith, read_zero l z (s.first z), s.value));
}

says_by : (n x : ℕ) → x < 10 ^ suc n → Says x (decimal_by (suc n) x)
says_by zero x h = rw (by_one 0 x h) (says_one x h)
says_by (suc n) x h =
    by_less x 10 (λ l. rw (by_one (suc n) x l) (says_one x l))
    (λ l. rw (by_more (suc n) x l) (says_more x _ l (says_by n (x / 10) (tenth (suc n) x h))))

pub decimal_right : DecimalRight
decimal_right x h = says_by 19 x h

-- ---- a line fits its space

-- words of at most 20 bytes, and one byte behind each
row_most : (l : List (List ℕ)) → All (λ w. length w ≤ 20) l → length (row l) ≤ length l * 21
row_most [] a = omega arith
row_most (w ∷ []) a = simp length-append (omega (arith, a.0))
row_most (w ∷ v ∷ l) a = simp length-append (omega (arith, a.0, row_most (v ∷ l) a.1))

pub text_most : (l : Line) → length (text_of l) ≤ line_room
text_most line.Cut = omega arith
text_most line.BadHeader = omega (arith, row_most (letter_r ∷ decimal 8 ∷ []) (omega arith, (decimal_most 8, tt)))
text_most (line.Refused p t n) =
    omega (arith, row_most (decimal p ∷ decimal t ∷ letter_r ∷ decimal n ∷ []) (decimal_most p, (decimal_most t, (omega arith, (decimal_most n, tt)))))
text_most (line.Judged p t v r e) =
    omega (arith, row_most (decimal p ∷ decimal t ∷ decimal v ∷ decimal r ∷ decimal e ∷ []) (decimal_most p, (decimal_most t, (decimal_most v, (decimal_most r, (decimal_most e, tt))))))
