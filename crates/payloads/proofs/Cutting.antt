-- A payload that cuts into messages: the first, and what is behind it.
-- Assumes nothing.
use Prim.Native.Nat.{ℕ, zero, suc, ◌+◌, ◌-◌, ◌≤◌, ◌<◌}
use mathlib.Core.Path.{◌≡◌, refl, sym, ap, subst, ◌∙◌}
use mathlib.Core.List.{List, [], ◌∷◌}
use mathlib.Core.Bool.{Bool, true, false, cond, false≢true}
use native.Mathlib.Nat.{not-suc-le-zero}
use native.Mathlib.Omega.{arith}
use lib.Dec.{eqb}
use lib.ListN.{length}
use borrow.Author.Tests.{leb-true, ne_eqb}
use Rattle.numbers.proofs.Lists.{every_at}
use Rattle.payloads.specs.declared.Message.{Message}
use Rattle.payloads.specs.Someip.{
  someip_bytes,
  least_length,
  length_field,
  size_at,
  message_tests,
  message_here,
  message_at,
  Cut,
  Fails,
  Into,
  with_first,
  cut_by,
  cut,
  does_cut,
  messages_in,
}
use Rattle.payloads.specs.Inside.{CutInside}

-- a whole message has its Length, and fits
pub here_fits : (s : List ℕ) (at len : ℕ) → message_here s at len ≡ true → (least_length ≤ length_field s at) × (size_at s at ≤ len)
unfolding message_here message_tests
here_fits s at len e =
    let ts = message_tests s at len in
    (leb-true _ _ (every_at ts 1 e), leb-true _ _ (every_at ts 0 e))

-- ---- len messages are never too few

pub cut_enough : (n k : ℕ) (s : List ℕ) (at len : ℕ) → len ≤ n → len ≤ k → cut_by n s at len ≡ cut_by k s at len
unfolding cut_by
cut_enough zero zero s at len h g = refl
cut_enough zero (suc k) s at zero h g = refl
cut_enough zero (suc k) s at (suc l) h g = absurd (not-suc-le-zero h)
cut_enough (suc n) zero s at zero h g = refl
cut_enough (suc n) zero s at (suc l) h g = absurd (not-suc-le-zero g)
cut_enough (suc n) (suc k) s at len h g =
    ap (λ (c : Cut). cond (eqb len 0) (Into []) (cond (message_here s at len) (with_first (message_at s at) c) Fails))
    (cut_enough n k s (at + size_at s at) (len - size_at s at) (omega arith) (omega arith))

-- ---- the first message, and what is behind it

-- what the bytes behind the message at `at` cut into
abbrev pub behind : List ℕ → ℕ → ℕ → Cut
behind s at len = cut s (at + size_at s at) (len - size_at s at)

pub cut_nothing : (s : List ℕ) (at : ℕ) → cut s at 0 ≡ Into []
unfolding cut_by
cut_nothing s at = refl

pub cut_goes :
    (s : List ℕ) (at len : ℕ) → message_here s at len ≡ true
    → cut s at len ≡ with_first (message_at s at) (behind s at len)
unfolding cut_by
cut_goes s at zero e = absurd (omega (arith, (here_fits s at 0 e).1))
cut_goes s at (suc l) e =
    rw (ne_eqb (suc l) 0 (λ z. omega arith), e)
    (ap (with_first (message_at s at)) (cut_enough l (suc l - size_at s at) s (at + size_at s at) (suc l - size_at s at) (omega arith) (omega arith)))

pub cut_stops : (s : List ℕ) (at len : ℕ) → 0 < len → message_here s at len ≡ false → cut s at len ≡ Fails
unfolding cut_by
cut_stops s at zero h e = absurd (not-suc-le-zero h)
cut_stops s at (suc l) h e = rw (ne_eqb (suc l) 0 (λ z. omega arith), e) refl

-- ---- what was cut

does_first : (m : Message) (c : Cut) → does_cut (with_first m c) ≡ does_cut c
does_first m Fails = refl
does_first m (Into ms) = refl

-- bytes with a whole message first cut exactly when those behind it do
pub cut_on : (s : List ℕ) (at len : ℕ) → message_here s at len ≡ true → does_cut (cut s at len) ≡ does_cut (behind s at len)
cut_on s at len e = ap does_cut (cut_goes s at len e) ∙ does_first (message_at s at) (behind s at len)

in_first : (m : Message) (c : Cut) → does_cut c ≡ true → messages_in (with_first m c) ≡ m ∷ messages_in c
in_first m Fails e = absurd (false≢true e)
in_first m (Into ms) e = refl

-- bytes that cut have a whole message first
pub cut_here : (s : List ℕ) (at len : ℕ) → 0 < len → does_cut (cut s at len) ≡ true → message_here s at len ≡ true
cut_here s at len h e = go (message_here s at len) refl
  where
    go : (b : Bool) → message_here s at len ≡ b → b ≡ true
    go true q = refl
    go false q = absurd (false≢true (ap does_cut (sym (cut_stops s at len h q)) ∙ e))

-- and are not no messages
abbrev some_of : Cut → Bool
some_of Fails = true
some_of (Into []) = false
some_of (Into (m ∷ ms)) = true

some_first : (m : Message) (c : Cut) → some_of (with_first m c) ≡ true
some_first m Fails = refl
some_first m (Into ms) = refl

pub cut_some : (s : List ℕ) (at len : ℕ) → 0 < len → cut s at len ≡ Into [] → ⊥
cut_some s at len h e = go (message_here s at len) refl
  where
    go : (b : Bool) → message_here s at len ≡ b → ⊥
    go true q = false≢true (ap some_of (sym e ∙ cut_goes s at len q) ∙ some_first (message_at s at) (behind s at len))
    go false q = false≢true (ap some_of (sym e ∙ cut_stops s at len h q))

-- where there are no bytes there is no first message
pub nothing_first : (s : List ℕ) (at : ℕ) (m : Message) (ms : List Message) → cut s at 0 ≡ Into (m ∷ ms) → ⊥
nothing_first s at m ms e = false≢true (ap some_of (sym (cut_nothing s at) ∙ e))

-- ---- from message to message, in the words of a loop that reads m at `at`

pub record Walked (s : List ℕ) (at len : ℕ) (m : Message) : Type 0 where
  pub header : at + someip_bytes ≤ length s
  pub some : 0 < m.size
  pub fits : m.size ≤ len
  pub rest : CutInside s (at + m.size) (len - m.size)
  pub is : messages_in (cut s at len) ≡ m ∷ messages_in (cut s (at + m.size) (len - m.size))

walked_here : (s : List ℕ) (at len : ℕ) → CutInside s at len → 0 < len → Walked s at len (message_at s at)
unfolding message_at
walked_here s at len w h =
    let e = cut_here s at len h w.cuts in
    let f = here_fits s at len e in
    let l = f.0 in
    let z = f.1 in
    let b = w.bytes in
    let d = sym (cut_on s at len e) ∙ w.cuts in
    record {
      header = omega arith;
      some = omega arith;
      fits = z;
      rest = record { bytes = omega arith; cuts = d };
      is = ap messages_in (cut_goes s at len e) ∙ in_first (message_at s at) (behind s at len) d;
    }

pub walked : (s : List ℕ) (at len : ℕ) (m : Message) → CutInside s at len → 0 < len → m ≡ message_at s at → Walked s at len m
walked s at len m w h e = subst (Walked s at len) (sym e) (walked_here s at len w h)
