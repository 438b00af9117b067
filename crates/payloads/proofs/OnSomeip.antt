-- SOME/IP: each definition, as a law that the proofs cite by what a branch knows.
-- Assumes nothing.
use Prim.Native.Nat.{ℕ, zero, suc, ◌+◌, ◌-◌, ◌≤◌, ◌<◌}
use mathlib.Core.Path.{◌≡◌, refl, ap}
use mathlib.Core.List.{List, [], ◌∷◌}
use mathlib.Core.Bool.{Bool, true, false, cond}
use native.Mathlib.Omega.{arith}
use lib.Dec.{eqb}
use borrow.Author.Tests.{ne_eqb}
use Rattle.std.specs.Prelude.{None, Some}
use Rattle.payloads.specs.Someip.{someip_bytes, size_at, message_here, Cut, Fails, Into, cut, does_cut, present_if, someip_at}
use Rattle.payloads.proofs.Cutting.{here_fits, cut_nothing, cut_on, cut_stops, cut_some}

-- a message that is here is passed: what is behind it cuts exactly when all of it does
pub record Passed (s : List ℕ) (at len n : ℕ) : Type 0 where
  pub whole : someip_bytes ≤ n
  pub fits : n ≤ len
  pub same : does_cut (cut s at len) ≡ does_cut (cut s (at + n) (len - n))

pub passed : (s : List ℕ) (at len : ℕ) → message_here s at len ≡ true → Passed s at len (size_at s at)
passed s at len h =
    let f = here_fits s at len h in
    record { whole = omega (arith, f.0); fits = f.1; same = cut_on s at len h }

pub ended : (s : List ℕ) (at len : ℕ) → message_here s at len ≡ false → 0 < len → does_cut (cut s at len) ≡ false
ended s at len e h = ap does_cut (cut_stops s at len h e)

pub nothing_cuts : (s : List ℕ) (at : ℕ) → does_cut (cut s at 0) ≡ true
nothing_cuts s at = ap does_cut (cut_nothing s at)

-- a message has 16 bytes at least
pub here_short : (s : List ℕ) (at len : ℕ) → len < someip_bytes → message_here s at len ≡ false
here_short s at len h = go (message_here s at len) refl
  where
    go : (b : Bool) → message_here s at len ≡ b → b ≡ false
    go false e = refl
    go true e = let f = here_fits s at len e in absurd (omega (arith, f.0, f.1))

-- present exactly where there are bytes and they cut
pub someip_is :
    (s : List ℕ) (at len : ℕ)
    → someip_at s at len ≡ cond (eqb len 0) None (cond (does_cut (cut s at len)) (Some (record { payload = at; plen = len })) None)
unfolding someip_at
someip_is s at zero = ap (present_if at 0) (cut_nothing s at)
someip_is s at (suc l) = rw (ne_eqb (suc l) 0 (λ z. omega arith)) (go (cut s at (suc l)) refl)
  where
    go :
        (c : Cut) → cut s at (suc l) ≡ c
        → present_if at (suc l) c ≡ cond (does_cut c) (Some (record { payload = at; plen = suc l })) None
    go Fails q = refl
    go (Into []) q = absurd (cut_some s at (suc l) (omega arith) q)
    go (Into (m ∷ ms)) q = refl
