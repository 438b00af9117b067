-- The bytes that an input has left and those that an output holds, where they are known.
-- Assumes nothing.
use Rattle.std.proofs.Common.{◌≡◌, ℕ, min, List, [], ◌++◌, length, take, Option, None, Some, refl, sym, ap, subst, ◌∙◌, arith, ◌-◌, Result, Ok, Err}
use mathlib.Core.List.{append_assoc, append-nil}
use Rattle.std.specs.Io.{ReadsAtMost}
use Rattle.std.specs.Io.KnownBytes.{Keeps, Consumes, Appends, ReadConsumes}
use Rattle.std.specs.Result.{result_ok}
use Rattle.replay.specs.Position.{buffer_size, came_of}

pub takes_none : (a : Option (List ℕ)) → Consumes a a []
takes_none None = tt
takes_none (Some xs) = refl

pub takes_more : (a b c : Option (List ℕ)) (xs ys : List ℕ) → Consumes a b xs → Consumes b c ys → Consumes a c (xs ++ ys)
takes_more None b c xs ys h k = tt
takes_more (Some u) None c xs ys h k = absurd h
takes_more (Some u) (Some v) None xs ys h k = absurd k
takes_more (Some u) (Some v) (Some w) xs ys h k = h ∙ (ap (λ l. xs ++ l) k ∙ sym (append_assoc xs ys w))

pub adds_none : (a : Option (List ℕ)) → Appends a a []
adds_none None = tt
adds_none (Some xs) = sym (append-nil xs)

pub adds_more : (a b c : Option (List ℕ)) (xs ys : List ℕ) → Appends a b xs → Appends b c ys → Appends a c (xs ++ ys)
adds_more None b c xs ys h k = tt
adds_more (Some u) None c xs ys h k = absurd h
adds_more (Some u) (Some v) None xs ys h k = absurd k
adds_more (Some u) (Some v) (Some w) xs ys h k = k ∙ (ap (λ l. l ++ ys) h ∙ append_assoc u xs ys)

keeps_all : (a b : Option (List ℕ)) → Keeps a b → Consumes a b []
keeps_all None b h = tt
keeps_all (Some u) None h = absurd h
keeps_all (Some u) (Some v) h = sym h

-- what came was the next of the input
pub takes_came :
    {E : Type 0} (a b : Option (List ℕ)) (r : Result ℕ E) (n : ℕ) (l : List ℕ) → length l ≡ buffer_size - n → ReadsAtMost r l → ReadConsumes a b r l
    → Consumes a b (take (came_of n (result_ok r)) l)
takes_came a b (Ok k) n l size most h =
    let e : k ≡ min k (buffer_size - n) = omega (arith, most.0, size) in
    subst (λ m. Consumes a b (take m l)) e h.0
takes_came a b (Err e) n l size most h = keeps_all a b h
