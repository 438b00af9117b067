-- The records of a list of bytes, one by one: that `stored_by` may cut off so many does not matter.
-- Assumes nothing.
use Prim.Native.Nat.{ℕ, zero, suc, ◌≤◌, ◌<◌}
use mathlib.Core.Path.{◌≡◌, refl}
use mathlib.Core.List.{List, [], ◌∷◌}
use native.Mathlib.Omega.{arith}
use lib.ListN.{length, drop, length-drop}
use borrow.Author.Tests.{lt-ltb, le-ltb}
use Rattle.capture.specs.Capture.{Cut, head_of, size_of, item_of, stored_by, stored_in}
use Rattle.capture.specs.declared.Form.{Form}

enough : (n m : ℕ) (f : Form) (s : List ℕ) → length s ≤ n → length s ≤ m → stored_by n f s ≡ stored_by m f s
unfolding stored_by
enough zero zero f s h g = refl
enough zero (suc m) f [] h g = refl
enough zero (suc m) f (b ∷ s) h g = absurd (omega arith)
enough (suc n) zero f [] h g = refl
enough (suc n) zero f (b ∷ s) h g = absurd (omega arith)
enough (suc n) (suc m) f [] h g = refl
enough (suc n) (suc m) f (b ∷ s) h g =
    rw (enough n m f (drop (size_of f (b ∷ s)) (b ∷ s)) (simp length-drop (omega arith)) (simp length-drop (omega arith)))

pub records_none : (f : Form) → stored_in f [] ≡ []
unfolding stored_in stored_by
records_none f = refl

-- the header or the bytes are cut short
pub records_cut : (f : Form) (s : List ℕ) → 0 < length s → length s < size_of f s → stored_in f s ≡ Cut ∷ []
unfolding stored_in stored_by
records_cut f [] h g = absurd (omega arith)
records_cut f (b ∷ s) h g = rw (lt-ltb _ _ g)

-- a whole record, and those behind it
pub records_one :
    (f : Form) (s : List ℕ) → size_of f s ≤ length s → stored_in f s ≡ item_of (head_of f s) s ∷ stored_in f (drop (size_of f s) s)
unfolding stored_in stored_by
records_one f [] h = absurd (omega arith)
records_one f (b ∷ s) h =
    rw (le-ltb _ _ h, enough (length s) (length (drop (size_of f (b ∷ s)) (b ∷ s))) f (drop (size_of f (b ∷ s)) (b ∷ s)) (simp length-drop (omega arith)) (omega arith))
