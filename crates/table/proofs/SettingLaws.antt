-- What a setting means, over the width and the type of its value: unset, a value, a range.
-- Assumes nothing.
use mathlib.Core.Path.{◌≡◌, refl}
use mathlib.Core.Bool.{Bool, true, false≢true}
use borrow.Author.Tests.{eqb-true, eq-eqb, leb-true, le-leb}
use lib.Dec.{leb}
use Rattle.numbers.proofs.Lists.{and_both, and_true_true}
use Rattle.table.specs.Settings.{is_unset, agrees}
use Rattle.table.specs.declared.Setting.{Setting}
use Rattle.table.specs.declared.Setting.TheVariants.{Unset as unset, Set as set}
use Rattle.table.specs.Meaning.{UnsetAgrees, SetAgrees, RangeAgrees}

pub unset_agrees : {A X : Type 0} (f : A → X → Bool) (s : Setting A) (x : X) → is_unset s ≡ true → agrees f s x ≡ true
unset_agrees f unset x e = refl
unset_agrees f (set v) x e = absurd (false≢true e)

pub unset_always : UnsetAgrees
unset_always A X f s x e = unset_agrees f s x e

pub set_exactly : SetAgrees
set_exactly v x = (eqb-true v x, eq-eqb v x)

pub range_exactly : RangeAgrees
range_exactly r x = (
  λ e. let k = and_both (leb r.low x) (leb x r.high) e in (leb-true r.low x k.0, leb-true x r.high k.1),
  λ h. and_true_true (le-leb r.low x h.0) (le-leb x r.high h.1),
)
