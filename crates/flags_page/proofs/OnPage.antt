-- The lines of the page: each entry of the list is what the flags that it stands for count as.
-- Assumes nothing.
use Prim.Native.Nat.{ℕ, ◌/◌, ◌%◌, ◌<◌}
use mathlib.Core.Path.{◌≡◌, refl, ap, sym, ◌∙◌}
use mathlib.Core.Bool.{true}
use lib.ListN.{get_or}
use lib.Dec.{eqb}
use borrow.Author.Tests.{eqb-true}
use Rattle.numbers.specs.Lists.{all_below}
use Rattle.numbers.proofs.Lists.{below_at}
use Rattle.flags.specs.Kinds.{kinds, entry_of}
use Rattle.std.specs.Prelude.{Some, None}
use Rattle.flags.specs.declared.Phase.TheVariants as phase
use Rattle.flags.proofs.OnKinds.{kinds_listed}
use Rattle.flags_page.specs.Page.{done_of, row_of}
use Rattle.flags_page.specs.declared.row.Done.{Done}
use Rattle.flags_page.specs.declared.row.Row.{Row}

-- the flags that are the binary digits of an entry's number lead to it: a computed test, over the sixteen entries
entry_for : ℕ → ℕ
entry_for n = entry_of (eqb (n / 8 % 2) 1) (eqb (n / 4 % 2) 1) (eqb (n / 2 % 2) 1) (eqb (n % 2) 1)

tested : all_below (λ n. eqb (entry_for n) n) 16 ≡ true
unfolding all_below entry_for
tested = refl

pub row_is : (n : ℕ) → n < 16 → (a b c d : Done)
    → a ≡ done_of (get_or kinds n None) None
    → b ≡ done_of (get_or kinds n None) (Some phase.Opening)
    → c ≡ done_of (get_or kinds n None) (Some phase.Running)
    → d ≡ done_of (get_or kinds n None) (Some phase.Closing)
    → ◌≡◌ {A = Row}
    (record {
      fin = eqb (n / 8 % 2) 1;
      syn = eqb (n / 4 % 2) 1;
      rst = eqb (n / 2 % 2) 1;
      ack = eqb (n % 2) 1;
      flags = get_or kinds n None;
      nothing = a;
      opening = b;
      running = c;
      closing = d;
    })
    (row_of n)
unfolding row_of entry_for
row_is n h a b c d ea eb ec ed =
    let k = ap (λ i. get_or kinds i None) (sym (eqb-true (entry_for n) n (below_at (λ i. eqb (entry_for i) i) 16 n tested h))) ∙ kinds_listed.read (eqb (n / 8 % 2) 1) (eqb (n / 4 % 2) 1) (eqb (n / 2 % 2) 1) (eqb (n % 2) 1) in
    cc
