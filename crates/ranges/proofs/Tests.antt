-- The first setting at fault in a list of tests, and in one list after the other.
-- Assumes nothing.
use Prim.Native.Nat.{ℕ}
use native.Mathlib.Omega.{arith}
use mathlib.Core.Path.{◌≡◌, refl, ap, ◌∙◌}
use mathlib.Core.List.{List, [], ◌∷◌, ◌++◌}
use mathlib.Core.Bool.{Bool, true, false}
use lib.Dec.{ltb}
use Rattle.numbers.specs.Lists.{every_of}
use Rattle.numbers.proofs.Lists.{and_both}
use Rattle.std.specs.Prelude.{Result, Ok, Err, None, ⊤}
use Rattle.ranges.specs.declared.setting_number.SettingNumber.{SettingNumber}
use Rattle.ranges.specs.Numbers.{setting_number, number_or_none}
use Rattle.ranges.specs.Ranges.{Test, test, test_good, all_good, fault_in}

-- a setting is at fault, and so a test fails
pub one_fails : (l : List Test) {n : SettingNumber} → fault_in l ≡ Err n → all_good l ≡ false
one_fails [] e = let z : ◌≡◌ {A = ℕ} 0 1 = cc in absurd (omega arith)
one_fails (test s true ∷ l) e = one_fails l e
one_fails (test s false ∷ l) e = refl

-- no setting is at fault, and so all tests pass
pub none_fails : (l : List Test) → fault_in l ≡ Ok tt → all_good l ≡ true
none_fails [] e = refl
none_fails (test s true ∷ l) e = none_fails l e
none_fails (test s false ∷ l) e = let z : ◌≡◌ {A = ℕ} 0 1 = cc in absurd (omega arith)

-- the first of two lists, and the second where no setting of the first is at fault
abbrev pub and_then : Result ⊤ SettingNumber → Result ⊤ SettingNumber → Result ⊤ SettingNumber
and_then (Ok x) y = y
and_then (Err n) y = Err n

pub fault_after : (ks ls : List Test) → fault_in (ks ++ ls) ≡ and_then (fault_in ks) (fault_in ls)
fault_after [] ls = refl
fault_after (test s true ∷ ks) ls = fault_after ks ls
fault_after (test s false ∷ ks) ls = refl

-- ---- block by block: of the tests l, none before the block `ks` fails

-- a setting of the block is at fault
pub block_stops :
    (l ks ls : List Test) {n : SettingNumber} → fault_in l ≡ fault_in (ks ++ ls) → fault_in ks ≡ Err n → fault_in l ≡ Err n
block_stops l ks ls e f = e ∙ fault_after ks ls ∙ ap (λ x. and_then x (fault_in ls)) f

-- none of them is
pub block_goes : (l ks ls : List Test) → fault_in l ≡ fault_in (ks ++ ls) → fault_in ks ≡ Ok tt → fault_in l ≡ fault_in ls
block_goes l ks ls e f = e ∙ fault_after ks ls ∙ ap (λ x. and_then x (fault_in ls)) f

-- no setting of these has the number that stands for none
abbrev setting_named : Test → Bool
setting_named (test s b) = ltb (setting_number s) (number_or_none None)

abbrev pub settings_named : List Test → Bool
settings_named l = every_of setting_named l

-- the rest of good tests is good
pub rest_good : (ks ls : List Test) → all_good (ks ++ ls) ≡ true → all_good ls ≡ true
rest_good [] ls e = e
rest_good (x ∷ ks) ls e = rest_good ks ls (and_both (test_good x) (all_good (ks ++ ls)) e).1
