-- Where no mark of a layer stands, none of its settings is set, and none is at fault.
-- Assumes nothing.
use Prim.Native.Nat.{ℕ, ◌+◌, ◌-◌, ◌/◌, ◌%◌, ◌^◌, ◌<◌}
use mathlib.Core.Path.{◌≡◌, refl, sym, ap, ◌∙◌}
use mathlib.Core.List.{List}
use mathlib.Core.Bool.{Bool, true, false}
use native.Mathlib.Nat.{zero-div}
use native.Mathlib.Omega.{arith}
use borrow.Author.Tests.{eqb-true, ne_eqb}
use lib.Dec.{eqb}
use lib.Pow.{field, mod-mod-pow}
use Rattle.numbers.specs.Lists.{every}
use Rattle.numbers.proofs.Lists.{every_at}
use Rattle.numbers.proofs.Tests.{cond_skips}
use Rattle.table.specs.Marks.{ipv6_unset}
use Rattle.table.specs.Table.{marked}
use Rattle.ranges.proofs.Rules.{unset_good}
use Rattle.ranges.specs.Ranges.{any, prefix6_good, link_tests, ip_tests, ipv6_tests, transport_tests, rate_tests, tracking_tests, fault_in}
use Rattle.std.specs.Prelude.{Ok}
use Rattle.table.specs.Words.{
  link_word,
  ip_word,
  transport_word,
  rate_word,
  tracking_word,
  word,
  is_set,
  setting8_in,
  setting16_in,
  setting32_in,
  setting64_in,
  kind_setting_in,
  range_in,
  prefix_in,
  prefix6_in,
  link_in,
  ipv4_in,
  ipv6_in,
  transport_in,
  rate_in,
  tracking_in,
}
use Rattle.addresses.specs.declared.Wide.{Wide}
use Rattle.table.specs.declared.IpSettings.{IpSettings}

-- a number whose lowest byte is zero has no bit there
no_bit : (n k : ℕ) → n % 2 ^ 8 ≡ 0 → k < 8 → n / 2 ^ k % 2 ≡ 0
no_bit n k e h =
    let f : 8 ≡ (8 - k) + k = omega arith in
    let g : 8 - k ≡ (7 - k) + 1 = omega arith in
    let upper : n / 2 ^ k % 2 ^ (8 - k) ≡ 0 = sym (field n (8 - k) k) ∙ ap (λ (x : ℕ). n % 2 ^ x / 2 ^ k) (sym f) ∙ ap (λ (x : ℕ). x / 2 ^ k) e ∙ zero-div (2 ^ k) in
    sym (mod-mod-pow (n / 2 ^ k) (7 - k) 1) ∙ ap (λ (x : ℕ). n / 2 ^ k % 2 ^ x % 2) (sym g) ∙ ap (λ (x : ℕ). x % 2) upper

module _ (w : List ℕ) where
  -- no setting of a layer is set
  none_set_lem : (layer bit : ℕ) {b : Bool} → b ≡ eqb (word w layer % 256) 0 → b ≡ true → bit < 8 → is_set w layer bit ≡ false
  unfolding marked
  none_set_lem layer bit e f h =
      let z : word w layer / 2 ^ bit % 2 ≡ 0 = no_bit (word w layer) bit (eqb-true (word w layer % 256) 0 (sym e ∙ f)) h in
      ne_eqb (word w layer / 2 ^ bit % 2) 1 (λ q. absurd (omega arith))

  module _ {b : Bool} (f : b ≡ true) where
    pub link_unset_lem : b ≡ eqb (word w link_word % 256) 0 → Ok tt ≡ fault_in (link_tests (link_in w))
    unfolding setting8_in setting16_in setting64_in
    link_unset_lem e =
        rw (none_set_lem link_word 0 e f (omega arith), none_set_lem link_word 1 e f (omega arith), none_set_lem link_word 2 e f (omega arith), none_set_lem link_word 3 e f (omega arith), none_set_lem link_word 4 e f (omega arith), none_set_lem link_word 5 e f (omega arith))

    pub ip_unset_lem : b ≡ eqb (word w ip_word % 256) 0 → Ok tt ≡ fault_in (ip_tests (ipv4_in w) (ipv6_in w))
    unfolding setting8_in prefix_in prefix6_in
    ip_unset_lem e =
        rw (none_set_lem ip_word 0 e f (omega arith), none_set_lem ip_word 1 e f (omega arith), none_set_lem ip_word 2 e f (omega arith), none_set_lem ip_word 3 e f (omega arith), none_set_lem ip_word 4 e f (omega arith), none_set_lem ip_word 5 e f (omega arith))

    pub transport_unset_lem : b ≡ eqb (word w transport_word % 256) 0 → Ok tt ≡ fault_in (transport_tests (transport_in w))
    unfolding kind_setting_in range_in
    transport_unset_lem e =
        rw (none_set_lem transport_word 0 e f (omega arith), none_set_lem transport_word 1 e f (omega arith), none_set_lem transport_word 2 e f (omega arith))

    pub rate_unset_lem : b ≡ eqb (word w rate_word % 256) 0 → Ok tt ≡ fault_in (rate_tests (rate_in w))
    unfolding setting16_in
    rate_unset_lem e = rw (none_set_lem rate_word 0 e f (omega arith), none_set_lem rate_word 1 e f (omega arith))

    pub tracking_unset_lem : b ≡ eqb (word w tracking_word % 256) 0 → (may : Bool) → Ok tt ≡ fault_in (tracking_tests (tracking_in w) may)
    unfolding setting8_in setting32_in
    tracking_unset_lem e may =
        rw (none_set_lem tracking_word 0 e f (omega arith), none_set_lem tracking_word 1 e f (omega arith), none_set_lem tracking_word 2 e f (omega arith), none_set_lem tracking_word 3 e f (omega arith))

-- no IPv6 setting is set, and none is at fault
pub ipv6_unset_lem : (s : IpSettings Wide) (alone : Bool) {b : Bool} → b ≡ every (ipv6_unset s) → b ≡ true → Ok tt ≡ fault_in (ipv6_tests s alone)
ipv6_unset_lem s alone e f =
    let h = sym e ∙ f in
    let ts = ipv6_unset s in
    cond_skips _ (unset_good prefix6_good s.source alone (every_at ts 0 h))
    (cond_skips _ (unset_good prefix6_good s.destination alone (every_at ts 1 h))
    (cond_skips _ (unset_good any s.protocol alone (every_at ts 2 h)) refl))
