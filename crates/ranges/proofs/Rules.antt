-- The tests of one rule, layer by layer.
-- Assumes nothing.
use mathlib.Core.Path.{◌≡◌, refl, sym, ap, ◌∙◌}
use mathlib.Core.List.{List, ◌++◌}
use mathlib.Core.Bool.{Bool, true, ◌&&◌, ◌||◌, false≢true}
use Rattle.numbers.proofs.Tests.{cond_skips}
use Rattle.table.specs.Settings.{within, is_unset}
use Rattle.table.specs.declared.Setting.{Setting}
use Rattle.table.specs.declared.Setting.TheVariants.{Unset as unset, Set as set}
use Rattle.ranges.specs.Ranges.{any, may_track, Test, head_tests, link_tests, ipv6_good, ip_tests, transport_tests, someip_tests, rate_tests, tracking_tests, rule_tests, all_good, fault_in}
use Rattle.ranges.proofs.Tests.{and_then, fault_after, settings_named, rest_good}
use Rattle.std.specs.Prelude.{Ok}
use Rattle.table.specs.declared.SomeipSettings.{SomeipSettings}
use Rattle.table.specs.declared.Rule.{Rule}

-- a setting whose every value is good
pub any_good : {A : Type 0} (s : Setting A) → within any s ≡ true
any_good unset = refl
any_good (set v) = refl

-- an IPv6 setting that is unset
pub unset_good : {A : Type 0} (p : A → Bool) (s : Setting A) (alone : Bool) → is_unset s ≡ true → ipv6_good p s alone ≡ true
unset_good p unset alone e = refl
unset_good p (set v) alone e = absurd (false≢true e)

-- a setting that may be set only where the rest allows it, in the words of the code; one whose every value is good
pub by_parts : {a b p u : Bool} (may : Bool) → a ≡ p → b ≡ u → (a && (b || may)) ≡ (p && (u || may))
by_parts may e f = rw (e, f)

pub any_alone : {A : Type 0} (s : Setting A) (alone : Bool) {b : Bool} → b ≡ is_unset s → (b || alone) ≡ ipv6_good any s alone
any_alone s alone f = rw (f, any_good s)

-- ---- the tests of a rule, layer by layer

-- those from a layer on
module _ (r : Rule) where
  abbrev pub from_tracking : List Test
  from_tracking = tracking_tests r.tracking (may_track r)

  abbrev pub from_rate : List Test
  from_rate = rate_tests r.rate ++ from_tracking

  abbrev pub from_someip : List Test
  from_someip = someip_tests r.someip ++ from_rate

  abbrev pub from_transport : List Test
  from_transport = transport_tests r.transport ++ from_someip

  abbrev pub from_ip : List Test
  from_ip = ip_tests r.ipv4 r.ipv6 ++ from_transport

  abbrev pub from_link : List Test
  from_link = link_tests r.link ++ from_ip

module _ (fresh : Bool) (r : Rule) where
  -- no setting has the number that stands for none
  pub rule_named : settings_named (rule_tests fresh r) ≡ true
  unfolding rule_tests
  rule_named = refl

  -- those of tracking, which stand last, are good where all are
  pub tracking_good : all_good (rule_tests fresh r) ≡ true → all_good (from_tracking r) ≡ true
  unfolding rule_tests
  tracking_good e =
      rest_good (rate_tests r.rate) (from_tracking r)
      (rest_good (someip_tests r.someip) (from_rate r)
      (rest_good (transport_tests r.transport) (from_someip r)
      (rest_good (ip_tests r.ipv4 r.ipv6) (from_transport r) (rest_good (link_tests r.link) (from_ip r) (rest_good (head_tests fresh r) (from_link r) e)))))

-- those of SOME/IP always pass
pub someip_passes : (s : SomeipSettings) → fault_in (someip_tests s) ≡ Ok tt
someip_passes s =
    sym
    (cond_skips _ (any_good s.service)
    (cond_skips _ (any_good s.method)
    (cond_skips _ (any_good s.version)
    (cond_skips _ (any_good s.kind) (cond_skips _ (any_good s.code) refl)))))

-- layer by layer: the first of them that has a fault tells it
pub by_layers : (fresh : Bool) (r : Rule)
    → fault_in (rule_tests fresh r)
    ≡ and_then (fault_in (head_tests fresh r))
    (and_then (fault_in (link_tests r.link))
    (and_then (fault_in (ip_tests r.ipv4 r.ipv6))
    (and_then (fault_in (transport_tests r.transport))
    (and_then (fault_in (rate_tests r.rate)) (fault_in (tracking_tests r.tracking (may_track r)))))))
unfolding rule_tests
by_layers fresh r =
    let t = tracking_tests r.tracking (may_track r) in
    let e = fault_after (rate_tests r.rate) t in
    let f : fault_in (from_someip r) ≡ and_then (fault_in (rate_tests r.rate)) (fault_in t) =
    fault_after (someip_tests r.someip) (from_rate r) ∙ ap (λ x. and_then x (fault_in (from_rate r))) (someip_passes r.someip) ∙ e in
    let g = fault_after (transport_tests r.transport) (from_someip r) ∙ ap (and_then (fault_in (transport_tests r.transport))) f in
    let h = fault_after (ip_tests r.ipv4 r.ipv6) (from_transport r) ∙ ap (and_then (fault_in (ip_tests r.ipv4 r.ipv6))) g in
    let k = fault_after (link_tests r.link) (from_ip r) ∙ ap (and_then (fault_in (link_tests r.link))) h in
    fault_after (head_tests fresh r) (from_link r) ∙ ap (and_then (fault_in (head_tests fresh r))) k
