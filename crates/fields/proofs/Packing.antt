-- What is laid into the words of a row is read back: fields laid above one another, settings, layers, a rule.
-- Assumes nothing.
use Prim.Native.Nat.{ℕ, zero, suc, ◌+◌, ◌-◌, ◌*◌, ◌^◌, ◌≤◌, ◌<◌}
use mathlib.Core.Path.{◌≡◌, refl, sym, ap, ◌∙◌}
use mathlib.Core.List.{List, [], ◌∷◌}
use mathlib.Core.Bool.{Bool, true, false, cond, ◌&&◌}
use native.Mathlib.Nat.{div-one, mul_assoc, pow-suc, le_of_suc-le-suc, not-suc-le-zero}
use native.Mathlib.Omega.{arith}
use borrow.Author.Tests.{ltb-true, leb-true}
use lib.Dec.{eqb, ltb, leb}
use lib.ListN.{length, get_or}
use lib.Pow.{high, low, shr-shr, pow-add}
use Rattle.numbers.proofs.Lists.{and_both}
use Rattle.table.specs.Settings.{is_unset, value_or}
use Rattle.table.specs.Table.{marked}
use Rattle.table.specs.Marks.{link_unset, ip_unset, transport_unset, someip_unset, rate_unset, tracking_unset}
use Rattle.table.specs.Words.{
  rule_word,
  link_word,
  destination_word,
  source_word,
  ip_word,
  address_word,
  source6_word,
  destination6_word,
  transport_word,
  port_word,
  someip_word,
  rate_word,
  tracking_word,
  word,
  bits,
  action_code,
  kind_code,
  action_from,
  kind_from,
  setting_in,
  setting8_in,
  setting16_in,
  setting32_in,
  setting64_in,
  kind_setting_in,
  range_in,
  prefix_in,
  prefix6_in,
  link_in,
  ipv4_in,
  ipv6_in,
  transport_in,
  someip_in,
  rate_in,
  tracking_in,
  rule_in,
}
use Rattle.fields.specs.Fields.{
  packed,
  Within,
  Laid,
  bit_of,
  marks_of,
  kind_or,
  range_or,
  prefix_or,
  prefix6_or,
  rule_fields,
  link_fields,
  ip_fields,
  address_fields,
  transport_fields,
  port_fields,
  someip_fields,
  rate_fields,
  tracking_fields,
}
use Rattle.table.specs.declared.Action.{Action}
use Rattle.table.specs.declared.Action.TheVariants as action
use Rattle.table.specs.declared.Kind.{Kind}
use Rattle.table.specs.declared.Kind.TheVariants as kind
use Rattle.table.specs.declared.Rule.{Rule}
use Rattle.addresses.specs.declared.Wide.{Wide}
use Rattle.table.specs.declared.Setting.{Setting}
use Rattle.table.specs.declared.Setting.TheVariants.{Unset as unset, Set as set}

-- ---- fields

-- where field k starts, and what it is
abbrev start : List (ℕ × ℕ) → ℕ → ℕ
start fs zero = 0
start [] (suc k) = 0
start (f ∷ fs) (suc k) = f.0 + start fs k

abbrev field : List (ℕ × ℕ) → ℕ → ℕ × ℕ
field fs k = get_or fs k (0, 0)

-- each field of the packed ones is read back
field_read : (fs : List (ℕ × ℕ)) (k : ℕ) → Within fs → bits (start fs k) (field fs k).0 (packed fs) ≡ (field fs k).1
field_read [] zero h = refl
field_read [] (suc k) h = refl
field_read (f ∷ fs) zero h = rw (div-one (packed fs * 2 ^ f.0 + f.1)) (low (packed fs) f.0 h.0)
field_read (f ∷ fs) (suc k) h =
    rw (← shr-shr (packed fs * 2 ^ f.0 + f.1) f.0 (start fs k), high (packed fs) f.0 h.0) (field_read fs k h.1)

-- and so from a word that holds them
told : {fs : List (ℕ × ℕ)} {w : ℕ} → Laid fs w → (k : ℕ) → bits (start fs k) (field fs k).0 w ≡ (field fs k).1
told {fs} {w} h k = rw h.is (field_read fs k h.fit)

-- ---- marks

bit_small : (b : Bool) → bit_of b < 2 ^ 1
bit_small true = omega arith
bit_small false = omega arith

-- the lowest of them, and the others with what stands above
lowest : (x n m b : ℕ) → x * 2 ^ suc n + (m * 2 + b) ≡ (x * 2 ^ n + m) * 2 ^ 1 + b
lowest x n m b = rw (pow-suc 2 n, ← mul_assoc x (2 ^ n) 2) (omega arith)

-- each mark is read back, whatever stands above them
mark_read : (us : List Bool) (x k : ℕ) → k < length us → bits k 1 (x * 2 ^ length us + marks_of us) ≡ bit_of (get_or us k true)
mark_read [] x k h = absurd (not-suc-le-zero h)
mark_read (u ∷ us) x zero h =
    rw (lowest x (length us) (marks_of us) (bit_of u), div-one ((x * 2 ^ length us + marks_of us) * 2 ^ 1 + bit_of u))
    (low (x * 2 ^ length us + marks_of us) 1 (bit_small u))
mark_read (u ∷ us) x (suc k) h =
    let e : suc k ≡ 1 + k = omega arith in
    rw (lowest x (length us) (marks_of us) (bit_of u), e, ← shr-shr ((x * 2 ^ length us + marks_of us) * 2 ^ 1 + bit_of u) 1 k, high (x * 2 ^ length us + marks_of us) 1 (bit_small u))
    (mark_read us x k (le_of_suc-le-suc h))

-- what stands above a byte stands above n bits of it
above_byte : (x n : ℕ) → n ≤ 8 → x * 2 ^ 8 ≡ x * 2 ^ (8 - n) * 2 ^ n
above_byte x n h =
    let e : 8 ≡ (8 - n) + n = omega arith in
    ap (λ (k : ℕ). x * 2 ^ k) e ∙ ap (λ (y : ℕ). x * y) (pow-add 2 (8 - n) n) ∙ sym (mul_assoc x (2 ^ (8 - n)) (2 ^ n))

-- and so from a word in whose lowest byte they stand
mark_told :
    (us : List Bool) {fs : List (ℕ × ℕ)} {w : ℕ} → Laid ((8, marks_of us) ∷ fs) w → (k : ℕ)
    → (ltb k (length us) && leb (length us) 8) ≡ true → bits k 1 w ≡ bit_of (get_or us k true)
mark_told us {fs} {w} h k e =
    let q = and_both (ltb k (length us)) (leb (length us) 8) e in
    ap (bits k 1) (h.is ∙ ap (λ (x : ℕ). x + marks_of us) (above_byte (packed fs) (length us) (leb-true (length us) 8 q.1)))
    ∙ mark_read us (packed fs * 2 ^ (8 - length us)) k (ltb-true k (length us) q.0)

-- ---- settings

-- the codes of the actions and of the kinds are told apart
pub action_read : (a : Action) → action_from (action_code a) ≡ a
action_read action.Allow = refl
action_read action.Block = refl
action_read action.Unknown = refl

kind_code_read : (k : Kind) → kind_from (kind_code k) ≡ k
kind_code_read kind.Udp = refl
kind_code_read kind.Tcp = refl
kind_code_read kind.Unknown = refl

-- the bit of a setting picks it
picked : {A : Type 0} (u : Bool) (x y : A) {n : ℕ} → n ≡ bit_of u → cond (eqb n 1) x y ≡ cond u y x
picked true x y e = ap (λ (m : ℕ). cond (eqb m 1) x y) e
picked false x y e = ap (λ (m : ℕ). cond (eqb m 1) x y) e

-- so is a kind, which is that of code 0 where it is unset
kind_read : (s : Setting Kind) → kind_from (kind_or s) ≡ value_or kind.Udp s
kind_read unset = refl
kind_read (set k) = kind_code_read k

-- a setting is read back where its mark and its value are, of whatever type the value is
setting_read :
    {A : Type 0} (w : List ℕ) (layer : ℕ) (other : A) (s : Setting A) (bit : ℕ) {v : A} → bits bit 1 (word w layer) ≡ bit_of (is_unset s)
    → v ≡ value_or other s → setting_in w layer bit v ≡ s
unfolding marked
setting_read w layer other unset bit e f = picked true _ _ e
setting_read w layer other (set v) bit e f = picked false _ _ e ∙ ap set f

-- ---- rules

-- the two words of an address
pub record HeldWide (a : Wide) (w : List ℕ) (k : ℕ) : Type 0 where
  pub high : word w k ≡ a.high
  pub low : word w (k + 1) ≡ a.low

-- words that hold what a rule's row holds
pub record Held (r : Rule) (w : List ℕ) : Type 0 where
  pub rule : Laid (rule_fields r) (word w rule_word)
  pub link : Laid (link_fields r.link) (word w link_word)
  pub destination : word w destination_word ≡ value_or 0 r.link.destination
  pub source : word w source_word ≡ value_or 0 r.link.source
  pub ip : Laid (ip_fields r.ipv4 r.ipv6) (word w ip_word)
  pub address : Laid (address_fields r.ipv4) (word w address_word)
  pub source6 : HeldWide (prefix6_or r.ipv6.source).address w source6_word
  pub destination6 : HeldWide (prefix6_or r.ipv6.destination).address w destination6_word
  pub transport : Laid (transport_fields r.transport) (word w transport_word)
  pub port : Laid (port_fields r.transport) (word w port_word)
  pub someip : Laid (someip_fields r.someip) (word w someip_word)
  pub rate : Laid (rate_fields r.rate) (word w rate_word)
  pub tracking : Laid (tracking_fields r.tracking) (word w tracking_word)

-- each layer is read back
module _ (r : Rule) (w : List ℕ) (h : Held r w) where
  link_read : link_in w ≡ r.link
  unfolding setting8_in setting16_in setting64_in
  link_read =
      let s = r.link in
      let m = mark_told (link_unset s) h.link in
      λ i. record {
        destination = setting_read w link_word 0 s.destination 0 (m 0 refl) h.destination i;
        source = setting_read w link_word 0 s.source 1 (m 1 refl) h.source i;
        vlan = setting_read w link_word 0 s.vlan 2 (m 2 refl) (told h.link 1) i;
        priority = setting_read w link_word 0 s.priority 3 (m 3 refl) (told h.link 2) i;
        ether = setting_read w link_word 0 s.ether 4 (m 4 refl) (told h.link 3) i;
        socket = setting_read w link_word 0 s.socket 5 (m 5 refl) (told h.link 4) i;
      }

  ipv4_read : ipv4_in w ≡ r.ipv4
  unfolding setting8_in prefix_in
  ipv4_read =
      let s = r.ipv4 in
      let m = mark_told (ip_unset s r.ipv6) h.ip in
      λ i. record {
        source = setting_read w ip_word (prefix_or unset) s.source 0 (m 0 refl) (λ j. record { address = told h.address 0 j; length = told h.ip 1 j }) i;
        destination =
            setting_read w ip_word (prefix_or unset) s.destination 1 (m 1 refl)
            (λ j. record { address = told h.address 1 j; length = told h.ip 2 j }) i;
        protocol = setting_read w ip_word 0 s.protocol 2 (m 2 refl) (told h.ip 3) i;
      }

  ipv6_read : ipv6_in w ≡ r.ipv6
  unfolding setting8_in prefix6_in
  ipv6_read =
      let s = r.ipv6 in
      let m = mark_told (ip_unset r.ipv4 s) h.ip in
      let a = h.source6 in
      let b = h.destination6 in
      λ i. record {
        source =
            setting_read w ip_word (prefix6_or unset) s.source 3 (m 3 refl)
            (λ j. record { address = record { high = a.high j; low = a.low j }; length = told h.ip 4 j }) i;
        destination =
            setting_read w ip_word (prefix6_or unset) s.destination 4 (m 4 refl)
            (λ j. record { address = record { high = b.high j; low = b.low j }; length = told h.ip 5 j }) i;
        protocol = setting_read w ip_word 0 s.protocol 5 (m 5 refl) (told h.ip 6) i;
      }

  transport_read : transport_in w ≡ r.transport
  unfolding kind_setting_in range_in
  transport_read =
      let s = r.transport in
      let m = mark_told (transport_unset s) h.transport in
      λ i. record {
        kind = setting_read w transport_word kind.Udp s.kind 0 (m 0 refl) (ap kind_from (told h.transport 1) ∙ kind_read s.kind) i;
        source = setting_read w transport_word (range_or unset) s.source 1 (m 1 refl) (λ j. record { low = told h.port 0 j; high = told h.port 1 j }) i;
        destination =
            setting_read w transport_word (range_or unset) s.destination 2 (m 2 refl)
            (λ j. record { low = told h.port 2 j; high = told h.port 3 j }) i;
      }

  someip_read : someip_in w ≡ r.someip
  unfolding setting8_in setting16_in
  someip_read =
      let s = r.someip in
      let m = mark_told (someip_unset s) h.someip in
      λ i. record {
        service = setting_read w someip_word 0 s.service 0 (m 0 refl) (told h.someip 1) i;
        method = setting_read w someip_word 0 s.method 1 (m 1 refl) (told h.someip 2) i;
        version = setting_read w someip_word 0 s.version 2 (m 2 refl) (told h.someip 3) i;
        kind = setting_read w someip_word 0 s.kind 3 (m 3 refl) (told h.someip 4) i;
        code = setting_read w someip_word 0 s.code 4 (m 4 refl) (told h.someip 5) i;
      }

  rate_read : rate_in w ≡ r.rate
  unfolding setting16_in
  rate_read =
      let s = r.rate in
      let m = mark_told (rate_unset s) h.rate in
      λ i. record {
        size = setting_read w rate_word 0 s.size 0 (m 0 refl) (told h.rate 1) i;
        refill = setting_read w rate_word 0 s.refill 1 (m 1 refl) (told h.rate 2) i;
      }

  tracking_read : tracking_in w ≡ r.tracking
  unfolding setting8_in setting32_in
  tracking_read =
      let s = r.tracking in
      let m = mark_told (tracking_unset s) h.tracking in
      λ i. record {
        places = setting_read w tracking_word 0 s.places 0 (m 0 refl) (told h.tracking 1) i;
        limit = setting_read w tracking_word 0 s.limit 1 (m 1 refl) (told h.tracking 2) i;
        number0 = setting_read w tracking_word 0 s.number0 2 (m 2 refl) (told h.tracking 3) i;
        number1 = setting_read w tracking_word 0 s.number1 3 (m 3 refl) (told h.tracking 4) i;
      }

  -- and the whole rule
  pub rule_read : rule_in w ≡ r
  rule_read = λ i. record {
    id = told h.rule 0 i;
    action = (ap action_from (told h.rule 1) ∙ action_read r.action) i;
    link = link_read i;
    ipv4 = ipv4_read i;
    ipv6 = ipv6_read i;
    transport = transport_read i;
    someip = someip_read i;
    rate = rate_read i;
    tracking = tracking_read i;
  }
