-- A layer that is present matches where every setting agrees, since an unset one always does.
-- Assumes nothing.
use Prim.Native.Nat.{ℕ, ◌+◌, ◌-◌, ◌≤◌, ◌<◌}
use mathlib.Core.Path.{◌≡◌, refl, sym, ap, ◌∙◌}
use mathlib.Core.List.{List, [], ◌∷◌, ◌++◌}
use mathlib.Core.Bool.{Bool, true, false, ◌&&◌, ◌||◌, not, or-false, and-true, and-false}
use borrow.Author.Tests.{not-true, not-false}
use lib.Dec.{eqb}
use native.Mathlib.Omega.{arith}
use Rattle.numbers.specs.Lists.{every, every_of}
use Rattle.numbers.proofs.Lists.{and_both, and_true_true, every_append}
use Rattle.packets.specs.declared.Packet.{Packet}
use Rattle.packets.specs.declared.Packet6.{Packet6}
use Rattle.packets.specs.declared.Ip.{Ip}
use Rattle.packets.specs.declared.Ip.TheVariants as ip
use Rattle.payloads.specs.declared.Segment.{Segment}
use Rattle.payloads.specs.declared.Datagram.{Datagram}
use Rattle.payloads.specs.declared.Transport.{Transport}
use Rattle.payloads.specs.declared.Transport.TheVariants as transport
use Rattle.payloads.specs.declared.Message.{Message}
use Rattle.payloads.specs.declared.Bundle.{Bundle}
use Rattle.std.specs.Prelude.{Option, Some, None}
use Rattle.payloads.specs.Someip.{message_at, cut, messages_in, messages_of}
use Rattle.payloads.specs.Inside.{CutInside}
use Rattle.payloads.proofs.Cutting.{Walked, walked, cut_nothing}
use Rattle.table.specs.declared.Kind.{Kind}
use Rattle.table.specs.declared.Kind.TheVariants as kind
use Rattle.table.specs.declared.TransportSettings.{TransportSettings}
use Rattle.table.specs.declared.SomeipSettings.{SomeipSettings}
use Rattle.table.specs.Settings.{agrees, in_range, in_prefix, in_prefix6, same_kind}
use Rattle.table.proofs.SettingLaws.{unset_agrees}
use Rattle.table.specs.Marks.{ipv4_unset, ipv6_unset, ip_unset, transport_unset, someip_unset}
use Rattle.matching.specs.Matching.{ipv4_tests, number_agrees, ipv6_tests, ip_matches, ports_agree, transport_matches, message_agrees, messages_agree, someip_matches}
use Rattle.addresses.specs.declared.Wide.{Wide}
use Rattle.table.specs.declared.IpSettings.{IpSettings}

-- each test of the first list that passes has its partner pass
abbrev pub Partners : List Bool → List Bool → Type 0
Partners [] [] = Unit {0}
Partners [] (b ∷ l) = ⊥
Partners (a ∷ k) [] = ⊥
Partners (a ∷ k) (b ∷ l) = (a ≡ true → b ≡ true) × Partners k l

partners_every : (k l : List Bool) → Partners k l → every k ≡ true → every l ≡ true
partners_every [] [] h e = refl
partners_every [] (b ∷ l) h e = absurd h
partners_every (a ∷ k) [] h e = absurd h
partners_every (a ∷ k) (b ∷ l) h e =
    let q = and_both a (every k) e in
    and_true_true (h.0 q.0) (partners_every k l h.1 q.1)

-- no setting, or every setting agrees: where the layer is present, the second alone
pub present : (k l : List Bool) → Partners k l → every l ≡ (every k || every l)
present k l h = go (every k) refl
  where
    go : (b : Bool) → every k ≡ b → every l ≡ (b || every l)
    go true e = partners_every k l h e
    go false e = refl

-- and where it is absent, the first alone
pub absent : (k : List Bool) → every k ≡ (every k || false)
absent k = sym (or-false (every k))

-- ---- IP, in the words of the code: a and b are what it found of the settings of either kind

module _ (r : IpSettings ℕ) (z : IpSettings Wide) (x : Ip) where
  pub ip_absent :
      {a b : Bool} → x ≡ ip.Absent → a ≡ every (ipv4_unset r) → b ≡ every (ipv6_unset z) → (a && b) ≡ ip_matches r z x
  unfolding ip_matches
  ip_absent e f g = rw (e, f, g) (sym (every_append (ipv4_unset r) (ipv6_unset z)) ∙ absent (ip_unset r z))

  ip_v4 : (p : Packet) → x ≡ ip.V4 p → (every (ipv4_tests r p) && every (ipv6_unset z)) ≡ ip_matches r z x
  unfolding ip_matches
  ip_v4 p e =
      rw e
      (sym (every_append (ipv4_tests r p) (ipv6_unset z))
      ∙ present (ip_unset r z) (ipv4_tests r p ++ ipv6_unset z) (
        unset_agrees in_prefix r.source p.source,
        (
          unset_agrees in_prefix r.destination p.destination,
          (unset_agrees eqb r.protocol p.protocol, (λ h. h, (λ h. h, (λ h. h, tt)))),
        ),
      ))

  ip_v6 : (p : Packet6) → x ≡ ip.V6 p → (every (ipv4_unset r) && every (ipv6_tests z p)) ≡ ip_matches r z x
  unfolding ip_matches
  ip_v6 p e =
      rw e
      (sym (every_append (ipv4_unset r) (ipv6_tests z p))
      ∙ present (ip_unset r z) (ipv4_unset r ++ ipv6_tests z p) (
        λ h. h,
        (
          λ h. h,
          (
            λ h. h,
            (
              unset_agrees in_prefix6 z.source p.source,
              (
                unset_agrees in_prefix6 z.destination p.destination,
                (unset_agrees number_agrees z.protocol p.chain, tt),
              ),
            ),
          ),
        ),
      ))

  -- settings of the other kind stand
  pub other6 : {b : Bool} (p : Packet) → x ≡ ip.V4 p → b ≡ every (ipv6_unset z) → not b ≡ true → false ≡ ip_matches r z x
  other6 p e f h = sym (and-false (every (ipv4_tests r p))) ∙ ap (λ (t : Bool). every (ipv4_tests r p) && t) (sym (sym f ∙ not-true _ h)) ∙ ip_v4 p e

  pub other4 : {b : Bool} (p : Packet6) → x ≡ ip.V6 p → b ≡ every (ipv4_unset r) → not b ≡ true → false ≡ ip_matches r z x
  other4 p e f h = ap (λ (t : Bool). t && every (ipv6_tests z p)) (sym (sym f ∙ not-true _ h)) ∙ ip_v6 p e

  -- none stands, and those of this kind tell, as they were read
  pub own4 :
      {b c : Bool} {s : IpSettings ℕ} (p : Packet) → x ≡ ip.V4 p → b ≡ every (ipv6_unset z) → not b ≡ false → s ≡ r
      → c ≡ every (ipv4_tests s p) → c ≡ ip_matches r z x
  own4 p e f h k g =
      g ∙ ap (λ (y : IpSettings ℕ). every (ipv4_tests y p)) k ∙ sym (and-true (every (ipv4_tests r p)))
      ∙ ap (λ (t : Bool). every (ipv4_tests r p) && t) (sym (sym f ∙ not-false _ h)) ∙ ip_v4 p e

  pub own6 :
      {b c : Bool} {s : IpSettings Wide} (p : Packet6) → x ≡ ip.V6 p → b ≡ every (ipv4_unset r) → not b ≡ false → s ≡ z
      → c ≡ every (ipv6_tests s p) → c ≡ ip_matches r z x
  own6 p e f h k g =
      g ∙ ap (λ (y : IpSettings Wide). every (ipv6_tests y p)) k ∙ ap (λ (t : Bool). t && every (ipv6_tests z p)) (sym (sym f ∙ not-false _ h))
      ∙ ip_v6 p e

pub transport_absent : (r : TransportSettings) (x : Transport) → x ≡ transport.Absent → every (transport_unset r) ≡ transport_matches r x
unfolding transport_matches
transport_absent r x e = rw e (absent (transport_unset r))

ports_present : (r : TransportSettings) (k : Kind) (source destination : ℕ) → ports_agree r k source destination ≡ (every (transport_unset r) || ports_agree r k source destination)
ports_present r k source destination =
    present (transport_unset r)
    (agrees same_kind r.kind k
    ∷ agrees in_range r.source source
    ∷ agrees in_range r.destination destination
    ∷ []) (
      unset_agrees same_kind r.kind k,
      (unset_agrees in_range r.source source, (unset_agrees in_range r.destination destination, tt)),
    )

pub transport_tcp : (r : TransportSettings) (x : Transport) (g : Segment) → x ≡ transport.Tcp g → ports_agree r kind.Tcp g.source g.destination ≡ transport_matches r x
unfolding transport_matches
transport_tcp r x g e = rw e (ports_present r kind.Tcp g.source g.destination)

pub transport_udp : (r : TransportSettings) (x : Transport) (u : Datagram) → x ≡ transport.Udp u → ports_agree r kind.Udp u.source u.destination ≡ transport_matches r x
unfolding transport_matches
transport_udp r x u e = rw e (ports_present r kind.Udp u.source u.destination)

-- ---- SOME/IP: a is what the code found of its marks, c of its messages

module _ (r : SomeipSettings) (s : List ℕ) (x : Option Bundle) where
  pub someip_unset_lem : {a : Bool} → a ≡ every (someip_unset r) → a ≡ true → true ≡ someip_matches r s x
  unfolding someip_matches
  someip_unset_lem e h = let q : every (someip_unset r) ≡ true = sym e ∙ h in rw q refl

  someip_set : {a c : Bool} → a ≡ every (someip_unset r) → a ≡ false → c ≡ messages_agree r (messages_of s x) → c ≡ someip_matches r s x
  unfolding someip_matches
  someip_set e h k = let q : every (someip_unset r) ≡ false = sym e ∙ h in rw q k

  pub someip_lacks : {a : Bool} → a ≡ every (someip_unset r) → a ≡ false → x ≡ None → false ≡ someip_matches r s x
  someip_lacks e h k = someip_set e h (ap (λ (y : Option Bundle). messages_agree r (messages_of s y)) (sym k))

  pub someip_tells :
      {a c : Bool} {z : SomeipSettings} (b : Bundle) → a ≡ every (someip_unset r) → a ≡ false → x ≡ Some b → z ≡ r
      → c ≡ messages_agree z (messages_of s (Some b)) → c ≡ someip_matches r s x
  someip_tells b e h k q g = someip_set e h (rw (k, ← q) g)

-- every message of those still to be read agrees
abbrev pub rest_agrees : SomeipSettings → List ℕ → ℕ → ℕ → Bool
rest_agrees r s at len = every_of (message_agrees r) (messages_in (cut s at len))

module _ (r : SomeipSettings) (s : List ℕ) (at len : ℕ) where
  -- of a bundle, which has a message, that is all there is to say
  pub bundle_agrees : CutInside s at len → 0 < len → rest_agrees r s at len ≡ messages_agree r (messages_in (cut s at len))
  bundle_agrees w h = rw (walked s at len (message_at s at) w h refl).is refl

  -- the first agrees, and the others tell
  pub agree_on :
      {b : Bool} (m : Message) → Walked s at len m → b ≡ message_agrees r m → not b ≡ false
      → rest_agrees r s at len ≡ rest_agrees r s (at + m.size) (len - m.size)
  agree_on m w e h = let q : message_agrees r m ≡ true = sym e ∙ not-false _ h in rw (w.is, q) refl

  -- the first does not
  pub agree_ends : {b : Bool} (m : Message) → Walked s at len m → b ≡ message_agrees r m → not b ≡ true → rest_agrees r s at len ≡ false
  agree_ends m w e h = let q : message_agrees r m ≡ false = sym e ∙ not-true _ h in rw (w.is, q) refl

  pub agree_nothing : len ≤ 0 → rest_agrees r s at len ≡ true
  agree_nothing h = let e : len ≡ 0 = omega arith in rw (e, cut_nothing s at) refl
