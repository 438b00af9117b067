-- Laws of the definitions of specs/: what a caller knows of them without opening them.
-- Assumes nothing.
use Prim.Native.Nat.{ℕ, zero, suc, ◌+◌, ◌*◌, ◌≤◌}
use mathlib.Core.Path.{◌≡◌, refl, ap}
use mathlib.Core.List.{List, [], ◌∷◌}
use mathlib.Core.Bool.{true}
use native.Mathlib.Omega.{arith}
use lib.ListN.{length}
use borrow.Author.Tests.{leb-true}
use Rattle.numbers.proofs.Lists.{cond_both, every_at}
use Rattle.payloads.specs.Transport.{
  tcp_bytes,
  least_offset,
  udp_bytes,
  unfragmented,
  data_offset,
  tcp_tests,
  tcp_here,
  udp_tests,
  udp_here,
  segment_at,
  datagram_at,
  transport_at,
  transport_after,
  transport_of,
}
use Rattle.payloads.specs.Someip.{Cut, Fails, Into, cut, does_cut, present_if, someip_at, someip_of}
use Rattle.payloads.proofs.Cutting.{nothing_first}
use Rattle.packets.specs.Inside.{ChainInside, IpInside}
use Rattle.payloads.specs.Inside.{TransportInside, SomeipInside}
use Rattle.packets.specs.declared.Upper.{Upper}
use Rattle.std.specs.Prelude.{Option, None, Some}
use Rattle.packets.specs.declared.Ip.{Ip}
use Rattle.packets.specs.declared.Ip.TheVariants as ip
use Rattle.payloads.specs.declared.Transport.{Transport}
use Rattle.payloads.specs.declared.Transport.TheVariants as transport

-- ---- what a test that passed says of the lengths

module _ (s : List ℕ) (protocol at len : ℕ) where
  pub tcp_fits : tcp_here s protocol at len ≡ true → (tcp_bytes ≤ len) × ((least_offset ≤ data_offset s at) × (4 * data_offset s at ≤ len))
  unfolding tcp_here tcp_tests
  tcp_fits e =
      let ts = tcp_tests s protocol at len in
      (leb-true _ _ (every_at ts 1 e), (leb-true _ _ (every_at ts 2 e), leb-true _ _ (every_at ts 3 e)))

  pub udp_fits : udp_here s protocol at len ≡ true → udp_bytes ≤ len
  unfolding udp_here udp_tests
  udp_fits e = leb-true _ _ (every_at (udp_tests s protocol at len) 1 e)

-- ---- each layer lies within the frame

at_inside : (s : List ℕ) (protocol at len : ℕ) → at + len ≤ length s → TransportInside s (transport_at s protocol at len)
unfolding transport_at segment_at datagram_at
at_inside s protocol at len b =
    cond_both (TransportInside s) (tcp_here s protocol at len) _ _
    (λ h.
    let f = tcp_fits s protocol at len h in
    let w = f.1.0 in
    let l = f.1.1 in
    record { words = omega arith; header = omega arith })
    (λ h. cond_both (TransportInside s) (udp_here s protocol at len) _ _
    (λ k.
    let l = udp_fits s protocol at len k in
    record { joined = refl; payload = omega arith })
    (λ k. tt))

after_inside : (s : List ℕ) (c : Option Upper) → ChainInside s c → TransportInside s (transport_after s c)
after_inside s None w = tt
after_inside s (Some u) w = at_inside s u.number u.payload u.plen w

pub transport_inside : (s : List ℕ) (i : Ip) → IpInside s i → TransportInside s (transport_of s i)
unfolding transport_of
transport_inside s ip.Absent w = tt
transport_inside s (ip.V4 p) w =
    cond_both (TransportInside s) (unfragmented s p.header) _ _
    (λ h. at_inside s p.protocol p.payload p.plen w.payload)
    (λ h. tt)
transport_inside s (ip.V6 p) w = after_inside s p.chain w.chain

at_bundle : (s : List ℕ) (at len : ℕ) → at + len ≤ length s → SomeipInside s (someip_at s at len)
unfolding someip_at
at_bundle s at len b = go len (cut s at len) refl b
  where
    go : (n : ℕ) (c : Cut) → cut s at n ≡ c → at + n ≤ length s → SomeipInside s (present_if at n c)
    go n Fails e h = tt
    go n (Into []) e h = tt
    go zero (Into (m ∷ ms)) e h = absurd (nothing_first s at m ms e)
    go (suc l) (Into (m ∷ ms)) e h = record { some = omega arith; cut = record { bytes = h; cuts = ap does_cut e } }

pub someip_inside : (s : List ℕ) (t : Transport) → TransportInside s t → SomeipInside s (someip_of s t)
unfolding someip_of
someip_inside s transport.Absent w = tt
someip_inside s (transport.Tcp t) w = tt
someip_inside s (transport.Udp u) w = at_bundle s u.payload u.plen w.payload
