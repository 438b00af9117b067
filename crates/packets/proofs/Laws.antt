-- Laws of the definitions of specs/: what a caller knows of them without opening them.
-- Assumes nothing.
use Prim.Native.Nat.{ℕ, zero, suc, ◌+◌, ◌-◌, ◌≤◌}
use mathlib.Core.Path.{◌≡◌, refl}
use mathlib.Core.List.{List}
use mathlib.Core.Bool.{true}
use native.Mathlib.Omega.{arith}
use lib.ListN.{length}
use lib.Dec.{eqb, leb}
use borrow.Author.Tests.{leb-true}
use Rattle.numbers.specs.Bytes.{byte}
use Rattle.numbers.proofs.Lists.{cond_both, every_at}
use Rattle.packets.specs.Ip.{ipv4_bytes, least_words, header_words, header_length, total_length, ipv4_tests, ipv4_here, packet_at, ip_of}
use Rattle.packets.specs.Ipv6.{
  next_header_at,
  ipv6_bytes,
  payload_length,
  ipv6_tests,
  ipv6_here,
  fragment,
  is_extension,
  own_length,
  chain_of,
  most_followed,
  packet6_at,
}
use Rattle.packets.specs.Inside.{ChainInside, IpInside}

-- ---- what a test that passed says of the lengths

pub record Ipv4Fits (s : List ℕ) (at : ℕ) : Type 0 where
  pub rest : at + ipv4_bytes ≤ length s
  pub header : header_length s at ≤ total_length s at
  pub words : least_words ≤ header_words s at
  pub total : at + total_length s at ≤ length s

pub ipv4_fits : (s : List ℕ) (ether at : ℕ) → ipv4_here s ether at ≡ true → Ipv4Fits s at
unfolding ipv4_here ipv4_tests
ipv4_fits s ether at e =
    let ts = ipv4_tests s ether at in
    let h : ipv4_bytes ≤ length s - at = leb-true _ _ (every_at ts 1 e) in
    let w : least_words ≤ header_words s at = leb-true _ _ (every_at ts 3 e) in
    let l : header_length s at ≤ total_length s at = leb-true _ _ (every_at ts 4 e) in
    let t : total_length s at ≤ length s - at = leb-true _ _ (every_at ts 5 e) in
    record { rest = omega arith; header = l; words = w; total = omega arith }

-- what packet_at asks
pub ipv4_room :
    (s : List ℕ) (ether at : ℕ) → ipv4_here s ether at ≡ true
    → (at + ipv4_bytes ≤ length s) × (header_length s at ≤ total_length s at)
ipv4_room s ether at e = let f = ipv4_fits s ether at e in (f.rest, f.header)

-- what packet6_at asks
pub ipv6_fits : (s : List ℕ) (ether at : ℕ) → ipv6_here s ether at ≡ true → at + ipv6_bytes + payload_length s at ≤ length s
unfolding ipv6_here ipv6_tests
ipv6_fits s ether at e =
    let ts = ipv6_tests s ether at in
    let h : ipv6_bytes ≤ length s - at = leb-true _ _ (every_at ts 1 e) in
    let l : payload_length s at ≤ length s - at - ipv6_bytes = leb-true _ _ (every_at ts 3 e) in
    omega arith

-- ---- IP lies within the frame

-- what follows a chain lies where the chain lies
pub chain_inside : (left : ℕ) (s : List ℕ) (at len n : ℕ) → at + len ≤ length s → ChainInside s (chain_of left s at len n)
unfolding chain_of
chain_inside zero s at len n h =
    cond_both (ChainInside s) (eqb n fragment) _ _ (λ q. tt)
    (λ q. cond_both (ChainInside s) (is_extension n) _ _ (λ k. tt) (λ k. h))
chain_inside (suc left) s at len n h =
    cond_both (ChainInside s) (eqb n fragment) _ _ (λ q. tt)
    (λ q. cond_both (ChainInside s) (is_extension n) _ _
    (λ k. cond_both (ChainInside s) (leb (own_length s at) len) _ _
    (λ t.
    let l : own_length s at ≤ len = leb-true _ _ t in
    chain_inside left s (at + own_length s at) (len - own_length s at) (byte s (at + 0)) (omega arith))
    (λ t. tt))
    (λ k. h))

pub ip_inside : (s : List ℕ) (ether at : ℕ) → IpInside s (ip_of s ether at)
unfolding ip_of packet_at packet6_at
ip_inside s ether at =
    cond_both (IpInside s) (ipv4_here s ether at) _ _
    (λ h.
    let f = ipv4_fits s ether at h in
    let w = f.words in
    let l = f.header in
    let t = f.total in
    record { words = omega arith; joined = refl; payload = omega arith })
    (λ h. cond_both (IpInside s) (ipv6_here s ether at) _ _
    (λ g.
    let f = ipv6_fits s ether at g in
    record {
      header = omega arith;
      chain = chain_inside most_followed s (at + ipv6_bytes) (payload_length s at) (byte s (at + next_header_at)) f;
    })
    (λ g. tt))
