-- Laws of the definitions of specs/: what a caller knows of them without opening them.
-- Assumes nothing.
use Prim.Native.Nat.{ℕ, ◌≤◌}
use mathlib.Core.Path.{◌≡◌, ◌∙◌, ap, refl, sym, subst}
use mathlib.Core.List.{List}
use mathlib.Core.Bool.{Bool, true, false, cond, ◌&&◌, ◌||◌, false≢true, true≢false}
use native.Mathlib.Omega.{arith}
use lib.ListN.{length}
use lib.Dec.{ltb}
use borrow.Author.Tests.{ltb-false}
use Rattle.numbers.proofs.Lists.{cond_both}
use Rattle.packets.specs.Link.{link_bytes, tagged_bytes, tagged, tag_of, link_of}
use Rattle.packets.specs.Ip.{ip_of}
use Rattle.payloads.proofs.Laws.{transport_inside, someip_inside}
use Rattle.packets.proofs.Laws.{ip_inside}
use Rattle.payloads.specs.Transport.{transport_of}
use Rattle.payloads.specs.Someip.{someip_of}
use Rattle.layers.specs.Layers.{least, most, layers_of, too_short, too_long, refusal_number, shown_of}
use Rattle.packets.specs.Inside.{TagInside, PacketInside, Packet6Inside, IpInside}
use Rattle.payloads.specs.Inside.{SegmentInside, DatagramInside, TransportInside, BundleInside, SomeipInside}
use Rattle.layers.specs.Seen.{Seen, seen, seen_by, see_of}
use Rattle.layers.specs.Inside.{Inside}
use Rattle.layers.specs.declared.FrameRefusal.TheVariants as refusal
use Rattle.packets.specs.declared.Link.{Link}
use Rattle.packets.specs.declared.Packet.{Packet}
use Rattle.packets.specs.declared.Packet6.{Packet6}
use Rattle.packets.specs.declared.Ip.TheVariants as ip
use Rattle.payloads.specs.declared.Segment.{Segment}
use Rattle.payloads.specs.declared.Datagram.{Datagram}
use Rattle.payloads.specs.declared.Transport.{Transport}
use Rattle.payloads.specs.declared.Transport.TheVariants as transport
use Rattle.payloads.specs.declared.Bundle.{Bundle}
use Rattle.layers.specs.declared.Layers.{Layers}
use Rattle.layers.specs.declared.FrameRefusal.{FrameRefusal}
use Rattle.std.specs.Prelude.{Some, Result, Ok, Err}

-- ---- what a test that passed says of the lengths

short_parts : (a b c : Bool) → (a || (b && c)) ≡ false → (a ≡ false) × (b ≡ true → c ≡ false)
short_parts true b c e = absurd (true≢false e)
short_parts false true c e = (refl, λ q. e)
short_parts false false c e = (refl, λ q. absurd (false≢true q))

pub short_fits : (s : List ℕ) → too_short s ≡ false → (link_bytes ≤ length s) × (tagged s ≡ true → tagged_bytes ≤ length s)
unfolding too_short
short_fits s e =
    let h = short_parts (ltb (length s) least) (tagged s) (ltb (length s) tagged_bytes) e in
    (ltb-false _ _ h.0, λ q. ltb-false _ _ (h.1 q))

-- ---- each layer lies within the frame

pub link_inside : (s : List ℕ) → too_short s ≡ false → ((link_of s).hlen ≤ length s) × TagInside (link_of s).tag
unfolding link_of tag_of
link_inside s e =
    cond_both (λ (l : Link). (l.hlen ≤ length s) × TagInside l.tag) (tagged s) _ _
    (λ q. ((short_fits s e).1 q, omega arith))
    (λ q. ((short_fits s e).0, tt))

-- what the code asks of one layer after the other
pub ruleset each_inside = (short_fits, link_inside, ip_inside, transport_inside)

over : (s : List ℕ) (b : Bundle) (t : Transport) → someip_of s t ≡ Some b → (u : Datagram) × (t ≡ transport.Udp u)
unfolding someip_of
over s b transport.Absent q = let z : ◌≡◌ {A = ℕ} 0 1 = cc in absurd (omega arith)
over s b (transport.Tcp t) q = let z : ◌≡◌ {A = ℕ} 0 1 = cc in absurd (omega arith)
over s b (transport.Udp u) q = (u, refl)

-- ---- what an answer that shows the layers says

pub shows_is : (s : List ℕ) (l : Layers) → shown_of s ≡ Ok l → (too_short s ≡ false) × (length s ≤ most) × (layers_of s ≡ l)
unfolding shown_of
shows_is s =
    let P : Result Layers FrameRefusal → Type 0 =
    λ (r : Result Layers FrameRefusal). (l : Layers) → r ≡ Ok l → (too_short s ≡ false) × (length s ≤ most) × (layers_of s ≡ l) in
    cond_both P (too_short s) _ _
    (λ h l q. let z : ◌≡◌ {A = ℕ} 0 1 = cc in absurd (omega arith))
    (λ h. cond_both P (too_long s) _ _
    (λ k l q. let z : ◌≡◌ {A = ℕ} 0 1 = cc in absurd (omega arith))
    (λ k l q. (h, ltb-false most (length s) k, cc)))

-- each layer is read in what the one below it leaves
module _ (s : List ℕ) (l : Layers) (e : shown_of s ≡ Ok l) where
  pub link_is : l.link ≡ link_of s
  unfolding layers_of
  link_is = subst (λ (x : Layers). x.link ≡ link_of s) (shows_is s l e).2 refl

  pub ip_is : l.ip ≡ ip_of s l.link.ether l.link.hlen
  unfolding layers_of
  ip_is = subst (λ (x : Layers). x.ip ≡ ip_of s x.link.ether x.link.hlen) (shows_is s l e).2 refl

  pub transport_is : l.transport ≡ transport_of s l.ip
  unfolding layers_of
  transport_is = subst (λ (x : Layers). x.transport ≡ transport_of s x.ip) (shows_is s l e).2 refl

  pub someip_is : l.someip ≡ someip_of s l.transport
  unfolding layers_of
  someip_is = subst (λ (x : Layers). x.someip ≡ someip_of s x.transport) (shows_is s l e).2 refl

  -- all of them lie within the frame
  pub shows_inside : Inside s l
  unfolding layers_of
  shows_inside =
      let h = shows_is s l e in
      let a = link_of s in
      let i = ip_of s a.ether a.hlen in
      let wl = link_inside s h.0 in
      let wi = ip_inside s a.ether a.hlen in
      let wt = transport_inside s i wi in
      subst (Inside s) h.2
      (record {
        size = h.1;
        link = wl.0;
        tag = wl.1;
        ip = wi;
        transport = wt;
        someip = someip_inside s (transport_of s i) wt;
      })

  -- no transport without IP
  pub no_transport : l.ip ≡ ip.Absent → l.transport ≡ transport.Absent
  unfolding transport_of
  no_transport q = transport_is ∙ ap (transport_of s) q

  -- SOME/IP over UDP alone
  pub someip_udp : (b : Bundle) → l.someip ≡ Some b → (u : Datagram) × (l.transport ≡ transport.Udp u)
  someip_udp b q = over s b l.transport (sym someip_is ∙ q)

-- of a layer that a caller has found
module _ (s : List ℕ) (l : Layers) (w : Inside s l) where
  pub packet_inside : (p : Packet) → l.ip ≡ ip.V4 p → PacketInside s p
  packet_inside p e = subst (IpInside s) e w.ip

  pub packet6_inside : (p : Packet6) → l.ip ≡ ip.V6 p → Packet6Inside s p
  packet6_inside p e = subst (IpInside s) e w.ip

  pub segment_inside : (t : Segment) → l.transport ≡ transport.Tcp t → SegmentInside s t
  segment_inside t e = subst (TransportInside s) e w.transport

  pub datagram_inside : (u : Datagram) → l.transport ≡ transport.Udp u → DatagramInside s u
  datagram_inside u e = subst (TransportInside s) e w.transport

  pub bundle_inside : (b : Bundle) → l.someip ≡ Some b → BundleInside s b
  bundle_inside b e = subst (SomeipInside s) e w.someip

-- ---- the refusals

-- the number that is said: 0 where the layers are shown
abbrev pub number_of : Result Layers FrameRefusal → ℕ
number_of (Err r) = refusal_number r
number_of (Ok l) = 0

-- 1 and 2 exactly when 01 says
pub number_is : (s : List ℕ) → number_of (shown_of s) ≡ cond (too_short s) 1 (cond (too_long s) 2 0)
unfolding shown_of
number_is s = go (too_short s) (too_long s)
  where
    go :
        (a b : Bool)
        → number_of (cond a (Err refusal.TooShort) (cond b (Err refusal.TooLong) (Ok (layers_of s))))
        ≡ cond a 1 (cond b 2 0)
    go true b = refl
    go false true = refl
    go false false = refl

-- ---- what is seen of a frame is its bytes, its socket and what it shows

-- of an answer, told as what is seen
saw_by :
    (second : Bool) (s : List ℕ) (r : Result Layers FrameRefusal) (x : Seen) → Ok x ≡ seen_by second s r
    → (r ≡ Ok x.layers) × (x ≡ seen second s x.layers)
saw_by second s (Ok l) x e = let q : x ≡ seen second s l = cc in
    subst (λ (y : Seen). (◌≡◌ {A = Result Layers FrameRefusal} (Ok l) (Ok y.layers)) × (y ≡ seen second s y.layers)) (sym q) (refl, refl)
saw_by second s (Err r) x e = let z : ◌≡◌ {A = ℕ} 0 1 = cc in absurd (omega arith)

pub saw : (second : Bool) (s : List ℕ) (x : Seen) → Ok x ≡ see_of second s → (shown_of s ≡ Ok x.layers) × (x ≡ seen second s x.layers)
saw second s x e = saw_by second s (shown_of s) x e

-- and a refusal is the frame's own
refused_by : (second : Bool) (s : List ℕ) (r : Result Layers FrameRefusal) (f : FrameRefusal) → Err f ≡ seen_by second s r → r ≡ Err f
refused_by second s (Ok l) f e = let z : ◌≡◌ {A = ℕ} 0 1 = cc in absurd (omega arith)
refused_by second s (Err g) f e = cc

pub refused : (second : Bool) (s : List ℕ) (f : FrameRefusal) → Err f ≡ see_of second s → shown_of s ≡ Err f
refused second s f e = refused_by second s (shown_of s) f e
