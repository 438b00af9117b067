-- Laws of events: the bytes of an array as a loop fills them, and how long each event is.
-- Assumes nothing.
use Prim.Native.Nat.{ℕ, zero, suc, ◌+◌, ◌-◌, ◌≤◌}
use mathlib.Core.Path.{◌≡◌, refl, ap}
use mathlib.Core.List.{List, [], ◌∷◌, ◌++◌, append-nil}
use mathlib.Core.Bool.{Bool}
use lib.ListN.{length, get_or, take, drop, set, length-append, length-take, length-drop}
use lib.Seq.{length-take-le, drop-drop}
use native.Mathlib.Nat.{le_of_suc-le-suc, not-suc-le-zero}
use native.Mathlib.Omega.{arith}
use Rattle.numbers.specs.Lists.{firsts, copies}
use Rattle.numbers.proofs.Lists.{length_copies}
use Rattle.layers.specs.Inside.{Inside}
use Rattle.payloads.specs.Someip.{message_at}
use Rattle.payloads.specs.Inside.{TransportInside, SomeipInside}
use Rattle.payloads.proofs.Cutting.{walked}
use Rattle.packets.specs.Inside.{IpInside}
use Rattle.packets.specs.declared.Ip.{Ip}
use Rattle.packets.specs.declared.Ip.TheVariants as ip
use Rattle.payloads.specs.declared.Transport.{Transport}
use Rattle.payloads.specs.declared.Transport.TheVariants as transport
use Rattle.payloads.specs.declared.Bundle.{Bundle}
use Rattle.std.specs.Prelude.{Option, Some, None}
use Rattle.layers.specs.declared.Layers.{Layers}
use Rattle.layers.specs.Seen.{seen}
use Rattle.events.specs.Events.{array, ipv4_header, ipv6_header, tcp_header, udp_header, someip_header, number_of, event_bytes, longest_event}
use Rattle.events.specs.Arrays.{length_of, heading, ipv4_span, ipv6_span, tcp_span, udp_span, someip_span, span_of, header_in}
use Rattle.events.specs.declared.Event.{Event}
use Rattle.events.specs.declared.Event.TheVariants as event
use Rattle.events.specs.declared.Span.{Span}

-- an array of n bytes has n
pub length_array : (n : ℕ) (bytes : List ℕ) → length (array n bytes) ≡ n
unfolding array
length_array n bytes = simp (length-take, length-append, length_copies) (omega arith)

filled : (m : ℕ) (h l : List ℕ) → length l ≤ m → firsts (λ j x. get_or h j 0) (length l) l ≡ take (length l) (h ++ copies m 0)
filled m h [] k = refl
filled zero [] (x ∷ l) k = absurd (not-suc-le-zero k)
filled (suc m) [] (x ∷ l) k = ap (λ r. 0 ∷ r) (filled m [] l (le_of_suc-le-suc k))
filled m (y ∷ h) (x ∷ l) k = ap (λ r. y ∷ r) (filled m h l (omega arith))

-- the bytes below the end, each the header's or zero, are the array
pub array_filled : (h l : List ℕ) → firsts (λ j x. get_or h j 0) (length l) l ≡ array (length l) h
unfolding array
array_filled h l = filled (length l) h l (omega arith)

-- four bytes stored at the front
pub front_four :
    (l : List ℕ) (a b c d : ℕ) → 4 ≤ length l
    → set (set (set (set l 0 a) 1 b) 2 c) 3 d ≡ a ∷ b ∷ c ∷ d ∷ drop 4 l
front_four (x ∷ y ∷ z ∷ w ∷ l) a b c d h = refl
front_four (x ∷ y ∷ z ∷ []) a b c d h = absurd (omega arith)
front_four (x ∷ y ∷ []) a b c d h = absurd (omega arith)
front_four (x ∷ []) a b c d h = absurd (omega arith)
front_four [] a b c d h = absurd (omega arith)

-- ---- every event is its heading and one array

ipv4_in_lem : (s : List ℕ) (x : Ip) → header_in s (ipv4_span x) ≡ ipv4_header s x
ipv4_in_lem s ip.Absent = refl
ipv4_in_lem s (ip.V4 p) = refl
ipv4_in_lem s (ip.V6 p) = refl

ipv6_in_lem : (s : List ℕ) (x : Ip) → header_in s (ipv6_span x) ≡ ipv6_header s x
ipv6_in_lem s ip.Absent = refl
ipv6_in_lem s (ip.V4 p) = refl
ipv6_in_lem s (ip.V6 p) = refl

tcp_in : (s : List ℕ) (x : Transport) → header_in s (tcp_span x) ≡ tcp_header s x
tcp_in s transport.Absent = refl
tcp_in s (transport.Tcp t) = refl
tcp_in s (transport.Udp u) = refl

udp_in : (s : List ℕ) (x : Transport) → header_in s (udp_span x) ≡ udp_header s x
udp_in s transport.Absent = refl
udp_in s (transport.Tcp t) = refl
udp_in s (transport.Udp u) = refl

-- the first message's header is where the bundle starts
someip_in_lem : (s : List ℕ) (x : Option Bundle) → SomeipInside s x → header_in s (someip_span x) ≡ someip_header s x
unfolding message_at
someip_in_lem s None w = refl
someip_in_lem s (Some b) w =
    rw (walked s b.payload b.plen (message_at s b.payload) w.cut w.some refl).is refl

pub event_parts :
    (e : Event) (id : ℕ) (second : Bool) (s : List ℕ) (l : Layers) → Inside s l
    → event_bytes e id (seen second s l) ≡ heading (number_of e) id ++ array (length_of e - 4) (header_in s (span_of e l))
unfolding event_bytes array
event_parts event.Ratelimit id second s l w = simp append-nil
event_parts event.StateTransition id second s l w = refl
event_parts event.MaxConnections id second s l w = simp (append-nil, tcp_in)
event_parts event.LinkMismatch id second s l w = simp append-nil
event_parts event.Ipv4Mismatch id second s l w = simp (append-nil, ipv4_in_lem)
event_parts event.Ipv6Mismatch id second s l w = simp (append-nil, ipv6_in_lem)
event_parts event.TcpMismatch id second s l w = simp (append-nil, tcp_in)
event_parts event.UdpMismatch id second s l w = simp (append-nil, udp_in)
event_parts event.SomeipMismatch id second s l w = simp (append-nil, someip_in_lem s l.someip w.someip)

pub shortest : (e : Event) → 4 ≤ length_of e
shortest event.Ratelimit = omega arith
shortest event.StateTransition = omega arith
shortest event.MaxConnections = omega arith
shortest event.LinkMismatch = omega arith
shortest event.Ipv4Mismatch = omega arith
shortest event.Ipv6Mismatch = omega arith
shortest event.TcpMismatch = omega arith
shortest event.UdpMismatch = omega arith
shortest event.SomeipMismatch = omega arith

pub longest : (e : Event) → length_of e ≤ longest_event
longest event.Ratelimit = omega arith
longest event.StateTransition = omega arith
longest event.MaxConnections = omega arith
longest event.LinkMismatch = omega arith
longest event.Ipv4Mismatch = omega arith
longest event.Ipv6Mismatch = omega arith
longest event.TcpMismatch = omega arith
longest event.UdpMismatch = omega arith
longest event.SomeipMismatch = omega arith

-- how long each event is
pub event_length : (e : Event) (id : ℕ) (second : Bool) (s : List ℕ) (l : Layers) → length (event_bytes e id (seen second s l)) ≡ length_of e
unfolding event_bytes
event_length event.Ratelimit id second s l = simp (append-nil, length_array)
event_length event.StateTransition id second s l = refl
event_length event.MaxConnections id second s l = simp (append-nil, length_array)
event_length event.LinkMismatch id second s l = simp (append-nil, length_array)
event_length event.Ipv4Mismatch id second s l = simp (append-nil, length_array)
event_length event.Ipv6Mismatch id second s l = simp (append-nil, length_array)
event_length event.TcpMismatch id second s l = simp (append-nil, length_array)
event_length event.UdpMismatch id second s l = simp (append-nil, length_array)
event_length event.SomeipMismatch id second s l = simp (append-nil, length_array)

-- no event reaches the 256 bytes at which it would end
pub event_bound : (e : Event) (id : ℕ) (second : Bool) (s : List ℕ) (l : Layers) → length (event_bytes e id (seen second s l)) ≤ longest_event
event_bound e id second s l = rw (event_length e id second s l) (longest e)

-- ---- the header lies within the frame

ipv4_fits : (s : List ℕ) (x : Ip) → IpInside s x → (ipv4_span x).at + (ipv4_span x).len ≤ length s
ipv4_fits s ip.Absent h = omega arith
ipv4_fits s (ip.V4 p) h = omega (arith, h.joined, h.payload)
ipv4_fits s (ip.V6 p) h = omega arith

ipv6_fits : (s : List ℕ) (x : Ip) → IpInside s x → (ipv6_span x).at + (ipv6_span x).len ≤ length s
ipv6_fits s ip.Absent h = omega arith
ipv6_fits s (ip.V4 p) h = omega arith
ipv6_fits s (ip.V6 p) h = h.header

tcp_fits : (s : List ℕ) (x : Transport) → TransportInside s x → (tcp_span x).at + (tcp_span x).len ≤ length s
tcp_fits s transport.Absent h = omega arith
tcp_fits s (transport.Tcp t) h = h.header
tcp_fits s (transport.Udp u) h = omega arith

udp_fits : (s : List ℕ) (x : Transport) → TransportInside s x → (udp_span x).at + (udp_span x).len ≤ length s
udp_fits s transport.Absent h = omega arith
udp_fits s (transport.Tcp t) h = omega arith
udp_fits s (transport.Udp u) h = omega (arith, h.joined, h.payload)

someip_fits : (s : List ℕ) (x : Option Bundle) → SomeipInside s x → (someip_span x).at + (someip_span x).len ≤ length s
someip_fits s None h = omega arith
someip_fits s (Some b) h = (walked s b.payload b.plen (message_at s b.payload) h.cut h.some refl).header

pub span_fits : (e : Event) (s : List ℕ) (l : Layers) → Inside s l → 14 ≤ length s → (span_of e l).at + (span_of e l).len ≤ length s
span_fits event.Ratelimit s l h k = omega arith
span_fits event.StateTransition s l h k = omega arith
span_fits event.MaxConnections s l h k = tcp_fits s l.transport h.transport
span_fits event.LinkMismatch s l h k = omega (arith, h.link)
span_fits event.Ipv4Mismatch s l h k = ipv4_fits s l.ip h.ip
span_fits event.Ipv6Mismatch s l h k = ipv6_fits s l.ip h.ip
span_fits event.TcpMismatch s l h k = tcp_fits s l.transport h.transport
span_fits event.UdpMismatch s l h k = udp_fits s l.transport h.transport
span_fits event.SomeipMismatch s l h k = someip_fits s l.someip h.someip

-- ---- the event written to the start of a space

laid :
    (e : Event) (id : ℕ) (second : Bool) (s : List ℕ) (l : Layers) (space : List ℕ) (n : ℕ) → Inside s l → longest_event ≤ length space → n ≡ length_of e - 4
    → heading (number_of e) id ++ (array (length (take n (drop 4 space))) (header_in s (span_of e l)) ++ drop n (drop 4 space))
    ≡ event_bytes e id (seen second s l) ++ drop (length (event_bytes e id (seen second s l))) space
laid e id second s l space n i h q =
    let k : n ≤ length (drop 4 space) = rw (length-drop 4 space) (omega (arith, longest e)) in
    let m : 4 + n ≡ length_of e = omega (arith, shortest e) in
    rw (length-take-le n (drop 4 space) k, drop-drop n 4 space, m, event_length e id second s l, event_parts e id second s l i, ← q)

-- what is put between the heading and the rest of the space is the header's array
pub event_laid :
    (e : Event) (id : ℕ) (second : Bool) (s : List ℕ) (l : Layers) (space w ys : List ℕ) (stop : ℕ) (p : Span) → Inside s l → longest_event ≤ length space
    → w ≡ heading (number_of e) id ++ drop 4 space → stop ≡ length_of e → p ≡ span_of e l
    → ys ≡ array (length (take (stop - 4) (drop 4 w))) (take (p.at + p.len - p.at) (drop p.at s))
    → take 4 w ++ (ys ++ drop (stop - 4) (drop 4 w)) ≡ event_bytes e id (seen second s l) ++ drop (length (event_bytes e id (seen second s l))) space
event_laid e id second s l space w ys stop p i h a b c d =
    let k : p.at + p.len - p.at ≡ p.len = omega arith in
    rw (d, k, a, c) (laid e id second s l space (stop - 4) i h (ap (λ n. n - 4) b))
