-- That layers lie inside a frame is a fact: it has one proof at most.
-- Assumes nothing.
use Prim.Native.Nat.{ℕ}
use mathlib.Core.List.{List}
use Rattle.std.specs.Prelude.{Option, Some, None}
use Rattle.std.proofs.Props.{props}
use Rattle.std.proofs.Math.Logic.{∥∥₁_elim}
use Rattle.packets.specs.Inside.{TagInside, ChainInside, IpInside}
use Rattle.packets.specs.declared.Tag.{Tag}
use Rattle.packets.specs.declared.Upper.{Upper}
use Rattle.packets.specs.declared.Ip.{Ip}
use Rattle.packets.specs.declared.Ip.TheVariants as ip
use Rattle.payloads.specs.Inside.{TransportInside, SomeipInside}
use Rattle.payloads.specs.declared.Transport.{Transport}
use Rattle.payloads.specs.declared.Transport.TheVariants as transport
use Rattle.payloads.specs.declared.Bundle.{Bundle}
use Rattle.layers.specs.declared.Layers.{Layers}
use Rattle.layers.specs.Inside.{Inside}

tag_prop : (t : Option Tag) → IsProp (TagInside t)
tag_prop None = hlevel props
tag_prop (Some t) = hlevel props

chain_prop : (s : List ℕ) (c : Option Upper) → IsProp (ChainInside s c)
chain_prop s None = hlevel props
chain_prop s (Some u) = hlevel props

ip_prop : (s : List ℕ) (x : Ip) → IsProp (IpInside s x)
ip_prop s ip.Absent = hlevel props
ip_prop s (ip.V4 p) = hlevel props
ip_prop s (ip.V6 p) = let c = chain_prop s p.chain in hlevel (props, c)

transport_prop : (s : List ℕ) (x : Transport) → IsProp (TransportInside s x)
transport_prop s transport.Absent = hlevel props
transport_prop s (transport.Tcp t) = hlevel props
transport_prop s (transport.Udp u) = hlevel props

someip_prop : (s : List ℕ) (x : Option Bundle) → IsProp (SomeipInside s x)
someip_prop s None = hlevel props
someip_prop s (Some b) = hlevel props

pub inside_prop : (s : List ℕ) (l : Layers) → IsProp (Inside s l)
inside_prop s l =
    let t = tag_prop l.link.tag in
    let i = ip_prop s l.ip in
    let r = transport_prop s l.transport in
    let m = someip_prop s l.someip in
    hlevel (props, t, i, r, m)

-- so one that is only told is one at hand
pub inside_told : (s : List ℕ) (l : Layers) → ∥ Inside s l ∥₁ → Inside s l
inside_told s l t = ∥∥₁_elim t (inside_prop s l) (λ x. x)
