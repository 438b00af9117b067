-- What a reader of the layers may count on: every offset and length of a layer that is present lies within the frame, and a bundle cuts.
-- Assumes nothing.
use Rattle.std.specs.Prelude.{ℕ, ◌≤◌, List, length}
use Rattle.layers.specs.Layers.{most}
use Rattle.packets.specs.Inside.{TagInside, IpInside}
use Rattle.payloads.specs.Inside.{TransportInside, SomeipInside}
use Rattle.layers.specs.declared.Layers.{Layers}

-- all layers of a frame that is not too long
pub record Inside (s : List ℕ) (l : Layers) : Type 0 where
  pub size : length s ≤ most
  pub link : l.link.hlen ≤ length s
  pub tag : TagInside l.link.tag
  pub ip : IpInside s l.ip
  pub transport : TransportInside s l.transport
  pub someip : SomeipInside s l.someip
