-- `records::shape::shape_of` meets its contract.
use denote.Plain.{UInt}
use denote.Array.{Array}
use Rattle.places.specs.Places.{ShapedPlace, ShapedPlaces}
use Rattle.numbers.proofs.Shapes.{sized_tells}
use Rattle.std.proofs.Common.{◌≡◌, length, ℕ, List, w32, w64}
use Rattle.records.proofs.shape.shape_of.Goals as goal

pub returns : goal.returns
returns c = record {
  head = c.well_formed.0.1.0.1;
  counts = sized_tells (Array (UInt w32) 4) (λ (k : List ℕ). length k ≡ 4) (λ x vs s. s.1.0.1) 65 c.args.counts _ c.well_formed.1.0;
  places =
      sized_tells (Array (Array (UInt w64) 6) 8) ShapedPlaces
      (λ x vs s. sized_tells (Array (UInt w64) 6) ShapedPlace (λ x vs s. s.1.0.1) 8 x vs s) 64 c.args.places _ c.well_formed.1.1.0;
}
