-- "prove that any two outcomes allowed by its statement are equal": of the call that judges a part of a capture, beside those of theorems/specs/Unique.
-- Assumes nothing.
use Rattle.std.specs.Prelude.{◌≡◌, List, ℕ}
use Rattle.records.specs.Records.{Lent}
use Rattle.recording.specs.Feed.{AfterFeed, feeds}
use Rattle.recording.specs.declared.Fed.{Fed}

abbrev pub FeedOnce : Type 0
FeedOnce =
    (x : AfterFeed) (r q : Fed) (v u : Lent) (o p : List ℕ) → feeds r v o ≡ x → feeds q u p ≡ x → (r ≡ q) × (v ≡ u) × (o ≡ p)
