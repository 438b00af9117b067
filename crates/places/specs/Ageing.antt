-- Time passes over the places of one rule. Document 01, 'One frame, in this order', step 2.
-- Assumes nothing.
use Rattle.std.specs.Prelude.{ℕ, ◌+◌, cond, List, map, ltb, Option, Some, None}
use Rattle.places.specs.Places.{Place, free, is_free}
use Rattle.table.specs.declared.Room.{Room}

-- a place of another age
abbrev pub with_age : Place → ℕ → Place
with_age p a = record { state = p.state; quad = p.quad; age = a; unused = p.unused }

-- "all ages rise by elapsed, and a conversation whose age reaches the idle limit is removed"
unfoldable pub aged_place : ℕ → ℕ → Place → Place
aged_place limit e p = cond (is_free p) p (cond (ltb (p.age + e) limit) (with_age p (p.age + e)) free)

-- the places of a rule that tracks, or does not
abbrev pub aged_places : Option Room → ℕ → List Place → List Place
aged_places None e ps = ps
aged_places (Some m) e ps = map (aged_place m.limit e) ps
