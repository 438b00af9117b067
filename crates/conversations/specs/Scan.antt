-- The scan of the places of one rule. Document 01, 'The order of the places of one rule'.
-- Assumes nothing.
use Rattle.std.specs.Prelude.{ℕ, suc, Bool, cond, ◌&&◌, not, List, [], ◌∷◌, length, ltb, eqb}
use Rattle.places.specs.Places.{Place, same_quad}
use Rattle.places.specs.declared.Quad.{Quad}
use Rattle.conversations.specs.declared.scan.Conversation.{Conversation}
use Rattle.conversations.specs.declared.scan.Found.{Found}

-- what the scan looks at in a place: its state and its quadruple
abbrev pub shown : Place → Conversation
shown p = record { state = p.state; quad = p.quad }

-- no conversation stands there
abbrev pub vacant : Conversation → Bool
vacant c = eqb c.state 0

-- the one of the quadruple does
abbrev pub shows : Quad → Conversation → Bool
shows q c = not (vacant c) && same_quad q c.quad

-- what is found once the place at i is seen: the first that holds the quadruple, and "the first free place"
unfoldable pub seen_by : Quad → Conversation → ℕ → Found → Found
seen_by q c i f = record {
  held = cond (shows q c && ltb i f.held) i f.held;
  free = cond (vacant c && ltb i f.free) i f.free;
}

-- the same over the places from i on
abbrev pub scan_from : Quad → ℕ → Found → List Conversation → Found
scan_from q i f [] = f
scan_from q i f (c ∷ cs) = scan_from q (suc i) (seen_by q c i f) cs

-- nothing is found: both stand after the n places
abbrev pub nowhere : ℕ → Found
nowhere n = record { held = n; free = n }

-- all places of the rule
unfoldable pub scan_of : Quad → List Conversation → Found
scan_of q cs = scan_from q 0 (nowhere (length cs)) cs
