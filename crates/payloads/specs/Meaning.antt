-- What it means that a payload cuts, said of the messages one by one. Change request 3/12.
-- Assumes nothing.
use Rattle.std.specs.Prelude.{ℕ, ◌+◌, ◌-◌, ◌≤◌, ◌↔◌, ◌≡◌, List, [], ◌∷◌}
use Rattle.payloads.specs.declared.Message.{Message}
use Rattle.payloads.specs.Someip.{least_length, length_field, message_at, Into, cut}

-- these messages, each whole and with a Length of at least 8, stand one behind the other in the len bytes at `at`, and nothing is left over
abbrev pub StandIn : List ℕ → ℕ → ℕ → List Message → Type 0
StandIn s at len [] = len ≡ 0
StandIn s at len (m ∷ ms) =
    (m ≡ message_at s at) × (least_length ≤ length_field s at) × (m.size ≤ len) × StandIn s (at + m.size) (len - m.size) ms

-- a payload cuts into messages exactly when these stand in it so, however many they are
abbrev pub CutExactly : Type 0
CutExactly = (s : List ℕ) (at len : ℕ) (ms : List Message) → (cut s at len ≡ Into ms) ↔ StandIn s at len ms
