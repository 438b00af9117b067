-- What is seen of a frame, as one value: all definitions above the layers take this and no other part of a frame.
-- Assumes nothing.
use Rattle.std.specs.Prelude.{ℕ, List, Bool, Result, Ok, Err}
use Rattle.layers.specs.Layers.{shown_of}
use Rattle.layers.specs.declared.FrameRefusal.{FrameRefusal}
use Rattle.layers.specs.declared.seen.Seen.{Seen as SeenBytes}
use Rattle.layers.specs.declared.Layers.{Layers}

-- the socket on which the frame came, the second or not; its bytes, and the layers that were read from them
pub record Seen : Type 0 where
  pub second : Bool
  pub bytes : List ℕ
  pub layers : Layers

-- made of its parts
abbrev pub seen : Bool → List ℕ → Layers → Seen
seen second bytes layers = record { second = second; bytes = bytes; layers = layers }

-- of the value that the code has
abbrev pub seen_in : SeenBytes → Seen
seen_in x = seen x.second x.frame.now x.layers

-- a frame on a socket: its refusal, or what is seen of it
abbrev pub seen_by : Bool → List ℕ → Result Layers FrameRefusal → Result Seen FrameRefusal
seen_by second bytes (Ok l) = Ok (seen second bytes l)
seen_by second bytes (Err r) = Err r

abbrev pub see_of : Bool → List ℕ → Result Seen FrameRefusal
see_of second bytes = seen_by second bytes (shown_of bytes)

-- what the code answers, as such a value
abbrev pub said_seen : Result SeenBytes FrameRefusal → Result Seen FrameRefusal
said_seen (Ok x) = Ok (seen_in x)
said_seen (Err r) = Err r
