-- What the flags of a segment count as, and which step they are for a conversation. Document 01, 'One frame, in this order', step 4.
-- Assumes nothing.
use Rattle.std.specs.Prelude.{Bool, cond, not, [], ◌∷◌, Option, Some, None}
use Rattle.numbers.specs.Lists.{every}
use Rattle.flags.specs.declared.FlagKind.{FlagKind}
use Rattle.flags.specs.declared.FlagKind.TheVariants as kind
use Rattle.flags.specs.declared.Phase.{Phase}
use Rattle.flags.specs.declared.Phase.TheVariants as phase
use Rattle.flags.specs.declared.Next.{Next}
use Rattle.flags.specs.declared.Next.TheVariants as next

-- "Open: SYN without FIN or RST. Reset: RST without SYN or FIN. End: FIN and ACK without SYN or RST. Carry: ACK alone of the four. All else is wrong.": no kind
unfoldable pub kind_of : Bool → Bool → Bool → Bool → Option FlagKind
kind_of fin syn rst ack =
    cond (every (syn ∷ not fin ∷ not rst ∷ [])) (Some kind.Open)
    (cond (every (rst ∷ not syn ∷ not fin ∷ [])) (Some kind.Reset)
    (cond (every (fin ∷ ack ∷ not syn ∷ not rst ∷ [])) (Some kind.End)
    (cond (every (ack ∷ not fin ∷ not syn ∷ not rst ∷ [])) (Some kind.Carry) None)))

-- the table of the paper, held as Opening, Running, Closing: to which state, removed, or "a kind not allowed in the state held"
abbrev pub next_of : Phase → FlagKind → Next
next_of phase.Opening kind.Open = next.To phase.Opening
next_of phase.Opening kind.Carry = next.To phase.Running
next_of phase.Opening kind.End = next.To phase.Closing
next_of phase.Opening kind.Reset = next.Removed
next_of phase.Running kind.Open = next.No
next_of phase.Running kind.Carry = next.To phase.Running
next_of phase.Running kind.End = next.To phase.Closing
next_of phase.Running kind.Reset = next.Removed
next_of phase.Closing kind.Open = next.No
next_of phase.Closing kind.Carry = next.To phase.Closing
next_of phase.Closing kind.End = next.To phase.Closing
next_of phase.Closing kind.Reset = next.Removed
