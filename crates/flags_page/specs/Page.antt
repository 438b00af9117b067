-- The page of the flags, a line for each setting of FIN, SYN, RST and ACK. Document 02, 5/12: "one page showing what each of the sixteen settings counts as".
-- Assumes nothing.
use Rattle.std.specs.Prelude.{ℕ, ◌/◌, ◌%◌, false, cond, List, get_or, set, eqb, Option, Some, None}
use Rattle.numbers.specs.Lists.{copies}
use Rattle.table.specs.Table.{most_places}
use Rattle.table.specs.declared.Room.{Room}
use Rattle.flags.specs.Flags.{kind_of}
use Rattle.flags.specs.declared.FlagKind.{FlagKind}
use Rattle.flags.specs.declared.Phase.{Phase}
use Rattle.flags.specs.declared.Phase.TheVariants as phase
use Rattle.places.specs.Places.{Place, free, is_free, no_quad, phase_of, held_as}
use Rattle.conversations.specs.Tracking.{Tracked, tracked_in}
use Rattle.verdicts.specs.Rule.{verdict_of}
use Rattle.flags_page.specs.declared.row.Done.{Done}
use Rattle.flags_page.specs.declared.row.Row.{Row}

-- the places of a rule that holds the frame's conversation so, on socket 0, and no other
abbrev pub places_with : Option Phase → List Place
places_with None = copies most_places free
places_with (Some f) = set (copies most_places free) 0 (held_as (no_quad false) f)

-- the state in which a place holds a conversation, if it does
abbrev pub phase_in : Place → Option Phase
phase_in p = cond (is_free p) None (Some (phase_of p.state))

-- what became of the frame and of its conversation: the verdict, and the state after it
abbrev pub done_by : Tracked → Done
done_by x = record { verdict = verdict_of x.progress; state = phase_in (get_or x.places 0 free) }

-- a rule with as many places as it can have, all of them for each socket; its idle limit says nothing, since no time passes
abbrev pub room : Room
room = record { places = most_places; limit = 1; number0 = most_places; number1 = most_places }

-- what tracking does with a frame whose flags count as this
abbrev pub done_of : Option FlagKind → Option Phase → Done
done_of k h = done_by (tracked_in room (no_quad false) (places_with h) k)

-- the line n: the flags are the binary digits of n, FIN first
unfoldable pub row_of : ℕ → Row
row_of n =
    let fin = eqb (n / 8 % 2) 1 in
    let syn = eqb (n / 4 % 2) 1 in
    let rst = eqb (n / 2 % 2) 1 in
    let ack = eqb (n % 2) 1 in
    let k = kind_of fin syn rst ack in
    record {
      fin = fin;
      syn = syn;
      rst = rst;
      ack = ack;
      flags = k;
      nothing = done_of k None;
      opening = done_of k (Some phase.Opening);
      running = done_of k (Some phase.Running);
      closing = done_of k (Some phase.Closing);
    }
