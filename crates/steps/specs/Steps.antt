-- One frame judged, for a good table and a good record: document 01, 'One frame, in this order' and 'Verdicts, events, refusals'.
-- Assumes nothing.
use Rattle.std.specs.Prelude.{ℕ, ◌+◌, ◌*◌, ◌≤◌, ◌≡◌, List, [], Bool, true, cond, ◌||◌, length, ltb, eqb, None, Ok}
use Rattle.numbers.specs.Lists.{written}
use Rattle.packets.specs.declared.Ip.{Ip}
use Rattle.packets.specs.declared.Ip.TheVariants as ip
use Rattle.payloads.specs.declared.Transport.{Transport}
use Rattle.payloads.specs.declared.Transport.TheVariants as transport
use Rattle.layers.specs.Layers.{shown_of}
use Rattle.layers.specs.declared.Layers.{Layers}
use Rattle.layers.specs.Seen.{Seen, seen}
use Rattle.table.specs.declared.Table.{Table}
use Rattle.table.specs.Table.{rule_at}
use Rattle.faults.specs.Faults.{fault_of}
use Rattle.deciding.specs.Decider.{decider_of}
use Rattle.deciding.specs.Best.{best_of}
use Rattle.conversations.specs.declared.Turn.{Turn}
use Rattle.records.specs.Records.{Lent, Records, default, records_of, words_of}
use Rattle.places.specs.declared.Quad.{Quad}
use Rattle.places.specs.Places.{no_quad, ipv4_quad, ipv6_quad}
use Rattle.flags.specs.Flags.{kind_of}
use Rattle.verdicts.specs.Verdict.{verdict_number}
use Rattle.verdicts.specs.Rule.{over_rate, no_place_free, blocked_by_default, wrong_flags, no_conversation, not_in_state}
use Rattle.records.specs.Step.{ticked, reaction, acted}
use Rattle.records.specs.Good.{records_good}
use Rattle.events.specs.Events.{event_bytes, mismatch_of, event_room}
use Rattle.events.specs.declared.Event.TheVariants as event
use Rattle.steps.specs.declared.Answer.{Answer}
use Rattle.steps.specs.declared.Report.{Report}
use Rattle.steps.specs.declared.Report.TheVariants as report

-- what arrives: a clock reading, the socket on which the frame comes (6/12), and its bytes
pub record Arrival : Type 0 where
  pub reading : ℕ
  pub socket : ℕ
  pub bytes : List ℕ

-- made of its parts
abbrev pub arrival : ℕ → ℕ → List ℕ → Arrival
arrival reading socket bytes = record { reading = reading; socket = socket; bytes = bytes }

-- socket 1, and not socket 0; one above is refused, and never seen
abbrev pub is_second : ℕ → Bool
is_second socket = eqb socket 1

-- what is seen of it, by the layers that it shows
abbrev pub seen_of : Arrival → Layers → Seen
seen_of a l = seen (is_second a.socket) a.bytes l

-- what a rule looks at: the socket, addresses, ports and flags of a TCP segment; no more than the socket where there is none
abbrev pub no_turn : Bool → Turn
no_turn second = record { quad = no_quad second; flags = None }

-- the conversation between the addresses of a packet of either kind
abbrev pub quad_of : Bool → Ip → ℕ → Quad
quad_of second ip.Absent ports = no_quad second
quad_of second (ip.V4 p) ports = ipv4_quad second p.source p.destination ports
quad_of second (ip.V6 p) ports = ipv6_quad second p.source p.destination ports

-- by the layers that tell it
abbrev pub turn_in : Bool → Ip → Transport → Turn
turn_in second i (transport.Tcp t) = record {
  quad = quad_of second i (t.source * 65536 + t.destination);
  flags = kind_of t.fin t.syn t.rst t.ack;
}
turn_in second i transport.Absent = no_turn second
turn_in second i (transport.Udp u) = no_turn second

-- of what is seen of a frame
abbrev pub turn_of : Seen → Turn
turn_of x = turn_in x.second x.layers.ip x.layers.transport

-- "the deciding rule's id (65,535 for the default)"
abbrev pub id_at : Table → ℕ → ℕ
id_at t d = cond (ltb d default) (rule_at t d).id 65535

-- ---- the event

-- the verdicts that verdict 4 became: for each of them "Event 63 stays"
abbrev pub wrong_step : ℕ → Bool
wrong_step verdict = eqb verdict wrong_flags || (eqb verdict no_conversation || eqb verdict not_in_state)

-- "3 gives event 64"; for 40, 41 and 42 "Event 63 stays"; "5 gives 001's event for too many TCP connections";
-- "6 gives the mismatch event of the best fit"; "Verdicts 0, 1 and 2 have no event"
unfoldable pub event_for : ℕ → Report
event_for verdict =
    cond (eqb verdict over_rate) (report.Own event.Ratelimit)
    (cond (wrong_step verdict) (report.Own event.StateTransition)
    (cond (eqb verdict no_place_free) (report.Own event.MaxConnections)
    (cond (eqb verdict blocked_by_default) report.BestFit
    report.Nothing)))

-- the best fit's event names its rule, "65,535" where no rule is active
abbrev pub best_event : Table → ℕ → Seen → List ℕ
best_event t state x =
    let best = best_of t state x in
    event_bytes (mismatch_of (rule_at t best.place) best.layer) (id_at t best.place) x

-- the bytes of what is reported of a frame that d decides
abbrev pub reported : Table → ℕ → Seen → ℕ → Report → List ℕ
reported t state x d report.Nothing = []
reported t state x d (report.Own e) = event_bytes e (id_at t d) x
reported t state x d report.BestFit = best_event t state x

-- the event's bytes of a verdict that d gave
abbrev pub event_of : Table → ℕ → Seen → ℕ → ℕ → List ℕ
event_of t state x d verdict = reported t state x d (event_for verdict)

-- ---- the step

-- verdict, rule id, the event's bytes, and the records after the frame
pub record Outcome : Type 0 where
  pub verdict : ℕ
  pub rule : ℕ
  pub event : List ℕ
  pub records : Records

-- steps 1 to 5 at a reading
unfoldable pub outcome_of : Table → Records → ℕ → Seen → Outcome
outcome_of t s reading x =
    let d = decider_of t s.state x in
    let u = ticked t reading s in
    let v = (reaction t (turn_of x) d u).verdict in
    record {
      verdict = v;
      rule = id_at t d;
      event = event_of t s.state x d v;
      records = acted t (turn_of x) d u;
    }

-- what a step asks: a good table, a good record, the layers that the frame shows, and space for an event
pub record Ready (t : Table) (w : Lent) (x : Seen) (space : List ℕ) : Type 0 where
  pub table : fault_of t ≡ Ok tt
  pub records : records_good t (records_of w) ≡ true
  pub shows : shown_of x.bytes ≡ Ok x.layers
  pub room : event_room ≤ length space

-- what a judged frame leaves: "verdict, the deciding rule's id and event length", the words and the event space
pub record Stepped : Type 0 where
  pub verdict : ℕ
  pub rule : ℕ
  pub length : ℕ
  pub words : Lent
  pub space : List ℕ

-- of an answer, with the words and the space as the call leaves them; and of an outcome
abbrev pub stepped : Answer → Lent → List ℕ → Stepped
stepped a w space = record { verdict = verdict_number a.verdict; rule = a.rule; length = a.length; words = w; space = space }

abbrev pub stepped_as : Outcome → List ℕ → Stepped
stepped_as o space = record {
  verdict = o.verdict;
  rule = o.rule;
  length = length o.event;
  words = words_of o.records;
  space = written o.event space;
}
