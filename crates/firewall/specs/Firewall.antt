-- The entry points: what each call says and leaves, for every input. Document 01, 'Verdicts, events, refusals'; change requests 1/12 and 6/12.
-- Assumes nothing.
use Rattle.std.specs.Prelude.{ℕ, List, cond, length, ltb, ⊤, Result, Ok, Err, Some, None}
use Rattle.numbers.specs.Lists.{written}
use Rattle.layers.specs.Layers.{refusal_number, shown_of}
use Rattle.layers.specs.declared.FrameRefusal.{FrameRefusal}
use Rattle.layers.specs.declared.FrameRefusal.TheVariants as frame
use Rattle.table.specs.declared.Table.{Table}
use Rattle.faults.specs.declared.AtFault.{AtFault}
use Rattle.faults.specs.declared.AtFault.TheVariants as at
use Rattle.ranges.specs.Numbers.{number_or_none}
use Rattle.table.specs.Table.{most_rules}
use Rattle.faults.specs.Faults.{fault_of}
use Rattle.records.specs.Records.{Lent, records_of, words_of}
use Rattle.records.specs.Good.{records_good}
use Rattle.records.specs.Step.{fresh_of, switched_to}
use Rattle.events.specs.Events.{event_room}
use Rattle.steps.specs.declared.Answer.{Answer}
use Rattle.steps.specs.Steps.{Arrival, seen_of, Outcome, outcome_of}
use Rattle.firewall.specs.declared.refusal.Refusal.{Refusal}
use Rattle.firewall.specs.declared.refusal.Refusal.TheVariants as refusal
use Rattle.layers.specs.declared.Layers.{Layers}
use Rattle.verdicts.specs.Verdict.{verdict_number}

-- a refusal by its number, and the two that 4 carries
pub record Refused : Type 0 where
  pub number : ℕ
  pub place : ℕ
  pub setting : ℕ

-- the refusals, each "given exactly when"; all but 4 have a number alone
abbrev pub plain : ℕ → Refused
plain n = record { number = n; place = 0; setting = 0 }

-- "4 now carries two numbers": the place of the first rule at fault and its first setting at fault; the states and the rule count have 64, and "name none"
abbrev pub at_fault : AtFault → Refused
at_fault (at.Rule place setting) = record { number = 4; place = place; setting = number_or_none (Some setting) }
at_fault at.StatesOrRuleCount = record { number = 4; place = most_rules; setting = number_or_none None }

-- the paper's number and values of each refusal: "1 a frame too short, 2 too long, 3 an event space under 256 bytes, 4 a bad rule table, 5 a bad record,
-- 6 a switch to a state not in the table", 6/12: "9 for a socket above 1"
abbrev pub refused_as : Refusal → Refused
refused_as refusal.TooShort = plain 1
refused_as refusal.TooLong = plain 2
refused_as refusal.NoSpace = plain 3
refused_as (refusal.BadTable f) = at_fault f
refused_as refusal.BadRecord = plain 5
refused_as refusal.NoSuchState = plain 6
refused_as refusal.NoSuchSocket = plain 9

-- what reading the layers refuses
abbrev pub frame_refused : FrameRefusal → Refusal
frame_refused frame.TooShort = refusal.TooShort
frame_refused frame.TooLong = refusal.TooLong

-- What the paper says of a call: a refusal, by its number and the two that 4 carries; done, where there is no more to say;
-- or "verdict, the deciding rule's id and event length"
pub data Said : Type 0 where
  refused : Refused → Said
  done : Said
  answered : ℕ → ℕ → ℕ → Said

-- the paper's numbers and values of each case of each answer
abbrev pub said_done : Result ⊤ Refusal → Said
said_done (Err r) = refused (refused_as r)
said_done (Ok u) = done

abbrev pub said_judged : Result Answer Refusal → Said
said_judged (Err r) = refused (refused_as r)
said_judged (Ok a) = answered (verdict_number a.verdict) a.rule a.length

abbrev pub bad_frame : FrameRefusal → Said
bad_frame f = refused (plain (refusal_number f))

abbrev pub no_space : Said
no_space = refused (plain 3)

abbrev pub bad_table : AtFault → Said
bad_table f = refused (at_fault f)

abbrev pub bad_record : Said
bad_record = refused (plain 5)

abbrev pub no_such_state : Said
no_such_state = refused (plain 6)

-- 6/12: "9 for a socket above 1"
abbrev pub no_such_socket : Said
no_such_socket = refused (plain 9)

-- what a call says, and the words and the event space after it
pub record After : Type 0 where
  pub said : Said
  pub words : Lent
  pub space : List ℕ

-- the call says x, and these are the words and the space after it
abbrev pub says : Said → Lent → List ℕ → After
says x w space = record { said = x; words = w; space = space }

-- the same of a call without an event space
pub record AfterCall : Type 0 where
  pub said : Said
  pub words : Lent

-- the call says x, and these are the words after it
abbrev pub leaves : Said → Lent → AfterCall
leaves x w = record { said = x; words = w }

-- "Order: 4, 5, 6, 1, 2, 3, each where the call has that argument", and 9 "after 6": a bad table is refused, or the rest goes on
abbrev pub if_table : {A : Type 0} → Result ⊤ AtFault → (AtFault → A) → A → A
if_table (Err f) refuse rest = refuse f
if_table (Ok x) refuse rest = rest

-- "bad rule table, with the place of the first rule at fault" and its first setting at fault, then "bad record"
unfoldable pub check_of : Table → Lent → Said
check_of t w = if_table (fault_of t) bad_table (cond (records_good t (records_of w)) done bad_record)

-- a fresh record; "A refusal returns its number and no verdict. The records .. then hold what they held"
unfoldable pub start_of : Table → ℕ → Lent → AfterCall
start_of t reading w = if_table (fault_of t) (λ f. leaves (bad_table f) w) (leaves done (words_of (fresh_of reading)))

-- a switch of vehicle state, "4, 5, 6"
unfoldable pub switch_of : Table → ℕ → Lent → AfterCall
switch_of t state w =
    if_table (fault_of t) (λ f. leaves (bad_table f) w)
    (cond (records_good t (records_of w))
    (cond (ltb state t.statecount) (leaves done (words_of (switched_to state (records_of w)))) (leaves no_such_state w))
    (leaves bad_record w))

-- a judged call: the outcome's verdict, rule id and event length, its records, and its event at the start of the space:
-- "a judged call writes only the event's length of bytes"
abbrev pub judged_as : Outcome → List ℕ → After
judged_as o space =
    says (answered o.verdict o.rule (length o.event)) (words_of o.records) (written o.event space)

-- a frame, for a good table and a good record: "1, 2, 3", and "the records and event space then hold what they held"; or it is judged
abbrev pub after_frame : Table → Lent → Arrival → List ℕ → Result Layers FrameRefusal → After
after_frame t w a space (Err f) = says (bad_frame f) w space
after_frame t w a space (Ok l) =
    cond (ltb (length space) event_room) (says no_space w space)
    (judged_as (outcome_of t (records_of w) a.reading (seen_of a l)) space)

-- "9 .. after 6", then the frame
abbrev pub after_socket : Table → Lent → Arrival → List ℕ → After
after_socket t w a space =
    cond (ltb 1 a.socket) (says no_such_socket w space) (after_frame t w a space (shown_of a.bytes))

-- "4, 5", then the socket
unfoldable pub judge_of : Table → Lent → Arrival → List ℕ → After
judge_of t w a space =
    if_table (fault_of t) (λ f. says (bad_table f) w space)
    (cond (records_good t (records_of w)) (after_socket t w a space) (says bad_record w space))
