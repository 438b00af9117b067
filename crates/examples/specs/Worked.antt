-- Document 01, 'Worked set': M1 to M11 as one list of examples with what each expects, and the page that shows them.
-- Assumes nothing.
use Rattle.std.specs.Prelude.{ℕ, suc, ◌+◌, ◌-◌, ◌*◌, ◌≡◌, Bool, true, false, List, [], ◌∷◌, ◌++◌, map, length, get_or, set, take}
use Rattle.numbers.specs.Lists.{copies, ends, said}
use Rattle.layers.specs.Layers.{layers_of}
use Rattle.packets.specs.declared.Ip.{Ip}
use Rattle.packets.specs.declared.Ip.TheVariants as ip
use Rattle.table.specs.Table.{most_places}
use Rattle.places.specs.Places.{Place, free, nothing, ipv4_quad}
use Rattle.verdicts.specs.Record.{RuleRecord}
use Rattle.records.specs.Records.{Lent, default, record_at, records_of, words_of}
use Rattle.records.specs.Step.{fresh_of}
use Rattle.events.specs.Events.{event_room}
use Rattle.steps.specs.Steps.{arrival}
use Rattle.firewall.specs.Firewall.{Said, refused, plain, answered}
use Rattle.paper.specs.declared.Expected.{Expected}
use Rattle.paper.specs.declared.Expected.TheVariants as expected
use Rattle.paper.specs.declared.Line.{Line}
use Rattle.paper.specs.Frames.{hex, frame_a, padded, with_type, with_port, frame0806, ack1, syn_ack1, syn1, syn2, syn3, first13, tagged17, frame_bytes}
use Rattle.paper.specs.TableT.{at10, at20, at30, at40, table_t}
use Rattle.paper.specs.Worked.{lines}
use Rattle.theorems.specs.Run.{Item, arrives, switches, go, Told, tell}

-- ---- what an example says

-- the states of a place for a conversation
abbrev pub vacant : ℕ
vacant = 0

abbrev pub opening : ℕ
opening = 1

abbrev pub running : ℕ
running = 2

-- What it looks at after a call: whether the frame shows IPv4, 1 or 0; the level of socket 0 of the rule at a table place;
-- state and age at a place for a conversation, by the rule's table place and its own
pub data Look : Type 0 where
  ipv4_there : Look
  level_of : ℕ → Look
  state_of : ℕ → ℕ → Look
  age_of : ℕ → ℕ → Look

-- one call: what is done, and what it is expected to say, to write and to leave
pub record Step : Type 0 where
  pub item : Item
  pub said : Said
  pub event : List ℕ
  pub looks : List (Look × ℕ)

-- the reading of the fresh record; one run, or several that end alike; the records at the end: the last reading,
-- and the records of rules, by table place, that are no longer as in a fresh record
pub record Example : Type 0 where
  pub start : ℕ
  pub runs : List (List Step)
  pub last : ℕ
  pub changed : List (ℕ × RuleRecord)

-- the event space of every call: 256 bytes, none of them zero
unfoldable pub event_space : List ℕ
event_space = copies event_room 0xEE

-- a frame at a reading: a refusal, or the answer's verdict, rule id and event length; the event; what to look at. 6/12: "M1 to M11 use socket 0"
abbrev pub judged : ℕ → List ℕ → Said → List ℕ → List (Look × ℕ) → Step
judged reading frame said event looks =
    record { item = arrives (arrival reading 0 frame) event_space; said = said; event = event; looks = looks }

-- the record of a rule without tracking: the level of socket 0 (that of socket 1 stays 0), passed, blocked; of one that holds conversations; of the default
abbrev pub counts : ℕ → ℕ → ℕ → RuleRecord
counts level passed blocked = record { level0 = level; level1 = 0; passed = passed; blocked = blocked; places = copies most_places free }

abbrev pub holding : ℕ → ℕ → List Place → RuleRecord
holding passed blocked places = record {
  level0 = 0;
  level1 = 0;
  passed = passed;
  blocked = blocked;
  places = places ++ copies (most_places - length places) free;
}

abbrev pub by_default : ℕ → ℕ → RuleRecord
by_default passed blocked = record { level0 = 0; level1 = 0; passed = passed; blocked = blocked; places = [] }

-- the conversation of 10.0.0.2 port 443 with 10.1.0.1 at a port, on socket 0, in a state, at an age
abbrev pub conversation : ℕ → ℕ → ℕ → Place
conversation port state age = record {
  state = state;
  quad = ipv4_quad false 0x0a000002 0x0a010001 (443 * 65536 + port);
  age = age;
  unused = nothing;
}

-- ---- the examples

-- "M1 A: 0, rule 10."
unfoldable pub m1 : Example
m1 = record {
  start = 0;
  runs = (judged 0 frame_a (answered 0 10 0) [] [] ∷ []) ∷ [];
  last = 0;
  changed = (at10, counts 0 1 0) ∷ [];
}

-- "M2 A with four zero bytes added: the same."
unfoldable pub m2 : Example
m2 = record {
  start = 0;
  runs = (judged 0 (padded 4) (answered 0 10 0) [] [] ∷ []) ∷ [];
  last = 0;
  changed = (at10, counts 0 1 0) ∷ [];
}

-- "M3 A with type 0x81: 6, SOME/IP event naming rule 10."
-- 001: 56, FirewallRuleId, CompleteSOMEIPHeader uint8 [16]
unfoldable pub m3 : Example
m3 = record {
  start = 0;
  runs =
      (judged 0 (with_type 0x81) (answered 6 65535 20)
      (hex 2 56 ++ hex 2 10 ++ hex 16 0x10000111000000160001000301018100) []
      ∷ [])
      ∷ [];
  last = 0;
  changed = (default, by_default 0 1) ∷ [];
}

-- "M4 A less its last byte: IPv4 absent; 6, TCP event naming rule 20 (its unset layers match)."
-- 001: 54, FirewallRuleId, CompleteTCPHeader uint8 [24], "all zeros if absent"
unfoldable pub m4 : Example
m4 = record {
  start = 0;
  runs =
      (judged 0 (take 71 frame_a) (answered 6 65535 28) (hex 2 54 ++ hex 2 20 ++ hex 24 0) ((ipv4_there, 0) ∷ [])
      ∷ [])
      ∷ [];
  last = 0;
  changed = (default, by_default 0 1) ∷ [];
}

-- "M5 ether 0x0806 at 0, 0, 0, 1000, 2000, 4000: verdicts 0 0 3 3 3 0, levels 1000 2000 3000 3000 3000 2000."
-- 001: 64, FirewallRuleId, MAC_Address uint8 [6]
unfoldable pub rate_event : List ℕ
rate_event = hex 2 64 ++ hex 2 30 ++ hex 6 0x021aaaaaaaaa

unfoldable pub m5 : Example
m5 = record {
  start = 0;
  runs =
      (judged 0 frame0806 (answered 0 30 0) [] ((level_of at30, 1000) ∷ [])
      ∷ judged 0 frame0806 (answered 0 30 0) [] ((level_of at30, 2000) ∷ [])
      ∷ judged 0 frame0806 (answered 3 30 10) rate_event ((level_of at30, 3000) ∷ [])
      ∷ judged 1000 frame0806 (answered 3 30 10) rate_event ((level_of at30, 3000) ∷ [])
      ∷ judged 2000 frame0806 (answered 3 30 10) rate_event ((level_of at30, 3000) ∷ [])
      ∷ judged 4000 frame0806 (answered 0 30 0) [] ((level_of at30, 2000) ∷ [])
      ∷ [])
      ∷ [];
  last = 4000;
  changed = (at30, counts 2000 3 3) ∷ [];
}

-- "M6 valid TCP from 443: ACK first, 4; SYN+ACK then ACK, 0 and 0, Running." "M6's first becomes 41"
-- 001: 63, FirewallRuleId
unfoldable pub m6 : Example
m6 = record {
  start = 0;
  runs =
      (judged 0 ack1 (answered 41 20 4) (hex 2 63 ++ hex 2 20) ((state_of at20 0, vacant) ∷ [])
      ∷ judged 0 syn_ack1 (answered 0 20 0) [] ((state_of at20 0, opening) ∷ [])
      ∷ judged 0 ack1 (answered 0 20 0) [] ((state_of at20 0, running) ∷ [])
      ∷ [])
      ∷ [];
  last = 0;
  changed = (at20, holding 2 1 (conversation 50001 running 0 ∷ [])) ∷ [];
}

-- "M7 two held, a third SYN: 5. After 999 ms idle still held; after 1,000 removed, and the SYN passes."
-- 001: 61, FirewallRuleId, CompleteTCPHeader uint8 [24], of which the frame has 20
unfoldable pub connections_event : List ℕ
connections_event = hex 2 61 ++ hex 2 20 ++ hex 20 0x01bbc35300000000000000005002400096d00000 ++ hex 4 0

unfoldable pub m7 : Example
m7 = record {
  start = 0;
  runs =
      (judged 0 syn1 (answered 0 20 0) [] ((state_of at20 0, opening) ∷ (state_of at20 1, vacant) ∷ [])
      ∷ judged 0 syn2 (answered 0 20 0) [] ((state_of at20 0, opening) ∷ (state_of at20 1, opening) ∷ [])
      ∷ judged 0 syn3 (answered 5 20 28) connections_event ((state_of at20 0, opening) ∷ (state_of at20 1, opening) ∷ [])
      ∷ judged 999 syn3 (answered 5 20 28) connections_event
      ((state_of at20 0, opening) ∷ (age_of at20 0, 999) ∷ (state_of at20 1, opening) ∷ (age_of at20 1, 999) ∷ [])
      ∷ judged 1000 syn3 (answered 0 20 0) [] ((state_of at20 0, opening) ∷ (age_of at20 0, 0) ∷ (state_of at20 1, vacant) ∷ [])
      ∷ [])
      ∷ [];
  last = 1000;
  changed = (at20, holding 3 2 (conversation 50003 opening 0 ∷ [])) ∷ [];
}

-- "M8 readings 1,000,000, 0, 500: elapsed after the first 0 and 500; a conversation from the first is held at age 500."
-- The level too tells what has elapsed: 0 + 1,000, then 1,000 - 500 + 1,000.
unfoldable pub m8 : Example
m8 = record {
  start = 0;
  runs =
      (judged 1000000 syn1 (answered 0 20 0) [] ((state_of at20 0, opening) ∷ (age_of at20 0, 0) ∷ [])
      ∷ judged 0 frame0806 (answered 0 30 0) [] ((state_of at20 0, opening) ∷ (age_of at20 0, 0) ∷ (level_of at30, 1000) ∷ [])
      ∷ judged 500 frame0806 (answered 0 30 0) [] ((state_of at20 0, opening) ∷ (age_of at20 0, 500) ∷ (level_of at30, 1500) ∷ [])
      ∷ [])
      ∷ [];
  last = 500;
  changed = (at20, holding 1 0 (conversation 50001 opening 500 ∷ [])) ∷ (at30, counts 1500 2 0) ∷ [];
}

-- "M9 A with destination port 68: 2, rule 40, no event; with 1024: 6, UDP event naming rule 10."
-- 001: 55, FirewallRuleId, CompleteUDPHeader uint8 [8]
unfoldable pub m9 : Example
m9 = record {
  start = 0;
  runs =
      (judged 0 (with_port 68) (answered 2 40 0) [] []
      ∷ judged 0 (with_port 1024) (answered 6 65535 12) (hex 2 55 ++ hex 2 10 ++ hex 8 0x771b04000026e8b9) []
      ∷ [])
      ∷ [];
  last = 0;
  changed = (at40, counts 0 0 1) ∷ (default, by_default 0 1) ∷ [];
}

-- "M10 13 bytes: 1; 17 bytes tagged: 1; 1,518 judged; 1,519: 2."
-- The readings tell that a refused frame leaves the records as they were.
unfoldable pub m10 : Example
m10 = record {
  start = 0;
  runs =
      (judged 1 first13 (refused (plain 1)) [] []
      ∷ judged 2 tagged17 (refused (plain 1)) [] []
      ∷ judged 3 (padded 1446) (answered 0 10 0) [] []
      ∷ judged 4 (padded 1447) (refused (plain 2)) [] []
      ∷ [])
      ∷ [];
  last = 3;
  changed = (at10, counts 0 1 0) ∷ [];
}

-- "M11 A and an 0x0806 frame at one reading, both orders: same verdicts and records."
unfoldable pub m11 : Example
m11 =
    let a = judged 500 frame_a (answered 0 10 0) [] [] in
    let b = judged 500 frame0806 (answered 0 30 0) [] ((level_of at30, 1000) ∷ []) in
    record {
      start = 0;
      runs = (a ∷ b ∷ []) ∷ (b ∷ a ∷ []) ∷ [];
      last = 500;
      changed = (at10, counts 0 1 0) ∷ (at30, counts 1000 1 0) ∷ [];
    }

unfoldable pub worked : List Example
worked = m1 ∷ m2 ∷ m3 ∷ m4 ∷ m5 ∷ m6 ∷ m7 ∷ m8 ∷ m9 ∷ m10 ∷ m11 ∷ []

-- ---- what comes of the examples, and what is expected of them

-- of one call: what it says, its event space afterwards, and the values looked at
pub record Looked : Type 0 where
  pub told : Told
  pub values : List ℕ

-- of one run: each call, and the words at the end
pub record Ran : Type 0 where
  pub calls : List Looked
  pub words : Lent

-- the values looked at
abbrev pub is_ipv4 : Ip → ℕ
is_ipv4 ip.Absent = 0
is_ipv4 (ip.V4 p) = 1
is_ipv4 (ip.V6 p) = 0

abbrev pub ipv4_in : Item → ℕ
ipv4_in (arrives a space) = is_ipv4 (layers_of a.bytes).ip
ipv4_in (switches state) = 0

abbrev pub place_at : Lent → ℕ → ℕ → Place
place_at w i j = get_or (record_at (records_of w) i).places j free

abbrev pub value_of : Item → Lent → Look → ℕ
value_of x w ipv4_there = ipv4_in x
value_of x w (level_of i) = (record_at (records_of w) i).level0
value_of x w (state_of i j) = (place_at w i j).state
value_of x w (age_of i j) = (place_at w i j).age

-- each run starts from the words of a fresh record
abbrev pub next : Lent → Step → Lent
next w x = go table_t w x.item

abbrev pub values_in : Lent → Step → List ℕ
values_in w x = map (λ l. value_of x.item w l.0) x.looks

abbrev pub see : Lent → Step → Looked
see w x = record { told = tell table_t w x.item; values = values_in (next w x) x }

abbrev pub ran : Lent → List Step → Ran
ran w steps = record { calls = said next see w steps; words = ends next w steps }

unfoldable pub outcomes : List Example → List (List Ran)
outcomes l = map (λ x. map (ran (words_of (fresh_of x.start))) x.runs) l

-- the event at the start of the space, whose other bytes stay
abbrev pub expected_of : Step → Looked
expected_of x = record {
  told = record { said = x.said; space = x.event ++ copies (event_room - length x.event) 0xEE };
  values = map (λ l. l.1) x.looks;
}

abbrev pub with_rules : List (ℕ × RuleRecord) → List RuleRecord → List RuleRecord
with_rules [] l = l
with_rules (c ∷ cs) l = with_rules cs (set l c.0 c.1)

abbrev pub words_at : ℕ → List (ℕ × RuleRecord) → Lent
words_at last changed =
    words_of (record { last = last; state = 0; rules = with_rules changed (fresh_of last).rules })

abbrev pub expected_run : Example → List Step → Ran
expected_run x steps = record { calls = map expected_of steps; words = words_at x.last x.changed }

unfoldable pub expectations : List Example → List (List Ran)
expectations l = map (λ x. map (expected_run x) x.runs) l

-- ---- the page: what a person reads is these examples

-- a call as a line shows it: its example's number, whether a fresh record comes first, the reading of that record and of the call,
-- the frame's socket and bytes, what is said, and the start of the event: its number and the rule that it names
pub record Call : Type 0 where
  pub example : ℕ
  pub fresh : Bool
  pub start : ℕ
  pub reading : ℕ
  pub socket : ℕ
  pub bytes : List ℕ
  pub said : Said
  pub heading : List ℕ

abbrev pub reading_in : Item → ℕ
reading_in (arrives a space) = a.reading
reading_in (switches state) = 0

abbrev pub socket_in : Item → ℕ
socket_in (arrives a space) = a.socket
socket_in (switches state) = 0

abbrev pub bytes_in : Item → List ℕ
bytes_in (arrives a space) = a.bytes
bytes_in (switches state) = []

abbrev pub call_of : ℕ → ℕ → Bool → Step → Call
call_of n start fresh x = record {
  example = n;
  fresh = fresh;
  start = start;
  reading = reading_in x.item;
  socket = socket_in x.item;
  bytes = bytes_in x.item;
  said = x.said;
  heading = take 4 x.event;
}

-- the calls of the runs of one example, one after the other: a run starts with a fresh record
abbrev pub calls_in : ℕ → ℕ → List (List Step) → List Call
calls_in n start [] = []
calls_in n start ([] ∷ runs) = calls_in n start runs
calls_in n start ((x ∷ run) ∷ runs) = call_of n start true x ∷ (map (call_of n start false) run ++ calls_in n start runs)

-- the calls of the examples, one after the other, which are numbered from n on
unfoldable pub calls_from : ℕ → List Example → List Call
calls_from n [] = []
calls_from n (x ∷ l) = calls_in n x.start x.runs ++ calls_from (suc n) l

-- what a line of the page says of its call
abbrev pub said_of : Expected → Said
said_of (expected.Refused n) = refused (plain n)
said_of (expected.Quiet verdict rule) = answered verdict rule 0
said_of (expected.Event verdict rule number named length) = answered verdict rule length

abbrev pub heading_of : Expected → List ℕ
heading_of (expected.Refused n) = []
heading_of (expected.Quiet verdict rule) = []
heading_of (expected.Event verdict rule number named length) = hex 2 number ++ hex 2 named

abbrev pub shown : Line → Call
shown l = record {
  example = l.example;
  fresh = l.fresh;
  start = 0;
  reading = l.reading;
  socket = 0;
  bytes = frame_bytes l.frame;
  said = said_of l.expected;
  heading = heading_of l.expected;
}

-- the calls of M1 to M11 are the lines of the page
abbrev pub PageRight : Type 0
PageRight = calls_from 1 worked ≡ map shown lines
