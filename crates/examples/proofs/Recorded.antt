-- 02's three frames give their three lines. antt computes them, each record from words that are computed already.
-- Assumes nothing.
use mathlib.Core.Path.{◌≡◌, refl, sym, ap, ◌∙◌}
use mathlib.Core.Bool.{Bool, true, false}
use mathlib.Core.List.{List, [], ◌∷◌}
use Rattle.numbers.specs.Bytes.{be, ones_add, ones_sum}
use Rattle.numbers.specs.Lists.{first_from, all_below}
use Rattle.packets.specs.Link.{tagged, link_of}
use Rattle.packets.specs.Ipv6.{ipv6_tests, ipv6_here}
use Rattle.packets.specs.Ip.{ipv4_tests, ipv4_here, packet_at, ip_of}
use Rattle.payloads.specs.Transport.{transport_at, transport_of}
use Rattle.payloads.specs.Someip.{someip_at, someip_of}
use Rattle.layers.specs.Layers.{layers_of, too_short, shown_of}
use Rattle.table.specs.Table.{marked, bucket_of, tracking_of}
use Rattle.ranges.specs.Ranges.{rule_tests}
use Rattle.faults.specs.Faults.{fresh_id, faulty, marks_good, states_good, fault_of}
use Rattle.deciding.specs.Decider.{decides, decider_of}
use Rattle.matching.specs.Matching.{link_matches, ip_matches, transport_matches, someip_matches, layer_tests, rule_matches}
use Rattle.verdicts.specs.Good.{record_tests, record_good}
use Rattle.records.specs.Good.{records_good}
use Rattle.records.specs.Records.{Lent, records_of, words_of}
use Rattle.places.specs.Places.{of_socket}
use Rattle.places.specs.Ageing.{aged_place}
use Rattle.verdicts.specs.Rule.{aged, decided, reacted}
use Rattle.records.specs.Step.{fresh_of, ticked, reacted_at, acted}
use Rattle.events.specs.Events.{array, event_bytes}
use Rattle.steps.specs.Steps.{event_for, outcome_of}
use Rattle.firewall.specs.Firewall.{start_of, judge_of}
use Rattle.paper.specs.TableT.{table_t}
use Rattle.paper.specs.Frames.{hex, frame0806}
use Rattle.capture.specs.Fields.{number_at}
use Rattle.capture.specs.Capture.{Item, Frame, magic, is_of, header_of, time_of, head_of, item_of, stored_by, stored_in, items_of}
use Rattle.lines.specs.Decimal.{decimal_by}
use Rattle.lines.specs.declared.Line.{Line}
use Rattle.recording.specs.Run.{Run, run, judged, event_number, line_of, run_by, lines_of, text_of_all, printed}
use Rattle.examples.specs.Recorded.{header_in, record_in, three_frames, three_lines, ThreeFrames}
use Rattle.examples.proofs.Worked.{worded, worded_same}

-- a run whose items are computed one by one
abbrev by_items : {B : Type 0} → Run → List Item → (List Line → B) → B
by_items r [] k = k []
by_items r (i ∷ l) k = worded (run_by table_t r i).words (λ v. by_items (run (run_by table_t r i).place v) l (λ m. k (line_of table_t r i ∷ m)))

by_items_same : {B : Type 0} (r : Run) (l : List Item) (k : List Line → B) → by_items r l k ≡ k (lines_of table_t r l)
by_items_same r [] k = refl
by_items_same r (i ∷ l) k =
    worded_same (run_by table_t r i).words (λ v. by_items (run (run_by table_t r i).place v) l (λ m. k (line_of table_t r i ∷ m)))
    ∙ by_items_same (run_by table_t r i) l (λ m. k (line_of table_t r i ∷ m))

-- the items, in each form
abbrev three_items : List Item
three_items = Frame 0 frame0806 ∷ Frame 0 frame0806 ∷ Frame 0 frame0806 ∷ []

items_three : (big nano : Bool) → items_of (three_frames big nano) ≡ three_items
unfolding be number_at magic is_of header_of time_of head_of item_of stored_by stored_in items_of hex frame0806 header_in record_in three_frames
items_three true true = refl
items_three true false = refl
items_three false true = refl
items_three false false = refl

computed : (w : Lent) → by_items (run 0 w) three_items text_of_all ≡ three_lines
unfolding be ones_add ones_sum first_from all_below tagged link_of ipv4_tests ipv4_here packet_at ipv6_tests ipv6_here ip_of transport_at transport_of someip_at someip_of layers_of too_short shown_of marked bucket_of tracking_of rule_tests fresh_id faulty marks_good states_good fault_of decides decider_of link_matches ip_matches transport_matches someip_matches layer_tests rule_matches record_tests record_good records_good records_of words_of of_socket aged_place aged decided reacted fresh_of ticked reacted_at acted array event_bytes event_for outcome_of start_of judge_of table_t hex frame0806 decimal_by judged event_number line_of run_by text_of_all three_lines
computed w = refl

pub three_frames_lem : ThreeFrames
unfolding printed
three_frames_lem big nano w =
    ap (λ l. text_of_all (lines_of table_t (run 0 w) l)) (items_three big nano) ∙ (sym (by_items_same (run 0 w) three_items text_of_all) ∙ computed w)
