-- Document 01, 'Worked set': M1 to M11 are one list and one theorem, and the page shows them. antt computes them.
-- Assumes nothing.
use Prim.Native.Nat.{ℕ, zero, suc}
use mathlib.Core.Path.{◌≡◌, refl, sym, ◌∙◌}
use mathlib.Core.List.{List, [], ◌∷◌, map}
use Rattle.numbers.specs.Bytes.{be, ones_add, ones_sum}
use Rattle.numbers.specs.Lists.{first_from, all_below}
use Rattle.packets.specs.Link.{tagged, link_of}
use Rattle.packets.specs.Ipv6.{ipv6_tests, ipv6_here}
use Rattle.packets.specs.Ip.{ipv4_tests, ipv4_here, packet_at, ip_of}
use Rattle.payloads.specs.Transport.{unfragmented, tcp_tests, tcp_here, udp_tests, udp_here, segment_at, datagram_at, transport_at, transport_of}
use Rattle.payloads.specs.Someip.{message_tests, message_here, message_at, cut_by, someip_at, someip_of}
use Rattle.layers.specs.Layers.{layers_of, too_short, shown_of}
use Rattle.addresses.specs.Addresses.{same_address}
use Rattle.addresses.specs.Prefixes.{prefix_agrees}
use Rattle.table.specs.Table.{marked, bucket_of, tracking_of}
use Rattle.ranges.specs.Ranges.{rule_tests}
use Rattle.faults.specs.Faults.{fresh_id, faulty, marks_good, states_good, fault_of}
use Rattle.deciding.specs.Best.{score_of, greatest, best_of}
use Rattle.matching.specs.Matching.{link_matches, ip_matches, transport_matches, someip_matches, layer_tests, rule_matches}
use Rattle.deciding.specs.Decider.{decides, decider_of}
use Rattle.verdicts.specs.Good.{record_tests, record_good}
use Rattle.records.specs.Good.{records_good}
use Rattle.records.specs.Records.{Lent, records_of, words_of}
use Rattle.flags.specs.Flags.{kind_of}
use Rattle.places.specs.Places.{same_quad, holds, of_socket}
use Rattle.conversations.specs.Tracking.{step_of}
use Rattle.places.specs.Ageing.{aged_place}
use Rattle.verdicts.specs.Rule.{aged, decided, reacted}
use Rattle.records.specs.Step.{fresh_of, ticked, reacted_at, acted}
use Rattle.events.specs.Events.{array, event_bytes, mismatch_of}
use Rattle.steps.specs.Steps.{event_for, outcome_of}
use Rattle.firewall.specs.Firewall.{Said, refused, done, answered, judge_of}
use Rattle.theorems.specs.Run.{go, Told, tell}
use Rattle.paper.specs.TableT.{table_t}
use Rattle.paper.specs.Frames.{
  hex,
  frame_a,
  padded,
  with_type,
  with_port,
  frame0806,
  tcp,
  ack1,
  syn_ack1,
  syn1,
  syn2,
  syn3,
  first13,
  tagged17,
  frame_bytes,
}
use Rattle.paper.specs.Worked.{lines}
use Rattle.examples.specs.Worked.{
  Step,
  Example,
  Ran,
  next,
  values_in,
  ran,
  event_space,
  m1,
  m2,
  m3,
  m4,
  rate_event,
  m5,
  m6,
  connections_event,
  m7,
  m8,
  m9,
  m10,
  m11,
  worked,
  outcomes,
  expectations,
  calls_from,
  PageRight,
}

-- To compute a run costs little if each call starts from words that are computed already, and far too much if it must compute the
-- calls before it anew. So each of these hands on what it is given once it is computed, and changes nothing.
abbrev pub number : {B : Type 0} → ℕ → (ℕ → B) → B
number zero k = k zero
number (suc n) k = k (suc n)

abbrev pub listed : {A B : Type 0} → (A → (A → B) → B) → List A → (List A → B) → B
listed f [] k = k []
listed f (x ∷ l) k = f x (λ y. listed f l (λ m. k (y ∷ m)))

abbrev pub worded : {B : Type 0} → Lent → (Lent → B) → B
worded w k =
    listed number w.head (λ h.
    listed (listed number) w.counts (λ c.
    listed (listed (listed number)) w.places (λ p. k (record { head = h; counts = c; places = p }))))

abbrev saying : {B : Type 0} → Said → (Said → B) → B
saying (refused r) k =
    number r.number (λ x. number r.place (λ y. number r.setting (λ z. k (refused (record { number = x; place = y; setting = z })))))
saying done k = k done
saying (answered a b c) k = number a (λ x. number b (λ y. number c (λ z. k (answered x y z))))

abbrev telling : {B : Type 0} → Told → (Told → B) → B
telling t k = saying t.said (λ x. listed number t.space (λ s. k (record { said = x; space = s })))

number_same : {B : Type 0} (n : ℕ) (k : ℕ → B) → number n k ≡ k n
number_same zero k = refl
number_same (suc n) k = refl

listed_same : {A B : Type 0} (f : A → (A → B) → B) → ((x : A) (k : A → B) → f x k ≡ k x) → (l : List A) (k : List A → B) → listed f l k ≡ k l
listed_same f h [] k = refl
listed_same f h (x ∷ l) k = h x _ ∙ listed_same f h l (λ m. k (x ∷ m))

pub worded_same : {B : Type 0} (w : Lent) (k : Lent → B) → worded w k ≡ k w
worded_same w k =
    listed_same _ number_same w.head _
    ∙ listed_same _ (listed_same _ number_same) w.counts _
    ∙ listed_same _ (listed_same _ (listed_same _ number_same)) w.places _

saying_same : {B : Type 0} (x : Said) (k : Said → B) → saying x k ≡ k x
saying_same (refused r) k = number_same r.number _ ∙ number_same r.place _ ∙ number_same r.setting _
saying_same done k = refl
saying_same (answered a b c) k = number_same a _ ∙ number_same b _ ∙ number_same c _

telling_same : {B : Type 0} (t : Told) (k : Told → B) → telling t k ≡ k t
telling_same t k = saying_same t.said _ ∙ listed_same _ number_same t.space _

-- one call; and a run whose calls are computed one by one
abbrev called : Lent → Step → (Lent → Told → Ran) → Ran
called w x k = worded (next w x) (λ v. telling (tell table_t w x.item) (k v))

called_same : (w : Lent) (x : Step) (k : Lent → Told → Ran) → called w x k ≡ k (next w x) (tell table_t w x.item)
called_same w x k =
    worded_same (next w x) (λ v. telling (tell table_t w x.item) (k v)) ∙ telling_same (tell table_t w x.item) (k (next w x))

abbrev added : Step → Lent → Told → Ran → Ran
added x w t r = record { calls = record { told = t; values = values_in w x } ∷ r.calls; words = r.words }

abbrev by_calls : Lent → List Step → (Ran → Ran) → Ran
by_calls w [] k = k (record { calls = []; words = w })
by_calls w (x ∷ l) k = called w x (λ v t. by_calls v l (λ r. k (added x v t r)))

by_calls_same : (w : Lent) (l : List Step) (k : Ran → Ran) → by_calls w l k ≡ k (ran w l)
by_calls_same w [] k = refl
by_calls_same w (x ∷ l) k =
    called_same w x (λ v t. by_calls v l (λ r. k (added x v t r)))
    ∙ by_calls_same (next w x) l (λ r. k (added x (next w x) (tell table_t w x.item) r))

abbrev outcomes_by_calls : List Example → List (List Ran)
outcomes_by_calls l = map (λ x. map (λ steps. by_calls (words_of (fresh_of x.start)) steps (λ r. r)) x.runs) l

outcomes_same : (l : List Example) → outcomes_by_calls l ≡ outcomes l
unfolding outcomes
outcomes_same l = λ i. map (λ x. map (λ steps. by_calls_same (words_of (fresh_of x.start)) steps (λ r. r) i) x.runs) l

computed : outcomes_by_calls worked ≡ expectations worked
unfolding be ones_add ones_sum first_from all_below tagged link_of ipv4_tests ipv4_here packet_at ipv6_tests ipv6_here ip_of unfragmented tcp_tests tcp_here udp_tests udp_here segment_at datagram_at transport_at transport_of message_tests message_here message_at cut_by someip_at someip_of layers_of too_short shown_of prefix_agrees marked bucket_of tracking_of rule_tests fresh_id faulty marks_good states_good fault_of score_of greatest best_of link_matches ip_matches transport_matches someip_matches layer_tests rule_matches decides decider_of record_tests record_good records_good records_of words_of aged_place aged kind_of same_address same_quad holds of_socket step_of decided reacted fresh_of ticked reacted_at acted array event_bytes mismatch_of event_for outcome_of judge_of go tell table_t hex frame_a padded with_type with_port frame0806 tcp ack1 syn_ack1 syn1 syn2 syn3 first13 tagged17 event_space m1 m2 m3 m4 rate_event m5 m6 connections_event m7 m8 m9 m10 m11 worked expectations
computed = refl

-- "M1 to M11 are proved as one list with one theorem"
pub worked_right : outcomes worked ≡ expectations worked
worked_right = sym (outcomes_same worked) ∙ computed

-- and the page shows them: antt computes both lists
pub page_right : PageRight
unfolding hex frame_a padded with_type with_port frame0806 tcp ack1 syn_ack1 syn1 syn2 syn3 first13 tagged17 frame_bytes lines event_space m1 m2 m3 m4 rate_event m5 m6 connections_event m7 m8 m9 m10 m11 worked calls_from
page_right = refl
