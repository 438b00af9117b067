-- Any two outcomes that the statement of a call allows are equal: an answer is told by what it says. Assumes nothing.
use Prim.Native.Nat.{ℕ}
use mathlib.Core.Path.{◌≡◌, refl, sym, ap, ◌∙◌}
use mathlib.Core.List.{List, [], ◌∷◌}
use mathlib.Core.Bool.{cond}
use lib.Dec.{eqb}
use lib.ListN.{get_or}
use Rattle.std.specs.Prelude.{⊤, Result, Ok, Err}
use Rattle.places.specs.Places.{Place, places_of, places_words, ShapedPlaces}
use Rattle.conversations.specs.Tracking.{Tracked}
use Rattle.places.proofs.PlaceLaws.{places_back}
use Rattle.records.specs.Records.{Lent, words_of}
use Rattle.verdicts.specs.Record.{RuleRecord, count_size, rule_of, count_row, place_rows}
use Rattle.verdicts.specs.Rule.{Reacted}
use Rattle.verdicts.specs.declared.verdict.Verdict.{Verdict}
use Rattle.verdicts.specs.declared.verdict.Verdict.TheVariants as verdict
use Rattle.numbers.proofs.Elements.{row_back}
use Rattle.records.proofs.WordLaws.{words_back}
use Rattle.steps.specs.Steps.{Stepped, stepped, stepped_as}
use Rattle.steps.specs.declared.Answer.{Answer}
use Rattle.firewall.specs.Firewall.{Refused, refused_as, Said, refused, answered, After, says, AfterCall, leaves, said_done, said_judged}
use Rattle.firewall.specs.declared.refusal.Refusal.{Refusal}
use Rattle.firewall.specs.declared.refusal.Refusal.TheVariants as refusal
use Rattle.faults.specs.declared.AtFault.{AtFault}
use Rattle.faults.specs.declared.AtFault.TheVariants as at
use Rattle.ranges.specs.declared.setting_number.SettingNumber.{SettingNumber}
use Rattle.ranges.specs.declared.setting_number.SettingNumber.TheVariants as setting
use Rattle.ranges.specs.Numbers.{setting_number}
use Rattle.theorems.specs.Unique.{OneOutcome, RowOf, Unique}
use Rattle.verdicts.specs.Verdict.{verdict_number}

-- ---- what is said tells the answer

-- the settings in the order of their numbers; 27 is none of them
settings : List SettingNumber
settings =
    setting.Id
    ∷ (setting.DestinationMac
    ∷ (setting.SourceMac
    ∷ (setting.VlanId
    ∷ (setting.Priority
    ∷ (setting.EtherType
    ∷ (setting.Ipv4Source
    ∷ (setting.Ipv4Destination
    ∷ (setting.Ipv4Protocol
    ∷ (setting.Kind
    ∷ (setting.SourcePorts
    ∷ (setting.DestinationPorts
    ∷ (setting.Service
    ∷ (setting.Method
    ∷ (setting.ProtocolVersion
    ∷ (setting.MessageType
    ∷ (setting.ReturnCode
    ∷ (setting.BucketSize
    ∷ (setting.Refill
    ∷ (setting.Places
    ∷ (setting.IdleLimit
    ∷ (setting.Ipv6Source
    ∷ (setting.Ipv6Destination
    ∷ (setting.Ipv6Protocol
    ∷ (setting.Socket
    ∷ (setting.Number0
    ∷ (setting.Number1
    ∷ (setting.Id
    ∷ (setting.Action ∷ []))))))))))))))))))))))))))))

-- the fault of a place and the number of a setting, 255 for none
fault_at : ℕ → ℕ → AtFault
fault_at place n = cond (eqb n 255) at.StatesOrRuleCount (at.Rule place (get_or settings n setting.Id))

fault_back : (place : ℕ) (s : SettingNumber) → fault_at place (setting_number s) ≡ at.Rule place s
unfolding fault_at settings
fault_back place setting.Id = refl
fault_back place setting.DestinationMac = refl
fault_back place setting.SourceMac = refl
fault_back place setting.VlanId = refl
fault_back place setting.Priority = refl
fault_back place setting.EtherType = refl
fault_back place setting.Ipv4Source = refl
fault_back place setting.Ipv4Destination = refl
fault_back place setting.Ipv4Protocol = refl
fault_back place setting.Kind = refl
fault_back place setting.SourcePorts = refl
fault_back place setting.DestinationPorts = refl
fault_back place setting.Service = refl
fault_back place setting.Method = refl
fault_back place setting.ProtocolVersion = refl
fault_back place setting.MessageType = refl
fault_back place setting.ReturnCode = refl
fault_back place setting.BucketSize = refl
fault_back place setting.Refill = refl
fault_back place setting.Places = refl
fault_back place setting.IdleLimit = refl
fault_back place setting.Ipv6Source = refl
fault_back place setting.Ipv6Destination = refl
fault_back place setting.Ipv6Protocol = refl
fault_back place setting.Socket = refl
fault_back place setting.Number0 = refl
fault_back place setting.Number1 = refl
fault_back place setting.Action = refl

-- the refusal of a number and the two that 4 carries
refusal_of : Refused → Refusal
refusal_of x =
    get_or
    (refusal.NoSuchSocket
    ∷ (refusal.TooShort
    ∷ (refusal.TooLong
    ∷ (refusal.NoSpace ∷ (refusal.BadTable (fault_at x.place x.setting) ∷ (refusal.BadRecord ∷ (refusal.NoSuchState ∷ [])))))))
    x.number refusal.NoSuchSocket

refusal_back : (r : Refusal) → refusal_of (refused_as r) ≡ r
unfolding refusal_of fault_at
refusal_back refusal.TooShort = refl
refusal_back refusal.TooLong = refl
refusal_back refusal.NoSpace = refl
refusal_back (refusal.BadTable (at.Rule place s)) = ap refusal.BadTable (fault_back place s)
refusal_back (refusal.BadTable at.StatesOrRuleCount) = refl
refusal_back refusal.BadRecord = refl
refusal_back refusal.NoSuchState = refl
refusal_back refusal.NoSuchSocket = refl

refusal_same : (r q : Refusal) → refused (refused_as r) ≡ refused (refused_as q) → r ≡ q
refusal_same r q e =
    let same : refused_as r ≡ refused_as q = cc in
    sym (refusal_back r) ∙ ap refusal_of same ∙ refusal_back q

-- the verdict of a number
verdict_of : ℕ → Verdict
verdict_of n =
    cond (eqb n 0) verdict.Allowed
    (cond (eqb n 1) verdict.AllowedByDefault
    (cond (eqb n 2) verdict.BlockedByRule
    (cond (eqb n 3) verdict.OverRate
    (cond (eqb n 5) verdict.NoPlaceFree
    (cond (eqb n 6) verdict.BlockedByDefault
    (cond (eqb n 40) verdict.WrongFlags
    (cond (eqb n 41) verdict.NoConversation verdict.NotInState)))))))

verdict_back : (v : Verdict) → verdict_of (verdict_number v) ≡ v
unfolding verdict_of
verdict_back verdict.Allowed = refl
verdict_back verdict.AllowedByDefault = refl
verdict_back verdict.BlockedByRule = refl
verdict_back verdict.OverRate = refl
verdict_back verdict.NoPlaceFree = refl
verdict_back verdict.BlockedByDefault = refl
verdict_back verdict.WrongFlags = refl
verdict_back verdict.NoConversation = refl
verdict_back verdict.NotInState = refl

verdict_same : (r q : Verdict) → verdict_number r ≡ verdict_number q → r ≡ q
verdict_same r q e = sym (verdict_back r) ∙ ap verdict_of e ∙ verdict_back q

answer_same :
    (a b : Answer) → answered (verdict_number a.verdict) a.rule a.length ≡ answered (verdict_number b.verdict) b.rule b.length
    → a ≡ b
answer_same a b e =
    let v : verdict_number a.verdict ≡ verdict_number b.verdict = cc in
    let r : a.rule ≡ b.rule = cc in
    let n : a.length ≡ b.length = cc in
    λ i. record { verdict = verdict_same a.verdict b.verdict v i; rule = r i; length = n i }

done_same : (r q : Result ⊤ Refusal) → said_done r ≡ said_done q → r ≡ q
done_same (Err r) (Err q) e = ap Err (refusal_same r q e)
done_same (Err r) (Ok v) e = cc
done_same (Ok u) (Err q) e = cc
done_same (Ok u) (Ok v) e = refl

judged_same : (r q : Result Answer Refusal) → said_judged r ≡ said_judged q → r ≡ q
judged_same (Err r) (Err q) e = ap Err (refusal_same r q e)
judged_same (Err r) (Ok b) e = cc
judged_same (Ok a) (Err q) e = cc
judged_same (Ok a) (Ok b) e = ap Ok (answer_same a b e)

-- ---- so does what is left

module _ {R : Type 0} (say : R → Said) (same : (r q : R) → say r ≡ say q → r ≡ q) where
  left_same : (x : AfterCall) (r q : R) (v u : Lent) → leaves (say r) v ≡ x → leaves (say q) u ≡ x → (r ≡ q) × (v ≡ u)
  left_same x r q v u e f = (same r q (ap (λ (z : AfterCall). z.said) (e ∙ sym f)), ap (λ (z : AfterCall). z.words) (e ∙ sym f))

  after_same :
      (z : After) (r q : R) (v u : Lent) (x y : List ℕ) → says (say r) v x ≡ z → says (say q) u y ≡ z
      → (r ≡ q) × (v ≡ u) × (x ≡ y)
  after_same z r q v u x y e f = (
    same r q (ap (λ (z : After). z.said) (e ∙ sym f)),
    ap (λ (z : After). z.words) (e ∙ sym f),
    ap (λ (z : After). z.space) (e ∙ sym f),
  )

-- ---- and what a step leaves

stepped_same :
    (z : Stepped) (r q : Answer) (v u : Lent) (x y : List ℕ) → stepped r v x ≡ z → stepped q u y ≡ z → (r ≡ q) × (v ≡ u) × (x ≡ y)
stepped_same z r q v u x y e f = (
  λ i. record {
    verdict = verdict_same r.verdict q.verdict (ap (λ (z : Stepped). z.verdict) (e ∙ sym f)) i;
    rule = ((e ∙ sym f) i).rule;
    length = ((e ∙ sym f) i).length;
  },
  ap (λ (z : Stepped). z.words) (e ∙ sym f),
  ap (λ (z : Stepped). z.space) (e ∙ sym f),
)

places_same : (ps : List Place) (v u : List (List ℕ)) → ShapedPlaces v → ShapedPlaces u → places_of v ≡ ps → places_of u ≡ ps → v ≡ u
places_same ps v u h k e f = sym (places_back v h.1) ∙ ap places_words (e ∙ sym f) ∙ places_back u k.1

record_same :
    (x : RuleRecord) (c d : List ℕ) (v u : List (List ℕ)) → RowOf c v → RowOf d u → rule_of c v ≡ x → rule_of d u ≡ x
    → (c ≡ d) × (v ≡ u)
record_same x c d v u h k e f = (
  sym (row_back count_size c h.counts) ∙ ap count_row (e ∙ sym f) ∙ row_back count_size d k.counts,
  sym (places_back v h.places) ∙ ap place_rows (e ∙ sym f) ∙ places_back u k.places,
)

pub one_outcome : OneOutcome
one_outcome A is x y e f = e ∙ sym f

pub unique : Unique
unique = record {
  number = λ n r q e f. verdict_same r q (e ∙ sym f);
  records = λ s v u h k e f. sym (words_back v h) ∙ ap words_of (e ∙ sym f) ∙ words_back u k;
  places = places_same;
  tracked = λ x r q v u h k e f.
      (ap (λ (z : Tracked). z.progress) (e ∙ sym f), places_same x.places v u h k (ap (λ (z : Tracked). z.places) e) (ap (λ (z : Tracked). z.places) f));
  row = record_same;
  reacted = λ x r q c d v u h k e f.
      let w = record_same x.after c d v u h k (ap (λ (z : Reacted). z.after) e) (ap (λ (z : Reacted). z.after) f) in
      (verdict_same r q (ap (λ (z : Reacted). z.verdict) (e ∙ sym f)), w.0, w.1);
  laid = λ fs w x h k. h.is ∙ sym k.is;
  wrote = λ event space x y n m h k. (h.count ∙ sym k.count, h.left ∙ sym k.left);
  read = λ bytes r q e f. e ∙ sym f;
  check = λ t w r q e f. done_same r q (e ∙ sym f);
  fresh = λ t reading w. left_same said_done done_same _;
  switch = λ t state w. left_same said_done done_same _;
  judge = λ t w a space. after_same said_judged judged_same _;
  step = λ o space. stepped_same (stepped_as o space);
}
