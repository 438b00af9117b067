-- Words and records determine each other. Assumes nothing.
use Prim.Native.Nat.{ℕ, zero, suc, ◌<◌, ◌≤◌}
use native.Mathlib.Omega.{arith}
use mathlib.Core.Path.{◌≡◌, refl, sym, ap, ap₂, subst, ◌∙◌}
use mathlib.Core.List.{List, [], ◌∷◌, map}
use lib.ListN.{length, get_or, take, length-map, length-take, get_or-eq_default}
use lib.Seq.{get_or-take}
use Rattle.places.specs.Places.{free, place_of, place_words, Fits, ShapedPlace, ShapedPlaces}
use Rattle.numbers.specs.Lists.{All}
use Rattle.numbers.proofs.Tests.{by_less}
use Rattle.numbers.proofs.Elements.{nil_of, row_back, All-at, All-map}
use Rattle.places.proofs.PlaceLaws.{places_back, places_same, places_fit}
use Rattle.verdicts.specs.Record.{RuleRecord, no_record, rule_of, count_row, place_rows}
use Rattle.records.specs.Records.{Records, Lent, rule_records, records_of, words_of, Shaped, ShapedRecords}

-- ---- from words and back

counts_back : (cs : List (List ℕ)) (ps : List (List (List ℕ))) → All (λ c. length c ≡ 4) cs → map count_row (rule_records cs ps) ≡ cs
counts_back [] ps a = refl
counts_back (c ∷ cs) [] a = ap₂ ◌∷◌ (row_back 4 c a.0) (counts_back cs [] a.1)
counts_back (c ∷ cs) (p ∷ ps) a = ap₂ ◌∷◌ (row_back 4 c a.0) (counts_back cs ps a.1)

rows_back :
    (n : ℕ) (cs : List (List ℕ)) (ps : List (List (List ℕ))) → length ps ≡ n → n ≤ length cs → All ShapedPlaces ps
    → map place_rows (take n (rule_records cs ps)) ≡ ps
rows_back zero cs ps h m a = sym (nil_of ps h)
rows_back (suc n) [] ps h m a = absurd (omega arith)
rows_back (suc n) (c ∷ cs) [] h m a = absurd (omega arith)
rows_back (suc n) (c ∷ cs) (p ∷ ps) h m a = ap₂ ◌∷◌ (places_back p a.0.1) (rows_back n cs ps (omega arith) (omega arith) a.1)

pub words_back : (w : Lent) → Shaped w → words_of (records_of w) ≡ w
unfolding words_of records_of
words_back w h = λ i. record {
  head = row_back 2 w.head h.head i;
  counts = counts_back w.counts w.places h.counts.1 i;
  places = rows_back 64 w.counts w.places h.places.0 many h.places.1 i;
}
  where
    many : 64 ≤ length w.counts
    many = let e = h.counts.0 in omega arith

-- ---- from records and back

rule_same : (x : RuleRecord) → All Fits x.places → rule_of (count_row x) (place_rows x) ≡ x
rule_same x h = λ i. record { level0 = x.level0; level1 = x.level1; passed = x.passed; blocked = x.blocked; places = places_same x.places h i }

bare_same : (x : RuleRecord) → length x.places ≡ 0 → rule_of (count_row x) [] ≡ x
bare_same x h = λ i. record { level0 = x.level0; level1 = x.level1; passed = x.passed; blocked = x.blocked; places = sym (nil_of x.places h) i }

-- the first n have places, which fit into words, the others none
rules_same :
    (n : ℕ) (xs : List RuleRecord) → ((i : ℕ) → i < n → All Fits (get_or xs i no_record).places)
    → ((i : ℕ) → n ≤ i → length (get_or xs i no_record).places ≡ 0)
    → rule_records (map count_row xs) (map place_rows (take n xs)) ≡ xs
rules_same n [] f h = none n
  where
    none : (n : ℕ) → rule_records [] (map place_rows (take n [])) ≡ []
    none zero = refl
    none (suc n) = refl
rules_same zero (x ∷ xs) f h =
    ap₂ ◌∷◌ (bare_same x (h 0 (omega arith))) (rules_same zero xs (λ i m. absurd (omega arith)) (λ i m. h (suc i) (omega arith)))
rules_same (suc n) (x ∷ xs) f h =
    ap₂ ◌∷◌ (rule_same x (f 0 (omega arith))) (rules_same n xs (λ i m. f (suc i) (omega arith)) (λ i m. h (suc i) (omega arith)))

pub records_back : (s : Records) → ShapedRecords s → records_of (words_of s) ≡ s
unfolding words_of records_of
records_back s h = λ i. record { last = s.last; state = s.state; rules = rules_same 64 s.rules (λ i m. (h.places i m).1) bare i }
  where
    bare : (i : ℕ) → 64 ≤ i → length (get_or s.rules i no_record).places ≡ 0
    bare i m =
        by_less 64 i
        (λ k. let e = h.rules in ap (λ (x : RuleRecord). length x.places) (get_or-eq_default s.rules no_record (omega arith)))
        (λ k. let e : i ≡ 64 = omega arith in ap (λ j. length (get_or s.rules j no_record).places) e ∙ h.none)

-- ---- the shapes

rules_length : (cs : List (List ℕ)) (ps : List (List (List ℕ))) → length (rule_records cs ps) ≡ length cs
rules_length [] ps = refl
rules_length (c ∷ cs) [] = ap suc (rules_length cs [])
rules_length (c ∷ cs) (p ∷ ps) = ap suc (rules_length cs ps)

-- the record at i is that of the rows at i
pub rules_at :
    (cs : List (List ℕ)) (ps : List (List (List ℕ))) (i : ℕ) → i < length cs
    → get_or (rule_records cs ps) i no_record ≡ rule_of (get_or cs i []) (get_or ps i [])
rules_at [] ps i h = absurd (omega arith)
rules_at (c ∷ cs) [] zero h = refl
rules_at (c ∷ cs) [] (suc i) h = rules_at cs [] i (omega arith)
rules_at (c ∷ cs) (p ∷ ps) zero h = refl
rules_at (c ∷ cs) (p ∷ ps) (suc i) h = rules_at cs ps i (omega arith)

pub records_shaped : (w : Lent) → Shaped w → ShapedRecords (records_of w)
unfolding records_of
records_shaped w h = record {
  rules = rules_length w.counts w.places ∙ h.counts.0;
  places = λ i m. (
    places_at_lem i (omega arith) ∙ (All-at ShapedPlaces [] w.places h.places.1 i (omega (arith, h.places.0))).0,
    subst (λ (x : RuleRecord). All Fits x.places) (sym (rules_at w.counts w.places i (omega (arith, h.counts.0))))
        (places_fit (get_or w.places i [])),
  );
  none = places_at_lem 64 (omega arith) ∙ ap length (get_or-eq_default w.places [] (omega (arith, h.places.0)));
}
  where
    places_at_lem : (i : ℕ) → i < 65 → length (get_or (rule_records w.counts w.places) i no_record).places ≡ length (get_or w.places i [])
    places_at_lem i m =
        ap (λ (x : RuleRecord). length x.places) (rules_at w.counts w.places i (omega (arith, h.counts.0)))
        ∙ length-map (get_or w.places i []) place_of

pub words_shaped : (s : Records) → ShapedRecords s → Shaped (words_of s)
unfolding words_of
words_shaped s h = record {
  head = refl;
  counts = (length-map s.rules count_row ∙ h.rules, All-map count_row (λ c. length c ≡ 4) no_record s.rules (λ i m. refl));
  places = (
    length-map (take 64 s.rules) place_rows ∙ few,
    All-map place_rows ShapedPlaces no_record (take 64 s.rules)
        (λ i m. (
          many i (omega (arith, few)),
          All-map place_words ShapedPlace free (get_or (take 64 s.rules) i no_record).places (λ j k. refl),
        )),
  );
}
  where
    few : length (take 64 s.rules) ≡ 64
    few = omega (arith, length-take 64 s.rules, h.rules)

    many : (i : ℕ) → i < 64 → length (map place_words (get_or (take 64 s.rules) i no_record).places) ≡ 8
    many i m =
        length-map (get_or (take 64 s.rules) i no_record).places place_words
        ∙ ap (λ (x : RuleRecord). length x.places) (get_or-take 64 s.rules i no_record m)
        ∙ (h.places i m).0
