-- Laws of the fields, each over the byte order and the width.
-- Assumes nothing.
use Prim.Native.Nat.{ℕ, zero, suc, ◌+◌, ◌*◌, ◌^◌, ◌≤◌, ◌<◌}
use mathlib.Core.Path.{◌≡◌, refl, sym, ap, ◌∙◌}
use mathlib.Core.List.{List, [], ◌∷◌, ◌++◌, reverse, reverse-append}
use mathlib.Core.Bool.{Bool, cond, true, false}
use native.Mathlib.Nat.{add_assoc, add_comm}
use native.Mathlib.Numerals.{add-one}
use native.Mathlib.Omega.{arith}
use lib.ListN.{length, drop, length-drop, length-reverse, get_or-append}
use lib.Seq.{drop-cons, drop-append-le, take-append-le, take-add, drop-drop, length-take-le, get_or-append-add}
use Rattle.numbers.specs.Bytes.{byte, be}
use Rattle.numbers.proofs.Laws.{be_one, be_two}
use Rattle.capture.specs.Fields.{field, in_order, number_at}
use Rattle.capture.specs.Capture.{is_of, form, header_of, time_of, head_of}
use Rattle.capture.specs.declared.Form.{Form}

-- a field is its first byte, and the field behind it
field_cons : (n : ℕ) (s : List ℕ) (i j : ℕ) → i < length s → j ≡ i + 1 → field (suc n) s i ≡ byte s i ∷ field n s j
field_cons n s i j h e = rw (drop-cons s i 0 h, e, add-one i)

-- two bytes and four, each by its place
field_two : (s : List ℕ) (i : ℕ) → i + 2 ≤ length s → field 2 s i ≡ byte s i ∷ byte s (i + 1) ∷ []
field_two s i h = rw (field_cons 1 s i (i + 1) (omega arith) refl, field_cons 0 s (i + 1) (i + 2) (omega arith) (omega arith))

field_four :
    (s : List ℕ) (i : ℕ) → i + 4 ≤ length s
    → field 4 s i ≡ byte s i ∷ byte s (i + 1) ∷ byte s (i + 2) ∷ byte s (i + 3) ∷ []
field_four s i h =
    rw (field_cons 3 s i (i + 1) (omega arith) refl, field_cons 2 s (i + 1) (i + 2) (omega arith) (omega arith), field_cons 1 s (i + 2) (i + 3) (omega arith) (omega arith), field_cons 0 s (i + 3) (i + 4) (omega arith) (omega arith))

pub number_two :
    (big : Bool) (s : List ℕ) (i : ℕ) → i + 2 ≤ length s
    → number_at big 2 s i ≡ cond big (byte s i * 256 + byte s (i + 1)) (byte s (i + 1) * 256 + byte s i)
unfolding number_at be
number_two true s i h = rw (field_two s i h) (omega arith)
number_two false s i h = rw (field_two s i h) (omega arith)

pub number_four :
    (big : Bool) (s : List ℕ) (i : ℕ) → i + 4 ≤ length s
    → number_at big 4 s i
    ≡ cond big (((byte s i * 256 + byte s (i + 1)) * 256 + byte s (i + 2)) * 256 + byte s (i + 3))
    (((byte s (i + 3) * 256 + byte s (i + 2)) * 256 + byte s (i + 1)) * 256 + byte s i)
unfolding number_at be
number_four true s i h = rw (field_four s i h) (omega arith)
number_four false s i h = rw (field_four s i h) (omega arith)

-- a number in the first of two lists, and one in the second
be_front : (n : ℕ) (p q : List ℕ) (i : ℕ) → i + n ≤ length p → be n (p ++ q) i ≡ be n p i
unfolding be
be_front zero p q i h = refl
be_front (suc n) p q i h = rw (be_front n p q i (omega arith), get_or-append p q 0 (i + n) (omega arith))

be_behind : (n : ℕ) (p q : List ℕ) (i : ℕ) → be n (p ++ q) (length p + i) ≡ be n q i
unfolding be
be_behind zero p q i = refl
be_behind (suc n) p q i = rw (be_behind n p q i, add_assoc (length p) i n, get_or-append-add p q (i + n) 0)

be_joined :
    (m n : ℕ) (p q : List ℕ) → length p ≡ m → length q ≡ n → be (m + n) (p ++ q) 0 ≡ be m p 0 * 256 ^ n + be n q 0
be_joined m n p q a b =
    let front : be m (p ++ q) 0 ≡ be m p 0 = be_front m p q 0 (omega arith) in
    let behind : be n (p ++ q) (0 + m) ≡ be n q 0 = rw (← a) (ap (be n (p ++ q)) (omega arith) ∙ be_behind n p q 0) in
    be_two m n (p ++ q) 0 ∙ rw (front, behind)

field_length : (n : ℕ) (s : List ℕ) (i : ℕ) → i + n ≤ length s → length (field n s i) ≡ n
field_length n s i h = length-take-le n (drop i s) (simp length-drop (omega arith))

field_split : (m n : ℕ) (s : List ℕ) (i : ℕ) → field (m + n) s i ≡ field m s i ++ field n s (i + m)
field_split m n s i = rw (take-add m n (drop i s), drop-drop m i s)

-- THE FIELDS' LAW, over the byte order: a field is made of the two that lie in it
pub number_joined :
    (big : Bool) (m n : ℕ) (s : List ℕ) (i a b r : ℕ) → i + (m + n) ≤ length s → a ≡ number_at big m s i → b ≡ number_at big n s (i + m)
    → r ≡ cond big (a * 256 ^ n + b) (b * 256 ^ m + a)
    → r ≡ number_at big (m + n) s i
unfolding number_at
number_joined big m n s i a b r h ea eb er = er ∙ by_order big ea eb
  where
    f : List ℕ
    f = field m s i

    g : List ℕ
    g = field n s (i + m)

    by_order :
        (o : Bool) → a ≡ be m (in_order o f) 0 → b ≡ be n (in_order o g) 0
        → cond o (a * 256 ^ n + b) (b * 256 ^ m + a) ≡ be (m + n) (in_order o (field (m + n) s i)) 0
    by_order true x y =
        rw (x, y, field_split m n s i) (sym (be_joined m n f g (field_length m s i (omega arith)) (field_length n s (i + m) (omega arith))))
    by_order false x y =
        rw (x, y, field_split m n s i, reverse-append f g, add_comm m n)
        (sym (be_joined n m (reverse g) (reverse f) (length-reverse g ∙ field_length n s (i + m) (omega arith)) (length-reverse f ∙ field_length m s i (omega arith))))

-- of one byte
pub number_one : (big : Bool) (s : List ℕ) (i a : ℕ) → i < length s → a ≡ byte s i → a ≡ number_at big 1 s i
unfolding number_at
number_one big s i a h e = e ∙ by_order big
  where
    one : field 1 s i ≡ byte s i ∷ []
    one = rw (drop-cons s i 0 h)

    by_order : (o : Bool) → byte s i ≡ be 1 (in_order o (field 1 s i)) 0
    by_order true = rw one (sym (be_one (byte s i ∷ []) 0))
    by_order false = rw one (sym (be_one (byte s i ∷ []) 0))

-- a field that lies in p is the same whatever follows p
pub number_front :
    (big : Bool) (n i : ℕ) (p u : List ℕ) → i + n ≤ length p → number_at big n (p ++ u) i ≡ number_at big n p i
unfolding number_at
number_front big n i p u h =
    let d : i ≤ length p = omega arith in
    let t : n ≤ length (drop i p) = simp length-drop (omega arith) in
    rw (drop-append-le i p u d, take-append-le n (drop i p) u t)

-- ---- the headers

-- all of a record's header is the same whatever follows
pub head_front : (f : Form) (p u : List ℕ) → 16 ≤ length p → head_of f (p ++ u) ≡ head_of f p
unfolding head_of time_of
head_front f p u h =
    rw (number_front f.big 4 0 p u (omega arith), number_front f.big 4 4 p u (omega arith), number_front f.big 4 8 p u (omega arith), number_front f.big 4 12 p u (omega arith))

-- and of the file header
is_front : (f : Form) (p u : List ℕ) → 24 ≤ length p → is_of f (p ++ u) ≡ is_of f p
unfolding is_of
is_front f p u h =
    rw (number_front f.big 4 0 p u (omega arith), number_front f.big 2 4 p u (omega arith), number_front f.big 2 6 p u (omega arith), number_front f.big 4 20 p u (omega arith))

pub header_front : (p u : List ℕ) → 24 ≤ length p → header_of (p ++ u) ≡ header_of p
unfolding header_of
header_front p u h =
    rw (is_front (form true false) p u h, is_front (form true true) p u h, is_front (form false false) p u h, is_front (form false true) p u h)
