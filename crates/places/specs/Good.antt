-- When the places of one rule are bad. Document 01, 'The records'.
-- Assumes nothing.
use Rattle.std.specs.Prelude.{ℕ, ◌^◌, Bool, true, false, ◌&&◌, ◌||◌, not, List, [], ◌∷◌, length, get_or, drop, ltb, leb, eqb, Option, Some, None}
use Rattle.numbers.specs.Lists.{every, every_of, all_below}
use Rattle.table.specs.declared.Room.{Room}
use Rattle.places.specs.Places.{Unused, Place, free, is_free, places_of, holds, held_by}
use Rattle.table.specs.Table.{most_places}
use Rattle.places.specs.declared.Quad.{Quad}
use Rattle.addresses.specs.declared.Wide.{Wide}

-- the room of a rule: without tracking it has no place, no age is below its limit, and no socket may hold one
abbrev pub no_room : Room
no_room = record { places = 0; limit = 0; number0 = 0; number1 = 0 }

abbrev pub room_in : Option Room → Room
room_in None = no_room
room_in (Some m) = m

-- its places
abbrev pub places_in : Option Room → ℕ
places_in t = (room_in t).places

-- "an address and port quadruple repeats within one rule": the place at j repeats that of an earlier one
abbrev pub repeats : List Place → ℕ → ℕ → Bool
repeats ps j i = not (is_free (get_or ps j free)) && holds (get_or ps j free).quad (get_or ps i free)

-- it repeats none of the earlier ones
abbrev pub alone : List Place → ℕ → Bool
alone ps j = all_below (λ i. not (repeats ps j i)) j

-- no place repeats another
abbrev pub once : List Place → Bool
once ps = all_below (alone ps) (length ps)

-- "an age is not below the idle limit"
abbrev pub young : ℕ → Place → Bool
young limit p = is_free p || ltb p.age limit

-- what has no meaning yet is zero
abbrev pub is_nothing : Unused → Bool
is_nothing u = eqb u.expected 0

-- an IPv4 address has 32 bits, and what stands above them is zero
abbrev pub has32 : Wide → Bool
has32 a = eqb a.high 0 && ltb a.low (2 ^ 32)

abbrev pub fits_kind : Quad → Bool
fits_kind q = q.ipv6 || (has32 q.source && has32 q.destination)

-- what words say of a held place as of a free one: nothing without a meaning, and addresses of their kind
abbrev pub is_plain : Place → Bool
is_plain p = is_nothing p.unused && fits_kind p.quad

-- the conversation and the age that a free place has in a fresh record
abbrev pub is_zero : Wide → Bool
is_zero a = eqb a.high 0 && eqb a.low 0

abbrev pub is_blank : Place → Bool
is_blank p =
    every
    (not p.quad.second
    ∷ not p.quad.ipv6
    ∷ is_zero p.quad.source
    ∷ is_zero p.quad.destination
    ∷ eqb p.quad.ports 0
    ∷ eqb p.age 0
    ∷ [])

-- words that are a record: nothing without a meaning, addresses of their kind, and "a freed place is as in a fresh record"
abbrev pub clean : Place → Bool
clean p = is_plain p && (not (is_free p) || is_blank p)

-- a place as in a fresh record
abbrev pub is_fresh : Place → Bool
is_fresh p = is_free p && clean p

-- a place by itself, which the rule has (is) or has not
abbrev pub place_good : Bool → ℕ → Place → Bool
place_good is limit p = clean p && (is_free p || (is && ltb p.age limit))

-- each place by itself, of which the rule has n
abbrev pub each_good : ℕ → ℕ → List Place → Bool
each_good n limit ps = all_below (λ j. place_good (ltb j n) limit (get_or ps j free)) most_places

-- 6/12: "A record with a socket above its number is bad". A conversation on a socket above 1 is none that words can say: they have one bit for it
abbrev pub number_tests : Room → List Place → List Bool
number_tests m ps = leb (held_by false ps) m.number0 ∷ leb (held_by true ps) m.number1 ∷ []

-- The tests of the places of a rule: "a conversation stands on a rule without tracking" (it has no room) "or in a place the rule doesn't have";
-- "a quadruple repeats within one rule"; "an age is not below the idle limit"; words that are no record; and the sockets' numbers
abbrev pub places_tests : Room → List Place → List Bool
places_tests m ps =
    every_of is_free (drop m.places ps)
    ∷ once ps
    ∷ every_of (young m.limit) ps
    ∷ every_of clean ps
    ∷ number_tests m ps

-- the words of the places of a rule without tracking: all as in a fresh record
abbrev pub is_empty : List (List ℕ) → Bool
is_empty ps = every (places_tests no_room (places_of ps))

-- of the slot at k, where it is one from n on
abbrev pub empty_from : ℕ → List (List (List ℕ)) → ℕ → Bool
empty_from n all k = ltb k n || is_empty (get_or all k [])
