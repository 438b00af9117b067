-- The places of one rule for its conversations, and the words that hold them. Document 01, 'The records'.
-- Assumes nothing.
use Rattle.std.specs.Prelude.{ℕ, ◌+◌, ◌*◌, ◌/◌, ◌%◌, ◌^◌, ◌<◌, ◌≡◌, Bool, true, false, cond, ◌&&◌, not, List, [], ◌∷◌, map, length, get_or, eqb}
use Rattle.std.specs.Bool.{beq}
use Rattle.numbers.specs.Lists.{every, count_of, Sized}
use Rattle.addresses.specs.Addresses.{low32, same_address}
use Rattle.addresses.specs.declared.Wide.{Wide}
use Rattle.addresses.specs.declared.Address.{Address}
use Rattle.table.specs.Table.{most_places, socket_number}
use Rattle.flags.specs.declared.Phase.{Phase}
use Rattle.flags.specs.declared.Phase.TheVariants as phase
use Rattle.places.specs.declared.Quad.{Quad}
use Rattle.places.specs.declared.sockets.PerSocket.{PerSocket}

-- how many words a place has
abbrev pub place_size : ℕ
place_size = 6

-- what the words of a place have room for and no meaning yet: the expected number
pub record Unused : Type 0 where
  pub expected : ℕ

-- none of it is said
abbrev pub nothing : Unused
nothing = record { expected = 0 }

-- A place for a conversation: its state (0 free, 1 Opening, 2 Running, 3 Closing), "source and destination address and port", and its age in ms.
-- The addresses are of one kind. Both ports are one number, source x 65,536 + destination. Its socket is 0, or 1 where it is the second: no other can be said.
pub record Place : Type 0 where
  pub state : ℕ
  pub quad : Quad
  pub age : ℕ
  pub unused : Unused

-- no conversation, of a socket: zeros
abbrev pub no_bits : Wide
no_bits = record { high = 0; low = 0 }

abbrev pub no_quad : Bool → Quad
no_quad second = record { second = second; ipv6 = false; source = no_bits; destination = no_bits; ports = 0 }

-- "A freed place is as in a fresh record"
abbrev pub free : Place
free = record { state = 0; quad = no_quad false; age = 0; unused = nothing }

-- no conversation stands there
abbrev pub is_free : Place → Bool
is_free p = eqb p.state 0

-- 2/12, "Conversations hold either kind": the quadruple of an IPv4 conversation, and of an IPv6 one
abbrev pub ipv4_quad : Bool → ℕ → ℕ → ℕ → Quad
ipv4_quad second s d ports = record { second = second; ipv6 = false; source = low32 s; destination = low32 d; ports = ports }

abbrev pub ipv6_quad : Bool → Wide → Wide → ℕ → Quad
ipv6_quad second s d ports = record { second = second; ipv6 = true; source = s; destination = d; ports = ports }

-- its addresses, each with its kind
abbrev pub source_of : Quad → Address
source_of q = record { ipv6 = q.ipv6; bits = q.source }

abbrev pub destination_of : Quad → Address
destination_of q = record { ipv6 = q.ipv6; bits = q.destination }

-- "A conversation is source and destination address and port, as this direction shows them"; "an IPv4 address never equals an IPv6 one";
-- 6/12: "Conversations of different sockets are different"
unfoldable pub same_quad : Quad → Quad → Bool
same_quad a b =
    every
    (same_address (source_of a) (source_of b)
    ∷ same_address (destination_of a) (destination_of b)
    ∷ eqb a.ports b.ports
    ∷ beq a.second b.second
    ∷ [])

-- the place holds the conversation
unfoldable pub holds : Quad → Place → Bool
holds q p = not (is_free p) && same_quad q p.quad

-- the place holds a conversation of the socket
unfoldable pub of_socket : Bool → Place → Bool
of_socket second p = not (is_free p) && beq p.quad.second second

-- how many places a socket holds, and each of the two
abbrev pub held_by : Bool → List Place → ℕ
held_by second ps = count_of (of_socket second) ps

abbrev pub held_of : List Place → PerSocket
held_of ps = record { first = held_by false ps; second = held_by true ps }

-- the state of a held place, by its number
abbrev pub phase_of : ℕ → Phase
phase_of n = cond (eqb n 1) phase.Opening (cond (eqb n 2) phase.Running phase.Closing)

-- and its number
abbrev pub phase_word : Phase → ℕ
phase_word phase.Opening = 1
phase_word phase.Running = 2
phase_word phase.Closing = 3

-- the number of a kind
abbrev pub kind_number : Bool → ℕ
kind_number ipv6 = cond ipv6 1 0

-- "A passed frame sets its conversation's age to 0"
abbrev pub held_as : Quad → Phase → Place
held_as q f = record { state = phase_word f; quad = q; age = 0; unused = nothing }

-- ---- the words

-- where each word of a place stands
abbrev pub held_word : ℕ
held_word = 0

abbrev pub ports_word : ℕ
ports_word = 1

abbrev pub source_high_word : ℕ
source_high_word = 2

abbrev pub source_word : ℕ
source_word = 3

abbrev pub destination_high_word : ℕ
destination_high_word = 4

abbrev pub destination_word : ℕ
destination_word = 5

-- in the first, the state stands below the kind (0 IPv4, 1 IPv6), the socket and the age, and each of these counts so much
abbrev pub kind_bit : ℕ
kind_bit = 4

abbrev pub socket_bit : ℕ
socket_bit = 8

abbrev pub age_bit : ℕ
age_bit = 16

-- The words of a place, from the lowest bit up:
-- 0: state 2 bits, kind 1, socket 1, age 60; 1: expected number 32, ports 32; 2, 3: source address, high and low 64; 4, 5: destination address, high and low
abbrev pub place_of : List ℕ → Place
place_of w = record {
  state = get_or w held_word 0 % kind_bit;
  quad = record {
    second = eqb (get_or w held_word 0 / socket_bit % 2) 1;
    ipv6 = eqb (get_or w held_word 0 / kind_bit % 2) 1;
    source = record { high = get_or w source_high_word 0; low = get_or w source_word 0 };
    destination = record { high = get_or w destination_high_word 0; low = get_or w destination_word 0 };
    ports = get_or w ports_word 0 / 2 ^ 32;
  };
  age = get_or w held_word 0 / age_bit;
  unused = record { expected = get_or w ports_word 0 % 2 ^ 32 };
}

-- the places of one rule
abbrev pub places_of : List (List ℕ) → List Place
places_of ps = map place_of ps

-- and back: every six words are the words of the place that they say
abbrev pub place_words : Place → List ℕ
place_words p =
    (p.state + kind_bit * kind_number p.quad.ipv6 + socket_bit * socket_number p.quad.second + age_bit * p.age)
    ∷ (p.unused.expected + 2 ^ 32 * p.quad.ports)
    ∷ p.quad.source.high
    ∷ p.quad.source.low
    ∷ p.quad.destination.high
    ∷ p.quad.destination.low
    ∷ []

-- the places of one rule
abbrev pub places_words : List Place → List (List ℕ)
places_words ps = map place_words ps

-- the fields that share a word, each within its bits: such a place is read back from its words
pub record Fits (p : Place) : Type 0 where
  pub state : p.state < 4
  pub expected : p.unused.expected < 2 ^ 32

-- ---- the shape of the words, as the arrays that hold them have it

-- the words of a place
abbrev pub ShapedPlace : List ℕ → Type 0
ShapedPlace p = length p ≡ place_size

-- the words of the places of a rule
abbrev pub ShapedPlaces : List (List ℕ) → Type 0
ShapedPlaces ps = Sized most_places ShapedPlace ps
