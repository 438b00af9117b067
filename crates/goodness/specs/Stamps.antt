-- Stamps of the places of one rule, by which most conversations are told apart at once: equal conversations have equal stamps.
-- Assumes nothing.
use Rattle.std.specs.Prelude.{ℕ, ◌*◌, ◌/◌, ◌%◌, ◌^◌, ◌<◌, ◌≡◌, Bool, cond, not, List, length, get_or, eqb}
use Rattle.std.specs.Int.Bits.{bit_xor}
use Rattle.numbers.specs.Lists.{all_below}
use Rattle.places.specs.Places.{Place, free, is_free}
use Rattle.table.specs.Table.{most_places}
use Rattle.places.specs.declared.Quad.{Quad}

-- the stamp of a conversation: of all its bits but kind and socket, in 64; a quadruple on both sockets has one stamp, and is compared in full
unfoldable pub stamp_of : Quad → ℕ
stamp_of q =
    bit_xor
    (bit_xor (bit_xor (q.source.low % 2 ^ 32 * 2 ^ 32) (q.destination.low % 2 ^ 48 * 2 ^ 16))
    (bit_xor (bit_xor (bit_xor q.source.high (q.source.low / 2 ^ 32)) q.destination.high) (q.destination.low / 2 ^ 48)))
    q.ports

-- the stamp of the place at j: a free one has its number
abbrev pub place_stamp : ℕ → Place → ℕ
place_stamp j p = cond (is_free p) j (stamp_of p.quad)

-- the stamps of the places
pub record Stamped (ps : List Place) (m : List ℕ) : Type 0 where
  pub count : length m ≡ most_places
  pub at : (j : ℕ) → j < most_places → get_or m j 0 ≡ place_stamp j (get_or ps j free)

-- no earlier stamp is that at j
abbrev pub new_at : List ℕ → ℕ → Bool
new_at m j = all_below (λ i. not (eqb (get_or m i 0) (get_or m j 0))) j

-- no two stamps are alike
abbrev pub distinct : List ℕ → Bool
distinct m = all_below (new_at m) most_places
