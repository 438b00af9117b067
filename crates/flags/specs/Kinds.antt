-- The kinds as one list, by the four flags. Document 02, 5/12: "one page showing what each of the sixteen settings of FIN, SYN, RST and ACK counts as.
-- Let the kind be read from that list."
-- Assumes nothing.
use Rattle.std.specs.Prelude.{ℕ, ◌+◌, ◌≡◌, Bool, cond, List, [], ◌∷◌, length, get_or, Option, Some, None}
use Rattle.flags.specs.Flags.{kind_of}
use Rattle.flags.specs.declared.FlagKind.{FlagKind}
use Rattle.flags.specs.declared.FlagKind.TheVariants as kind

-- which entry of the list, counted from 0, is a setting's: its flags read as a binary number, FIN first
abbrev pub entry_of : Bool → Bool → Bool → Bool → ℕ
entry_of fin syn rst ack = cond fin 8 0 + cond syn 4 0 + cond rst 2 0 + cond ack 1 0

-- what each of the sixteen counts as
abbrev pub kinds : List (Option FlagKind)
kinds =
    None  -- none of the four
    ∷ Some kind.Carry  -- ACK
    ∷ Some kind.Reset  -- RST
    ∷ Some kind.Reset  -- RST ACK
    ∷ Some kind.Open  -- SYN
    ∷ Some kind.Open  -- SYN ACK
    ∷ None  -- SYN RST
    ∷ None  -- SYN RST ACK
    ∷ None  -- FIN
    ∷ Some kind.End  -- FIN ACK
    ∷ None  -- FIN RST
    ∷ None  -- FIN RST ACK
    ∷ None  -- FIN SYN
    ∷ None  -- FIN SYN ACK
    ∷ None  -- FIN SYN RST
    ∷ None  -- FIN SYN RST ACK
    ∷ []

-- the list is 01's definition of the kinds: sixteen, and each setting's entry is what it counts as
pub record KindsListed : Type 0 where
  pub sixteen : length kinds ≡ 16
  pub read : (fin syn rst ack : Bool) → get_or kinds (entry_of fin syn rst ack) None ≡ kind_of fin syn rst ack
