-- Prefixes, one definition over the width: 32 bits of an IPv4 address, 128 of an IPv6 address. Document 01, 'Rules and vehicle states'; change request 2/12.
-- Assumes nothing.
use Rattle.std.specs.Prelude.{ℕ, ◌-◌, ◌/◌, ◌^◌, Bool, eqb}

-- "A prefix compares only its leading bits": the first n of w
unfoldable pub prefix_agrees : ℕ → ℕ → ℕ → ℕ → Bool
prefix_agrees w n a b = eqb (a / 2 ^ (w - n)) (b / 2 ^ (w - n))
