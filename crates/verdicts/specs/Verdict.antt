-- The verdicts of the code, by the paper's numbers. Document 01, 'One frame, in this order', steps 4 and 5.
-- Assumes nothing.
use Rattle.std.specs.Prelude.{ℕ}
use Rattle.verdicts.specs.declared.verdict.Verdict.{Verdict}
use Rattle.verdicts.specs.declared.verdict.Verdict.TheVariants as verdict
use Rattle.verdicts.specs.Rule.{
  allowed,
  allowed_by_default,
  blocked_by_rule,
  over_rate,
  no_place_free,
  blocked_by_default,
  wrong_flags,
  no_conversation,
  not_in_state,
}

-- "Block action: verdict 2. Else a level above 1,000 x size: verdict 3. Else tracking. Verdict 0 if all hold"; "No match: verdict 1 or 6 by the default";
-- "verdict 5 if no place is free"; "Verdict 4 becomes 40, 41 and 42"
abbrev pub verdict_number : Verdict → ℕ
verdict_number verdict.Allowed = allowed
verdict_number verdict.AllowedByDefault = allowed_by_default
verdict_number verdict.BlockedByRule = blocked_by_rule
verdict_number verdict.OverRate = over_rate
verdict_number verdict.NoPlaceFree = no_place_free
verdict_number verdict.BlockedByDefault = blocked_by_default
verdict_number verdict.WrongFlags = wrong_flags
verdict_number verdict.NoConversation = no_conversation
verdict_number verdict.NotInState = not_in_state
