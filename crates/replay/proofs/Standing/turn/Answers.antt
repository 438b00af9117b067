-- `replay::Standing::turn`: what holds after a call.
use Rattle.std.proofs.Common.{rules}
use Rattle.replay.proofs.OnPosition.{called_sound, called_places, called_records}
use Rattle.replay.proofs.Standing.turn.Goals as goal

pub returns-else-self-clause-sound : goal.returns-else-self-clause-sound
returns-else-self-clause-sound g c = called_sound _ _ c.requires.sound (search rules) _ c.judge_on.ensures

pub returns-else-self-clause-places : goal.returns-else-self-clause-places
returns-else-self-clause-places g c = called_places _ _ c.requires.sound (search rules) _ c.judge_on.ensures

pub returns-else-self-clause-records : goal.returns-else-self-clause-records
returns-else-self-clause-records g c = called_records _ _ c.requires.sound (search rules) _ c.judge_on.ensures c.requires.ready
