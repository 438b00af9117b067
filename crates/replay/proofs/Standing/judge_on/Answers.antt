-- `replay::Standing::judge_on` uses no more than the bytes at hand.
use Rattle.std.proofs.Common.{arith, rules, ◌≡◌, length}
use Rattle.replay.proofs.OnPosition.{fed_used}
use Rattle.replay.proofs.Standing.judge_on.Goals as goal

pub overflow_add-p : goal.overflow_add-p
overflow_add-p c =
    let room : length c.args.self.now.out ≡ 65536 = search rules in
    let used = fed_used _ c.args.self.now c.requires.sound (search rules) _ _ _ (rw room at c.feed-f.ensures) in
    omega (arith, used, c.requires.sound.inside, c.requires.sound.order)
