use Rattle.paper.specs.Frames.{laid}
use Rattle.paper.proofs.Laws.{copied}
use Rattle.paper.proofs.frames.lay.Goals as goal

pub returns : goal.returns
unfolding laid
returns c = copied c.args.s.now c.copy_from_slice.ensures.after
