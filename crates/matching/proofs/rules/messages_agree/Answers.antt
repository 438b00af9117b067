-- `matching::rules::messages_agree` meets its contract: the messages still to be read tell what all of them do.
use mathlib.Core.Path.{refl, sym, ◌∙◌}
use Rattle.payloads.specs.Someip.{message_at}
use Rattle.payloads.proofs.Cutting.{walked}
use Rattle.matching.proofs.Agreeing.{bundle_agrees, agree_on, agree_ends, agree_nothing}
use native.Mathlib.Omega.{arith}
use Rattle.std.proofs.Common.{ap, not}
use Rattle.matching.proofs.rules.messages_agree.Goals as goal

pub message_at-m-requires : goal.message_at-m-requires
message_at-m-requires c = (walked _ _ _ (message_at _ _) c.loop-len.invariant.1 (omega arith) refl).header

pub returns-then-not-message_agrees : goal.returns-then-not-message_agrees
returns-then-not-message_agrees c =
    sym (c.loop-len.invariant.0 ∙ agree_ends c.args.r _ _ _ _ (walked _ _ _ _ c.loop-len.invariant.1 (omega arith) c.message_at-m.ensures) c.message_agrees.ensures (ap not c.if-not-message_agrees.true))
    ∙ bundle_agrees _ _ _ _ c.requires.cut c.requires.some

pub overflow_add-at : goal.overflow_add-at
overflow_add-at c = let w = walked _ _ _ _ c.loop-len.invariant.1 (omega arith) c.message_at-m.ensures in omega (arith, w.fits, w.rest.bytes)

pub overflow_sub-len : goal.overflow_sub-len
overflow_sub-len c = omega (arith, (walked _ _ _ _ c.loop-len.invariant.1 (omega arith) c.message_at-m.ensures).fits)

pub loop-len-smaller : goal.loop-len-smaller
loop-len-smaller c = let w = walked _ _ _ _ c.loop-len.invariant.1 (omega arith) c.message_at-m.ensures in omega (arith, w.fits, w.some)

pub loop-len-preserved : goal.loop-len-preserved
loop-len-preserved c =
    (c.loop-len.invariant.0 ∙ agree_on c.args.r _ _ _ _ (walked _ _ _ _ c.loop-len.invariant.1 (omega arith) c.message_at-m.ensures) c.message_agrees.ensures (ap not c.if-not-message_agrees.false), (walked _ _ _ _ c.loop-len.invariant.1 (omega arith) c.message_at-m.ensures).rest)

pub returns : goal.returns
returns c =
    sym (c.loop-len.invariant.0 ∙ agree_nothing c.args.r _ _ _ (omega arith)) ∙ bundle_agrees _ _ _ _ c.requires.cut c.requires.some
