-- `cases::print::messages` reads inside its bytes and ends.
use Rattle.std.proofs.Common.{refl, arith}
use Rattle.payloads.specs.Someip.{message_at}
use Rattle.payloads.proofs.Cutting.{walked}
use Rattle.cases.proofs.print.messages.Goals as goal

-- the message that was read is the first of those still to be printed
pub message_at-m-requires : goal.message_at-m-requires
message_at-m-requires g c = (walked _ _ _ (message_at _ _) c.loop-len.invariant (omega arith) refl).header

pub overflow_add-at : goal.overflow_add-at
overflow_add-at g c =
    let w = walked _ _ _ _ c.loop-len.invariant (omega arith) c.message_at-m.ensures in
    omega (arith, w.fits, w.rest.bytes)

pub overflow_sub-len : goal.overflow_sub-len
overflow_sub-len g c = (walked _ _ _ _ c.loop-len.invariant (omega arith) c.message_at-m.ensures).fits

pub loop-len-smaller : goal.loop-len-smaller
loop-len-smaller g c =
    let w = walked _ _ _ _ c.loop-len.invariant (omega arith) c.message_at-m.ensures in
    omega (arith, w.fits, w.some)

pub loop-len-preserved : goal.loop-len-preserved
loop-len-preserved g c = (walked _ _ _ _ c.loop-len.invariant (omega arith) c.message_at-m.ensures).rest
