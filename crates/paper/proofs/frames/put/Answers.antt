-- `paper::frames::put` lays each frame as the paper says it: the laws compute what the stores make.
use mathlib.Core.Path.{ap}
use Rattle.std.proofs.Math.Logic.{⊎_elim}
use Rattle.paper.proofs.Laws.{put_right}
use Rattle.std.proofs.Common.{set}
use Rattle.paper.proofs.frames.put.Goals as goal

pub returns-in-A : goal.returns-in-A
returns-in-A c = let r = c.a.ensures in ⊎_elim (λ e. put_right e r) (⊎_elim (λ e. put_right e r) (⊎_elim (λ e. put_right e r) (λ e. put_right e r))) c.in-A.is

pub returns-in-Type81 : goal.returns-in-Type81
returns-in-Type81 c = put_right c.in-Type81.is (ap (λ l. set l 56 0x81) c.a-in-Type81.ensures)

pub returns-in-Cut : goal.returns-in-Cut
returns-in-Cut c = put_right c.in-Cut.is (ap (λ l. set l 71 0) c.a-in-Cut.ensures)

pub returns-in-Ether0806 : goal.returns-in-Ether0806
returns-in-Ether0806 c = put_right c.in-Ether0806.is c.ether_0806.ensures

pub returns-in-Ack1 : goal.returns-in-Ack1
returns-in-Ack1 c = put_right c.in-Ack1.is c.from_443.ensures

pub returns-in-SynAck1 : goal.returns-in-SynAck1
returns-in-SynAck1 c = put_right c.in-SynAck1.is c.from_443-in-SynAck1.ensures

pub returns-in-Syn1 : goal.returns-in-Syn1
returns-in-Syn1 c = put_right c.in-Syn1.is c.from_443-in-Syn1.ensures

pub returns-in-Syn2 : goal.returns-in-Syn2
returns-in-Syn2 c = put_right c.in-Syn2.is c.from_443-in-Syn2.ensures

pub returns-in-Syn3 : goal.returns-in-Syn3
returns-in-Syn3 c = put_right c.in-Syn3.is c.from_443-in-Syn3.ensures

pub returns-in-Port68 : goal.returns-in-Port68
returns-in-Port68 c = put_right c.in-Port68.is c.to_port.ensures

pub returns-in-Port1024 : goal.returns-in-Port1024
returns-in-Port1024 c = put_right c.in-Port1024.is c.to_port-in-Port1024.ensures

pub returns-in-First13 : goal.returns-in-First13
returns-in-First13 c = put_right c.in-First13.is c.first_13.ensures

pub returns-in-Tagged17 : goal.returns-in-Tagged17
returns-in-Tagged17 c = put_right c.in-Tagged17.is c.tagged_17.ensures
