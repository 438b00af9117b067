-- `matching::rules::someip_matches` meets its contract: by its marks, then by the cases of the layer.
use Rattle.matching.proofs.Agreeing.{someip_unset_lem, someip_lacks, someip_tells}
use Rattle.matching.proofs.rules.someip_matches.Goals as goal

pub returns-then-no_someip : goal.returns-then-no_someip
returns-then-no_someip c = someip_unset_lem _ _ _ c.no_someip.ensures c.if-no_someip.true

pub returns-in-None : goal.returns-in-None
returns-in-None c = someip_lacks _ _ _ c.no_someip.ensures c.if-no_someip.false c.in-None.is

pub returns-in-Some : goal.returns-in-Some
returns-in-Some c =
    someip_tells _ _ _ _ c.no_someip.ensures c.if-no_someip.false c.in-Some.is c.someip.ensures c.messages_agree.ensures
