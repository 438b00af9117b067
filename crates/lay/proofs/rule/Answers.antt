-- `lay::rule` meets its contract: the words are the very ones, and read back.
use mathlib.Core.Path.{ap}
use Rattle.addresses.specs.declared.Wide.{Wide}
use Rattle.lay.proofs.Laid.{rule_laid}
use Rattle.lay.proofs.rule.Goals as goal

pub returns : goal.returns
returns c =
    let a = c.address6-from.ensures in
    let b = c.address6-to.ensures in
    rule_laid _ (record {
      rule = c.rule_word.ensures;
      link = c.link_word.ensures;
      destination = c.value_or.ensures;
      source = c.value_or-2.ensures;
      ip = c.ip_word.ensures;
      address = c.address_word.ensures;
      source6 = record { high = ap (λ (x : Wide). x.high) a; low = ap (λ (x : Wide). x.low) a };
      destination6 = record { high = ap (λ (x : Wide). x.high) b; low = ap (λ (x : Wide). x.low) b };
      transport = c.transport_word.ensures;
      port = c.port_word.ensures;
      someip = c.someip_word.ensures;
      rate = c.rate_word.ensures;
      tracking = c.tracking_word.ensures;
    })
