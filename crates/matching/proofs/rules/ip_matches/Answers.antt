-- By the cases of IP: settings of the other kind, then those of this one.
use Rattle.matching.proofs.Agreeing.{ip_absent, other6, other4, own4, own6}
use Rattle.std.proofs.Common.{ap, not}
use Rattle.table.specs.Words.{ipv4_in, ipv6_in}
use Rattle.matching.proofs.rules.ip_matches.Goals as goal

pub returns-then-not-no_ipv6 : goal.returns-then-not-no_ipv6
returns-then-not-no_ipv6 c =
    let a = c.args in
    let w = a.r.now in
    other6 (ipv4_in w) (ipv6_in w) a.x _ c.in-V4.is c.no_ipv6-in-V4.ensures (ap not c.if-not-no_ipv6.true)

pub returns-then-not-no_ipv4 : goal.returns-then-not-no_ipv4
returns-then-not-no_ipv4 c =
    let a = c.args in
    let w = a.r.now in
    other4 (ipv4_in w) (ipv6_in w) a.x _ c.in-V6.is c.no_ipv4-in-V6.ensures (ap not c.if-not-no_ipv4.true)

pub returns-in-Absent : goal.returns-in-Absent
returns-in-Absent c =
    let a = c.args in
    let w = a.r.now in
    ip_absent (ipv4_in w) (ipv6_in w) a.x c.in-Absent.is c.no_ipv4.ensures c.no_ipv6.ensures

pub returns-else-not-no_ipv6 : goal.returns-else-not-no_ipv6
returns-else-not-no_ipv6 c =
    let a = c.args in
    let w = a.r.now in
    own4 (ipv4_in w) (ipv6_in w) a.x _ c.in-V4.is c.no_ipv6-in-V4.ensures (ap not c.if-not-no_ipv6.false) c.ipv4.ensures
    c.ipv4_agrees.ensures

pub returns-else-not-no_ipv4 : goal.returns-else-not-no_ipv4
returns-else-not-no_ipv4 c =
    let a = c.args in
    let w = a.r.now in
    own6 (ipv4_in w) (ipv6_in w) a.x _ c.in-V6.is c.no_ipv4-in-V6.ensures (ap not c.if-not-no_ipv4.false) c.ipv6.ensures
    c.ipv6_agrees.ensures
