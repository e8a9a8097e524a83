use Rattle.std.proofs.Common.{get_or}
use Rattle.policy_checks.specs.declared.permission.Permission.TheVariants.{CreateInvocation}
use Rattle.request_demands.specs.declared.grants.Grant.TheVariants.{One}
use Rattle.request_rules.specs.Broken.{Lacks}
use Rattle.request_rules.proofs.Firsts.{read_same}
use Rattle.request_rules.proofs.RightLaws.{here_on}
use Rattle.request_rules.proofs.rights.Asker.lacks_here.Goals as goal

pub loop-grant-preserved : goal.loop-grant-preserved
loop-grant-preserved c = λ found rest.
    let takes = c.args.takes.now in
    let i = c.loop-grant.grant-index in
    let grant = get_or takes i (One CreateInvocation) in
    let lt = c.loop-grant-test.true in
    c.loop-grant.invariant found
    (here_on (Lacks c.args.self.now.policy.now c.args.self.now.caller) c.args.realm.now takes i grant lt
    (read_same takes i grant (One CreateInvocation) lt) c.in_default.ensures found rest)
