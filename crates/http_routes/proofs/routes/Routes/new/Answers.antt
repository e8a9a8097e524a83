use Rattle.matchit.proofs.OnLiterals.{matchit_on_literals}
use Rattle.http_routes.specs.Rows.{call_route}
use Rattle.http_routes.proofs.InsertLaws.{only_memory}
use Rattle.http_routes.proofs.routes.Routes.new.Goals as goal

pub invariant_of-result : goal.invariant_of-result
unfolding matchit_on_literals
invariant_of-result c =
    let a = rw c.new-router.ensures at c.in-Ok.ensures in
    a.1

pub want_of_memory-requires : goal.want_of_memory-requires
unfolding matchit_on_literals
want_of_memory-requires c =
    let a = rw c.new-router.ensures at c.in-Err.ensures in
    only_memory call_route.pattern c.in-Err.fault a.1
