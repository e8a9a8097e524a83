use Rattle.std.proofs.Common.{arith}
use Rattle.http_routes.proofs.ParamLaws.{reads, never_missed, service_is, method_is, service_there, method_there}
use Rattle.http_routes.proofs.routes.Routes.call_of.Goals as goal

pub returns-in_default : goal.returns-in_default
returns-in_default c service method = never_missed _ c.args.target.now service method c.self.invariant c.in_default.ensures.missing (λ i. omega (arith, c.type_inv.target i))

pub returns-in_err-service : goal.returns-in_err-service
returns-in_err-service c =
    let it = reads _ _ c.args.target.now _ c.self.invariant c.in-Ok.ensures.found c.in-Ok.ensures.path (λ i. omega (arith, c.type_inv.target i)) c.utf8.target in
    absurd (service_there _ it.s it.m it.walked (c.in_err-service.ensures it.all))

pub returns-in_err-method : goal.returns-in_err-method
returns-in_err-method c =
    let it = reads _ _ c.args.target.now _ c.self.invariant c.in-Ok.ensures.found c.in-Ok.ensures.path (λ i. omega (arith, c.type_inv.target i)) c.utf8.target in
    absurd (method_there _ it.s it.m it.walked (c.in_err-method.ensures it.all))

pub returns : goal.returns
returns c =
    let it = reads _ _ c.args.target.now _ c.self.invariant c.in-Ok.ensures.found c.in-Ok.ensures.path (λ i. omega (arith, c.type_inv.target i)) c.utf8.target in
    let a = service_is _ it.s it.m c.in_ok-service.service.now it.walked (c.in_ok-service.ensures it.all) in
    let b = method_is _ it.s it.m c.in_ok-method.method.now it.walked (c.in_ok-method.ensures it.all) in
    rw (a, b) it.call
