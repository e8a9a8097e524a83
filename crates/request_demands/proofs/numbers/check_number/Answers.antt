use Rattle.std.proofs.Common.{sym, subst}
use Rattle.std.specs.Result.{IfOk}
use Rattle.request_demands.specs.Demands.{Demand}
use Rattle.request_demands.specs.Numbered.{IsNumbered}
use Rattle.request_demands.specs.Understood.{IsDigested}
use Rattle.request_demands.proofs.numbers.check_number.Goals as goal

pub returns : goal.returns
returns c = λ asked is.
    subst (λ (d : Demand). IfOk c.check_digest.result (IsNumbered c.args.kept.now.kept c.args.name.now asked d)) c.demand_of.ensures
    (c.check_digest.ensures asked
    (subst (λ (d : Demand). IsDigested asked d c.args.call.now.digest) (sym c.demand_of.ensures) is))
