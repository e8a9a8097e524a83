use Rattle.std.proofs.Common.{◌≡◌, sym, length}
use Rattle.std.proofs.lemmas.Result.{IfOk-weaker}
use Rattle.desk_trial.specs.Seats.{IsAllOf}
use Rattle.desk_trial.proofs.clerks.ask_desk.Goals as goal

pub close-requires : goal.close-requires
close-requires g c = c.ask_at-heard.ensures.own

pub returns : goal.returns
returns g c =
    let whole = c.close.ensures in (
      whole.0,
      whole.1,
      whole.2,
      IfOk-weaker c.ask_at-heard.result (λ heard. IsAllOf heard.turns c.ask_at-heard.new.first.knows)
          (λ heard. heard.turns ≡ length whole.0) (λ heard all. sym (all whole.0 whole.3)) c.ask_at-heard.ensures.stand,
    )
