use Rattle.std.proofs.Common.{◌≡◌, ◌∙◌, sym, length}
use Rattle.std.proofs.lemmas.Result.{IfOk-weaker}
use Rattle.desk_trial.proofs.books.ask_clerks.Goals as goal

pub returns-in-Ok : goal.returns-in-Ok
returns-in-Ok g c =
    let led = c.ask_desk-shelf.ensures in
    IfOk-weaker c.ask_desk-shelf.result.1 (λ heard. heard.turns ≡ length led.0) (λ heard. heard.turns ≡ c.ask_desk-shelf.result.0.entries)
    (λ heard turns. turns ∙ sym led.2) led.3
