use Rattle.std.proofs.Common.{sym, ◌∙◌}
use Rattle.serde_json.specs.View.{view}
use Rattle.field_kinds.specs.Numbers.{said}
use Rattle.field_kinds.proofs.NumberLaws.{answer-Err}
use Rattle.field_kinds.proofs.numbers.read_whole.Goals as goal

pub returns-in-Err-clause-err : goal.returns-in-Err-clause-err
returns-in-Err-clause-err c =
    rw (answer-Err c.args.most (said (view c.args.value.now)) c.in-Err.kind (sym c.of_value.ensures ∙ c.in-Err.is)) c.here.ensures.says
