use Rattle.std.proofs.Common.{sym, ap, ◌∙◌}
use Rattle.artifacts.specs.Requests.{DigestedState}
use Rattle.request_effects.proofs.SafeLaws.{some_digested}
use Rattle.request_effects.proofs.planning.plan_files.Goals as goal

pub plan_artifacts-requires : goal.plan_artifacts-requires
plan_artifacts-requires c none =
    some_digested c.args.news.items c.requires (sym (ap (λ (d : DigestedState). d.rows) c.in_ok-rows.ensures) ∙ none)
