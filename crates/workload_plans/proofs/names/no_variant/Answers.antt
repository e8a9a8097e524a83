use Rattle.std.proofs.Common.{length, ap, ◌∙◌}
use Rattle.std.proofs.lemmas.List.{nil_from_length}
use Rattle.std.proofs.lemmas.List.Sorted.{length_permutation}
use Rattle.workload_plans.proofs.names.no_variant.Goals as goal

pub returns-in-Ok : goal.returns-in-Ok
returns-in-Ok c = nil_from_length c.in-Ok.variant (length_permutation _ c.in-Ok.variant c.in-Ok.ensures.ok.0 ∙ ap length c.new.ensures.items)
