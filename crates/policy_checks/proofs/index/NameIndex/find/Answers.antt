use Rattle.std.proofs.Common.{sym, ap, ◌∙◌}
use Rattle.policy_checks.specs.Index.{found}
use Rattle.policy_checks.proofs.IndexLemmas.{found_pairs}
use Rattle.policy_checks.proofs.index.NameIndex.find.Goals as goal

pub returns : goal.returns
returns c =
    c.copied.ensures ∙ c.get.ensures.value ∙ sym (found_pairs c.args.name.now c.self.inside.places.entries) ∙ ap (found c.args.name.now) c.self.view_is
