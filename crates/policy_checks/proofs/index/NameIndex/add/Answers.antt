use Rattle.std.proofs.Common.{sym, ◌∙◌}
use Rattle.policy_checks.proofs.IndexLemmas.{place_of-again}
use Rattle.policy_checks.proofs.index.NameIndex.add.Goals as goal

pub returns-in-Some : goal.returns-in-Some
returns-in-Some c = λ names is at q.
    is q ∙ place_of-again c.args.name.now q names c.in-Some.field-0 (sym (is c.args.name.now) ∙ sym c.in-Some.ensures)
