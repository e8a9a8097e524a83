use Rattle.std.proofs.Common.{List, ℕ, true, false, length, sym, ap, ◌∙◌}
use Rattle.std.specs.Prelude.{◌==◌}
use Rattle.names_realms.proofs.ParentLemmas.{no_parent}
use Rattle.names_realms.proofs.parents.Parent.parse.Goals as goal

pub returns-in-Err-clause-refused : goal.returns-in-Err-clause-refused
returns-in-Err-clause-refused c real =
    no_parent true c.args.text.now c.in-Err.fault (ap (λ (t : List ℕ). length t == 0) (sym c.behind_id.ensures) ∙ sym c.is_empty.ensures ∙ c.if-is_empty.true) (c.in-Err.ensures.fault real)

pub returns-in-Err-read_name_parts-clause-refused : goal.returns-in-Err-read_name_parts-clause-refused
returns-in-Err-read_name_parts-clause-refused c real =
    no_parent false c.args.text.now c.in-Err-read_name_parts.fault (ap (λ (t : List ℕ). length t == 0) (sym c.behind_id.ensures) ∙ sym c.is_empty.ensures ∙ c.if-is_empty.false) (c.in-Err-read_name_parts.ensures.fault real)
