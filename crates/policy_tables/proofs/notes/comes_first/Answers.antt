use Rattle.std.proofs.Common.{ap, ◌∙◌}
use Rattle.std.proofs.lemmas.List.{take_rest}
use Rattle.std.specs.Ordering.{is_lt}
use Rattle.policy_tables.proofs.PathLemmas.{order_behind}
use Rattle.policy_tables.proofs.notes.comes_first.Goals as goal

pub returns : goal.returns
returns c =
    let path = c.args.path.now in
    let other = c.args.other.now in
    let behind = order_behind c.args.shared path other c.requires.left c.requires.right c.requires.same in
    c.is_less.ensures ∙ ap is_lt (rw (take_rest path c.args.shared, take_rest other c.args.shared) behind)
