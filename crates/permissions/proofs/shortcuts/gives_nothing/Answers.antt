use Rattle.std.proofs.Common.{sym, ◌∙◌}
use Rattle.permissions.proofs.ShortcutLemmas.{nothing_at}
use Rattle.permissions.proofs.shortcuts.gives_nothing.Goals as goal

pub returns-then-is_empty : goal.returns-then-is_empty
returns-then-is_empty c = λ nothing members u p.
    nothing_at members u p c.args.grants.now c.args.rank c.in-Some.grants.now c.as_slice.result.now c.in-Some.ensures.lookup.0 c.in-Some.ensures.lookup.1
    (c.is_empty.ensures.0 c.if-is_empty.true) c.as_slice.ensures.value (sym c.is_empty-then-is_empty.ensures ∙ nothing)
