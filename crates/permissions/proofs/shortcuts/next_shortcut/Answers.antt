use Rattle.std.proofs.Common.{◌≡◌, ℕ, List, get_or, length, sym, ap, subst, arith, ◌∙◌}
use Rattle.permissions.specs.declared.shortcuts.Shortcut.{Shortcut}
use Rattle.permissions.specs.declared.shortcuts.Shortcut.TheVariants.{Mark}
use Rattle.permissions.specs.Rights.{IsShortcut, shortcut_at}
use Rattle.permissions.proofs.ShortcutLemmas.{only_one, same_shortcut}
use Rattle.permissions.proofs.shortcuts.next_shortcut.Goals as goal

pub returns-in-Mark : goal.returns-in-Mark
returns-in-Mark c =
    let targets = c.edges_of-targets.result.now in
    let target = get_or targets 0 0 in
    let shortcuts = c.args.shortcuts.now in
    let next : c.len-rank.result ≡ length shortcuts.of_ranks.items = omega (arith, c.len-rank.ensures, shortcuts.of_ranks.ok.0) in
    subst (λ (rank : ℕ). IsShortcut c.args.rows.now c.args.grants.now shortcuts.marked.items rank (Mark c.in-Mark.place)) next
    (same_shortcut c.args.rows.now c.args.grants.now shortcuts c.len-rank.result target c.in-Mark.place c.requires.falling c.requires.shortcuts next
    (sym c.edges_of-targets.ensures ∙ only_one targets c.if-targets-eq1.true)
    (sym (c.shortcut_at.ensures ∙ ap (λ (ss : List Shortcut). shortcut_at ss target) c.as_slice.ensures.value) ∙ c.in-Mark.is)
    (c.gives_nothing.ensures c.if-gives_nothing.true))
