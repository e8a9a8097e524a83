use Rattle.std.proofs.Common.{◌≡◌, List, Bool, [], sym, ap, subst, ◌∙◌}
use Rattle.permissions.specs.declared.shortcuts.Shortcut.{Shortcut}
use Rattle.permissions.specs.declared.shortcuts.Shortcut.TheVariants.{OwnGrants}
use Rattle.permissions.specs.Graph.{edges}
use Rattle.permissions.specs.Rights.{IsShortcut, binds_user, is_marked, shortcut_at}
use Rattle.permissions.proofs.AskLemmas.{bound_here}
use Rattle.permissions.proofs.ShortcutLemmas.{marked_so}
use Rattle.permissions.proofs.ranked.Ranked.is_bound.Goals as goal

pub returns-in-OwnGrants : goal.returns-in-OwnGrants
returns-in-OwnGrants c =
    let r = c.args.self.now in
    let is : shortcut_at r.shortcuts.of_ranks.items c.args.rank ≡ OwnGrants =
    sym (c.shortcut_at.ensures ∙ ap (λ (ss : List Shortcut). shortcut_at ss c.args.rank) c.as_slice.ensures.value) ∙ c.in-OwnGrants.is in
    let nowhere : edges r.rows.items c.args.rank ≡ [] =
    subst (IsShortcut r.rows.items r.grants.items r.shortcuts.marked.items c.args.rank) is (c.requires.shortcuts.each c.args.rank c.requires.come.0) in
    bound_here r.rows.items (binds_user r c.args.ask.user c.args.ask.permission) c.args.rank c.gives_at.result nowhere c.gives_at.ensures

pub returns-in-Mark : goal.returns-in-Mark
returns-in-Mark c =
    let r = c.args.self.now in
    marked_so r c.args.ask.user c.args.ask.permission c.args.pass.now c.args.rank c.in-Mark.place c.mark_at.result c.requires.shortcuts c.requires.pass c.requires.come
    (sym (c.shortcut_at.ensures ∙ ap (λ (ss : List Shortcut). shortcut_at ss c.args.rank) c.as_slice.ensures.value) ∙ c.in-Mark.is)
    (c.mark_at.ensures ∙ ap (λ (ms : List Bool). is_marked ms c.in-Mark.place) c.as_slice-in-Mark.ensures.value)
