use Rattle.std.proofs.Common.{◌≡◌, ◌++◌, ◌∷◌, [], ℕ, length, ap, sym, subst, arith, ◌∙◌}
use Rattle.permissions.specs.declared.shortcuts.Shortcut.TheVariants.{Mark}
use Rattle.permissions.specs.declared.shortcuts.Shortcuts.{Shortcuts}
use Rattle.permissions.proofs.ShortcutLemmas.{known_more, marked_more, one_longer}
use Rattle.permissions.proofs.shortcuts.all_shortcuts.Goals as goal
use Rattle.permissions.proofs.shortcuts.all_shortcuts.Goals.{in-Some+in_ok-push-in-Some, in-None+in_ok-push-in-None+in_ok-push-in-None-2}

pub loop-rank-preserved : goal.loop-rank-preserved
loop-rank-preserved c =
    let rows = c.args.rows.now in
    let grants = c.args.grants.now in
    let before = c.loop-rank.shortcuts in
    let after = c.match-next_shortcut.shortcuts in
    let count = c.loop-rank.invariant.count in
    elim c.match-next_shortcut.branch [
      | in-Some+in_ok-push-in-Some w ↦
          let known = w.in-Some.known in
          let ranks : after.of_ranks.items ≡ before.of_ranks.items ++ known ∷ [] = ap (λ (s : Shortcuts). s.of_ranks.items) w.shortcuts-is ∙ w.in_ok-push-in-Some.ensures.items in
          let marked = ap (λ (s : Shortcuts). s.marked.items) w.shortcuts-is in
          record {
            are = known_more rows grants before after known c.loop-rank.invariant.are w.in-Some.ensures ranks marked;
            count = omega (arith, one_longer rows grants before after known ranks, count);
          }
      | in-None+in_ok-push-in-None+in_ok-push-in-None-2 w ↦
          let own = Mark (length before.marked.items) in
          let place : w.len-place.result ≡ length before.marked.items = omega (arith, w.len-place.ensures, before.marked.ok.0) in
          let ranks : after.of_ranks.items ≡ before.of_ranks.items ++ own ∷ [] =
          subst (λ (n : ℕ). after.of_ranks.items ≡ before.of_ranks.items ++ Mark n ∷ []) place
          (ap (λ (s : Shortcuts). s.of_ranks.items) w.shortcuts-is ∙ w.in_ok-push-in-None.ensures.items) in
          let marked = ap (λ (s : Shortcuts). s.marked.items) w.shortcuts-is ∙ w.in_ok-push-in-None-2.ensures.items in
          record {
            are = marked_more rows grants before after c.loop-rank.rank c.loop-rank.invariant.are (sym count) ranks marked;
            count = omega (arith, one_longer rows grants before after own ranks, count);
          }
    ]
