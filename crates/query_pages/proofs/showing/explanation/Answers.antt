use Rattle.std.proofs.Common.{refl, sym, ◌∙◌, subst}
use Rattle.std.proofs.lemmas.Bool.{true≢false}
use Rattle.policy_checks.specs.declared.permission.Permission.{Permission}
use Rattle.permissions.specs.Allows.{Allows}
use Rattle.verdict_lists.specs.World.{world_of}
use Rattle.query_pages.proofs.RowLemmas.{got_from, never_explained}
use Rattle.query_pages.proofs.showing.explanation.Goals as goal

pub returns-then-in_realm : goal.returns-then-in_realm
returns-then-in_realm c =
    let world = world_of c.args.view.now in
    let row = c.in-Some.row.now in
    let holder = c.in-Some-get.holder.now in
    let granted = c.args.granted.now in (
      (
        row,
        got_from world.exonerations c.rows.result.now c.args.place row c.rows.ensures.rows c.in-Some.ensures.lookup.0 c.in-Some.ensures.lookup.1,
        holder,
        got_from world.invocations c.rows-2.result.now row.holder holder c.rows-2.ensures.rows c.in-Some-get.ensures.lookup.0 c.in-Some-get.ensures.lookup.1,
        subst (λ (p : Permission). Allows granted.policy granted.caller p holder.realm) c.requires (c.in_realm.ensures.0 c.if-in_realm.true),
      ),
      refl,
    )

pub returns-else-in_realm : goal.returns-else-in_realm
returns-else-in_realm c =
    let world = world_of c.args.view.now in
    let row = c.in-Some.row.now in
    let holder = c.in-Some-get.holder.now in
    let granted = c.args.granted.now in
    never_explained world granted.policy granted.caller c.args.place row holder
    (got_from world.exonerations c.rows.result.now c.args.place row c.rows.ensures.rows c.in-Some.ensures.lookup.0 c.in-Some.ensures.lookup.1)
    (got_from world.invocations c.rows-2.result.now row.holder holder c.rows-2.ensures.rows c.in-Some-get.ensures.lookup.0 c.in-Some-get.ensures.lookup.1)
    (λ allowed. true≢false (sym (c.in_realm.ensures.1 (subst (λ (p : Permission). Allows granted.policy granted.caller p holder.realm) (sym c.requires) allowed)) ∙ c.if-in_realm.false))
