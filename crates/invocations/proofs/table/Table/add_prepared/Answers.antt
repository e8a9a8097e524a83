use Rattle.std.proofs.Common.{◌<◌, ℕ, ap, sym, ◌∙◌, subst, arith, length, List, [], ◌∷◌, ◌++◌}
use Rattle.invocations.specs.declared.invocation.Invocation.{Invocation}
use Rattle.std.proofs.lemmas.List.{length-map}
use Rattle.invocations.specs.Hashes.{hash_of}
use Rattle.invocations.specs.Rows.{TableState, HasId, ids_of}
use Rattle.invocations.specs.Orders.{IsIndexed, IsDueIndex, deadline_in, deadlines_of}
use Rattle.invocations.proofs.IndexedRows.{indexed_push}
use Rattle.invocations.proofs.table.Table.add_prepared.Goals as goal

pub push-requires : goal.push-requires
push-requires c =
    let rows = c.self.inside.rows.items in
    let room = subst (λ (t : TableState). 0 < t.spare) (sym c.self.view_is) c.requires.room in
    let count = ap (λ (hs : List ℕ). length hs) c.self.invariant.ids in
    record {
      room = omega (arith, room);
      few = omega (arith, count, c.self.invariant.table.few, length-map (ids_of rows) hash_of, length-map rows (λ (row : Invocation). row.id));
    }

pub invariant_of-self : goal.invariant_of-self
invariant_of-self c =
    let rows = c.self.inside.rows.items in
    let room = subst (λ (t : TableState). 0 < t.spare) (sym c.self.view_is) c.requires.room in
    let few : length rows < 65_536 = omega (arith, c.self.inside.rows.ok.0) in
    let free = subst (λ (t : TableState). ¬ HasId t.rows c.args.row.id) (sym c.self.view_is) c.requires.untaken in
    let ids = c.push.ensures.hashes ∙ ap (λ h. c.self.inside.by_id.hashes ++ h ∷ []) c.hash_of.ensures in
    subst (λ (rs : List Invocation). IsIndexed rs c.push.new.self c.add_row.new.self.entries.items) (sym c.push_reserved.ensures.items)
    (indexed_push rows c.args.row c.self.inside.by_id c.push.new.self c.self.inside.by_deadline.entries.items
    c.add_row.new.self.entries.items c.self.invariant free few ids
    (subst (λ (rs : List Invocation). IsDueIndex (deadlines_of rs ++ deadline_in c.args.row.state c.args.row.deadline ∷ []) c.add_row.new.self.entries.items) c.as_slice.ensures.value c.add_row.ensures.index))
