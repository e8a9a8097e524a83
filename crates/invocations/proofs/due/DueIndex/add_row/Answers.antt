use Rattle.std.proofs.Common.{◌≡◌, ◌+◌, ℤ, List, Option, None, [], ◌∷◌, ◌++◌, length, refl, sym, ap, subst, arith, rules, tests}
use Rattle.std.proofs.lemmas.List.{length-map}
use Rattle.names_realms.specs.declared.states.State.{State}
use Rattle.names_realms.specs.declared.states.State.TheVariants.{Active, Finalizing, Finalized}
use Rattle.invocations.specs.declared.invocation.Invocation.{Invocation}
use Rattle.invocations.specs.Orders.{IsDueIndex, deadline_in, deadlines_of}
use Rattle.invocations.proofs.OrderedRows.{absent_next, due_added, due_without}
use Rattle.invocations.proofs.due.DueIndex.add_row.Goals as goal

length_deadlines : (rows : List Invocation) → length rows ≡ length (deadlines_of rows)
length_deadlines rows = sym (length-map rows (λ (row : Invocation). deadline_in row.state row.deadline))

inactive : (s : State) (d : ℤ) → (s ≡ Active → ⊥) → deadline_in s d ≡ None
inactive Active d other = absurd (other refl)
inactive Finalizing d other = refl
inactive Finalized d other = refl

pub add-requires-clause-absent : goal.add-requires-clause-absent
add-requires-clause-absent c =
    absent_next (deadlines_of c.args.rows.now) c.args.self.now.entries.items
    (record { deadline = c.args.row.now.deadline; place = length c.args.rows.now }) c.requires.index (length_deadlines c.args.rows.now)

pub returns-then-eq-clause-index : goal.returns-then-eq-clause-index
returns-then-eq-clause-index c =
    let rows = c.args.rows.now in
    let row = c.args.row.now in
    let new = c.add.new.self.entries.items in
    let active : row.state ≡ Active = search (rules, tests) in
    let count : length new ≡ length c.args.self.now.entries.items + 1 =
    omega (arith, c.add.ensures.len, c.add.new.self.entries.ok.0, c.args.self.now.entries.ok.0) in
    subst (λ (o : Option ℤ). IsDueIndex (deadlines_of rows ++ o ∷ []) new) (ap (λ (s : State). deadline_in s row.deadline) (sym active))
    (due_added (deadlines_of rows) c.args.self.now.entries.items new (record { deadline = row.deadline; place = length rows })
    c.requires.index (length_deadlines rows) c.add.ensures.rising c.add.ensures.entries count)

pub returns-else-eq-clause-index : goal.returns-else-eq-clause-index
returns-else-eq-clause-index c =
    let rows = c.args.rows.now in
    let row = c.args.row.now in
    let entries = c.args.self.now.entries.items in
    let other : row.state ≡ Active → ⊥ = search (rules, tests) in
    subst (λ (o : Option ℤ). IsDueIndex (deadlines_of rows ++ o ∷ []) entries) (sym (inactive row.state row.deadline other))
    (due_without (deadlines_of rows) entries c.requires.index)
