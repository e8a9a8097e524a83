use Rattle.std.proofs.Common.{◌++◌, ◌∷◌, [], ℕ, List, get_or, take, sym, subst, arith}
use Rattle.std.proofs.lemmas.List.{take_more}
use Rattle.names_realms.specs.declared.states.State.TheVariants.{Finalizing}
use Rattle.invocations.specs.declared.invocation.Invocation.{Invocation}
use Rattle.invocation_world.specs.Settling.{AreEnded}
use Rattle.invocation_world.proofs.CodeFacts.{not_taken}
use Rattle.invocation_world.proofs.RowFacts.{same_state}
use Rattle.invocation_world.proofs.SettleFacts.{ended_more}
use Rattle.invocation_world.proofs.turns.end_rows.Goals as goal

pub set_final-requires : goal.set_final-requires
set_final-requires c =
    let places = c.args.places.now in
    let i = c.loop-place.place-index in
    let not = not_taken places i c.requires.rising (omega arith) in
    same_state Finalizing c.args.table.now.rows c.loop-place.table.rows (get_or places i 0)
    (c.loop-place.invariant.0.others (get_or places i 0) not) (c.requires.finalizing i 0 (omega arith))

pub loop-place-preserved : goal.loop-place-preserved
loop-place-preserved c =
    let places = c.args.places.now in
    let i = c.loop-place.place-index in
    let place = get_or places i 0 in
    let not = not_taken places i c.requires.rising (omega arith) in
    let more = ended_more c.args.moment (take i places) c.args.table.now.rows c.loop-place.table.rows place c.loop-place.invariant.0 not in
    let rows = subst (λ (rs : List Invocation). AreEnded c.args.moment (take i places ++ place ∷ []) c.args.table.now.rows rs) (sym c.set_final.ensures.roomier.rows) more in (
      subst (λ (ps : List ℕ). AreEnded c.args.moment ps c.args.table.now.rows c.set_final.new.self.rows) (sym (take_more places i 0 (omega arith))) rows,
      omega (arith, c.set_final.ensures.roomier.spare, c.loop-place.invariant.1),
    )
