use Rattle.std.proofs.Common.{◌≡◌, ◌<◌, ◌≤◌, ◌∷◌, ◌++◌, [], List, length, sym, ap, ◌∙◌, subst, arith, append_assoc}
use Rattle.std.proofs.lemmas.List.{length_push}
use Rattle.test_results.specs.declared.exoneration.TestExoneration.{TestExoneration}
use Rattle.test_results.specs.Exonerations.{IsPlaced, places_in, room_for}
use Rattle.test_results.proofs.ExonerationLemmas.{next_row}
use Rattle.test_results.proofs.exoneration_rows.ExonerationRows.append_all.Goals as goal

pub append-requires : goal.append-requires
append-requires c =
    let row = c.in-Some.row in
    let passed = c.loop-row.yielded in
    let next : c.loop-row.row-iterator.rest.items ≡ row ∷ c.next.new.self.rest.items = c.in-Some.ensures.steps.0 in
    let split = c.loop-row.invariant.whole ∙ ap (λ (rs : List TestExoneration). passed ++ rs) next in
    let fits = c.requires in
    let step = next_row c.args.self.now.rows c.args.rows.items passed row c.next.new.self.rest.items fits.asked fits.holder fits.placed fits.can split in
    record {
      few = subst (λ (rs : List TestExoneration). length (places_in rs row.holder) < 100_000) (sym c.loop-row.invariant.rows) step.1;
      placed = subst (λ (rs : List TestExoneration). IsPlaced rs row) (sym c.loop-row.invariant.rows) step.0.placed;
      room = let left = c.loop-row.invariant.rooms row.holder in
          let there = subst (λ h. length c.args.rows.items ≤ room_for c.args.self.now h) (sym step.0.own) fits.room in
          omega (arith, left, there, step.2);
    }

pub loop-row-preserved : goal.loop-row-preserved
loop-row-preserved c =
    let row = c.in-Some.row in
    let passed = c.loop-row.yielded in
    let next : c.loop-row.row-iterator.rest.items ≡ row ∷ c.next.new.self.rest.items = c.in-Some.ensures.steps.0 in
    record {
      rows = c.append.ensures.rows ∙ ap (λ (rs : List TestExoneration). rs ++ row ∷ []) c.loop-row.invariant.rows ∙ append_assoc c.args.self.now.rows passed (row ∷ []);
      rooms = λ other. let old = c.loop-row.invariant.rooms other in let one = c.append.ensures.rooms other in omega (arith, old, one, length_push passed row);
      whole = c.loop-row.invariant.whole ∙ ap (λ (rs : List TestExoneration). passed ++ rs) next ∙ sym (append_assoc passed (row ∷ []) c.next.new.self.rest.items);
    }
