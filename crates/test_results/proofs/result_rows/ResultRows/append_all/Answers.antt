use Rattle.std.proofs.Common.{◌≡◌, ◌<◌, ◌≤◌, ◌∷◌, ◌++◌, [], List, length, sym, ap, ◌∙◌, subst, arith, append_assoc}
use Rattle.std.proofs.lemmas.List.{length_push}
use Rattle.test_results.specs.declared.result.TestResult.{TestResult}
use Rattle.test_results.specs.Results.{HasKey, key_of, places_in, room_for}
use Rattle.test_results.proofs.TableLemmas.{next_row}
use Rattle.test_results.proofs.result_rows.ResultRows.append_all.Goals as goal

pub append-requires : goal.append-requires
append-requires c =
    let row = c.in-Some.row in
    let passed = c.loop-row.yielded in
    let next : c.loop-row.row-iterator.rest.items ≡ row ∷ c.next.new.self.rest.items = c.in-Some.ensures.steps.0 in
    let split = c.loop-row.invariant.whole ∙ ap (λ (rs : List TestResult). passed ++ rs) next in
    let fits = c.requires in
    let step = next_row c.args.self.now.rows c.args.rows.items passed row c.next.new.self.rest.items fits.holder fits.held fits.can split in
    record {
      free = subst (λ (rs : List TestResult). ¬ HasKey rs (key_of row)) (sym c.loop-row.invariant.rows) step.free;
      few = subst (λ (rs : List TestResult). length (places_in rs row.holder) < 100_000) (sym c.loop-row.invariant.rows) step.below;
      room = let left = c.loop-row.invariant.rooms row.holder in
          let there = subst (λ h. length c.args.rows.items ≤ room_for c.args.self.now h) (sym step.own) fits.room in
          omega (arith, left, there, step.within);
    }

pub loop-row-preserved : goal.loop-row-preserved
loop-row-preserved c =
    let row = c.in-Some.row in
    let passed = c.loop-row.yielded in
    let next : c.loop-row.row-iterator.rest.items ≡ row ∷ c.next.new.self.rest.items = c.in-Some.ensures.steps.0 in
    record {
      rows = c.append.ensures.rows ∙ ap (λ (rs : List TestResult). rs ++ row ∷ []) c.loop-row.invariant.rows ∙ append_assoc c.args.self.now.rows passed (row ∷ []);
      rooms = λ other. let old = c.loop-row.invariant.rooms other in let one = c.append.ensures.rooms other in omega (arith, old, one, length_push passed row);
      whole = c.loop-row.invariant.whole ∙ ap (λ (rs : List TestResult). passed ++ rs) next ∙ sym (append_assoc passed (row ∷ []) c.next.new.self.rest.items);
    }
