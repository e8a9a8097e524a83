use Rattle.std.proofs.Common.{◌≤◌, ◌+◌, ◌++◌, List, length, sym, ap, ◌∙◌, subst}
use Rattle.test_results.specs.declared.result.TestResult.{TestResult}
use Rattle.test_results.specs.Batches.{Fits}
use Rattle.test_results.specs.Results.{room_for}
use Rattle.test_results.proofs.result_rows.ResultRows.commit.Goals as goal

pub append_all-requires : goal.append_all-requires
append_all-requires c = subst (λ (rows : List TestResult). Fits c.args.self.now rows) (sym c.batch.view_is) c.requires

pub returns-clause-rows : goal.returns-clause-rows
returns-clause-rows c = c.append_all.ensures.rows ∙ ap (λ (rows : List TestResult). c.args.self.now.rows ++ rows) c.batch.view_is

pub returns-clause-rooms : goal.returns-clause-rooms
returns-clause-rooms c other =
    subst (λ (rows : List TestResult). room_for c.args.self.now other ≤ room_for c.append_all.new.self other + length rows) c.batch.view_is
    (c.append_all.ensures.rooms other)
