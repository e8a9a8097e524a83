use Rattle.std.proofs.Common.{◌≤◌, ◌+◌, ◌++◌, List, length, sym, ap, ◌∙◌, subst}
use Rattle.test_results.specs.declared.exoneration.TestExoneration.{TestExoneration}
use Rattle.test_results.specs.Exonerations.{Fits, room_for}
use Rattle.test_results.proofs.exoneration_rows.ExonerationRows.commit.Goals as goal

pub append_all-requires : goal.append_all-requires
append_all-requires c = subst (λ (rows : List TestExoneration). Fits c.args.self.now rows) (sym c.batch.view_is) c.requires

pub returns-clause-rows : goal.returns-clause-rows
returns-clause-rows c = c.append_all.ensures.rows ∙ ap (λ (rows : List TestExoneration). c.args.self.now.rows ++ rows) c.batch.view_is

pub returns-clause-rooms : goal.returns-clause-rooms
returns-clause-rooms c other =
    subst (λ (rows : List TestExoneration). room_for c.args.self.now other ≤ room_for c.append_all.new.self other + length rows) c.batch.view_is
    (c.append_all.ensures.rooms other)
