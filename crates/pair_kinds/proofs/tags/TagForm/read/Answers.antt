use Rattle.std.proofs.Common.{rules}
use Rattle.pair_kinds.specs.Tags.{a_tag}
use Rattle.pair_kinds.specs.JsonFields.Fields.{or_empty}
use Rattle.pair_kinds.proofs.tags.TagForm.read.Goals as goal

pub returns-in_err-key-clause-err : goal.returns-in_err-key-clause-err
unfolding a_tag or_empty
returns-in_err-key-clause-err c = search rules

pub returns-in_err-text-clause-err : goal.returns-in_err-text-clause-err
unfolding a_tag or_empty
returns-in_err-text-clause-err c = search rules
