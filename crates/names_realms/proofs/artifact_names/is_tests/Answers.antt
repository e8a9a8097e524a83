use Rattle.std.proofs.Common.{sym, ◌∙◌}
use Rattle.std.proofs.lemmas.Bool.{ne_eqb}
use Rattle.names_realms.proofs.ArtifactNameLemmas.{goes-by_second, goes-other, goes-short}
use Rattle.names_realms.proofs.artifact_names.is_tests.Goals as goal

pub returns-in_default : goal.returns-in_default
returns-in_default c = sym (goes-short c.args.text.now c.in_default.len_below)

pub returns-then-first-eq47 : goal.returns-then-first-eq47
returns-then-first-eq47 c = sym (goes-by_second c.args.text.now c.in-len2-up.len_at_least c.if-first-eq47.true)

pub returns-else-first-eq47 : goal.returns-else-first-eq47
returns-else-first-eq47 c = let other = ne_eqb _ _ c.if-first-eq47.false in other ∙ sym (goes-other c.args.text.now other)
