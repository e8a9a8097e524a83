use Rattle.name_parts.proofs.SpellingLaws.{escapes_break_first}
use Rattle.name_parts.proofs.laws.escapes_break_first.Goals as goal

pub returns : goal.returns
returns c = escapes_break_first
