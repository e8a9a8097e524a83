use Rattle.name_parts.proofs.PlaceLaws.{letters_break_first}
use Rattle.name_parts.proofs.laws.letters_break_first.Goals as goal

pub returns : goal.returns
returns c = letters_break_first
