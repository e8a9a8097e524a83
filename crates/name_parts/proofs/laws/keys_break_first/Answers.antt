use Rattle.name_parts.proofs.PlaceLaws.{keys_break_first}
use Rattle.name_parts.proofs.laws.keys_break_first.Goals as goal

pub returns : goal.returns
returns c = keys_break_first
