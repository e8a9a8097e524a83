use Rattle.std.proofs.Common.{◌≡◌, Bool, true, false, not, refl, ap, ◌∙◌}
use Rattle.name_parts.specs.Escapes.{is_plain}
use Rattle.name_parts.proofs.SpellingLemmas.{encoded-is}
use Rattle.name_parts.proofs.escapes.stands_as_itself.Goals as goal

twice_not : (t : Bool) → not (not t) ≡ t
twice_not true = refl
twice_not false = refl

pub returns : goal.returns
returns c = ap not (c.should_percent_encode.ensures ∙ encoded-is c.args.byte) ∙ twice_not (is_plain c.args.byte)
