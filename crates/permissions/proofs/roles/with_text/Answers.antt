use Rattle.std.proofs.Common.{ap, ◌∙◌, ◌||◌}
use Rattle.permissions.specs.Allows.{is_permission}
use Rattle.permissions.specs.Masks.{has_bit}
use Rattle.permissions.proofs.GrantLemmas.{has_bit-or, has_bit-pow}
use Rattle.permissions.proofs.roles.with_text.Goals as goal

pub returns-in-Some : goal.returns-in-Some
returns-in-Some c = λ p.
    has_bit-or c.args.mask c.bit_of.result p
    ∙ ap (λ b. has_bit c.args.mask p || b) (ap (λ m. has_bit m p) c.bit_of.ensures ∙ has_bit-pow c.in-Some.permission p ∙ ap (is_permission p) c.in-Some.ensures)
