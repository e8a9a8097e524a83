use Rattle.std.proofs.Common.{ap, ◌∙◌}
use Rattle.std.specs.List.{find}
use Rattle.std.specs.Str.{bytes_eq}
use Rattle.policy_checks.specs.Permissions.{permission_text, permission_of}
use Rattle.policy_checks.proofs.permission.Permission.from_text.Goals as goal

pub returns : goal.returns
unfolding permission_of
returns c = c.find_text.ensures ∙ ap (λ ps. find (λ p. bytes_eq (permission_text p) c.args.text.now) ps) c.as_slice.ensures
