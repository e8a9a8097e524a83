use Rattle.std.proofs.Common.{ap, ◌∙◌}
use Rattle.std.specs.List.{find}
use Rattle.message_forms.specs.Methods.{is_called, method_of}
use Rattle.message_forms.proofs.requests.Method.of.Goals as goal

pub returns : goal.returns
unfolding method_of
returns c = c.find_method.ensures ∙ ap (λ ms. find (is_called c.args.service.now c.args.name.now) ms) c.as_slice.ensures
