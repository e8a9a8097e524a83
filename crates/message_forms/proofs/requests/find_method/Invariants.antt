use Rattle.std.proofs.Common.{◌≡◌, drop}
use Rattle.std.specs.List.{find}
use Rattle.message_forms.specs.Methods.{is_called}
use Rattle.message_forms.proofs.requests.find_method.Given as goal

-- none of those so far has the name
abbrev pub invariant-loop-method : goal.invariant-loop-method
invariant-loop-method l =
    find (is_called l.service l.name) (drop l.method-index l.methods) ≡ find (is_called l.service l.name) l.methods
