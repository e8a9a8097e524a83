use Rattle.std.proofs.Common.{take}
use Rattle.std.specs.List.{flat_map}
use Rattle.invocation_forms.specs.Named.{name_data}
use Rattle.token_texts.specs.Tokens.{tokens_of, IsAdded}
use Rattle.invocation_texts.proofs.named.put_each_element.Given as goal

abbrev pub invariant-loop-id : goal.invariant-loop-id
invariant-loop-id l = IsAdded l.fn.out l.out (flat_map (λ id. tokens_of (name_data id.now)) (take l.id-index l.ids))
