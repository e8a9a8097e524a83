use Rattle.std.proofs.Common.{take}
use Rattle.std.specs.List.{flat_map}
use Rattle.result_forms.specs.Replies.{result_data}
use Rattle.token_texts.specs.Tokens.{tokens_of, IsAdded}
use Rattle.result_texts.proofs.results.put_results.Given as goal

abbrev pub invariant-loop-row : goal.invariant-loop-row
invariant-loop-row l = IsAdded l.fn.out l.out (flat_map (λ row. tokens_of (result_data l.id row)) (take l.row-index l.rows))
