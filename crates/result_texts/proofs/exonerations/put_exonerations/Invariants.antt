use Rattle.std.proofs.Common.{take}
use Rattle.std.specs.List.{flat_map}
use Rattle.result_forms.specs.Replies.{exoneration_data}
use Rattle.token_texts.specs.Tokens.{tokens_of, IsAdded}
use Rattle.result_texts.proofs.exonerations.put_exonerations.Given as goal

abbrev pub invariant-loop-row : goal.invariant-loop-row
invariant-loop-row l = IsAdded l.fn.out l.out (flat_map (λ row. tokens_of (exoneration_data l.id row)) (take l.row-index l.rows))
