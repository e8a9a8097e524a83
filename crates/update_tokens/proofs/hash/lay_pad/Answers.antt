use Rattle.std.proofs.Common.{bit_xor, rules, append-nil}
use Rattle.std.proofs.lemmas.List.{take_all, drop_all}
use Rattle.std.proofs.lemmas.List.Edits.{map_over_more}
use Rattle.update_tokens.proofs.hash.lay_pad.Goals as goal

pub loop-x-preserved : goal.loop-x-preserved
loop-x-preserved c = search (rules, map_over_more (λ b. bit_xor b c.args.pad))

pub returns : goal.returns
returns c = search (rules, take_all, drop_all, append-nil)
