use Rattle.std.proofs.Common.{not, arith}
use Rattle.std.specs.Prelude.{◌==◌}
use Rattle.std.proofs.lemmas.Bool.Decides.{nat_tests}
use Rattle.std.proofs.lemmas.List.Sums.{prefix_len-le-length}
use Rattle.name_parts.proofs.texts.len_before.Goals as goal

pub returns-in-None-clause-place : goal.returns-in-None-clause-place
returns-in-None-clause-place c =
    grind (arith, nat_tests, prefix_len-le-length (λ x. not (x == c.args.byte)) c.args.text.now, c.in-None.ensures.place)
