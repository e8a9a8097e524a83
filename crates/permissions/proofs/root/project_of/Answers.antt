use Rattle.std.proofs.Common.{not, arith}
use Rattle.std.specs.Prelude.{◌==◌}
use Rattle.std.proofs.lemmas.Bool.Decides.{nat_tests}
use Rattle.std.proofs.lemmas.List.Sums.{prefix_len-le-length}
use Rattle.permissions.proofs.root.project_of.Goals as goal

pub returns-in-None-clause-len : goal.returns-in-None-clause-len
returns-in-None-clause-len c =
    grind (arith, nat_tests, prefix_len-le-length (λ x. not (x == 58)) c.args.text.now, c.in-None.ensures.place)
