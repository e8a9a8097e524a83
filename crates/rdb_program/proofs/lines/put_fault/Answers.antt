use Rattle.std.proofs.Common.{◌++◌, codes, decimal, ap, ◌∙◌}
use Rattle.rdb_program.proofs.lines.put_fault.Goals as goal

pub returns-in-NewerVersion-clause-items : goal.returns-in-NewerVersion-clause-items
returns-in-NewerVersion-clause-items c =
    rw c.in-NewerVersion.is
    (c.put_number-in-NewerVersion.ensures.items
    ∙ ap (λ n. c.args.line.now.items ++ (codes "rdb: journal refused: 3 NewerVersion " ++ decimal n)) c.from.ensures)

pub returns-in-Memory-clause-items : goal.returns-in-Memory-clause-items
returns-in-Memory-clause-items c = rw c.in-Memory.is c.put-in-Memory.ensures
