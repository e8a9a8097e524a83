use Rattle.std.proofs.Common.{List, ℕ, ◌++◌, codes, ap, ◌∙◌}
use Rattle.rdb_program.specs.Lines.{fault_text}
use Rattle.rdb_program.proofs.LineLaws.{opening_text}
use Rattle.rdb_program.proofs.lines.opening_line.Goals as goal

pub returns : goal.returns
returns c =
    c.put.ensures
    ∙ (ap (λ (l : List ℕ). l ++ codes "\n") (c.put_fault.ensures.items ∙ ap (λ (l : List ℕ). l ++ fault_text c.args.fault) c.new-line.ensures)
    ∙ opening_text c.args.fault)
