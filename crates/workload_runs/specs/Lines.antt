-- What is printed of a run of the workload.
use Rattle.std.specs.Prelude.{ℕ, List, ◌++◌, codes, decimal}
use Rattle.workload_runs.specs.declared.line.Load.{Load}

-- a name and a number
abbrev pub item : List ℕ → ℕ → List ℕ
item name number = name ++ decimal number

-- which workload it is
abbrev pub named_part : Load → List ℕ
named_part load =
    item (codes "workload ") load.number ++ item (codes " ") load.count

-- how many requests were asked, and how many invocations are final
abbrev pub numbers_part : Load → List ℕ
numbers_part load =
    item (codes ": requests ") load.tally.requests
    ++ item (codes ", finalized ") load.finalized

-- how many verdicts were shown, and of each status
abbrev pub verdicts_part : Load → List ℕ
verdicts_part load =
    item (codes ", verdicts ") load.tally.verdicts
    ++ item (codes ", unexpected ") load.tally.unexpected
    ++ item (codes ", skipped ") load.tally.skipped
    ++ item (codes ", flaky ") load.tally.flaky
    ++ item (codes ", exonerated ") load.tally.exonerated
    ++ item (codes ", expected ") load.tally.expected

abbrev pub load_text : Load → List ℕ
load_text load =
    named_part load ++ numbers_part load ++ verdicts_part load
    ++ item (codes ", bytes ") load.bytes ++ codes "\n"
