-- What is printed of a journal that is counted.
use Rattle.std.specs.Prelude.{ℕ, List, ◌++◌, codes, decimal}
use Rattle.serve_runs.specs.ServiceMachine.ServiceEffects.Service.{ServiceWorld}
use Rattle.serve_runs.specs.ServiceCore.Counting.{counts_of}
use Rattle.serve_runs.specs.ServiceCore.declared.counting.Counts.{Counts}

-- a name and a number
abbrev pub item : List ℕ → ℕ → List ℕ
item name number = name ++ decimal number

-- how many rows there are of each kind, and how many bytes their records have
abbrev pub counts_text : Counts → ℕ → List ℕ
counts_text counts bytes =
    item (codes "invocations ") counts.invocations
    ++ item (codes ", finalized ") counts.finalized
    ++ item (codes ", results ") counts.results
    ++ item (codes ", exonerations ") counts.exonerations
    ++ item (codes ", artifacts ") counts.artifacts
    ++ item (codes ", kept ") counts.kept
    ++ item (codes ", bytes ") bytes
    ++ codes "\n"

abbrev pub world_text : ServiceWorld → ℕ → List ℕ
world_text w bytes = counts_text (counts_of w) bytes
