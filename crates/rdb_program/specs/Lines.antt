-- The code's own words: lines that are put together of pieces.
use Rattle.std.specs.Prelude.{ℕ, List, [], ◌++◌, codes, decimal}
use Rattle.result_journal.specs.declared.opening.OpenFault.{OpenFault}
use Rattle.result_journal.specs.declared.opening.OpenFault.TheVariants as openings
use Rattle.rdb_program.specs.Run.{line_of}
use Rattle.rdb_program.specs.declared.ending.Ending.{Ending}
use Rattle.rdb_program.specs.declared.ending.Ending.TheVariants.{WordsRefused, Shown, ConfigFault}
use Rattle.rdb_program.specs.declared.ending.Ending.TheVariants.{ConfigRefused, Unstarted, Unopened}
use Rattle.rdb_program.specs.declared.ending.Ending.TheVariants.{Counted, Served, DoorsServed, Loaded, Uploaded}

-- the line of a fault of opening, without its end
abbrev pub fault_text : OpenFault → List ℕ
fault_text (openings.NotAJournal at) = codes "rdb: journal refused: 1 NotAJournal " ++ decimal at
fault_text (openings.Damaged at byte) = codes "rdb: journal refused: 2 Damaged " ++ decimal at
fault_text (openings.NewerVersion found) =
    codes "rdb: journal refused: 3 NewerVersion " ++ decimal found
fault_text openings.DiskFailed = codes "rdb: fault of disk"
fault_text openings.Memory = codes "rdb: want of memory"

-- the line of an ending that isn't put together, and nothing for one that is
abbrev pub fixed_line : Ending → List ℕ
fixed_line (Unopened fault) = []
fixed_line (Uploaded ending) = []
fixed_line WordsRefused = line_of WordsRefused
fixed_line (Shown result) = line_of (Shown result)
fixed_line ConfigFault = line_of ConfigFault
fixed_line (ConfigRefused fault) = line_of (ConfigRefused fault)
fixed_line Unstarted = line_of Unstarted
fixed_line (Counted result) = line_of (Counted result)
fixed_line (DoorsServed ending) = line_of (DoorsServed ending)
fixed_line (Loaded ending) = line_of (Loaded ending)
fixed_line (Served ended) = line_of (Served ended)
