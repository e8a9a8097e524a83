-- What each cause of a connection's end comes to, and each fault of opening a journal: one row for
-- each.
use Rattle.std.specs.Prelude.{ℕ, List, [], ◌++◌, codes, decimal}
use Rattle.error_lines.specs.Lines.{error_line}
use Rattle.result_journal.specs.declared.opening.OpenFault.{OpenFault}
use Rattle.result_journal.specs.declared.opening.OpenFault.TheVariants as openings
use Rattle.http_wire.specs.Out.{fault_number, fault_name}
use Rattle.http_workers.specs.declared.ended.Cause.{Cause}
use Rattle.http_workers.specs.declared.ended.Cause.TheVariants as causes

-- A cause's row: the exit status, and the line on the errors.
pub record Row : Type 0 where
  pub status : ℕ
  pub line : List ℕ

abbrev pub row : ℕ → List ℕ → Row
row status line = record { status = status; line = line }

abbrev pub row_of : Cause → Row
row_of causes.End = row 0 []
row_of causes.Closed = row 0 []
row_of causes.ReadFault = row 4 (error_line (codes "fault of input"))
row_of causes.WriteFault = row 4 (error_line (codes "fault of output"))
row_of causes.Memory = row 7 (error_line (codes "want of memory"))
row_of (causes.Wire fault) =
    row 8 (error_line (codes "wire "
    ++ (decimal (fault_number fault) ++ (codes " " ++ fault_name fault))))
row_of causes.SinkTakesNothing = row 9 (error_line (codes "output takes nothing"))

-- the line that tells why a journal is refused: a number and a name, and the place, or the byte of
-- a version
abbrev pub refused_line : ℕ → List ℕ → ℕ → List ℕ
refused_line number name place =
    error_line (codes "journal refused: "
    ++ (decimal number ++ (codes " " ++ (name ++ (codes " " ++ decimal place)))))

abbrev pub opening_row : OpenFault → Row
opening_row (openings.NotAJournal at) = row 3 (refused_line 1 (codes "NotAJournal") at)
opening_row (openings.Damaged at byte) = row 3 (refused_line 2 (codes "Damaged") at)
opening_row (openings.NewerVersion found) = row 3 (refused_line 3 (codes "NewerVersion") found)
opening_row openings.DiskFailed = row 4 (error_line (codes "fault of disk"))
opening_row openings.Memory = row 7 (error_line (codes "want of memory"))
