-- Laws of what a report gives.
use Rattle.std.specs.Prelude.{◌≡◌, ◌↔◌, ℕ, List, Some, Result}
use Rattle.names_realms.specs.declared.states.Case.{Case}
use Rattle.tap_reader.specs.declared.faults.TapFault.{TapFault}
use Rattle.tap_reader.specs.LineForms.{Said, said_by}
use Rattle.tap_reader.specs.LineGrammar.{IsLine}
use Rattle.tap_reader.specs.Counted.{Line}
use Rattle.tap_reader.specs.Streams.{IsTree, Stream}
use Rattle.tap_reader.specs.Grammar.{IsReport}
use Rattle.tap_reader.specs.Reports.{Reads, counted_in}

-- Lines have at most one tree.
abbrev pub OneTree : Type 0
OneTree = (ls : List Line) (s t : Stream) → IsTree ls s → IsTree ls t → s ≡ t

-- A report gives at most one list of cases or fault.
abbrev pub OneOutcome : Type 0
OneOutcome = (bytes : List ℕ) (r s : Result (List Case) TapFault) → Reads bytes r → Reads bytes s
    → r ≡ s

-- Every report gives a list of cases or a fault.
abbrev pub SomeOutcome : Type 0
SomeOutcome = (bytes : List ℕ) → (r : Result (List Case) TapFault) × Reads bytes r

-- A line says just what its grammar has.
abbrev pub LinesAreRead : Type 0
LinesAreRead = (line : List ℕ) (level : ℕ) (said : Said) → (said_by line ≡ Some (level, said))
    ↔ IsLine line level said

-- The lines of a report that count are just those that its grammar has.
abbrev pub GrammarIsRead : Type 0
GrammarIsRead = (bytes : List ℕ) (ls : List Line) → (counted_in bytes ≡ Some ls) ↔ IsReport bytes ls
