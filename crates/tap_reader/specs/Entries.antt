-- The lines that the code keeps, seen as lines of a report.
use Rattle.std.specs.Prelude.{take}
use Rattle.tap_reader.specs.declared.entries.Says.{Says}
use Rattle.tap_reader.specs.declared.entries.Says.TheVariants as says
use Rattle.tap_reader.specs.declared.entries.Entry.{Entry}
use Rattle.tap_reader.specs.declared.entries.TestPoint.{TestPoint}
use Rattle.tap_reader.specs.Lines.{lines}
use Rattle.tap_reader.specs.LineForms.{Said, Plan, Point, Bail, Open, Missing, Test}
use Rattle.tap_reader.specs.Counted.{Line}

abbrev pub test_of : TestPoint → Test
test_of p = record {
  passed = p.passed;
  number = p.number;
  directive = p.directive;
  description = p.description.now;
  diagnostic = take p.diagnostic_lines (lines p.diagnostic.now);
}

abbrev pub said_of : Says → Said
said_of (says.Planned count) = Plan count
said_of (says.Tested p) = Point (test_of p)
said_of says.GivenUp = Bail
said_of says.Opened = Open
said_of (says.Lacking k) = Missing k

abbrev pub line_of : Entry → Line
line_of e = record { number = e.line; level = e.level; said = said_of e.says }
