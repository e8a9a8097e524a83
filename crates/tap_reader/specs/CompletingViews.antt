-- What the code has written of a report's lines, seen as lines.
use Rattle.std.specs.Prelude.{[], None, map}
use Rattle.tap_reader.specs.declared.completing.Streams.{Streams}
use Rattle.tap_reader.specs.Entries.{line_of}
use Rattle.tap_reader.specs.Completing.{State}

abbrev pub state_of : Streams → State
state_of s = record { lines = map line_of s.entries.items; fault = s.fault }

abbrev pub empty_state : State
empty_state = record { lines = []; fault = None }
