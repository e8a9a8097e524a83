-- Laws of commands.
use Rattle.std.specs.Prelude.{◌≡◌, ℕ, ◌+◌, List, length}
use Rattle.recorded_calls.specs.Commands.{IsCommand, IsSayable, Said, command_bytes, length_said}

-- One text of bytes says one thing.
abbrev pub OneCommand : Type 0
OneCommand =
    (bytes : List ℕ) (said other : Said) → IsCommand bytes said → IsCommand bytes other
    → said ≡ other

-- Whatever can be said has its bytes, which say it and nothing else.
abbrev pub WrittenIsRead : Type 0
WrittenIsRead =
    (said : Said) → IsSayable said
    → IsCommand (command_bytes said) said
    × ((other : Said) → IsCommand (command_bytes said) other → other ≡ said)

-- The record of a command takes five bytes more than the command.
abbrev pub LengthsAreSaid : Type 0
LengthsAreSaid = (said : Said) → 5 + length (command_bytes said) ≡ length_said said
