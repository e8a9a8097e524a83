-- The parents that the code keeps, seen as names.
use Rattle.std.specs.Prelude.{ℕ, List, map}
use Rattle.tap_reader.specs.declared.entries.Says.{Says}
use Rattle.tap_reader.specs.Entries.{said_of}
use Rattle.tap_reader.specs.Cases.{name_for_subtest}

abbrev pub names_of : List Says → List (List ℕ)
names_of path = map (λ s. name_for_subtest (said_of s)) path
