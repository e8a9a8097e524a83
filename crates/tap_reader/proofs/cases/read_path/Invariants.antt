use Rattle.std.proofs.Common.{◌≡◌, ◌++◌, drop, codes}
use Rattle.std.specs.List.{flat_map}
use Rattle.tap_reader.specs.NamingViews.{names_of}
use Rattle.tap_reader.proofs.cases.read_path.Given as goal

abbrev pub invariant-loop-says : goal.invariant-loop-says
invariant-loop-says l =
    l.out.items ++ flat_map (λ name. name ++ codes " > ") (names_of (drop l.says-index l.path))
    ≡ flat_map (λ name. name ++ codes " > ") (names_of l.path)
