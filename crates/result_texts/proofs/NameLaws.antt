-- The names of rows, part by part.
use Rattle.std.proofs.Common.{◌≡◌, ℕ, List, ◌++◌, codes, append_assoc}
use Rattle.json_fields.specs.NameParts.Escapes.{escaped}

parts : (a id b e tail own : List ℕ) → a ++ id ++ b ++ e ++ tail ++ own ≡ a ++ (id ++ (b ++ (e ++ (tail ++ own))))
parts a id b e tail own = simp append_assoc

pub name_done : (id test tail own first second third text : List ℕ) → first ≡ codes "invocations/" ++ id ++ codes "/tests/" ++ escaped test
    → second ≡ first ++ tail → third ≡ second ++ text → text ≡ own
    → third ≡ codes "invocations/" ++ (id ++ (codes "/tests/" ++ (escaped test ++ (tail ++ own))))
name_done id test tail own first second third text e1 e2 e3 is =
    rw (e3, e2, e1, is) (parts (codes "invocations/") id (codes "/tests/") (escaped test) tail own)
