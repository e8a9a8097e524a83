-- Findings of faults, of which the one with the least path counts.
use Rattle.std.specs.Prelude.{ℕ, Bool, true, List, [], ◌∷◌, ◌++◌, Option, Some, None, if◌then◌else◌, fold}
use Rattle.std.specs.Ordering.{nat_cmp, is_lt}
use Rattle.std.specs.Cmp.Lexicographic.{slice_cmp}
use Rattle.policy_tables.specs.declared.findings.Finding.{Finding}

-- a path, a point, and a key or the decimal place in a list; the whole document stands at the empty
-- path
abbrev pub joined : List ℕ → List ℕ → List ℕ
joined [] key = key
joined (b ∷ bs) key = (b ∷ bs) ++ 46 ∷ key

-- a path at which something is wrong
abbrev pub at : List ℕ → Finding
at path = record { path = path; text = [] }

-- the path comes before the finding's in byte order
abbrev pub goes_before : List ℕ → Option Finding → Bool
goes_before path None = true
goes_before path (Some g) = is_lt (slice_cmp nat_cmp path g.path)

-- of two findings the one with the lesser path, of equal paths the first
abbrev pub lesser : Option Finding → Finding → Option Finding
lesser least f = if goes_before f.path least then Some f else least

-- the least after these findings too
abbrev pub least_with : Option Finding → List Finding → Option Finding
least_with least findings = fold lesser least findings

-- the finding with the least path
abbrev pub least_of : List Finding → Option Finding
least_of findings = least_with None findings
