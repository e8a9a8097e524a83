-- The path that is looked at, and the finding with the least path.
use Rattle.std.specs.Prelude.{◌≡◌, ◌≤◌, ℕ, List, length, take, Option, Some, None}
use Rattle.policy_tables.specs.declared.findings.Finding.{Finding}

pub record Noted : Type 0 where
  pub path : List ℕ
  pub least : Option Finding

-- so many bytes at the fronts of two paths are the same
pub record HaveFront (path other : List ℕ) (n : ℕ) : Type 0 where
  pub left : n ≤ length path
  pub right : n ≤ length other
  pub same : take n path ≡ take n other

-- so many bytes at its front the path has in common with that of the finding
abbrev pub IsShared : List ℕ → Option Finding → ℕ → Type 0
IsShared path None n = n ≡ 0
IsShared path (Some f) n = HaveFront path f.path n
