-- Records that are numbered from 0.
use Rattle.std.specs.Prelude.{◌≡◌, ℕ, suc, ◌<◌, ◌^◌, ◌-◌, true, List, ◌++◌, codes, decimal, nat_eq}
use Rattle.std.proofs.Common.{refl, sym, ◌∙◌}
use Rattle.std.specs.List.{starts_with}
use Rattle.result_journal.specs.Grammar.{IsBody}

-- The command of the record with this number begins with it and a point.
abbrev pub IsNumbered : ℕ → List ℕ → Type 0
IsNumbered number command = starts_with nat_eq command (decimal number ++ codes ".") ≡ true

-- So many records, with one more by this command.
pub record Counts (count : ℕ) (command : List ℕ) (next : ℕ) : Type 0 where
  pub few : count < 2 ^ 64 - 1
  pub numbered : IsNumbered count command
  pub one_more : next ≡ suc count

-- The command is one of a record, and counts one more.
pub record IsCounted (count : ℕ) (command : List ℕ) : Type 0 where
  pub few : count < 2 ^ 64 - 1
  pub numbered : IsNumbered count command
  pub body : IsBody command

pub counted_once : (count : ℕ) (command : List ℕ) (next other : ℕ) → Counts count command next
    → Counts count command other → next ≡ other
counted_once count command next other one also = one.one_more ∙ sym also.one_more

pub counted_on : (count : ℕ) (command : List ℕ) → IsCounted count command
    → (next : ℕ) × Counts count command next
counted_on count command is =
    (suc count, record { few = is.few; numbered = is.numbered; one_more = refl })
