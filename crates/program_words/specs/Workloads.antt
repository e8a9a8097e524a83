-- The values of the words of a workload.
use Rattle.std.specs.Prelude.{◌≡◌, ℕ, ◌-◌, ◌^◌, List, Option, Some, codes, decimal}
use Rattle.program_words.specs.Serves.{IsUpTo, IsWithin}
use Rattle.program_words.specs.declared.workload_words.WorkloadWords.{WorkloadWords}

abbrev pub most_number : ℕ
most_number = 2 ^ 64 - 1

abbrev pub most_invocations : ℕ
most_invocations = 2000

-- The values that the options have are these. A number is written as decimal digits, without a sign
-- or a leading zero.
pub record AreWorkloadValues (value : List ℕ → Option (List ℕ)) (words : WorkloadWords)
    : Type 0 where
  pub journal_is : value (codes "journal") ≡ Some words.journal
  pub number_is : value (codes "number") ≡ Some (decimal words.number)
  pub number_fits : IsWithin 0 most_number words.number
  pub count_is : value (codes "count") ≡ Some (decimal words.count)
  pub some_count : IsUpTo most_invocations words.count
