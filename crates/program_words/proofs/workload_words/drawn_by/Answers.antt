use Rattle.std.proofs.Common.{◌≡◌, Some, subst}
use Rattle.program_words.specs.Serves.{IsWithin}
use Rattle.program_words.specs.Workloads.{most_number}
use Rattle.program_words.proofs.workload_words.drawn_by.Goals as goal

pub returns-in_err-number-clause-refused : goal.returns-in_err-number-clause-refused
returns-in_err-number-clause-refused c = λ is n up found.
    c.in_err-number.ensures.refused (Some n) (λ m same. let here : n ≡ m = cc in subst (IsWithin 0 most_number) here up) found
