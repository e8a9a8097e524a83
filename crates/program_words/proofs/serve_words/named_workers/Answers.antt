use Rattle.std.proofs.Common.{◌≡◌, Some, subst}
use Rattle.program_words.specs.Serves.{IsUpTo, most_workers}
use Rattle.program_words.proofs.serve_words.named_workers.Goals as goal

pub returns-in_err-number-clause-refused : goal.returns-in_err-number-clause-refused
returns-in_err-number-clause-refused c = λ is n up found.
    c.in_err-number.ensures.refused (Some n) (λ m same. let here : n ≡ m = cc in subst (IsUpTo most_workers) here up) found
