use Rattle.std.proofs.Common.{inl}
use Rattle.journal_book.proofs.opening.replay_all.Goals as goal

pub returns-clause-err : goal.returns-clause-err
returns-clause-err g c = inl (λ t is. tt)
