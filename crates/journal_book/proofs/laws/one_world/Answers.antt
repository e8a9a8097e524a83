use Rattle.std.proofs.Common.{◌≡◌, ℕ, List, subst}
use Rattle.result_journal.specs.Grammar.{Bodies}
use Rattle.result_journal.proofs.ReadingLaws.{no_other_reading}
use Rattle.journal_book.specs.Worlds.{Leads}
use Rattle.journal_book.proofs.WorldLaws.{one_end, same_bodies}
use Rattle.journal_book.proofs.laws.one_world.Goals as goal

pub returns : goal.returns
returns g c = λ first w v bytes one other.
    let same : one.0 ≡ other.0 = same_bodies one.0 other.0 (no_other_reading bytes (Bodies one.0) (Bodies other.0) one.1 other.1) in
    one_end g.M.Machine.plays g.M.Machine.one_way first other.0 w v
    (subst (λ (l : List (List ℕ)). Leads g.M.Machine.plays first l w) same one.2) other.2
