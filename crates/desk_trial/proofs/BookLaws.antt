-- A teller over a book that was opened stands for nothing.
use Rattle.std.proofs.Common.{◌≡◌, ℕ, ℤ, true, List, [], Option, sym, ap, subst, ◌∙◌}
use Rattle.disks.specs.Moments.{Told}
use Rattle.result_journal.specs.Journals.{is_settled}
use Rattle.result_journal.specs.declared.journal.Journal.{Journal}
use Rattle.journal_book.specs.Books.{Stands}
use Rattle.service_desk.specs.RequestDemands.Settings.{Settings}
use Rattle.service_desk.specs.ServiceEffects.Service.{ServiceWorld, empty_service}
use Rattle.service_desk.specs.ServiceCore.Service.{service_of}
use Rattle.service_desk.specs.ServiceMachine.Machines.{Plays}
use Rattle.service_desk.specs.RecordDesk.Standing.{HasServed}
use Rattle.service_desk.specs.Shelves.{IsOpened}
use Rattle.service_desk.proofs.RecordDesk.StandingLaws.{served_nothing}

pub opened_asks : {D : Type 0} (told : D → Option Told) (faults : D → ℕ) (settings : Settings) (tells : List ℤ → Type 0) (w world : ServiceWorld)
    (journal first : Journal D) → world ≡ w → first ≡ journal → IsOpened told w journal
    → HasServed told faults Plays (service_of settings world) tells first [] (service_of settings world) tells first
opened_asks told faults settings tells w world journal first one two opened =
    let stands = subst (λ (v : ServiceWorld). Stands told Plays empty_service v first opened.commands) (sym one)
    (subst (λ (j : Journal _). Stands told Plays empty_service w j opened.commands) (sym two) opened.stands) in
    served_nothing told faults Plays (service_of settings world) tells first opened.commands stands
    (λ unsettled. let t : is_settled first ≡ true = ap is_settled two ∙ opened.settled in cc)
