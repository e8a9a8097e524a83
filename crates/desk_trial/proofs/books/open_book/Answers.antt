use Rattle.std.proofs.Common.{subst}
use Rattle.journal_book.specs.Books.{Stands}
use Rattle.service_desk.specs.ServiceEffects.Service.{ServiceWorld}
use Rattle.service_desk.specs.ServiceCore.CoreState.{world_in}
use Rattle.service_desk.specs.ServiceMachine.Machines.{Plays}
use Rattle.desk_trial.proofs.books.open_book.Goals as goal

pub returns-in-Ok-open : goal.returns-in-Ok-open
returns-in-Ok-open g c =
    let e = c.in-Ok-open.ensures in
    let book = c.in-Ok-open.book in
    record {
      commands = e.stands.0;
      stands = subst (λ (w : ServiceWorld). Stands g.D.Disk.told Plays w (world_in book.machine.core) book.journal e.stands.0) c.in-Ok.ensures e.stands.1;
      settled = e.settled;
    }
