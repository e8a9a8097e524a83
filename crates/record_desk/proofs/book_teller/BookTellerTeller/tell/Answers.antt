use Rattle.std.proofs.Common.{FitsSigned, w64, to_z-of_z, [], ◌∷◌, ◌++◌, refl, ap, subst}
use Rattle.call_forms.specs.declared.asked.Asked.{Asked}
use Rattle.service_machine.specs.RequestDemands.Settings.{Settings}
use Rattle.service_machine.specs.ServiceCore.CoreState.{world_in}
use Rattle.service_machine.specs.Machines.{Plays}
use Rattle.service_machine.specs.ServiceCore.Service.{Service, service_of}
use Rattle.record_desk.specs.Recording.{is_unavailable}
use Rattle.record_desk.specs.Standing.{HasServed}
use Rattle.record_desk.proofs.StandingLaws.{served_more}
use Rattle.record_desk.proofs.book_teller.BookTellerTeller.tell.Goals as goal

pub serve-requires-clause-stands : goal.serve-requires-clause-stands
serve-requires-clause-stands g c =
    let book = c.requires.2.book in
    (book.commands, book.stands)

pub returns-clause-told : goal.returns-clause-told
returns-clause-told g c = λ first before served.
    let fits : FitsSigned w64 c.now-now.result = record { sfits = c.now-now.type_inv } in
    let serves = simp to_z-of_z at (c.serve.ensures.serves 0) in
    let keeps = simp to_z-of_z at (c.serve.ensures.keeps 0) in
    let tries = simp to_z-of_z at (c.serve.ensures.any_moment 0) in
    let asks : Settings = record { policy = c.new-inquiry.result.policy.now } in
    let opened : Service = service_of (record { policy = first.policy.now }) (world_in first.book.now.machine.core) in
    let old : Service = service_of (record { policy = c.args.self.now.policy.now }) (world_in c.args.self.now.book.now.machine.core) in
    let new : Service = service_of (record { policy = c.args.self.now.policy.now }) (world_in c.serve.new.book.machine.core) in
    subst (λ (a : Asked). HasServed g.D.Disk.told g.D.Disk.faults Plays opened (g.C.Clock.tells (g.C.Clock.state first.clock.now)) first.book.now.journal
    (before ++ record { asked = a; told = c.serve.result } ∷ []) new (g.C.Clock.tells (g.C.Clock.state c.now-now.new.self)) c.serve.new.book.journal)
    c.new-inquiry.ensures.asked
    (served_more g.D.Disk.told g.D.Disk.faults Plays opened old new _ _ _ first.book.now.journal c.args.self.now.book.now.journal
    c.serve.new.book.journal before c.now-now.result c.new-inquiry.result.asked.now c.serve.result (is_unavailable c.serve.result) asks
    (ap (λ p. record { policy = p }) c.new-inquiry.ensures.policy) served serves refl c.now-now.ensures c.serve.ensures.rose keeps tries)
