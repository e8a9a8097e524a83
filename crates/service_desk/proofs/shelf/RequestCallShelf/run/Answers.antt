use Rattle.std.proofs.Common.{◌≡◌, ℤ, ℕ, ◌+◌, FitsSigned, w64, to_z-of_z, refl, ap, arith}
use Rattle.record_desk.specs.RequestDemands.Settings.{Settings}
use Rattle.record_desk.specs.ServiceCore.History.{entry_at}
use Rattle.record_desk.specs.Recording.{is_unavailable}
use Rattle.service_desk.specs.Shelves.{service_on}
use Rattle.service_desk.proofs.ShelfLaws.{stands_more}
use Rattle.service_desk.proofs.shelf.RequestCallShelf.run.Goals as goal

pub serve-told-requires-clause-stands : goal.serve-told-requires-clause-stands
serve-told-requires-clause-stands g c =
    let book = (c.requires.3.led c.requires.2.0).book in
    (book.commands, book.stands)

pub serve-told-requires-clause-understood : goal.serve-told-requires-clause-understood
serve-told-requires-clause-understood g c = c.requires.2.2

pub overflow_add-held : goal.overflow_add-held
overflow_add-held g c = let few = c.requires.4 in let counted = c.requires.3.counted in omega arith

pub returns : goal.returns
returns g c = λ start log suits stands few.
    let fits : FitsSigned w64 c.now-now.result = record { sfits = c.now-now.type_inv } in
    let old = c.args.held.now in
    let asked = c.args.self.inquiry.asked.now in
    let told = c.serve-told.result in
    let seat : ℕ = c.args._seat_number in
    let s : Settings = record { policy = c.args.self.inquiry.policy.now } in
    let serves = simp to_z-of_z at (c.serve-told.ensures.serves seat) in
    let keeps = simp to_z-of_z at (c.serve-told.ensures.keeps seat) in
    let tries = simp to_z-of_z at (c.serve-told.ensures.any_moment seat) in (
      entry_at (service_on old).world seat c.now-now.result asked told (is_unavailable told),
      stands_more g.D.Disk.told g.D.Disk.faults (λ clock. g.C.Clock.tells (g.C.Clock.state clock)) start old _ log s seat c.now-now.result asked told
          (is_unavailable told) suits.0 stands (ap (λ p. record { policy = p }) suits.1) refl refl serves c.now-now.ensures
          c.serve-told.ensures.rose keeps tries,
      refl,
      (refl, refl),
    )
