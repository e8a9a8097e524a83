use Rattle.std.proofs.Common.{refl, false, [], ◌∷◌, ◌++◌}
use Rattle.result_journal.proofs.JournalLaws.{on_each_err}
use Rattle.result_journal.proofs.OpenLaws.{going_opening, same_opening, ended_opening, ended_reads, broken_shown, given_next, shown_at}
use Rattle.result_journal.proofs.opening.Opening.next.Goals as goal

pub returns-in_err-count-clause-shown : goal.returns-in_err-count-clause-shown
returns-in_err-count-clause-shown g c =
    shown_at c.args.self.now.part (g.D.Disk.told c.args.self.now.disk) c.from_residual.result c.in_err-count.field-0.0 c.from_residual.ensures.1
    (broken_shown g.D.Disk.told c.args.self.now c.requires.0 c.requires.1 c.in_err-count.field-0.0
    c.in_err-count.ensures.found)

pub returns-in_err-count-clause-err_keeps : goal.returns-in_err-count-clause-err_keeps
returns-in_err-count-clause-err_keeps g c = on_each_err c.from_residual.result (λ given h.
    same_opening g.D.Disk.told (record c.args.self.now { is_ended = false }) c.next_length.new.self given
    c.next_length.ensures.same c.next_length.ensures.told c.next_length.ensures.ahead (going_opening g.D.Disk.told c.args.self.now given h))

pub returns-in_default-clause-keeps : goal.returns-in_default-clause-keeps
returns-in_default-clause-keeps g c = λ given h.
    ended_opening g.D.Disk.told (record c.args.self.now { is_ended = false }) c.next_length.new.self given
    c.next_length.ensures.same c.next_length.ensures.told c.next_length.ensures.ahead (going_opening g.D.Disk.told c.args.self.now given h)
    c.in_ok-count.field-0 c.in_default.is c.in_ok-count.ensures.found

pub returns-in_default-clause-all : goal.returns-in_default-clause-all
returns-in_default-clause-all g c = λ given h.
    ended_reads g.D.Disk.told c.args.self.now given h c.in_ok-count.field-0 c.in_default.is c.in_ok-count.ensures.found

pub returns-in_err-into-clause-err_keeps : goal.returns-in_err-into-clause-err_keeps
returns-in_err-into-clause-err_keeps g c = on_each_err c.from_residual-in_err-into.result (λ given h.
    same_opening g.D.Disk.told c.next_length.new.self c.body.new.self given c.body.ensures.same c.body.ensures.told c.body.ensures.ahead
    (same_opening g.D.Disk.told (record c.args.self.now { is_ended = false }) c.next_length.new.self given
    c.next_length.ensures.same c.next_length.ensures.told c.next_length.ensures.ahead (going_opening g.D.Disk.told c.args.self.now given h)))

pub returns-clause-gives : goal.returns-clause-gives
returns-clause-gives g c = λ given h.
    given_next g.D.Disk.told (record c.args.self.now { is_ended = false }) c.next_length.new.self c.body.new.self given
    c.in_ok-count.field-0 c.in-Some.count c.in_ok-into.field-0.items
    (going_opening g.D.Disk.told c.args.self.now given h) refl c.next_length.ensures.same c.next_length.ensures.told c.next_length.ensures.ahead
    c.body.ensures.same c.body.ensures.told c.body.ensures.ahead c.in-Some.is c.in_ok-count.ensures.inside c.in_ok-count.ensures.found
    c.in_ok-into.ensures.body

pub returns-in_err-count-clause-still : goal.returns-in_err-count-clause-still
returns-in_err-count-clause-still g c = (
  c.requires.0,
  same_opening g.D.Disk.told (record c.args.self.now { is_ended = false }) c.next_length.new.self c.requires.0
      c.next_length.ensures.same c.next_length.ensures.told c.next_length.ensures.ahead
      (going_opening g.D.Disk.told c.args.self.now c.requires.0 c.requires.1),
)

pub returns-in_default-clause-still : goal.returns-in_default-clause-still
returns-in_default-clause-still g c = (
  c.requires.0,
  ended_opening g.D.Disk.told (record c.args.self.now { is_ended = false }) c.next_length.new.self c.requires.0
      c.next_length.ensures.same c.next_length.ensures.told c.next_length.ensures.ahead
      (going_opening g.D.Disk.told c.args.self.now c.requires.0 c.requires.1)
      c.in_ok-count.field-0 c.in_default.is c.in_ok-count.ensures.found,
)

pub returns-in_err-into-clause-still : goal.returns-in_err-into-clause-still
returns-in_err-into-clause-still g c = (
  c.requires.0,
  same_opening g.D.Disk.told c.next_length.new.self c.body.new.self c.requires.0 c.body.ensures.same c.body.ensures.told c.body.ensures.ahead
      (same_opening g.D.Disk.told (record c.args.self.now { is_ended = false }) c.next_length.new.self c.requires.0
      c.next_length.ensures.same c.next_length.ensures.told c.next_length.ensures.ahead
      (going_opening g.D.Disk.told c.args.self.now c.requires.0 c.requires.1)),
)

pub returns-clause-still : goal.returns-clause-still
returns-clause-still g c = (
  c.requires.0 ++ c.in_ok-into.field-0.items ∷ [],
  given_next g.D.Disk.told (record c.args.self.now { is_ended = false }) c.next_length.new.self c.body.new.self c.requires.0
      c.in_ok-count.field-0 c.in-Some.count c.in_ok-into.field-0.items
      (going_opening g.D.Disk.told c.args.self.now c.requires.0 c.requires.1) refl c.next_length.ensures.same
      c.next_length.ensures.told c.next_length.ensures.ahead c.body.ensures.same c.body.ensures.told c.body.ensures.ahead c.in-Some.is c.in_ok-count.ensures.inside
      c.in_ok-count.ensures.found c.in_ok-into.ensures.body,
)
