use Rattle.std.proofs.Common.{◌≡◌, true, false, refl, sym, ap, subst, ◌∙◌}
use Rattle.call_forms.specs.declared.asked.Asked.{Asked}
use Rattle.record_desk.specs.Standing.{exchange_of}
use Rattle.turnstile.specs.Seats.{Origin}
use Rattle.service_desk.specs.Shelves.{GoesOn}
use Rattle.service_desk.specs.Turns.{HasTurn, is_spent}
use Rattle.service_desk.proofs.ShelfLaws.{had_turn, turn_unspent}
use Rattle.service_desk.proofs.desk.Desk.answer.Goals as goal

pub turn-requires-clause-suits : goal.turn-requires-clause-suits
turn-requires-clause-suits g c = (
  c.self.invariant.0,
  c.new-inquiry.ensures.policy ∙ c.self.invariant.1,
  c.new-inquiry.ensures.understood,
)

pub returns-in-Ok-clause-turn : goal.returns-in-Ok-clause-turn
returns-in-Ok-clause-turn g c = λ other.
    subst (λ (o : Origin _). HasTurn (λ e. e.seat) exchange_of
    (GoesOn g.D.Disk.told g.D.Disk.faults (λ clock. g.C.Clock.tells (g.C.Clock.state clock)) o.start) c.args.seat.now.knows
    (record { asked = c.args.asked.now; told = c.in-Ok.told }) c.turn.new.seat.knows) c.self.view_is
    (subst (λ (a : Asked). HasTurn (λ e. e.seat) exchange_of
    (GoesOn g.D.Disk.told g.D.Disk.faults (λ clock. g.C.Clock.tells (g.C.Clock.state clock)) c.self.inside.turnstile.start) c.args.seat.now.knows
    (record { asked = a; told = c.in-Ok.told }) c.turn.new.seat.knows) c.new-inquiry.ensures.asked
    (had_turn g.D.Disk.told g.D.Disk.faults (λ clock. g.C.Clock.tells (g.C.Clock.state clock)) c.self.inside.turnstile.start
    c.new-inquiry.result.asked.now c.in-Ok.told c.args.seat.now.knows c.turn.new.seat.knows c.self.invariant.0 c.in-Ok.ensures.turn
    c.in-Ok.ensures.counted))

pub returns-in-Ok-clause-spent : goal.returns-in-Ok-clause-spent
returns-in-Ok-clause-spent g c = λ is.
    let asked = c.new-inquiry.result.asked.now in
    let no : is_spent c.in-Ok.told ≡ false =
    turn_unspent g.D.Disk.told g.D.Disk.faults (λ clock. g.C.Clock.tells (g.C.Clock.state clock)) c.self.inside.turnstile.start
    (record { asked = asked; told = c.in-Ok.told }) c.args.seat.now.knows c.turn.new.seat.knows
    (had_turn g.D.Disk.told g.D.Disk.faults (λ clock. g.C.Clock.tells (g.C.Clock.state clock)) c.self.inside.turnstile.start asked c.in-Ok.told
    c.args.seat.now.knows c.turn.new.seat.knows c.self.invariant.0 c.in-Ok.ensures.turn c.in-Ok.ensures.counted) in
    let yes : true ≡ false = sym (ap is_spent is) ∙ no in absurd cc

pub returns-in-Err-clause-turn : goal.returns-in-Err-clause-turn
returns-in-Err-clause-turn g c = λ other. absurd (other refl)

pub returns-in-Err-clause-spent : goal.returns-in-Err-clause-spent
returns-in-Err-clause-spent g c = λ is. record { drawn = c.in-Err.ensures.spent.0; same = c.in-Err.ensures.spent.1 }
