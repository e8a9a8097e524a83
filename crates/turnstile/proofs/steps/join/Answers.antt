use Rattle.std.proofs.Common.{arith, ap, ◌∙◌}
use Rattle.turnstile.specs.Rule.{own_of}
use Rattle.turnstile.proofs.StepLaws.{joins, settles, meets}
use Rattle.turnstile.proofs.steps.join.Goals as goal

pub join_seat-requires : goal.join_seat-requires
join_seat-requires g c =
    let two = c.requires.table.1.0 in (
      c.requires.table.0,
      c.requires.other_table,
      ap (λ m. m.1) c.requires.other,
      omega (arith, two),
      joins _ g.T.Held.by c.args.place.now.id c.args.other.id c.args.place.now.me.0 c.args.other.me.0 (ap (λ m. m.0) c.requires.idle) (ap (λ m. m.0) c.requires.other),
    )

pub load-requires : goal.load-requires
load-requires g c =
    let two = c.requires.table.1.0 in
    let after = c.join_seat.new.seat.me in (
      c.join_seat.ensures.0 ∙ c.requires.table.0,
      omega (arith, two),
      settles _ g.T.Held.by _ c.join_seat.new.seat.id (own_of c.args.place.now.me.0) (own_of c.args.other.me.0) after (meets c.args.place.now.me c.args.other.me after c.requires.idle c.requires.other c.join_seat.ensures.2),
    )
