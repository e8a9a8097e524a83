use Rattle.std.proofs.Common.{ℕ, List, take, ◌-◌, subst}
use Rattle.disks.specs.Parts.{part_of}
use Rattle.disks.specs.Calls.{Gives}
use Rattle.disks.proofs.AheadLaws.{given_held}
use Rattle.disks.proofs.ahead.ReadAhead.read.Goals as goal

pub returns-then-holds-clause-gives : goal.returns-then-holds-clause-gives
returns-then-holds-clause-gives g c = λ t is.
    let there = c.holds.ensures.0 c.if-holds.true in
    let ahead = c.args.self.now in
    given_held (part_of t.now c.args.part).bytes ahead c.args.at c.give.new.room c.give.result
    (c.requires.ahead t is) ahead.within there.0 there.1
    (subst (λ (l : List ℕ). Gives (take ahead.count l) (c.args.at - ahead.from) c.give.new.room c.give.result)
    c.deref.ensures.value c.give.ensures.gives)
