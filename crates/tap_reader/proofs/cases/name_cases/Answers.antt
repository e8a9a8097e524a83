use Rattle.std.proofs.Common.{arith}
use Rattle.tap_reader.specs.NamingViews.{names_of}
use Rattle.tap_reader.proofs.NamingLemmas.{naming_step}
use Rattle.tap_reader.proofs.cases.name_cases.Goals as goal

pub loop-at-preserved : goal.loop-at-preserved
loop-at-preserved c =
    let h = naming_step c.args.entries.now c.loop-at.at _ (names_of c.loop-at.path.items) (names_of c.take_entry.new.path.items) c.loop-at.cases.items c.take_entry.new.cases.items c.loop-at-test.true c.loop-at.invariant.within c.loop-at.invariant.cases c.loop-at.invariant.path c.in_ok-take_entry.ensures.cases c.in_ok-take_entry.ensures.path in
    record { within = omega (arith, c.loop-at.invariant.within); cases = h.0; path = h.1 }
