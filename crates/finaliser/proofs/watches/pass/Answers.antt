use Rattle.std.proofs.Common.{refl, arith}
use Rattle.std.proofs.lemmas.List.Elements.{All-more}
use Rattle.names_realms.specs.declared.states.State.TheVariants.{Finalized}
use Rattle.finaliser.specs.Settling.{IsIn}
use Rattle.finaliser.proofs.watches.pass.Goals as goal

pub passed-preserved : goal.passed-preserved
passed-preserved c = record {
  few = omega (arith, c.passed-test.true);
  passed = All-more (IsIn Finalized c.args.states.now) c.args.targets.now c.passed.place 0 c.passed-test.true c.passed.invariant.passed
      (c.if-not-is_final.ensures.0 refl);
}
