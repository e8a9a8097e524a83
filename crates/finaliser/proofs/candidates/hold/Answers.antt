use Rattle.finaliser.proofs.CandidateLemmas.{held_are}
use Rattle.finaliser.proofs.candidates.hold.Goals as goal

pub returns-clause-held : goal.returns-clause-held
returns-clause-held c =
    held_are c.args.graph.now.edges c.args.states.now c.args.found.now.nodes c.args.held.now c.add_held_up.new.held c.hold_all.new.held c.requires.none
    c.add_held_up.ensures.grown c.add_held_up.ensures.there c.hold_all.ensures.grown c.hold_all.ensures.closed
