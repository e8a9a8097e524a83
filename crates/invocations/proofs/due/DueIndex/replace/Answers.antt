use Rattle.invocations.proofs.due.DueIndex.replace.Goals as goal

pub add-requires-clause-absent : goal.add-requires-clause-absent
add-requires-clause-absent c = λ held.
    let old = (c.remove.ensures.entries c.args.to).0 held in old.1 (c.requires.absent old.0)
