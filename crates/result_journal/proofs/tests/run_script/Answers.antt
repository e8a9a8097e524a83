use Rattle.result_journal.proofs.tests.run_script.Goals as goal

pub run_commands-requires-clause-stands : goal.run_commands-requires-clause-stands
run_commands-requires-clause-stands c =
    let still = c.next.ensures.still in
    (still.0, c.ready-journal.ensures.stands still.0 still.1)
