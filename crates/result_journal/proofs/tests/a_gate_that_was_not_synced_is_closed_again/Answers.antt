use Rattle.result_journal.proofs.tests.a_gate_that_was_not_synced_is_closed_again.Goals as goal

pub append-requires-clause-stands : goal.append-requires-clause-stands
append-requires-clause-stands g c =
    let still = c.next.ensures.still in
    (still.0, c.prepare_record.ensures.commands still.0 (c.ready-journal.ensures.stands still.0 still.1))
