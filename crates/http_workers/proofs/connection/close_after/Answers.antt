use Rattle.http_workers.proofs.ClosingLaws.{closes_cut, closes_unread, closes_told}
use Rattle.http_workers.proofs.connection.close_after.Goals as goal

pub returns-in-CutShort-clause-closes : goal.returns-in-CutShort-clause-closes
returns-in-CutShort-clause-closes g c = closes_cut c.args.fault c.in-CutShort.have _ c.in-CutShort.is

pub returns-in-ReadFault-clause-closes : goal.returns-in-ReadFault-clause-closes
returns-in-ReadFault-clause-closes g c = closes_unread c.args.fault _ c.in-ReadFault.is

pub returns-in_default-clause-closes : goal.returns-in_default-clause-closes
returns-in_default-clause-closes g c =
    closes_told c.args.fault c.write_farewell.result _ _ c.in_default.not-CutShort c.in_default.not-ReadFault c.in_default.not-Memory c.write_farewell.ensures.written
