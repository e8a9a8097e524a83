use Rattle.sink_uploads.proofs.TryLaws.{ended, read_failed, write_failed, took_nothing}
use Rattle.sink_uploads.proofs.visit.try_request.Goals as goal

pub returns-in-Err-Ended : goal.returns-in-Err-Ended
returns-in-Err-Ended g c =
    ended _ _ _ _ (g.L.Link.ends c.write_whole.new.link) _ (record {
      written = c.in-Ok.ensures.written;
      only_written = c.in-Ok.ensures.only;
      only_read = c.in-Err-Ended.ensures.only;
    }) (rw c.in-Err-Ended.field-0-is at c.in-Err-Ended.ensures.reply)

pub returns-in-Err-ReadFault : goal.returns-in-Err-ReadFault
returns-in-Err-ReadFault g c =
    read_failed _ _ _ _ (g.L.Link.ends c.write_whole.new.link) _ (record {
      written = c.in-Ok.ensures.written;
      only_written = c.in-Ok.ensures.only;
      only_read = c.in-Err-ReadFault.ensures.only;
    }) (rw c.in-Err-ReadFault.field-0-is at c.in-Err-ReadFault.ensures.reply)

pub returns-in-Err-WriteFault : goal.returns-in-Err-WriteFault
returns-in-Err-WriteFault g c =
    write_failed _ _ _ _ c.in-Err-WriteFault.ensures.only (rw c.in-Err-WriteFault.field-0-is at c.in-Err-WriteFault.ensures.written)

pub returns-in-Err-SinkTakesNothing : goal.returns-in-Err-SinkTakesNothing
returns-in-Err-SinkTakesNothing g c =
    took_nothing _ _ _ _ c.in-Err-SinkTakesNothing.ensures.only
    (rw c.in-Err-SinkTakesNothing.field-0-is at c.in-Err-SinkTakesNothing.ensures.written)
