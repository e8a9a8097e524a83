use Rattle.std.proofs.Common.{List, subst}
use Rattle.std.proofs.lemmas.Result.{on_ok_weaker}
use Rattle.json_fields.specs.Writing.{AllWritten}
use Rattle.json_fields.proofs.WriteLaws.{listed_written}
use Rattle.json_fields.proofs.writing.ListedWritten.write.Goals as goal

pub returns-clause-again : goal.returns-clause-again
returns-clause-again g c =
    on_ok_weaker c.write_all.result (λ all. listed_written g.T.Form.fault g.T.Form.means g.T.Form.empty g.T.Written.blank g.T.Written.json c.args.self.now
    (subst (λ (xs : List g.row.T.Denot). AllWritten g.T.Form.fault g.T.Form.means g.T.Form.empty g.T.Written.blank g.T.Written.json xs) c.as_slice.ensures all)) c.write_all.ensures.again
