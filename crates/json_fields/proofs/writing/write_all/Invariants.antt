use Rattle.std.proofs.Common.{◌≡◌, map, take}
use Rattle.serde_json.specs.View.{view}
use Rattle.json_fields.specs.Writing.{AllWritten}
use Rattle.json_fields.proofs.writing.write_all.Given as goal

abbrev pub invariant-loop-x : goal.invariant-loop-x
invariant-loop-x g l = record {
  values : map view l.list.items ≡ map g.T.Written.json (take l.x-index l.xs);
  again : AllWritten g.T.Form.fault g.T.Form.means g.T.Form.empty g.T.Written.blank g.T.Written.json (take l.x-index l.xs);
}
