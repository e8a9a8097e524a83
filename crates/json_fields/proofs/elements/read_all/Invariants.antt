use Rattle.std.proofs.Common.{◌≡◌, map, drop, take}
use Rattle.serde_json.specs.View.{view}
use Rattle.json_fields.specs.Fields.{fault_from, Pairs}
use Rattle.json_fields.proofs.elements.read_all.Given as goal

abbrev pub invariant-loop-i : goal.invariant-loop-i
invariant-loop-i g l = record {
  fault : fault_from 0 g.T.Form.fault (map view l.list) ≡ fault_from l.i g.T.Form.fault (map view (drop l.i l.list));
  pairs : Pairs g.T.Form.means (map view (take l.i l.list)) l.found.items;
}
