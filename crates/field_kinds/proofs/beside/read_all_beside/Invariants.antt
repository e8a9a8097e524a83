use Rattle.std.proofs.Common.{◌≡◌, map, drop, take}
use Rattle.serde_json.specs.View.{view}
use Rattle.json_fields.specs.Fields.{fault_from, Pairs}
use Rattle.field_kinds.proofs.beside.read_all_beside.Given as goal

abbrev pub invariant-loop-i : goal.invariant-loop-i
invariant-loop-i g l = record {
  fault : fault_from 0 (g.T.FormBeside.fault l.context) (map view l.list) ≡ fault_from l.i (g.T.FormBeside.fault l.context) (map view (drop l.i l.list));
  pairs : Pairs (g.T.FormBeside.means l.context) (map view (take l.i l.list)) l.found.items;
}
