use Rattle.std.proofs.Common.{◌≡◌, ◌++◌}
use Rattle.serde_json.specs.View.{members_view}
use Rattle.field_kinds.specs.Variants.{pairs_of, pairs_fault, AreOfGrammar}
use Rattle.field_kinds.proofs.variants.read_pairs.Given as goal

-- what is read so far, with what is to come, is all of it; what is read so far has no fault
abbrev pub invariant-loop-key : goal.invariant-loop-key
invariant-loop-key l = record {
  pairs : l.pairs.items ++ pairs_of (members_view l.key-iterator) ≡ pairs_of (members_view l.map.entries);
  fault : pairs_fault (pairs_of (members_view l.map.entries)) ≡ pairs_fault (pairs_of (members_view l.key-iterator));
  grammar : AreOfGrammar l.pairs.items;
}
