use Rattle.std.proofs.Common.{◌≡◌, ◌++◌, map}
use Rattle.std.specs.Prelude.{IsPermutation}
use Rattle.std.specs.List.Sorted.{IsStrictlySortedBy}
use Rattle.std.specs.Map.{keys_of}
use Rattle.names_realms.specs.Variants.{pair_of}
use Rattle.names_realms.proofs.VariantLemmas.{key_cmp}
use Rattle.names_realms.proofs.variants.Variant.put_in_order.Given as goal

abbrev pub invariant-loop-pair : goal.invariant-loop-pair
invariant-loop-pair l = record {
  same : IsPermutation l.yielded (map pair_of l.sorted.entries);
  ordered : IsStrictlySortedBy key_cmp (keys_of l.sorted.entries);
  whole : l.fn.pairs.items ≡ l.yielded ++ l.pair-iterator.rest.items;
}
