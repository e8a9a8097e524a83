-- The orders of results, of exonerations and of verdicts.
use Rattle.std.specs.Prelude.{ℕ, Bool, false, List, [], map, slice_index_or}
use Rattle.std.specs.Ordering.{nat_cmp, bool_cmp, ordering_then}
use Rattle.std.specs.Cmp.Lexicographic.{slice_cmp}
use Rattle.std.specs.declared.cmp.Ordering.{Ordering}
use Rattle.names_realms.specs.declared.pairs.Pair.{Pair}
use Rattle.invocations.specs.Rows.{ids_of}
use Rattle.test_results.specs.declared.result.TestResult.{TestResult}
use Rattle.test_results.specs.declared.exoneration.TestExoneration.{TestExoneration}
use Rattle.verdict_lists.specs.World.{World}

-- What a result or an exoneration is put in order by: the test's id, the variant's pairs, whether a
-- result is expected, the id of the invocation that holds it, a result's id, and an exoneration's
-- place in its invocation.
pub record Key : Type 0 where
  pub test : List ℕ
  pub pairs : List Pair
  pub expected : Bool
  pub invocation : List ℕ
  pub id : List ℕ
  pub place : ℕ

abbrev pub no_key : Key
no_key = record {
  test = [];
  pairs = [];
  expected = false;
  invocation = [];
  id = [];
  place = 0;
}

-- the id of the invocation at a place
abbrev pub id_at : World → ℕ → List ℕ
id_at world place = slice_index_or (ids_of world.invocations) place []

abbrev pub result_key : World → TestResult → Key
result_key world row = record {
  test = row.test;
  pairs = row.variant;
  expected = row.expected;
  invocation = id_at world row.holder;
  id = row.result;
  place = 0;
}

abbrev pub exoneration_key : World → TestExoneration → Key
exoneration_key world row = record {
  test = row.test;
  pairs = row.variant;
  expected = false;
  invocation = id_at world row.holder;
  id = [];
  place = row.place;
}

-- the key of the result, and of the exoneration, at a place
abbrev pub result_key_at : World → ℕ → Key
result_key_at world place =
    slice_index_or (map (result_key world) world.results) place no_key

abbrev pub exoneration_key_at : World → ℕ → Key
exoneration_key_at world place =
    slice_index_or (map (exoneration_key world) world.exonerations) place no_key

-- Pairs by the bytes of their keys, then of their values.
abbrev pub pair_order : Pair → Pair → Ordering
pair_order a b =
    ordering_then (slice_cmp nat_cmp a.key b.key) (slice_cmp nat_cmp a.value b.value)

-- Variants pair by pair; of two with the same first ones, that which has no more comes first.
abbrev pub pairs_order : List Pair → List Pair → Ordering
pairs_order a b = slice_cmp pair_order a b

-- What has the same test and the same pairs belongs together.
abbrev pub group_order : Key → Key → Ordering
group_order a b = ordering_then (slice_cmp nat_cmp a.test b.test) (pairs_order a.pairs b.pairs)

abbrev pub own_order : Key → Key → Ordering
own_order a b =
    ordering_then (bool_cmp a.expected b.expected)
    (ordering_then (slice_cmp nat_cmp a.invocation b.invocation)
    (ordering_then (slice_cmp nat_cmp a.id b.id) (nat_cmp a.place b.place)))

abbrev pub key_order : Key → Key → Ordering
key_order a b = ordering_then (group_order a b) (own_order a b)

-- Results by test and variant, the unexpected ones first, then by the id of their invocation and by
-- their own. Their places would come last: in a table no two results agree in all the rest.
abbrev pub result_order : World → ℕ → ℕ → Ordering
result_order world p q =
    ordering_then (key_order (result_key_at world p) (result_key_at world q)) (nat_cmp p q)

-- Exonerations by test and variant, then by the id of their invocation and by their place in it.
abbrev pub exoneration_order : World → ℕ → ℕ → Ordering
exoneration_order world p q =
    ordering_then (key_order (exoneration_key_at world p) (exoneration_key_at world q))
    (nat_cmp p q)
