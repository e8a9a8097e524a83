use Rattle.std.proofs.Common.{◌≡◌, ◌+◌, List, [], ◌∷◌, ◌++◌, length, map, cond, btree_map_len, append-nil, sym, ap, subst, ◌∙◌, arith, append_assoc}
use Rattle.std.specs.Prelude.{IsPermutation}
use Rattle.std.proofs.lemmas.List.{length-map, nil_from_length}
use Rattle.std.proofs.lemmas.List.Sorted.{length_permutation}
use Rattle.name_parts.specs.declared.faults.NameFault.TheVariants.{NotCanonical}
use Rattle.names_realms.specs.declared.pairs.Pair.{Pair}
use Rattle.names_realms.specs.Variants.{IsAscending, pair_of}
use Rattle.names_realms.proofs.VariantLemmas.{ascending_entries, first_repeat, none_of, one_more, some_of}
use Rattle.names_realms.proofs.variants.Variant.put_in_order.Goals as goal

pub loop-pair-preserved : goal.loop-pair-preserved
loop-pair-preserved c =
    let pair = c.in-Some.pair in
    let passed = c.loop-pair.yielded in
    let next : c.loop-pair.pair-iterator.rest.items ≡ pair ∷ c.next.new.self.rest.items = c.in-Some.ensures.steps.0 in
    let more = one_more passed c.loop-pair.sorted.entries c.into_vec.result pair c.into_vec.ensures (sym c.in_ok-insert.ensures.old ∙ none_of _ (sym c.is_some.ensures ∙ c.if-is_some.false)) c.loop-pair.invariant.same in
    record {
      same = subst (λ es. IsPermutation (passed ++ pair ∷ []) (map pair_of es)) (sym c.in_ok-insert.ensures.entries) more;
      ordered = c.in_ok-insert.ensures.ordered;
      whole = c.loop-pair.invariant.whole ∙ ap (λ (ps : List Pair). passed ++ ps) next ∙ sym (append_assoc passed (pair ∷ []) c.next.new.self.rest.items);
    }

pub returns-then-is_some-clause-fault : goal.returns-then-is_some-clause-fault
returns-then-is_some-clause-fault c _ =
    let pair = c.in-Some.pair in
    let passed = c.loop-pair.yielded in
    let entries = c.loop-pair.sorted.entries in
    let next : c.loop-pair.pair-iterator.rest.items ≡ pair ∷ c.next.new.self.rest.items = c.in-Some.ensures.steps.0 in
    let whole = c.loop-pair.invariant.whole ∙ ap (λ (ps : List Pair). passed ++ ps) next in
    let old = some_of c.in_ok-insert.field-0 (sym c.is_some.ensures ∙ c.if-is_some.true) in
    let kept = subst (λ t. btree_map_len c.insert.new.self ≡ btree_map_len c.loop-pair.sorted + cond t 0 1) (sym c.if-is_some.ensures) c.in_ok-insert.ensures.len in
    let count : c.len.result ≡ length passed = omega (arith, c.len.ensures.len, kept, length-map entries pair_of, length_permutation passed (map pair_of entries) c.loop-pair.invariant.same) in (
      length passed,
      ap NotCanonical count,
      first_repeat c.args.pairs.items passed c.next.new.self.rest.items entries c.into_vec.result pair old.0 whole c.into_vec.ensures (sym c.in_ok-insert.ensures.old ∙ old.1) c.loop-pair.invariant.same c.loop-pair.invariant.ordered,
    )

pub of_rising-requires : goal.of_rising-requires
of_rising-requires c =
    subst (λ (ps : List Pair). IsAscending ps) (sym c.in_ok-pairs.ensures) (ascending_entries c.loop-pair.sorted.entries c.loop-pair.invariant.ordered)

pub returns-clause-ok : goal.returns-clause-ok
returns-clause-ok c =
    let entries = c.loop-pair.sorted.entries in
    let none : c.loop-pair.pair-iterator.rest.items ≡ [] = nil_from_length c.loop-pair.pair-iterator.rest.items (omega (arith, c.in-None.ensures.steps.0, c.loop-pair.pair-iterator.rest.ok.0)) in
    let all : c.args.pairs.items ≡ c.loop-pair.yielded = c.loop-pair.invariant.whole ∙ ap (λ (ps : List Pair). c.loop-pair.yielded ++ ps) none ∙ append-nil c.loop-pair.yielded in
    let both : IsPermutation c.args.pairs.items (map pair_of entries) × IsAscending (map pair_of entries) =
    (subst (λ (ps : List Pair). IsPermutation ps (map pair_of entries)) (sym all) c.loop-pair.invariant.same, ascending_entries entries c.loop-pair.invariant.ordered) in
    subst (λ (ps : List Pair). IsPermutation c.args.pairs.items ps × IsAscending ps) (sym (c.of_rising.ensures ∙ c.in_ok-pairs.ensures)) both
