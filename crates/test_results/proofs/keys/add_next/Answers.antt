use Rattle.std.proofs.Common.{◌≡◌, ◌<◌, ◌≤◌, ◌+◌, ℕ, List, Less, Equal, Greater, get_or, length, sym, ap, ◌∙◌, subst, arith}
use Rattle.std.specs.List.{insert}
use Rattle.std.specs.List.Sorted.{IsPartitionPoint}
use Rattle.std.proofs.lemmas.Grind.{common_steps}
use Rattle.test_results.specs.Batches.{IsRepeat}
use Rattle.test_results.specs.Orders.{IsFrontIndex, order_at}
use Rattle.test_results.specs.Results.{Key, keys_of, key_of, named}
use Rattle.test_results.proofs.BatchLemmas.{front_more, once_more, repeated}
use Rattle.test_results.proofs.keys.add_next.Goals as goal

pub returns-in-Ok-clause-index : goal.returns-in-Ok-clause-index
returns-in-Ok-clause-index c =
    let keys = keys_of c.args.rows.now in
    let row = c.index-rows-next.result in
    let at = c.in-Ok.at in
    let same : named row.holder c.as_str.result.now c.as_str-2.result.now ≡ key_of row =
    ap (λ t. named row.holder t c.as_str-2.result.now) c.as_str.ensures.text ∙ ap (λ i. named row.holder row.test i) c.as_str-2.ensures.text in
    let value = c.as_slice.ensures.value in
    let low = subst (λ (ps : List ℕ). at < length ps) value c.in-Ok.ensures.0 in
    let equal = subst (λ (ps : List ℕ). (d : ℕ) → order_at keys (key_of row) (get_or ps at d) ≡ Equal) value
    (subst (λ (k : Key). (d : ℕ) → order_at keys k (get_or c.as_slice.result.now at d) ≡ Equal) same c.in-Ok.ensures.1) in
    repeated c.args.rows.now c.args.next row c.args.order.now.items at c.index.result.now c.requires.index c.requires.once c.requires.within
    c.index-rows-next.is low equal c.index.ensures

pub returns-in-Ok-clause-once : goal.returns-in-Ok-clause-once
returns-in-Ok-clause-once c =
    let found : IsRepeat c.args.rows.now c.index.result.now c.args.next = returns-in-Ok-clause-index c in found.earlier

pub returns-in-Err-clause-index : goal.returns-in-Err-clause-index
returns-in-Err-clause-index c =
    let keys = keys_of c.args.rows.now in
    let row = c.index-rows-next.result in
    let at = c.in-Err.at in
    let old = c.args.order.now.items in
    let same : named row.holder c.as_str.result.now c.as_str-2.result.now ≡ key_of row =
    ap (λ t. named row.holder t c.as_str-2.result.now) c.as_str.ensures.text ∙ ap (λ i. named row.holder row.test i) c.as_str-2.ensures.text in
    let value = c.as_slice.ensures.value in
    let low = subst (λ (ps : List ℕ). at ≤ length ps) value c.in-Err.ensures.0 in
    let parts = subst (λ (ps : List ℕ). IsPartitionPoint (λ y. order_at keys (key_of row) y ≡ Less) (λ y. order_at keys (key_of row) y ≡ Greater) ps at) value
    (subst (λ (k : Key). IsPartitionPoint (λ y. order_at keys k y ≡ Less) (λ y. order_at keys k y ≡ Greater) c.as_slice.result.now at) same c.in-Err.ensures.1) in
    let items : c.insert.new.self.items ≡ insert old at c.args.next = grind (arith, common_steps) in
    subst (λ (ps : List ℕ). IsFrontIndex keys (c.args.next + 1) ps) (sym items)
    (front_more c.args.rows.now c.args.next row old at c.requires.index c.requires.within c.index-rows-next.is low parts)

pub returns-in-Err-clause-once : goal.returns-in-Err-clause-once
returns-in-Err-clause-once c =
    let keys = keys_of c.args.rows.now in
    let row = c.index-rows-next.result in
    let at = c.in-Err.at in
    let same : named row.holder c.as_str.result.now c.as_str-2.result.now ≡ key_of row =
    ap (λ t. named row.holder t c.as_str-2.result.now) c.as_str.ensures.text ∙ ap (λ i. named row.holder row.test i) c.as_str-2.ensures.text in
    let value = c.as_slice.ensures.value in
    let low = subst (λ (ps : List ℕ). at ≤ length ps) value c.in-Err.ensures.0 in
    let parts = subst (λ (ps : List ℕ). IsPartitionPoint (λ y. order_at keys (key_of row) y ≡ Less) (λ y. order_at keys (key_of row) y ≡ Greater) ps at) value
    (subst (λ (k : Key). IsPartitionPoint (λ y. order_at keys k y ≡ Less) (λ y. order_at keys k y ≡ Greater) c.as_slice.result.now at) same c.in-Err.ensures.1) in
    once_more c.args.rows.now c.args.next row c.args.order.now.items at c.requires.index c.requires.once c.requires.within c.index-rows-next.is low parts
