use Rattle.std.proofs.Common.{◌≡◌, ◌<◌, ◌≤◌, ◌+◌, ℕ, List, Less, Equal, Greater, get_or, length, sym, subst, arith}
use Rattle.std.specs.List.{insert}
use Rattle.std.specs.List.Sorted.{IsPartitionPoint}
use Rattle.std.proofs.lemmas.Grind.{common_steps}
use Rattle.artifacts.specs.Batches.{IsRepeat}
use Rattle.artifacts.specs.Orders.{IsFrontIndex, order_at}
use Rattle.artifacts.specs.Artifacts.{keys_of, key_of}
use Rattle.artifacts.proofs.BatchLemmas.{front_more, once_more, repeated}
use Rattle.artifacts.proofs.keys.add_next.Goals as goal

pub returns-in-Ok-clause-index : goal.returns-in-Ok-clause-index
returns-in-Ok-clause-index c =
    let keys = keys_of c.args.rows.now in
    let row = c.index-rows-next.result in
    let at = c.in-Ok.at in
    let value = c.as_slice.ensures.value in
    let low = subst (λ (ps : List ℕ). at < length ps) value c.in-Ok.ensures.0 in
    let equal = subst (λ (ps : List ℕ). (d : ℕ) → order_at keys (key_of row) (get_or ps at d) ≡ Equal) value c.in-Ok.ensures.1 in
    repeated c.args.rows.now c.args.next row c.args.order.now.items at c.index.result.now c.requires.index c.requires.once c.requires.within
    c.index-rows-next.is low equal c.index.ensures

pub returns-in-Ok-clause-once : goal.returns-in-Ok-clause-once
returns-in-Ok-clause-once c =
    let found : IsRepeat c.args.rows.now c.index.result.now c.args.next = returns-in-Ok-clause-index c in found.earlier

pub returns-in-Err-clause-index : goal.returns-in-Err-clause-index
returns-in-Err-clause-index c =
    let keys = keys_of c.args.rows.now in
    let row = c.index-rows-next.result in
    let at = c.in-Err.at in
    let old = c.args.order.now.items in
    let value = c.as_slice.ensures.value in
    let low = subst (λ (ps : List ℕ). at ≤ length ps) value c.in-Err.ensures.0 in
    let parts = subst (λ (ps : List ℕ). IsPartitionPoint (λ y. order_at keys (key_of row) y ≡ Less) (λ y. order_at keys (key_of row) y ≡ Greater) ps at) value c.in-Err.ensures.1 in
    let items : c.insert.new.self.items ≡ insert old at c.args.next = grind (arith, common_steps) in
    subst (λ (ps : List ℕ). IsFrontIndex keys (c.args.next + 1) ps) (sym items)
    (front_more c.args.rows.now c.args.next row old at c.requires.index c.requires.within c.index-rows-next.is low parts)

pub returns-in-Err-clause-once : goal.returns-in-Err-clause-once
returns-in-Err-clause-once c =
    let keys = keys_of c.args.rows.now in
    let row = c.index-rows-next.result in
    let at = c.in-Err.at in
    let value = c.as_slice.ensures.value in
    let low = subst (λ (ps : List ℕ). at ≤ length ps) value c.in-Err.ensures.0 in
    let parts = subst (λ (ps : List ℕ). IsPartitionPoint (λ y. order_at keys (key_of row) y ≡ Less) (λ y. order_at keys (key_of row) y ≡ Greater) ps at) value c.in-Err.ensures.1 in
    once_more c.args.rows.now c.args.next row c.args.order.now.items at c.requires.index c.requires.once c.requires.within c.index-rows-next.is low parts
