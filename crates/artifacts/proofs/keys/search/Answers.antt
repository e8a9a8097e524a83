use Rattle.std.proofs.Common.{ℕ, rules}
use Rattle.std.proofs.lemmas.Fn.{always_returns_same}
use Rattle.artifacts.specs.Artifacts.{keys_of, named}
use Rattle.artifacts.specs.Orders.{key_at, order_at}
use Rattle.artifacts.proofs.KeyLemmas.{key_order_total}
use Rattle.lists.proofs.OrderLemmas.{slot_from_search}
use Rattle.artifacts.proofs.keys.search.Goals as goal

pub returns : goal.returns
returns c =
    let facts = c.binary_search_by.ensures in
    let keys = keys_of c.args.rows.now in
    let key = named c.args.holder c.args.name.now in
    let by_order = facts.position (λ place. order_at keys key place) (always_returns_same _ _ _ (λ a r g called. search rules)) in
    slot_from_search key_order_total (λ (p : ℕ). key_at keys p) c.args.places.now key c.binary_search_by.result c.requires facts.bound by_order
