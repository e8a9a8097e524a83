use Rattle.std.proofs.Common.{◌≡◌, ◌-◌, ℕ, true, Less, Equal, Greater, Ordering, length, refl, sym, ◌∙◌, subst, arith}
use Rattle.std.specs.Ordering.{is_lt}
use Rattle.test_results.specs.Orders.{key_at, order_at}
use Rattle.test_results.specs.Results.{keys_of, named}
use Rattle.test_results.proofs.KeyLemmas.{key_order_total}
use Rattle.lists.proofs.OrderLemmas.{all_below}
use Rattle.test_results.proofs.keys.is_behind.Goals as goal

less_at : (o : Ordering) → is_lt o ≡ true → o ≡ Less
less_at Less e = refl
less_at Equal e = cc
less_at Greater e = cc

pub returns-in-Some : goal.returns-in-Some
returns-in-Some c = λ yes.
    let keys = keys_of c.args.rows.now in
    let key = named c.args.holder c.args.test.now c.args.id.now in
    let places = c.args.places.now in
    let item = c.in-Some.ensures.item.3 in
    let less : order_at keys key c.in-Some.last.now ≡ Less = sym c.compare.ensures ∙ less_at c.compare.result (sym c.is_lt.ensures ∙ yes) in
    all_below key_order_total (λ (p : ℕ). key_at keys p) places key (length places - 1) c.requires (omega (arith, item.0))
    (λ d. subst (λ p. order_at keys key p ≡ Less) (item.1 d) less)
