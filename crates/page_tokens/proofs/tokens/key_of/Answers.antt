use Rattle.std.proofs.Common.{◌≡◌, true, false, nat_eq, drop, sym, ap, ◌∙◌}
use Rattle.std.proofs.lemmas.List.{take_rest}
use Rattle.std.specs.List.{starts_with}
use Rattle.page_tokens.specs.Tokens.{rest_place}
use Rattle.page_tokens.proofs.TokenLemmas.{at_front, is_token, no_key, other_query}
use Rattle.page_tokens.proofs.tokens.key_of.Goals as goal

pub returns-in-Some-clause-err : goal.returns-in-Some-clause-err
returns-in-Some-clause-err c parts =
    at_front c.args.query.now c.args.bytes.now c.args.kind parts c.in-Some.at (sym c.front_place.ensures ∙ c.in-Some.is)

pub returns-then-not-is_of_query-clause-err : goal.returns-then-not-is_of_query-clause-err
returns-then-not-is_of_query-clause-err c parts =
    let other : starts_with nat_eq (drop 1 c.args.bytes.now) c.args.query.now ≡ false =
    ap (starts_with nat_eq (drop 1 c.args.bytes.now)) (sym c.as_slice-hash.ensures.hash) ∙ sym c.is_of_query.ensures ∙ c.if-not-is_of_query.true in
    other_query c.args.query.now c.args.bytes.now c.args.kind parts (sym c.front_place.ensures ∙ c.in_default.is) other

pub returns-in-Some-behind_kind-clause-ok : goal.returns-in-Some-behind_kind-clause-ok
returns-in-Some-behind_kind-clause-ok c =
    let asked : starts_with nat_eq (drop 1 c.args.bytes.now) c.args.query.now ≡ true =
    ap (starts_with nat_eq (drop 1 c.args.bytes.now)) (sym c.as_slice-hash.ensures.hash) ∙ sym c.is_of_query.ensures ∙ c.if-not-is_of_query.false in
    is_token c.args.query.now c.args.bytes.now c.args.kind c.in-Some-behind_kind.key.now c.as_slice-hash.ensures.len (sym c.front_place.ensures ∙ c.in_default.is)
    asked (sym (take_rest c.args.bytes.now 33) ∙ c.in-Some-behind_kind.ensures)

pub returns-in-None-clause-err : goal.returns-in-None-clause-err
returns-in-None-clause-err c parts =
    let asked : starts_with nat_eq (drop 1 c.args.bytes.now) c.args.query.now ≡ true =
    ap (starts_with nat_eq (drop 1 c.args.bytes.now)) (sym c.as_slice-hash.ensures.hash) ∙ sym c.is_of_query.ensures ∙ c.if-not-is_of_query.false in
    no_key c.args.query.now c.args.bytes.now c.args.kind parts (sym c.front_place.ensures ∙ c.in_default.is) asked
    (ap (rest_place c.args.kind parts) (sym (take_rest c.args.bytes.now 33)) ∙ c.in-None.ensures parts)
