-- Tokens that a reader hands out are copied one by one.
use Rattle.std.proofs.Common.{◌≡◌, ◌≢◌, ◌<◌, true, false, List, [], ◌∷◌, ◌++◌, length, refl, sym, ap, subst, ◌∙◌, append_assoc, append-nil, arith}
use Rattle.std.specs.List.{list_all}
use Rattle.std.proofs.lemmas.Bool.{and_parts, and_from}
use Rattle.std.proofs.lemmas.List.Folds.{list_all-append}
use Rattle.json.specs.Align.{is_good}
use Rattle.json.specs.Json.{Json, null, boolean, number, string, array, object, Items, no_items, item, Members, no_members, member}
use Rattle.json.specs.Token.{Token, bad}
use Rattle.json.specs.Tree.{json_tokens, items_tokens, members_tokens}
use Rattle.json.specs.Written.{Written}
use Rattle.token_texts.specs.Tokens.{IsAdded}

-- what is left of the tokens, behind those that were added
pub record IsCopied (old new : Written) (all left : List Token) : Type 0 where
  pub before : new.before ≡ old.before
  pub tokens : new.tokens ++ left ≡ old.tokens ++ all
  pub good : list_all is_good left ≡ true

pub copied_none : (a : Written) (all : List Token) → list_all is_good all ≡ true → IsCopied a a all all
copied_none a all good = record { before = refl; tokens = refl; good = good }

pub copied_more : {a b c : Written} {all left rest : List Token} (t : Token) → left ≡ t ∷ rest → IsCopied a b all left → IsAdded b c (t ∷ []) → IsCopied a c all rest
copied_more {a} {b} {c} {all} {left} {rest} t is p q = record {
  before = q.before ∙ p.before;
  tokens = ap (λ (ts : List Token). ts ++ rest) q.tokens ∙ append_assoc b.tokens (t ∷ []) rest ∙ ap (λ (ts : List Token). b.tokens ++ ts) (sym is) ∙ p.tokens;
  good = (and_parts (is_good t) (list_all is_good rest) (subst (λ (ts : List Token). list_all is_good ts ≡ true) is p.good)).1;
}

pub copied_all : {a b : Written} {all left : List Token} → left ≡ [] → IsCopied a b all left → IsAdded a b all
copied_all {a} {b} {all} {left} is p = record {
  before = p.before;
  tokens = sym (append-nil b.tokens) ∙ ap (λ (ts : List Token). b.tokens ++ ts) (sym is) ∙ p.tokens;
}

pub not_bad : (t : Token) (left rest : List Token) → left ≡ t ∷ rest → list_all is_good left ≡ true → t ≢ bad
not_bad t left rest is good same =
    let first : is_good t ≡ true = (and_parts (is_good t) (list_all is_good rest) (subst (λ (ts : List Token). list_all is_good ts ≡ true) is good)).0 in
    let no : false ≡ true = sym (ap is_good same) ∙ first in
    cc no

pub fewer : (t : Token) (left rest : List Token) → left ≡ t ∷ rest → length rest < length left
fewer t left rest is = rw is (omega arith)

both : (xs ys : List Token) → list_all is_good xs ≡ true → list_all is_good ys ≡ true → list_all is_good (xs ++ ys) ≡ true
both xs ys one two = list_all-append is_good xs ys ∙ and_from (list_all is_good xs) (list_all is_good ys) one two

mutual
  pub good_tokens : (j : Json) → list_all is_good (json_tokens j) ≡ true
  good_tokens null = refl
  good_tokens (boolean b) = refl
  good_tokens (number s) = refl
  good_tokens (string s) = refl
  good_tokens (array js) = good_items js
  good_tokens (object ms) = good_members ms

  good_items : (js : Items) → list_all is_good (items_tokens js) ≡ true
  good_items no_items = refl
  good_items (item j js) = both (json_tokens j) (items_tokens js) (good_tokens j) (good_items js)

  good_members : (ms : Members) → list_all is_good (members_tokens ms) ≡ true
  good_members no_members = refl
  good_members (member k j ms) = both (json_tokens j) (members_tokens ms) (good_tokens j) (good_members ms)
