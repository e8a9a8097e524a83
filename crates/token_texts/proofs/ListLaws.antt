-- Rows, one behind the other.
use Rattle.std.proofs.Common.{◌≡◌, ◌≤◌, ◌<◌, ◌+◌, ◌==◌, ℕ, false, List, [], ◌∷◌, ◌++◌, take, get_or, length, map, refl, sym, ap, ◌∙◌, append_assoc}
use Rattle.std.specs.List.{flat_map}
use Rattle.std.proofs.lemmas.List.{take_more, take_all, flat_map_more}
use Rattle.json.specs.Token.{Token, key, begin_array, end_array}
use Rattle.json.specs.Tree.{items_tokens}
use Rattle.json.specs.Written.{Written}
use Rattle.serde_json.specs.Data.{Data}
use Rattle.serde_json.specs.View.{items_of}
use Rattle.serde_json.specs.Written.{items_outline}
use Rattle.pair_kinds.specs.JsonFields.Writing.{list_data}
use Rattle.token_texts.specs.Tokens.{tokens_of, member_tokens, list_shown, IsAdded}
use Rattle.token_texts.proofs.TokenLaws.{added_none, added_as, also}

module _ {A : Type 0} (f : A → List Token) (rows : List A) where
  pub rows_none : (a : Written) → IsAdded a a (flat_map f (take 0 rows))
  rows_none a = added_none a

  pub rows_more : {a b c : Written} (i : ℕ) (x : A) → i < length rows → x ≡ get_or rows i x → IsAdded a b (flat_map f (take i rows)) → IsAdded b c (f x)
      → IsAdded a c (flat_map f (take (i + 1) rows))
  rows_more i x lt is done next =
      let one : flat_map f (take i rows) ++ f x ≡ flat_map f (take i rows ++ x ∷ []) = flat_map_more f [] (take i rows) x in
      let two : take i rows ++ x ∷ [] ≡ take (i + 1) rows = ap (λ (y : A). take i rows ++ y ∷ []) is ∙ sym (take_more rows i x lt) in
      added_as (one ∙ ap (flat_map f) two) (also done next)

  pub rows_all : {a b : Written} (i : ℕ) → length rows ≤ i → IsAdded a b (flat_map f (take i rows)) → IsAdded a b (flat_map f rows)
  rows_all i ge done = added_as (ap (flat_map f) (take_all i rows ge)) done

-- the tokens of a list
items : {A : Type 0} (json : A → Data) (xs : List A) → items_tokens (items_outline (items_of (map json xs))) ≡ flat_map (λ (x : A). tokens_of (json x)) xs ++ end_array ∷ []
items json [] = refl
items json (x ∷ xs) = ap (λ (ts : List Token). tokens_of (json x) ++ ts) (items json xs) ∙ sym (append_assoc (tokens_of (json x)) _ (end_array ∷ []))

pub list_tokens : {A : Type 0} (json : A → Data) (xs : List A) → tokens_of (list_data json xs) ≡ begin_array ∷ (flat_map (λ (x : A). tokens_of (json x)) xs ++ end_array ∷ [])
list_tokens json xs = ap (λ (ts : List Token). begin_array ∷ ts) (items json xs)

-- a member that is a list, where there is any row
pub list_member : {A : Type 0} (json : A → Data) (name : List ℕ) (xs : List A) → (length xs == 0) ≡ false
    → key name ∷ begin_array ∷ (flat_map (λ (x : A). tokens_of (json x)) xs ++ end_array ∷ []) ≡ member_tokens name (list_shown json xs)
list_member json name [] some = absurd cc
list_member json name (x ∷ xs) some = ap (λ (ts : List Token). key name ∷ ts) (sym (list_tokens json (x ∷ xs)))
