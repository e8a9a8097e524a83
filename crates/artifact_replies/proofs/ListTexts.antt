-- The texts of lists of artifacts.
use Rattle.std.proofs.Common.{◌≡◌, ◌<◌, ◌≤◌, ◌+◌, ℕ, Bool, true, false, not, nat_lt, List, [], ◌∷◌, ◌++◌, map, drop, get_or, length, codes, Option, Some, None, option_map, refl, sym, ap, subst, ◌∙◌, append_assoc, arith, ◌==◌}
use Rattle.std.proofs.lemmas.Bool.Decides.{nat_tests}
use Rattle.std.proofs.lemmas.List.{drop_more, drop_all, length-map}
use Rattle.serde_json.specs.Data.{string}
use Rattle.serde_json.specs.View.{items_of}
use Rattle.serde_json.specs.Written.{comma_if, compact_text, items_text}
use Rattle.json_fields.specs.Writing.{list_data}
use Rattle.artifacts.specs.declared.artifact.Artifact.{Artifact}
use Rattle.artifact_replies.specs.Replies.{line_data, rows_shown, artifacts_data}
use Rattle.artifact_replies.specs.Names.{artifacts, next_page_token}
use Rattle.artifact_replies.specs.Texts.{member_text}
use Rattle.artifact_replies.proofs.ObjectLaws.{object_text}

-- what is still to be written of a list, from an artifact on
abbrev pub rest_text : Bool → List Artifact → List ℕ
rest_text later rows = items_text later (items_of (map line_data rows))

-- one more line
pub line_more : (later : Bool) (a : Artifact) (rows : List Artifact) (out one two whole : List ℕ) → out ++ rest_text later (a ∷ rows) ≡ whole
    → one ≡ out ++ comma_if later → two ≡ one ++ compact_text (line_data a) → two ++ rest_text true rows ≡ whole
line_more later a rows out one two whole given e1 e2 =
    let regrouped : out ++ comma_if later ++ compact_text (line_data a) ++ rest_text true rows ≡ out ++ rest_text later (a ∷ rows) = simp append_assoc in
    rw (e2, e1) (regrouped ∙ given)

module _ {B : Type 0} (f : B → Artifact) (rows : List B) where
  pub opened : (old out : List ℕ) → out ≡ old ++ codes "[" → out ++ rest_text false (map f rows) ≡ old ++ 91 ∷ rest_text false (map f rows)
  opened old out e = rw e (append_assoc old (91 ∷ []) (rest_text false (map f rows)))

  pub rows_more : (i : ℕ) (x : B) (out one two whole : List ℕ) → i < length rows → x ≡ get_or rows i x
      → out ++ rest_text (nat_lt 0 i) (map f (drop i rows)) ≡ whole → one ≡ out ++ comma_if (nat_lt 0 i) → two ≡ one ++ compact_text (line_data (f x))
      → two ++ rest_text (nat_lt 0 (i + 1)) (map f (drop (i + 1) rows)) ≡ whole
  rows_more i x out one two whole lt is given e1 e2 =
      let left : drop i rows ≡ x ∷ drop (i + 1) rows = drop_more rows i x lt ∙ ap (λ (y : B). y ∷ drop (i + 1) rows) (sym is) in
      let before : out ++ rest_text (nat_lt 0 i) (f x ∷ map f (drop (i + 1) rows)) ≡ whole =
      subst (λ (bs : List B). out ++ rest_text (nat_lt 0 i) (map f bs) ≡ whole) left given in
      let later : nat_lt 0 (i + 1) ≡ true = grind (arith, nat_tests) in
      rw later (line_more (nat_lt 0 i) (f x) (map f (drop (i + 1) rows)) out one two whole before e1 e2)

  pub closed : (i : ℕ) (later : Bool) (out after whole : List ℕ) → length rows ≤ i → out ++ rest_text later (map f (drop i rows)) ≡ whole
      → after ≡ out ++ codes "]" → after ≡ whole
  closed i later out after whole ge given e =
      e ∙ subst (λ (bs : List B). out ++ rest_text later (map f bs) ≡ whole) (drop_all i rows ge) given

  pub later_is : (xs : List B) (t : Bool) → xs ≡ rows → t ≡ (length xs == 0) → not t ≡ not (length (map f rows) == 0)
  later_is xs t e is = rw (is, e, length-map rows f) refl

-- ---- the object

behind_open : (old t : List ℕ) → old ++ 123 ∷ [] ++ t ++ 125 ∷ [] ≡ old ++ 123 ∷ (t ++ 125 ∷ [])
behind_open old t = simp append_assoc

-- without rows, and with some
next_alone : (next : Option (List ℕ)) → compact_text (artifacts_data (record { rows = []; next = next }))
    ≡ 123 ∷ (member_text false (codes "nextPageToken") (option_map string next) ++ 125 ∷ [])
next_alone None = refl
next_alone (Some text) = object_text next_page_token (string text) [] (tt, tt)

rows_first : (a : Artifact) (rows : List Artifact) (next : Option (List ℕ)) → compact_text (artifacts_data (record { rows = a ∷ rows; next = next }))
    ≡ 123 ∷ (member_text false (codes "artifacts") (rows_shown (a ∷ rows)) ++ (member_text true (codes "nextPageToken") (option_map string next) ++ 125 ∷ []))
rows_first a rows next =
    object_text artifacts (list_data line_data (a ∷ rows)) ((next_page_token, option_map string next) ∷ []) ((refl, tt), (tt, tt))

regroup : (old a b : List ℕ) → old ++ 123 ∷ [] ++ a ++ b ++ 125 ∷ [] ≡ old ++ 123 ∷ (a ++ (b ++ 125 ∷ []))
regroup old a b = simp append_assoc

whole : (rows : List Artifact) (next : Option (List ℕ)) (later : Bool) (old : List ℕ) → later ≡ not (length rows == 0)
    → old ++ 123 ∷ [] ++ member_text false (codes "artifacts") (rows_shown rows) ++ member_text later (codes "nextPageToken") (option_map string next) ++ 125 ∷ []
    ≡ old ++ compact_text (artifacts_data (record { rows = rows; next = next }))
whole [] next later old e =
    rw e (regroup old [] (member_text false (codes "nextPageToken") (option_map string next)) ∙ ap (λ (t : List ℕ). old ++ t) (sym (next_alone next)))
whole (a ∷ rows) next later old e =
    let is : later ≡ true = e ∙ some a rows in
    rw is (regroup old (member_text false (codes "artifacts") (rows_shown (a ∷ rows))) (member_text true (codes "nextPageToken") (option_map string next))
    ∙ ap (λ (t : List ℕ). old ++ t) (sym (rows_first a rows next)))
  where
    some : (b : Artifact) (bs : List Artifact) → not (length (b ∷ bs) == 0) ≡ true
    some b bs = grind arith

pub list_done : (rows : List Artifact) (next : Option (List ℕ)) (later : Bool) (old o1 o2 o3 o4 : List ℕ) → later ≡ not (length rows == 0)
    → o1 ≡ old ++ codes "{" → o2 ≡ o1 ++ member_text false (codes "artifacts") (rows_shown rows)
    → o3 ≡ o2 ++ member_text later (codes "nextPageToken") (option_map string next) → o4 ≡ o3 ++ codes "}"
    → o4 ≡ old ++ compact_text (artifacts_data (record { rows = rows; next = next }))
list_done rows next later old o1 o2 o3 o4 e e1 e2 e3 e4 = rw (e4, e3, e2, e1) (whole rows next later old e)
