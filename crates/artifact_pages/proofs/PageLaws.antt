-- Each question has one page.
use Rattle.std.proofs.Common.{◌≡◌, ◌<◌, ℕ, Bool, true, false, nat_lt, List, [], ◌∷◌, map, length, take, get_or, Option, Some, refl, sym, ap, ◌∙◌, subst, arith}
use Rattle.std.specs.Prelude.{slice_get}
use Rattle.std.specs.List.{All}
use Rattle.std.proofs.lemmas.Bool.{ltb-true, lt-ltb}
use Rattle.std.proofs.lemmas.List.Elements.{All-head, All-tail}
use Rattle.std.proofs.lemmas.Option.{slice_get-get_or}
use Rattle.artifacts.specs.declared.artifact.Artifact.{Artifact}
use Rattle.artifacts.specs.Pages.{IsPage}
use Rattle.artifact_pages.specs.declared.queries.ArtifactQuery.{ArtifactQuery}
use Rattle.artifact_pages.specs.Pages.{next_token, IsShownPage}
use Rattle.artifact_pages.specs.Laws.{OnePage, APageIsThere}
use Rattle.artifact_pages.proofs.ListingLaws.{a_listing, listing_from, one_listing, places_within}

same_bool : (b c : Bool) → (b ≡ true → c ≡ true) → (c ≡ true → b ≡ true) → b ≡ c
same_bool true c f g = sym (f refl)
same_bool false true f g = g refl
same_bool false false f g = refl

same_rows : (xs ys : List Artifact) → map Some xs ≡ map Some ys → xs ≡ ys
same_rows [] [] e = refl
same_rows [] (y ∷ ys) e = absurd cc
same_rows (x ∷ xs) [] e = absurd cc
same_rows (x ∷ xs) (y ∷ ys) e =
    let one : x ≡ y = cc in
    let rest : map Some xs ≡ map Some ys = cc in
    let others : xs ≡ ys = same_rows xs ys rest in
    λ i. one i ∷ others i

pub one_page : OnePage
one_page rows asked shown other h k =
    let all : h.all ≡ k.all = one_listing rows asked h.all k.all h.listing k.listing in
    let places : h.places ≡ k.places = h.first ∙ ap (take asked.size) all ∙ sym k.first in
    let more : h.more ≡ k.more =
    same_bool h.more k.more
    (λ t. k.left.1 (subst (λ (ps : List ℕ). asked.size < length ps) all (h.left.0 t)))
    (λ t. h.left.1 (subst (λ (ps : List ℕ). asked.size < length ps) (sym all) (k.left.0 t))) in
    let listed : map Some shown.rows ≡ map Some other.rows = sym h.rows_are ∙ ap (λ (ps : List ℕ). map (slice_get rows) ps) places ∙ k.rows_are in
    let same : shown.rows ≡ other.rows = same_rows shown.rows other.rows listed in
    let next : shown.next ≡ other.next =
    h.next_is ∙ ap (λ (ps : List ℕ). next_token rows asked.query ps h.more) places ∙ ap (next_token rows asked.query k.places) more ∙ sym k.next_is in
    λ i. record { rows = same i; next = next i }

-- the rows at places
picked : (rows : List Artifact) (places : List ℕ) → All (λ place. place < length rows) places → (shown : List Artifact) × (map (slice_get rows) places ≡ map Some shown)
picked rows [] all = ([], refl)
picked [] (p ∷ places) all = absurd (let lt = All-head (λ place. place < 0) p places all in omega (arith, lt))
picked (r ∷ rows) (p ∷ places) all =
    let lt : p < length (r ∷ rows) = All-head (λ place. place < length (r ∷ rows)) p places all in
    let rest = picked (r ∷ rows) places (All-tail (λ place. place < length (r ∷ rows)) p places all) in
    let this = slice_get-get_or (r ∷ rows) p r lt in
    (get_or (r ∷ rows) p r ∷ rest.0, λ i. this i ∷ rest.1 i)

pub a_page_is_there : APageIsThere
a_page_is_there rows asked =
    let listing = a_listing rows asked in
    let all : List ℕ = listing.0 in
    let places : List ℕ = take asked.size all in
    let more : Bool = nat_lt asked.size (length all) in
    let shown = picked rows places (places_within rows asked all asked.size listing.1) in (
      record { rows = shown.0; next = next_token rows asked.query places more },
      record {
        all = all;
        listing = listing.1;
        places = places;
        first = refl;
        more = more;
        left = (ltb-true asked.size (length all), lt-ltb asked.size (length all));
        rows_are = shown.1;
        next_is = refl;
      },
    )

-- rows that were found are those of the page
mapped : {B : Type 0} (f : B → Artifact) (xs : List B) → map (λ x. Some (f x)) xs ≡ map Some (map f xs)
mapped f [] = refl
mapped f (x ∷ xs) = ap (λ (os : List (Option Artifact)). Some (f x) ∷ os) (mapped f xs)

pub shown_page : {B : Type 0} (f : B → Artifact) (rows : List Artifact) (asked : ArtifactQuery) (items : List B) (next : Option (List ℕ)) (places : List ℕ) (more : Bool)
    → IsPage rows asked.holder asked.parent asked.after asked.size places more → map (λ x. Some (f x)) items ≡ map (slice_get rows) places
    → next ≡ next_token rows asked.query places more → IsShownPage rows asked (record { rows = map f items; next = next })
shown_page f rows asked items next places more page found is =
    record {
      all = page.all;
      listing = listing_from rows asked page.all page.listing;
      places = places;
      first = page.first;
      more = more;
      left = page.left;
      rows_are = sym found ∙ mapped f items;
      next_is = is;
    }
