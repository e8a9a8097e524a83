-- Artifacts that look alike are found alike, and lists show the same of them; one that is shown whole is the same.
use Rattle.std.proofs.Common.{◌≡◌, ◌==◌, ◌&&◌, ◌-◌, if◌then◌else◌, ℕ, Bool, List, [], ◌∷◌, ◌++◌, length, map, Option, Some, None, inl, inr, refl, sym, ap, ◌∙◌, subst}
use Rattle.std.specs.Prelude.{◌↔◌, Contains, slice_get, slice_index_or}
use Rattle.std.specs.Cmp.Lexicographic.{slice_cmp}
use Rattle.std.specs.List.{AllZip}
use Rattle.std.specs.Ordering.{nat_cmp, ordering_then}
use Rattle.std.specs.Str.{bytes_eq}
use Rattle.artifact_forms.specs.Tokens.{token_text}
use Rattle.artifact_forms.specs.declared.named.GetArtifact.{GetArtifact}
use Rattle.service_laws.specs.ArtifactPages.Pages.{IsShownPage, IsWholeListing, next_token}
use Rattle.service_laws.specs.ArtifactPages.declared.queries.ArtifactQuery.{ArtifactQuery}
use Rattle.artifact_replies.proofs.AlikeLaws.{lists_hide_contents}
use Rattle.artifact_replies.specs.Laws.{AreAlike}
use Rattle.artifact_replies.specs.Replies.{ArtifactsShown, artifacts_data}
use Rattle.artifacts.specs.declared.artifact.Artifact.{Artifact}
use Rattle.artifacts.specs.Artifacts.{Key, key_of, keys_of, named}
use Rattle.lists.specs.Orders.{IsRising}
use Rattle.artifacts.specs.Orders.{id_at, invocation_of}
use Rattle.artifacts.specs.Pages.{IsAfter}
use Rattle.invocations.specs.declared.invocation.Invocation.{Invocation}
use Rattle.json_fields.specs.Fields.{Pairs}
use Rattle.request_demands.specs.MessageForms.declared.requests.Request.TheVariants as asks
use Rattle.names_realms.specs.declared.artifact_names.ArtifactName.{ArtifactName}
use Rattle.permissions.specs.Allows.{Allows}
use Rattle.policy_checks.specs.declared.permission.Permission.TheVariants as permission
use Rattle.policy_tables.specs.declared.tables.PolicyTables.{PolicyTables}
use Rattle.query_pages.proofs.ZipLemmas.{zip_map, zip_on}
use Rattle.query_pages.specs.Unseen.{IsGranted}
use Rattle.request_demands.specs.declared.grants.Grant.TheVariants.{One}
use Rattle.request_demands.specs.Demands.{demand_of}
use Rattle.request_demands.specs.Order.{FirstOf, IsUnbroken}
use Rattle.service_laws.proofs.RequestEffects.PlaceFacts.{row_placed}
use Rattle.service_laws.proofs.RequestRules.ArtifactPlaces.{keys_decided}
use Rattle.service_laws.proofs.RequestRules.KeyPlaces.{placed_row}
use Rattle.service_laws.specs.RequestRules.Broken.{Denied, Lacks, denied}
use Rattle.service_laws.specs.RequestRules.Named.{artifact_held, is_keyed, is_same_parent, place_named, place_of_artifact, row_at}
use Rattle.service_laws.specs.RequestRules.Rights.{Right, right, rights_of}
use Rattle.restricted_fields.specs.Alike.{AreFilesLike}
use Rattle.restricted_fields.proofs.ListFacts.{zip_position}

module _ (policy : PolicyTables) (caller : ℕ) (rows : List Invocation) where
  abbrev Like : Artifact → Artifact → Type 0
  Like a b = AreFilesLike policy caller rows a b

  same_key : (a b : Artifact) → Like a b → key_of a ≡ key_of b
  same_key a b (inl same) = ap key_of same
  same_key a b (inr d) = ap (λ (h : ℕ). named h a.name) d.1 ∙ ap (named b.holder) d.2.name

  alike_as : (a b : Artifact) → Like a b → AreAlike a b
  alike_as a b (inl same) = subst (AreAlike a) same (record { name = refl; content_type = refl; size = refl })
  alike_as a b (inr d) = d.2

  -- ---- each name has one place

  abbrev is_key : Key → Key → Bool
  is_key key own =
      (own.holder == key.holder)
      && (is_same_parent own.name.parent key.name.parent && bytes_eq own.name.artifact key.name.artifact)

  files_found : (xs ys : List Artifact) (name : ArtifactName) (place : Option ℕ) → AllZip Like xs ys
      → artifact_held xs name place ≡ artifact_held ys name place
  files_found xs ys name None like = refl
  files_found xs ys name (Some holder) like =
      let key = named holder name in
      zip_position Like (is_keyed key) xs ys (λ a b s. ap (is_key key) (same_key a b s)) like

  pub found_files : (xs ys : List Artifact) (name : ArtifactName) → AllZip Like xs ys
      → place_of_artifact rows xs name ≡ place_of_artifact rows ys name
  found_files xs ys name like = files_found xs ys name (place_named rows (invocation_of name.parent)) like

  -- ---- pages

  listing_as : (xs ys : List Artifact) (asked : ArtifactQuery) (places : List ℕ) → keys_of xs ≡ keys_of ys → IsWholeListing xs asked places
      → IsWholeListing ys asked places
  listing_as xs ys asked places same l = record {
    rising = subst
        (λ (ks : List Key). IsRising (λ p q. ordering_then (slice_cmp nat_cmp (id_at ks p) (id_at ks q)) (nat_cmp p q)) places)
        same l.rising;
    whole = λ place.
        subst (λ (ks : List Key). Contains places place
        ↔ ((id : List ℕ) × (slice_get ks place ≡ Some (named asked.holder (record { parent = asked.parent; artifact = id })))
        × IsAfter asked.after id))
        same (l.whole place);
  }

  next_as : (xs ys : List Artifact) (query places : List ℕ) (more : Bool) → keys_of xs ≡ keys_of ys
      → next_token xs query places more ≡ next_token ys query places more
  next_as xs ys query [] more same = refl
  next_as xs ys query (place ∷ places) more same =
      let last = slice_index_or (place ∷ places) (length (place ∷ places) - 1) 0 in
      ap (λ (ks : List Key). if more then Some (token_text query (record { artifact = id_at ks last })) else None) same

  rows_as : (xs ys : List Artifact) → AllZip Like xs ys → (places : List ℕ) (shown : List Artifact)
      → map (slice_get xs) places ≡ map Some shown
      → (also : List Artifact) × (map (slice_get ys) places ≡ map Some also) × Pairs AreAlike shown also
  rows_as xs ys like [] [] e = ([], refl, tt)
  rows_as xs ys like [] (x ∷ shown) e = absurd cc
  rows_as xs ys like (place ∷ places) [] e = absurd cc
  rows_as xs ys like (place ∷ places) (x ∷ shown) e =
      let here : slice_get xs place ≡ Some x = cc in
      let rest : map (slice_get xs) places ≡ map Some shown = cc in
      let there = zip_on Like xs ys place x like here in
      let one : slice_get ys place ≡ Some there.0 = there.1 in
      let others = rows_as xs ys like places shown rest in
      let more : map (slice_get ys) places ≡ map Some others.0 = others.1 in
      (there.0 ∷ others.0, (λ i. one i ∷ more i), (alike_as x there.0 there.2, others.2))

  pub page_alike : (xs ys : List Artifact) (asked : ArtifactQuery) (shown : ArtifactsShown) → AllZip Like xs ys → IsShownPage xs asked shown
      → (also : ArtifactsShown) × IsShownPage ys asked also × (artifacts_data shown ≡ artifacts_data also)
  page_alike xs ys asked shown like h =
      let keys : keys_of xs ≡ keys_of ys = zip_map Like key_of xs ys same_key like in
      let found = rows_as xs ys like h.places shown.rows h.rows_are in
      let also : ArtifactsShown = record { rows = found.0; next = shown.next } in (
        also,
        record {
          all = h.all;
          listing = listing_as xs ys asked h.all keys h.listing;
          places = h.places;
          first = h.first;
          more = h.more;
          left = h.left;
          rows_are = found.1;
          next_is = h.next_is ∙ next_as xs ys asked.query h.places h.more keys;
        },
        lists_hide_contents shown also found.2 refl,
      )

  -- ---- one that is shown whole is granted

  held_by : (held : List Artifact) (name : ArtifactName) (place : ℕ) (o : Option ℕ) → place_named rows (invocation_of name.parent) ≡ o
      → artifact_held held name o ≡ Some place
      → (row : Artifact) × (slice_get held place ≡ Some row) × (place_named rows (invocation_of name.parent) ≡ Some row.holder)
  held_by held name place None e at = let no : None ≡ Some place = at in absurd cc
  held_by held name place (Some holder) e at =
      let found = placed_row key_of is_keyed keys_decided held (named holder name) place at in
      let own : found.0.holder ≡ holder = ap (λ (k : Key). k.holder) found.2 in
      (found.0, found.1, e ∙ ap (λ (h : ℕ). Some h) (sym own))

  never_lacking : (q : GetArtifact) (row : Invocation) → row_at rows (place_named rows (invocation_of q.name.parent)) ≡ Some row
      → IsUnbroken (Denied policy rows caller (demand_of (asks.GetArtifact q)))
      → (Allows policy caller permission.GetArtifact row.realm → ⊥) → ⊥
  never_lacking q row at granted lacks =
      let own : Right = right (One permission.GetArtifact) row.realm in
      let Rights : Option Invocation → List Right = λ o. (rights_of o (One permission.GetArtifact ∷ []) ++ []) ++ [] in
      let first : FirstOf (Lacks policy caller) (Rights (Some row)) (Some own) = inl (lacks, refl) in
      granted (denied permission.GetArtifact row.realm)
      (own, subst (λ (o : Option Invocation). FirstOf (Lacks policy caller) (Rights o) (Some own)) (sym at) first, refl)

  never_unseen : (q : GetArtifact) (holder : ℕ) → place_named rows (invocation_of q.name.parent) ≡ Some holder
      → IsUnbroken (Denied policy rows caller (demand_of (asks.GetArtifact q)))
      → (IsGranted policy caller permission.GetArtifact rows holder → ⊥) → ⊥
  never_unseen q holder placed granted unseen =
      let row = row_placed rows (invocation_of q.name.parent) holder placed in
      never_lacking q row.0 (ap (row_at rows) placed ∙ row.1) granted (λ allows. unseen (row.0, row.1, allows))

  -- and so it is the same
  pub same_file : (xs ys : List Artifact) (q : GetArtifact) (place : ℕ) → AllZip Like xs ys
      → IsUnbroken (Denied policy rows caller (demand_of (asks.GetArtifact q))) → place_of_artifact rows xs q.name ≡ Some place
      → slice_get xs place ≡ slice_get ys place
  same_file xs ys q place like granted at =
      let held = held_by xs q.name place (place_named rows (invocation_of q.name.parent)) refl at in
      let there = zip_on Like xs ys place held.0 like held.1 in
      elim (there.2) [
        | inl same ↦ held.1 ∙ (ap (λ (row : Artifact). Some row) same ∙ sym there.1)
        | inr d ↦ absurd (never_unseen q held.0.holder held.2 granted d.0)
      ]
