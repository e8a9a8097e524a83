-- Pages that are followed to the end show the whole list.
use Rattle.std.proofs.Common.{◌≡◌, ◌<◌, ℕ, Bool, true, false, if◌then◌else◌, List, [], ◌∷◌, ◌++◌, length, Option, Some, None, MatchOption, Ordering, refl, sym, ap, ◌∙◌, subst, inl, inr, arith}
use Rattle.std.specs.List.{AllByRecursion, AllZip, flat_map}
use Rattle.std.specs.Option.{option_map}
use Rattle.std.proofs.lemmas.Bool.{cases_Bool, ltb-true}
use Rattle.std.proofs.lemmas.List.{length-take}
use Rattle.std.proofs.lemmas.List.Elements.{All-from_recursion}
use Rattle.policy_tables.specs.declared.tables.PolicyTables.{PolicyTables}
use Rattle.page_tokens.specs.declared.kinds.ResultCursor.{ResultCursor}
use Rattle.page_tokens.specs.declared.kinds.VerdictCursor.{VerdictCursor}
use Rattle.page_tokens.specs.Cursors.{result_contents, result_parts, verdict_contents, verdict_parts}
use Rattle.page_tokens.specs.Tokens.{IsToken}
use Rattle.verdict_lists.specs.declared.verdict.Verdict.{Verdict}
use Rattle.verdict_lists.specs.Listing.{AreListed}
use Rattle.verdict_lists.specs.Verdicts.{AreVerdicts}
use Rattle.verdict_lists.specs.World.{World}
use Rattle.verdict_lists.proofs.LawLemmas.{one_list_is, one_listing_is}
use Rattle.verdict_pages.specs.Keys.{ResultPlace, VerdictPlace, by_result, by_verdict, result_place, verdict_place}
use Rattle.verdict_pages.specs.Pages.{behind, comes_to_end, has_more, last_key, next_key, page_rows, pages as all_pages}
use Rattle.verdict_pages.proofs.KeyLemmas.{by_result_total, by_verdict_total, results_rise_is, verdict_keys_rise_is}
use Rattle.verdict_pages.proofs.PageLemmas.{pages_are_list}
use Rattle.query_pages.specs.Followed.{AreFollowed, AreRowsFollowed}
use Rattle.query_pages.specs.Laws.{PagesShowResults, PagesShowVerdicts}
use Rattle.query_pages.specs.Seen.{SeenRows, SeenVerdicts}
use Rattle.query_pages.specs.Shown.{IsShownResult, IsShownVerdict}
use Rattle.query_pages.specs.Tokens.{result_held, result_token, verdict_held, verdict_token}

zip_append : {X Y : Type 0} (so : X → Y → Type 0) (xs : List X) (ys : List Y) (as_ : List X) (bs : List Y) → AllZip so xs ys → AllZip so as_ bs
    → AllZip so (xs ++ as_) (ys ++ bs)
zip_append so [] [] as_ bs h k = k
zip_append so [] (y ∷ ys) as_ bs h k = absurd h
zip_append so (x ∷ xs) [] as_ bs h k = absurd h
zip_append so (x ∷ xs) (y ∷ ys) as_ bs h k = (h.0, zip_append so xs ys as_ bs h.1 k)

-- Sizes with which pages over a list come to its end, and these pages are shown so.
pub record Shows {X K Y : Type 0} (order : K → K → Ordering) (key : X → K) (so : X → Y → Type 0) (list : List X) (after : Option K) (shown : List Y) : Type 0 where
  pub sizes : List ℕ
  pub positive : AllByRecursion (λ size. 0 < size) sizes
  pub ends : comes_to_end order key list after sizes ≡ true
  pub rows : AllZip so (all_pages order key list after sizes) shown

module _ {X K Y : Type 0} (order : K → K → Ordering) (key : X → K) (so : X → Y → Type 0) (list : List X) where
  last_page : (after : Option K) (size : ℕ) (shown : List Y) → 0 < size → has_more order key list after size ≡ false
      → AllZip so (page_rows order key list after size) shown → Shows order key so list after (shown ++ [])
  last_page after size shown some none h =
      let rows = page_rows order key list after size in
      let rest = all_pages order key list (next_key order key list after size) [] in
      let end_ = comes_to_end order key list (next_key order key list after size) [] in
      record {
        sizes = size ∷ [];
        positive = (some, tt);
        ends = ap (λ b. if b then end_ else true) none;
        rows = subst (λ b. AllZip so (rows ++ (if b then rest else [])) (shown ++ [])) (sym none) (zip_append so rows shown [] [] h tt);
      }

  first_page : (after : Option K) (size : ℕ) (shown others : List Y) → 0 < size → has_more order key list after size ≡ true
      → AllZip so (page_rows order key list after size) shown → Shows order key so list (next_key order key list after size) others
      → Shows order key so list after (shown ++ others)
  first_page after size shown others some more h rest =
      let rows = page_rows order key list after size in
      let next = next_key order key list after size in
      let back = all_pages order key list next rest.sizes in
      record {
        sizes = size ∷ rest.sizes;
        positive = (some, rest.positive);
        ends = ap (λ b. if b then comes_to_end order key list next rest.sizes else true) more ∙ rest.ends;
        rows = subst (λ b. AllZip so (rows ++ (if b then back else [])) (shown ++ others)) (sym more) (zip_append so rows shown back others h rest.rows);
      }

  -- the key of the last row
  has_last : (rows : List X) (after : Option K) → 0 < length rows → (k : K) × (last_key order key after rows ≡ Some k)
  has_last [] after some = absurd (omega arith)
  has_last (row ∷ []) after some = (key row, refl)
  has_last (row ∷ (next ∷ rows)) after some = has_last (next ∷ rows) (Some (key row)) (omega arith)

  has_next : (after : Option K) (size : ℕ) → 0 < size → has_more order key list after size ≡ true
      → (k : K) × (next_key order key list after size ≡ Some k)
  has_next after size some more =
      let left = behind order key list after in
      let lt : size < length left = ltb-true size (length left) more in
      has_last (page_rows order key list after size) after (omega (arith, lt, length-take size left))

none_is : {A : Type 0} (P : Type 0) (Q : A → Type 0) (o : Option A) → o ≡ None → MatchOption o P Q → P
none_is P Q o e h = subst (λ x. MatchOption x P Q) e h

some_is : {A : Type 0} (P : Type 0) (Q : A → Type 0) (o : Option A) (x : A) → o ≡ Some x → MatchOption o P Q → Q x
some_is P Q o x e h = subst (λ y. MatchOption y P Q) e h

follow : (world : World) (policy : PolicyTables) (caller : ℕ) (roots asked : List ℕ) (results old : ℕ) (list : List Verdict) → AreVerdicts world roots list
    → (after : Option VerdictCursor) (pages : List SeenVerdicts)
    → AreFollowed world policy caller (record { roots = roots; query = asked; after = after; size = old; results = results }) pages
    → Shows by_verdict (verdict_place world) (IsShownVerdict world policy caller results) list (option_map verdict_held after)
    (flat_map (λ (page : SeenVerdicts). page.verdicts) pages)
follow world policy caller roots asked results old list are after [] h = absurd h
follow world policy caller roots asked results old list are after (page ∷ pages) h =
    let so = IsShownVerdict world policy caller results in
    let key = verdict_place world in
    let from = option_map verdict_held after in
    let size = h.0 in
    let is = h.2 in
    let same : is.list ≡ list = one_list_is world roots is.list list is.are are in
    let rows : AllZip so (page_rows by_verdict key list from size) page.verdicts = subst (λ l. AllZip so (page_rows by_verdict key l from size) page.verdicts) same is.verdicts in
    let told : Bool → Option (List ℕ) = λ b. if b then option_map (verdict_token asked) (next_key by_verdict key list from size) else None in
    let next : page.next ≡ told (has_more by_verdict key list from size) =
    subst (λ l. page.next ≡ (if has_more by_verdict key l from size then option_map (verdict_token asked) (next_key by_verdict key l from size) else None)) same is.next in
    let Goes : List ℕ → Type 0 = λ text. (cursor : VerdictCursor) × (cursor.ordinal < 4294967296) × IsToken asked 1 verdict_parts (verdict_contents cursor) text
    × AreFollowed world policy caller (record { roots = roots; query = asked; after = Some cursor; size = old; results = results }) pages in
    elim (cases_Bool (has_more by_verdict key list from size)) [
      | inl more ↦
          let k = has_next by_verdict key so list from size h.1 more in
          let text = verdict_token asked k.0 in
          let there : page.next ≡ Some text = next ∙ ap told more ∙ ap (option_map (verdict_token asked)) k.1 in
          let on = some_is (pages ≡ []) Goes page.next text there h.4 in
          let read = h.3 list k.0 text are there k.1 in
          let held : Some (verdict_held on.0) ≡ next_key by_verdict key list from size = ap (λ (p : VerdictPlace). Some p) (read.alone on.0 on.1 on.2) ∙ sym k.1 in
          let others = flat_map (λ (p : SeenVerdicts). p.verdicts) pages in
          let rest = follow world policy caller roots asked results old list are (Some on.0) pages on.3 in
          first_page by_verdict key so list from size page.verdicts others h.1 more rows (subst (λ a. Shows by_verdict key so list a others) held rest)
      | inr none ↦
          let end_ : pages ≡ [] = none_is (pages ≡ []) Goes page.next (next ∙ ap told none) h.4 in
          subst (λ (ps : List SeenVerdicts). Shows by_verdict key so list from (page.verdicts ++ flat_map (λ (p : SeenVerdicts). p.verdicts) ps)) (sym end_)
          (last_page by_verdict key so list from size page.verdicts h.1 none rows)
    ]

pub pages_show_verdicts_is : PagesShowVerdicts
pages_show_verdicts_is world policy caller query list pages are start h =
    let so = IsShownVerdict world policy caller query.results in
    let key = verdict_place world in
    let shown = flat_map (λ (page : SeenVerdicts). page.verdicts) pages in
    let all = subst (λ (a : Option VerdictCursor). Shows by_verdict key so list (option_map verdict_held a) shown) start
    (follow world policy caller query.roots query.query query.results query.size list are query.after pages h) in
    subst (λ l. AllZip so l shown)
    (pages_are_list by_verdict key by_verdict_total list all.sizes (verdict_keys_rise_is world query.roots list are)
    (All-from_recursion (λ (size : ℕ). 0 < size) all.sizes all.positive) all.ends)
    all.rows

follow_rows : (world : World) (policy : PolicyTables) (caller : ℕ) (roots asked : List ℕ) (old : ℕ) (list : List ℕ) → AreListed world roots list
    → (after : Option ResultCursor) (pages : List SeenRows)
    → AreRowsFollowed world policy caller (record { roots = roots; query = asked; after = after; size = old }) pages
    → Shows by_result (result_place world) (IsShownResult world policy caller) list (option_map result_held after) (flat_map (λ (page : SeenRows). page.rows) pages)
follow_rows world policy caller roots asked old list are after [] h = absurd h
follow_rows world policy caller roots asked old list are after (page ∷ pages) h =
    let so = IsShownResult world policy caller in
    let key = result_place world in
    let from = option_map result_held after in
    let size = h.0 in
    let is = h.2 in
    let same : is.list ≡ list = one_listing_is world roots is.list list is.are are in
    let rows : AllZip so (page_rows by_result key list from size) page.rows = subst (λ l. AllZip so (page_rows by_result key l from size) page.rows) same is.rows in
    let told : Bool → Option (List ℕ) = λ b. if b then option_map (result_token asked) (next_key by_result key list from size) else None in
    let next : page.next ≡ told (has_more by_result key list from size) =
    subst (λ l. page.next ≡ (if has_more by_result key l from size then option_map (result_token asked) (next_key by_result key l from size) else None)) same is.next in
    let Goes : List ℕ → Type 0 = λ text. (cursor : ResultCursor) × IsToken asked 2 result_parts (result_contents cursor) text
    × AreRowsFollowed world policy caller (record { roots = roots; query = asked; after = Some cursor; size = old }) pages in
    elim (cases_Bool (has_more by_result key list from size)) [
      | inl more ↦
          let k = has_next by_result key so list from size h.1 more in
          let text = result_token asked k.0 in
          let there : page.next ≡ Some text = next ∙ ap told more ∙ ap (option_map (result_token asked)) k.1 in
          let on = some_is (pages ≡ []) Goes page.next text there h.4 in
          let read = h.3 list k.0 text are there k.1 in
          let held : Some (result_held on.0) ≡ next_key by_result key list from size = ap (λ (p : ResultPlace). Some p) (read.alone on.0 on.1) ∙ sym k.1 in
          let others = flat_map (λ (p : SeenRows). p.rows) pages in
          let rest = follow_rows world policy caller roots asked old list are (Some on.0) pages on.2 in
          first_page by_result key so list from size page.rows others h.1 more rows (subst (λ a. Shows by_result key so list a others) held rest)
      | inr none ↦
          let end_ : pages ≡ [] = none_is (pages ≡ []) Goes page.next (next ∙ ap told none) h.4 in
          subst (λ (ps : List SeenRows). Shows by_result key so list from (page.rows ++ flat_map (λ (p : SeenRows). p.rows) ps)) (sym end_)
          (last_page by_result key so list from size page.rows h.1 none rows)
    ]

pub pages_show_results_is : PagesShowResults
pages_show_results_is world policy caller query list pages kept roots are start h =
    let so = IsShownResult world policy caller in
    let key = result_place world in
    let shown = flat_map (λ (page : SeenRows). page.rows) pages in
    let all = subst (λ (a : Option ResultCursor). Shows by_result key so list (option_map result_held a) shown) start
    (follow_rows world policy caller query.roots query.query query.size list are query.after pages h) in
    subst (λ l. AllZip so l shown)
    (pages_are_list by_result key by_result_total list all.sizes (results_rise_is world query.roots list kept roots are)
    (All-from_recursion (λ (size : ℕ). 0 < size) all.sizes all.positive) all.ends)
    all.rows
