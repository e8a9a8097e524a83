-- What is read of a token.
use Rattle.std.proofs.Common.{◌≡◌, ◌<◌, ◌-◌, ◌^◌, ℕ, List, length, IfOk, Result, Ok, Err, Option, Some, None, Ordering, refl, sym, ap, ◌∙◌, subst}
use Rattle.std.specs.List.{slice_get}
use Rattle.page_tokens.specs.Cursors.{result_contents, result_parts, verdict_contents, verdict_parts}
use Rattle.page_tokens.specs.Laws.{OneKeyTold, OneResultHeld, OneVerdictHeld}
use Rattle.page_tokens.specs.Tokens.{IsToken}
use Rattle.verdict_pages.specs.Keys.{ResultPlace, VerdictPlace}
use Rattle.verdict_pages.specs.Pages.{last_key}
use Rattle.query_pages.specs.Tokens.{IsReadAs, IsResultReadAs, result_cursor, result_held, verdict_cursor, verdict_held}
use Rattle.query_pages.proofs.RowLemmas.{last_is}

pub ok_map : {T E : Type 0} (r : Result T E) (P Q : T → Type 0) → ((x : T) → P x → Q x) → IfOk r P → IfOk r Q
ok_map (Ok x) P Q f h = f x h
ok_map (Err e) P Q f h = tt

pub read_as : OneKeyTold → OneVerdictHeld → (query : List ℕ) (place : VerdictPlace) (contents : List (List ℕ)) (text : List ℕ)
    → contents ≡ verdict_contents (verdict_cursor place) → place.ordinal < 2 ^ 32 → IsToken query 1 verdict_parts contents text → IsReadAs query place text
read_as told held query place contents text same small token =
    let own = subst (λ (x : List (List ℕ)). IsToken query 1 verdict_parts x text) same token in
    record {
      read = own;
      alone = λ cursor fits other.
          let both = told query query 1 verdict_parts (verdict_contents cursor) (verdict_contents (verdict_cursor place)) text refl other own in
          ap verdict_held (held cursor (verdict_cursor place) fits small both.1);
    }

pub result_read_as : OneKeyTold → OneResultHeld → (query : List ℕ) (place : ResultPlace) (contents : List (List ℕ)) (text : List ℕ)
    → contents ≡ result_contents (result_cursor place) → IsToken query 2 result_parts contents text → IsResultReadAs query place text
result_read_as told held query place contents text same token =
    let own = subst (λ (x : List (List ℕ)). IsToken query 2 result_parts x text) same token in
    record {
      read = own;
      alone = λ cursor other.
          let both = told query query 2 result_parts (result_contents cursor) (result_contents (result_cursor place)) text refl other own in
          ap result_held (held cursor (result_cursor place) both.1);
    }

-- the text that was made is that of the last row's key
pub last_read : {X K : Type 0} (order : K → K → Ordering) (key : X → K) (Reads : K → List ℕ → Type 0) (rows : List X) (x : X) (after : Option K) (place : K)
    (made text : List ℕ) → Some x ≡ slice_get rows (length rows - 1) → Reads (key x) made → Some made ≡ Some text → last_key order key after rows ≡ Some place
    → Reads place text
last_read {X} {K} order key Reads rows x after place made text last read same is =
    let texts : made ≡ text = cc in
    let both : Some (key x) ≡ Some place = sym (last_is order key rows x after (sym last)) ∙ is in
    let places : key x ≡ place = cc in
    subst (λ p. Reads p text) places (subst (Reads (key x)) texts read)

pub none_read : {A : Type 0} (text : List ℕ) → None ≡ Some text → A
none_read text e = let never : None ≡ Some text = e in absurd (cc)
