-- A text has no fault just where it is a realm.
use Rattle.std.proofs.Common.{◌≡◌, ℕ, suc, ◌+◌, ◌≤◌, true, false, not, cond, List, [], ◌∷◌, ◌++◌, length, drop, take, codes, Option, Some, None, option_map, inl, inr, refl, ap, ◌∙◌, arith, take-append-drop, subst, lit≤}
use Rattle.std.specs.Prelude.{◌==◌}
use Rattle.std.specs.Option.{option_or}
use Rattle.std.specs.Str.{IsUtf8}
use Rattle.std.specs.List.{list_all}
use Rattle.std.proofs.lemmas.Bool.{and_parts, and_from}
use Rattle.std.proofs.lemmas.Bool.Decides.{nat_tests}
use Rattle.std.proofs.lemmas.List.{take_at, drop_at}
use Rattle.std.proofs.lemmas.Str.{IsUtf8-append, IsUtf8-from_ascii}
use Rattle.name_parts.specs.declared.faults.NameFault.{NameFault}
use Rattle.name_parts.specs.declared.faults.NameFault.TheVariants.{Empty}
use Rattle.name_parts.specs.declared.alphabets.Alphabet.TheVariants as alphabet
use Rattle.name_parts.specs.declared.parts.PartForm.TheVariants.{Letters}
use Rattle.name_parts.specs.Alphabets.{may_follow}
use Rattle.name_parts.specs.Parts.{IsPart, bad_place, limited_fault, unempty_fault, shifted, literal_bad_place}
use Rattle.names_realms.specs.Realms.{IsSubrealm, IsRealm, bad_subrealm_place, colon_fault, project_len, realm_fault}
use Rattle.name_parts.proofs.PartLemmas.{limited_fault-None, limited_fault-from, letters-bad_place, unempty_fault-None, IsPart-unempty_fault, IsPart-utf8, ascii_literal}
use Rattle.name_parts.proofs.CutLemmas.{cut_is, cut_before, literal_bad_place-None}

shifted-None : (n : ℕ) (f : Option NameFault) → option_map (shifted n) f ≡ None → f ≡ None
shifted-None n None e = refl
shifted-None n (Some f) e = cc

both_None : (f g : Option NameFault) → option_or f g ≡ None → (f ≡ None) × (g ≡ None)
both_None None g e = (refl, e)
both_None (Some f) g e = cc

-- what stands behind the colon
subrealm-None : (text : List ℕ) → limited_fault 400 (length text) (bad_subrealm_place text) ≡ None → IsSubrealm text
subrealm-None [] e = let no = (limited_fault-None 400 0 (Some 0) e).1 in cc
subrealm-None (b ∷ bs) e =
    elim (b == 64) as (λ t. limited_fault 400 (suc (length bs)) (cond t (literal_bad_place (codes "@root") (b ∷ bs)) (bad_place (Letters alphabet.Subrealm) (b ∷ bs))) ≡ None → IsSubrealm (b ∷ bs)) [
      | true ↦ λ f. inl (literal_bad_place-None (codes "@root") (b ∷ bs) (limited_fault-None 400 (suc (length bs)) _ f).1)
      | false ↦ λ f. inr (unempty_fault-None (Letters alphabet.Subrealm) (b ∷ bs) f)
    ] e

-- no part behind a colon begins with `@`
pub no_at : (b : ℕ) → may_follow alphabet.Subrealm b ≡ true → (b == 64) ≡ false
no_at b e = grind (arith, nat_tests)

root_or_part : (text : List ℕ) → IsSubrealm text → (bad_subrealm_place text ≡ None) × (length text ≤ 400)
root_or_part text (inl root) = rw root (refl, lit≤ tt)
root_or_part [] (inr part) = let no : false ≡ true = part.letters in cc
root_or_part (b ∷ bs) (inr part) =
    (rw (no_at b (and_parts _ _ part.letters).0) (letters-bad_place (Letters alphabet.Subrealm) (b ∷ bs) part.letters), part.most)

IsSubrealm-fault : (text : List ℕ) → IsSubrealm text → limited_fault 400 (length text) (bad_subrealm_place text) ≡ None
IsSubrealm-fault text is =
    let parts = root_or_part text is in
    limited_fault-from 400 (length text) (bad_subrealm_place text) parts.1 parts.0

-- no project has a colon
no_colon : (b : ℕ) → may_follow alphabet.Project b ≡ true → not (b == 58) ≡ true
no_colon b e = grind (arith, nat_tests)

none_colon : (text : List ℕ) → list_all (may_follow alphabet.Project) text ≡ true → list_all (λ x. not (x == 58)) text ≡ true
none_colon [] e = refl
none_colon (b ∷ bs) e = let parts = and_parts _ _ e in and_from _ _ (no_colon b parts.0) (none_colon bs parts.1)

pub project_without_colon : (text : List ℕ) → IsPart (Letters alphabet.Project) text → list_all (λ x. not (x == 58)) text ≡ true
project_without_colon [] is = refl
project_without_colon (b ∷ bs) is = and_from _ _ (no_colon b (and_parts _ _ is.letters).0) (none_colon bs (and_parts _ _ is.letters).1)

-- behind the project
behind-None : (project rest : List ℕ) → (place : ℕ) → IsPart (Letters alphabet.Project) project → ((c : ℕ) (bs : List ℕ) → rest ≡ c ∷ bs → c ≡ 58) → colon_fault place rest ≡ None → IsRealm (project ++ rest)
behind-None project [] place is colon e = cc
behind-None project (c ∷ bs) place is colon e =
    record { project = project; subrealm = bs; parts = ap (λ x. project ++ x ∷ bs) (colon c bs refl); is_project = is; is_subrealm = subrealm-None bs (shifted-None (place + 1) _ e) }

two_parts-None : (text : List ℕ) → option_or (unempty_fault (Letters alphabet.Project) (take (project_len text) text)) (colon_fault (project_len text) (drop (project_len text) text)) ≡ None → IsRealm text
two_parts-None text e =
    let none = both_None _ _ e in
    let whole = take-append-drop (project_len text) text in
    subst IsRealm whole
    (behind-None (take (project_len text) text) (drop (project_len text) text) (project_len text) (unempty_fault-None (Letters alphabet.Project) _ none.0) (cut_is 58 text) none.1)

pub realm_fault-None : (text : List ℕ) → realm_fault text ≡ None → IsRealm text
realm_fault-None [] e = cc
realm_fault-None (b ∷ bs) e = two_parts-None (b ∷ bs) (grind (arith, nat_tests))

pub filled : (n : ℕ) (x y : Option NameFault) → cond (suc n == 0) x y ≡ y
filled n x y = grind (arith, nat_tests)

neither : (f g : Option NameFault) → f ≡ None → g ≡ None → option_or f g ≡ None
neither f g e e' = rw e e'

two_parts : (project subrealm : List ℕ) → IsPart (Letters alphabet.Project) project → IsSubrealm subrealm → realm_fault (project ++ 58 ∷ subrealm) ≡ None
two_parts [] subrealm is is' = let no : false ≡ true = is.letters in cc
two_parts (b ∷ bs) subrealm is is' =
    let whole : List ℕ = (b ∷ bs) ++ 58 ∷ subrealm in
    let len : project_len whole ≡ length (b ∷ bs) = cut_before 58 (b ∷ bs) subrealm (project_without_colon (b ∷ bs) is) in
    let front : take (project_len whole) whole ≡ b ∷ bs = rw len (take_at (b ∷ bs) (58 ∷ subrealm) (length (b ∷ bs)) refl) in
    let back : drop (project_len whole) whole ≡ 58 ∷ subrealm = rw len (drop_at (b ∷ bs) (58 ∷ subrealm) (length (b ∷ bs)) refl) in
    let first : unempty_fault (Letters alphabet.Project) (take (project_len whole) whole) ≡ None = rw front (IsPart-unempty_fault (Letters alphabet.Project) (b ∷ bs) is) in
    let second : colon_fault (project_len whole) (drop (project_len whole) whole) ≡ None = rw back (ap (option_map (shifted (project_len whole + 1))) (IsSubrealm-fault subrealm is')) in
    filled (length (bs ++ 58 ∷ subrealm)) (Some Empty) _ ∙ neither _ _ first second

pub IsRealm-realm_fault : (text : List ℕ) → IsRealm text → realm_fault text ≡ None
IsRealm-realm_fault text is = rw is.parts (two_parts is.project is.subrealm is.is_project is.is_subrealm)

subrealm-utf8 : (text : List ℕ) → IsSubrealm text → IsUtf8 text
subrealm-utf8 text (inl root) = rw root (IsUtf8-from_ascii (codes "@root") (ascii_literal (codes "@root") refl))
subrealm-utf8 text (inr part) = IsPart-utf8 (Letters alphabet.Subrealm) text part

pub IsRealm-utf8 : (text : List ℕ) → IsRealm text → IsUtf8 text
IsRealm-utf8 text is =
    rw is.parts (IsUtf8-append is.project (58 ∷ is.subrealm) (IsPart-utf8 (Letters alphabet.Project) is.project is.is_project)
    (IsUtf8-append (58 ∷ []) is.subrealm (IsUtf8-from_ascii (58 ∷ []) (ascii_literal (58 ∷ []) refl)) (subrealm-utf8 is.subrealm is.is_subrealm)))
