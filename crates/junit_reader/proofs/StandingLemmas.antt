-- What is kept stays true as elements are opened and closed.
use Rattle.std.proofs.Common.{◌≡◌, ℕ, suc, Bool, true, false, ◌||◌, List, [], ◌∷◌, ◌++◌, length, map, take, Option, Some, None, is_some, refl, sym, ap, subst, ◌∙◌, arith, append_assoc, length-append}
use Rattle.std.specs.Prelude.{if◌then◌else◌, codes}
use Rattle.std.specs.Option.{option_or}
use Rattle.std.specs.Str.{bytes_eq}
use Rattle.std.proofs.lemmas.List.{append-nil, map_push}
use Rattle.names_realms.specs.declared.states.Case.{Case}
use Rattle.junit_parts.specs.Bytes.{behind_white}
use Rattle.junit_reader.specs.Fronts.{IsKept, front}
use Rattle.junit_reader.proofs.FrontLemmas.{told_of_fronts}
use Rattle.junit_parts.specs.Cases.{added_by, case_duration, case_name, case_of, cases_in, ended_case, first_told, inner_of_case, inner_of_suites, own_text, role_in, role_of, text_named, told_of, told_first}
use Rattle.junit_reader.specs.Standing.{Begins, Ends, IsCaseSoFar, IsFresh, IsNoted, IsSameCase, Keeps, KeepsIn, StandsFor, cases_so_far, open_text, opens, told_so_far}
use Rattle.junit_parts.specs.Tags.{TagText}
use Rattle.junit_parts.specs.Tree.{Content, Nothing, Then, Element, Unfinished, Outside, Within, depth_of, has_root, closed, content_of, put}
use Rattle.junit_parts.specs.declared.judging.Spot.{Spot}
use Rattle.junit_reader.specs.declared.pending.Pending.{Pending}
use Rattle.junit_reader.specs.declared.reading.Open.{Open}
use Rattle.junit_reader.specs.declared.reading.Reading.{Reading}
use Rattle.junit_parts.specs.declared.roles.Role.{Role}
use Rattle.junit_parts.specs.declared.roles.Role.TheVariants.{Top, Suites, Suite, Testcase, Outcome, Passed}

pub length_opens : (u : Unfinished) → length (opens u) ≡ depth_of u
length_opens (Outside content) = refl
length_opens (Within outer left tag content) =
    let before = length_opens outer in
    length-append (opens outer) ((tag.name, role_in (role_of outer) tag.name) ∷ []) ∙ omega (arith, before)

-- an outcome stands in a case alone
not_outcome : (name : List ℕ) → inner_of_suites name ≡ Outcome → ⊥
not_outcome name e = go (bytes_eq name (codes "testsuite")) e where
  go : (b : Bool) → (if b then Suite else Passed) ≡ Outcome → ⊥
  go true e = cc
  go false e = cc

pub outcome_in : (r : Role) (name : List ℕ) → role_in r name ≡ Outcome → r ≡ Testcase
outcome_in Top name e = absurd (go (bytes_eq name (codes "testsuites")) e) where
  go : (b : Bool) → (if b then Suites else inner_of_suites name) ≡ Outcome → ⊥
  go true e = cc
  go false e = not_outcome name e
outcome_in Suites name e = absurd (not_outcome name e)
outcome_in Suite name e = absurd (go (bytes_eq name (codes "testcase")) e) where
  go : (b : Bool) → (if b then Testcase else inner_of_suites name) ≡ Outcome → ⊥
  go true e = cc
  go false e = not_outcome name e
outcome_in Testcase name e = refl
outcome_in Outcome name e = absurd cc
outcome_in Passed name e = absurd cc

same_so_far : (p q : Pending) (tag : TagText) (content : Content) → IsSameCase p q → IsCaseSoFar p tag content → IsCaseSoFar q tag content
same_so_far p q tag content same so_far = record {
  name = same.name ∙ so_far.name;
  duration = same.duration ∙ so_far.duration;
  error = same.error ∙ so_far.error;
  failure = same.failure ∙ so_far.failure;
  is_skipped = same.is_skipped ∙ so_far.is_skipped;
}

keeps_in_case : (r : Role) (p q : Pending) (tag : TagText) (content : Content) (A B : Type 0) → r ≡ Testcase → IsSameCase p q → KeepsIn r p tag content A → KeepsIn r q tag content B
keeps_in_case Testcase p q tag content A B is same kept = same_so_far p q tag content same kept
keeps_in_case Top p q tag content A B is same kept = absurd cc
keeps_in_case Suites p q tag content A B is same kept = absurd cc
keeps_in_case Suite p q tag content A B is same kept = absurd cc
keeps_in_case Outcome p q tag content A B is same kept = absurd cc
keeps_in_case Passed p q tag content A B is same kept = absurd cc

same_kept : (p q : Pending) (u : Unfinished) → role_of u ≡ Testcase → IsSameCase p q → Keeps p u → Keeps q u
same_kept p q (Outside content) is same kept = tt
same_kept p q (Within outer left tag content) is same kept = keeps_in_case (role_in (role_of outer) tag.name) p q tag content (Keeps p outer) (Keeps q outer) is same kept

fresh_case : (p : Pending) (tag : TagText) → IsFresh p tag → IsCaseSoFar p tag Nothing
fresh_case p tag fresh = record { name = fresh.name; duration = fresh.duration; error = fresh.error; failure = fresh.failure; is_skipped = fresh.is_skipped }

begun_in : (r : Role) (p q : Pending) (tag : TagText) (u : Unfinished) → (r ≡ Outcome → role_of u ≡ Testcase) → Begins r p q tag → Keeps p u → KeepsIn r q tag Nothing (Keeps q u)
begun_in Testcase p q tag u at begins kept = fresh_case q tag begins
begun_in Outcome p q tag u at begins kept = (begins.1, begins.2, same_kept p q u (at refl) begins.0 kept)
begun_in Passed p q tag u at begins kept = let P : Pending → Type 0 = λ x. Keeps x u in subst P (sym begins) kept
begun_in Top p q tag u at begins kept = tt
begun_in Suites p q tag u at begins kept = tt
begun_in Suite p q tag u at begins kept = tt

pub opened_for : (s n : Reading) (u : Unfinished) (left : ℕ) (tag : TagText) (r : Role) → r ≡ role_in (role_of u) tag.name → StandsFor s u
    → Begins r s.pending n.pending tag → map open_text n.opened.items ≡ map open_text s.opened.items ++ (tag.name, r) ∷ [] → n.has_root ≡ true → n.cases.items ≡ s.cases.items
    → StandsFor n (Within u left tag Nothing)
opened_for s n u left tag r is stands begins opened root cases =
    let P : Role → Type 0 = λ x. Begins x s.pending n.pending tag in
    record {
      open_is = opened ∙ ap (λ (xs : List (List ℕ × Role)). xs ++ (tag.name, r) ∷ []) stands.open_is ∙ ap (λ (x : Role). opens u ++ (tag.name, x) ∷ []) is;
      root = root;
      cases = cases ∙ stands.cases ∙ sym (append-nil (cases_so_far u));
      pending = begun_in (role_in (role_of u) tag.name) s.pending n.pending tag u (outcome_in (role_of u) tag.name) (subst P is begins) stands.pending;
    }

-- no cases stand in a case, in an outcome, and in what is passed over
no_cases_passed : (c : Content) → cases_in Passed c ≡ []
no_cases_passed Nothing = refl
no_cases_passed (Then before left leaf) = no_cases_passed before
no_cases_passed (Element before left tag own end) = ap (λ (xs : List Case). xs ++ []) (no_cases_passed before)

no_cases_outcome : (c : Content) → cases_in Outcome c ≡ []
no_cases_outcome Nothing = refl
no_cases_outcome (Then before left leaf) = no_cases_outcome before
no_cases_outcome (Element before left tag own end) = ap (λ (xs : List Case). xs ++ []) (no_cases_outcome before)

none_added : (name : List ℕ) (xs : List Case) (x : Case) → added_by (inner_of_case name) xs x ≡ []
none_added name xs x = go (bytes_eq name (codes "error")) (bytes_eq name (codes "failure")) (bytes_eq name (codes "skipped")) where
  go : (a b c : Bool) → added_by (if a then Outcome else (if b then Outcome else (if c then Outcome else Passed))) xs x ≡ []
  go true b c = refl
  go false true c = refl
  go false false true = refl
  go false false false = refl

no_cases_case : (c : Content) → cases_in Testcase c ≡ []
no_cases_case Nothing = refl
no_cases_case (Then before left leaf) = no_cases_case before
no_cases_case (Element before left tag own end) =
    ap (λ (xs : List Case). xs ++ added_by (inner_of_case tag.name) (cases_in (inner_of_case tag.name) own) (case_of tag own)) (no_cases_case before)
    ∙ none_added tag.name (cases_in (inner_of_case tag.name) own) (case_of tag own)

ended_is : (p : Pending) (tag : TagText) (content : Content) → IsCaseSoFar p tag content → ended_case p.name.items p.duration p.error p.failure p.is_skipped ≡ case_of tag content
ended_is p tag content so_far =
    ap (λ (x : List ℕ). ended_case x p.duration p.error p.failure p.is_skipped) so_far.name
    ∙ ap (λ x. ended_case (case_name tag) x p.error p.failure p.is_skipped) so_far.duration
    ∙ ap (λ x. ended_case (case_name tag) (case_duration tag) x p.failure p.is_skipped) so_far.error
    ∙ ap (λ x. ended_case (case_name tag) (case_duration tag) (first_told (codes "error") content) x p.is_skipped) so_far.failure
    ∙ ap (λ x. ended_case (case_name tag) (case_duration tag) (first_told (codes "error") content) (first_told (codes "failure") content) x) so_far.is_skipped

-- the cases behind an element that is ended
added : (r : Role) (p q : Pending) (tag : TagText) (content : Content) (before after front : List Case) (A : Type 0) → KeepsIn r p tag content A → Ends r p q before after tag.name
    → before ≡ front ++ cases_in r content → after ≡ front ++ added_by r (cases_in r content) (case_of tag content)
added Testcase p q tag content before after front A kept ends e =
    let none : before ≡ front = e ∙ ap (λ (xs : List Case). front ++ xs) (no_cases_case content) ∙ append-nil front in
    ends ∙ ap (λ (x : Case). before ++ x ∷ []) (ended_is p tag content kept) ∙ ap (λ (xs : List Case). xs ++ case_of tag content ∷ []) none
added Outcome p q tag content before after front A kept ends e = ends.1 ∙ e ∙ ap (λ (xs : List Case). front ++ xs) (no_cases_outcome content)
added Passed p q tag content before after front A kept ends e = ends.1 ∙ e ∙ ap (λ (xs : List Case). front ++ xs) (no_cases_passed content)
added Suites p q tag content before after front A kept ends e = ends.1 ∙ e
added Suite p q tag content before after front A kept ends e = ends.1 ∙ e
added Top p q tag content before after front A kept ends e = ends.1 ∙ e

cases_put : (outer : Unfinished) (left : ℕ) (tag : TagText) (content : Content) (end : Option (ℕ × List ℕ))
    → cases_so_far (closed outer left tag content end) ≡ cases_so_far outer ++ added_by (role_in (role_of outer) tag.name) (cases_in (role_in (role_of outer) tag.name) content) (case_of tag content)
cases_put (Outside before) left tag content end = refl
cases_put (Within o l t before) left tag content end = sym (append_assoc (cases_so_far o) (cases_in (role_in (role_of o) t.name) before) _)

-- what a case tells behind an outcome, and behind another element
either : {A : Type 0} (o : Option A) (b : Bool) (x : A) → (is_some o || b) ≡ is_some (option_or o (if b then Some x else None))
either None true x = refl
either None false x = refl
either (Some y) b x = refl

noted : (p q : Pending) (t tag : TagText) (before content : Content) (left : ℕ) (end : Option (ℕ × List ℕ)) → IsCaseSoFar p t before → p.message.items ≡ front (text_named (codes "message") tag) → IsKept p.text (behind_white (own_text content))
    → IsNoted p q tag.name → IsCaseSoFar q t (Element before left tag content end)
noted p q t tag before content left end so_far message text note =
    let told : told_so_far p ≡ told_of tag content =
    ap (λ m. told_first m (take p.text.solid p.text.front.items)) message ∙ told_of_fronts p.text (text_named (codes "message") tag) (own_text content) text in
    record {
      name = note.name_is ∙ so_far.name;
      duration = note.duration ∙ so_far.duration;
      error = note.error ∙ ap (λ x. option_or x (if bytes_eq tag.name (codes "error") then Some (told_so_far p) else None)) so_far.error
          ∙ ap (λ m. option_or (first_told (codes "error") before) (if bytes_eq tag.name (codes "error") then Some m else None)) told;
      failure = note.failure ∙ ap (λ x. option_or x (if bytes_eq tag.name (codes "failure") then Some (told_so_far p) else None)) so_far.failure
          ∙ ap (λ m. option_or (first_told (codes "failure") before) (if bytes_eq tag.name (codes "failure") then Some m else None)) told;
      is_skipped = note.is_skipped ∙ ap (λ x. x || bytes_eq tag.name (codes "skipped")) so_far.is_skipped
          ∙ either (first_told (codes "skipped") before) (bytes_eq tag.name (codes "skipped")) (told_of tag content);
    }

none_told : (name : List ℕ) (b : Bool) (o : Option (List ℕ)) (m : List ℕ) → b ≡ false → option_or o (if b then Some m else None) ≡ o
none_told name true o m e = absurd cc
none_told name false None m e = refl
none_told name false (Some x) m e = refl

three_false : (a b c : Bool) → (if a then Outcome else (if b then Outcome else (if c then Outcome else Passed))) ≡ Passed → (a ≡ false) × (b ≡ false) × (c ≡ false)
three_false true b c e = absurd cc
three_false false true c e = absurd cc
three_false false false true e = absurd cc
three_false false false false e = (refl, refl, refl)

passed : (p : Pending) (t tag : TagText) (before content : Content) (left : ℕ) (end : Option (ℕ × List ℕ)) → inner_of_case tag.name ≡ Passed → IsCaseSoFar p t before → IsCaseSoFar p t (Element before left tag content end)
passed p t tag before content left end is so_far =
    let none = three_false (bytes_eq tag.name (codes "error")) (bytes_eq tag.name (codes "failure")) (bytes_eq tag.name (codes "skipped")) is in
    record {
      name = so_far.name;
      duration = so_far.duration;
      error = so_far.error ∙ sym (none_told tag.name _ (first_told (codes "error") before) (told_of tag content) none.0);
      failure = so_far.failure ∙ sym (none_told tag.name _ (first_told (codes "failure") before) (told_of tag content) none.1);
      is_skipped = so_far.is_skipped ∙ ap is_some (sym (none_told tag.name _ (first_told (codes "skipped") before) (told_of tag content) none.2));
    }

never_else : (name : List ℕ) (r : Role) → inner_of_case name ≡ r → (r ≡ Outcome → ⊥) → (r ≡ Passed → ⊥) → ⊥
never_else name r is not_one not_other = go (bytes_eq name (codes "error")) (bytes_eq name (codes "failure")) (bytes_eq name (codes "skipped")) is where
  go : (a b c : Bool) → (if a then Outcome else (if b then Outcome else (if c then Outcome else Passed))) ≡ r → ⊥
  go true b c e = not_one (sym e)
  go false true c e = not_one (sym e)
  go false false true e = not_one (sym e)
  go false false false e = not_other (sym e)

-- an element in a case is an outcome or is passed over
in_case : (r : Role) (p q : Pending) (t tag : TagText) (before content : Content) (left : ℕ) (end : Option (ℕ × List ℕ)) (xs ys : List Case)
    → r ≡ inner_of_case tag.name → KeepsIn r p tag content (IsCaseSoFar p t before) → Ends r p q xs ys tag.name → IsCaseSoFar q t (Element before left tag content end)
in_case Outcome p q t tag before content left end xs ys is kept ends = noted p q t tag before content left end kept.2 kept.0 kept.1 ends.0
in_case Passed p q t tag before content left end xs ys is kept ends =
    let P : Pending → Type 0 = λ x. IsCaseSoFar x t (Element before left tag content end) in
    subst P (sym ends.0) (passed p t tag before content left end (sym is) kept)
in_case Top p q t tag before content left end xs ys is kept ends = absurd (never_else tag.name Top (sym is) (λ e. cc) (λ e. cc))
in_case Suites p q t tag before content left end xs ys is kept ends = absurd (never_else tag.name Suites (sym is) (λ e. cc) (λ e. cc))
in_case Suite p q t tag before content left end xs ys is kept ends = absurd (never_else tag.name Suite (sym is) (λ e. cc) (λ e. cc))
in_case Testcase p q t tag before content left end xs ys is kept ends = absurd (never_else tag.name Testcase (sym is) (λ e. cc) (λ e. cc))

-- behind an element that is passed over
behind_passed : (r : Role) (p q : Pending) (tag : TagText) (content : Content) (xs ys : List Case) (A : Type 0) → r ≡ Passed → KeepsIn r p tag content A → Ends r p q xs ys tag.name → (q ≡ p) × A
behind_passed Passed p q tag content xs ys A is kept ends = (ends.0, kept)
behind_passed Top p q tag content xs ys A is kept ends = absurd cc
behind_passed Suites p q tag content xs ys A is kept ends = absurd cc
behind_passed Suite p q tag content xs ys A is kept ends = absurd cc
behind_passed Testcase p q tag content xs ys A is kept ends = absurd cc
behind_passed Outcome p q tag content xs ys A is kept ends = absurd cc

kept_in : (ro : Role) (p q : Pending) (o : Unfinished) (t tag : TagText) (before content : Content) (left : ℕ) (end : Option (ℕ × List ℕ)) (xs ys : List Case)
    → KeepsIn (role_in ro tag.name) p tag content (KeepsIn ro p t before (Keeps p o)) → Ends (role_in ro tag.name) p q xs ys tag.name
    → KeepsIn ro q t (Element before left tag content end) (Keeps q o)
kept_in Top p q o t tag before content left end xs ys kept ends = tt
kept_in Suites p q o t tag before content left end xs ys kept ends = tt
kept_in Suite p q o t tag before content left end xs ys kept ends = tt
kept_in Testcase p q o t tag before content left end xs ys kept ends = in_case (inner_of_case tag.name) p q t tag before content left end xs ys refl kept ends
kept_in Outcome p q o t tag before content left end xs ys kept ends =
    let P : Pending → Type 0 = λ x. KeepsIn Outcome x t before (Keeps x o) in subst P (sym ends.0) kept
kept_in Passed p q o t tag before content left end xs ys kept ends = let P : Pending → Type 0 = λ x. Keeps x o in subst P (sym ends.0) kept

keeps_put : (p q : Pending) (outer : Unfinished) (left : ℕ) (tag : TagText) (content : Content) (end : Option (ℕ × List ℕ)) (xs ys : List Case)
    → Keeps p (Within outer left tag content) → Ends (role_in (role_of outer) tag.name) p q xs ys tag.name → Keeps q (closed outer left tag content end)
keeps_put p q (Outside before) left tag content end xs ys kept ends = tt
keeps_put p q (Within o l t before) left tag content end xs ys kept ends = kept_in (role_in (role_of o) t.name) p q o t tag before content left end xs ys kept ends

opens_put : (outer : Unfinished) (other : Content) → opens (put outer other) ≡ opens outer
opens_put (Outside content) other = refl
opens_put (Within o l t content) other = refl

root_put : (outer : Unfinished) (left : ℕ) (tag : TagText) (content : Content) (end : Option (ℕ × List ℕ)) → has_root (closed outer left tag content end) ≡ true
root_put (Outside before) left tag content end = refl
root_put (Within o l t before) left tag content end = refl

pub closed_for : (s n : Reading) (outer : Unfinished) (left : ℕ) (tag : TagText) (content : Content) (end : Option (ℕ × List ℕ)) (r : Role) (name : List ℕ) → StandsFor s (Within outer left tag content)
    → r ≡ role_in (role_of outer) tag.name → name ≡ tag.name → Ends r s.pending n.pending s.cases.items n.cases.items name → map open_text n.opened.items ≡ opens outer → n.has_root ≡ s.has_root
    → StandsFor n (closed outer left tag content end)
closed_for s n outer left tag content end r name stands is named ends opened root =
    let role = role_in (role_of outer) tag.name in
    let P : Role → Type 0 = λ x. Ends x s.pending n.pending s.cases.items n.cases.items name in
    let Q : List ℕ → Type 0 = λ x. Ends role s.pending n.pending s.cases.items n.cases.items x in
    let ended : Q tag.name = subst Q named (subst P is ends) in
    record {
      open_is = opened ∙ sym (opens_put outer (Element (content_of outer) left tag content end));
      root = root ∙ stands.root ∙ sym (root_put outer left tag content end);
      cases = added role s.pending n.pending tag content s.cases.items n.cases.items (cases_so_far outer) (Keeps s.pending outer) stands.pending ended stands.cases ∙ sym (cases_put outer left tag content end);
      pending = keeps_put s.pending n.pending outer left tag content end s.cases.items n.cases.items stands.pending ended;
    }

snoc_same : {A : Type 0} (xs ys : List A) (a b : A) → xs ++ a ∷ [] ≡ ys ++ b ∷ [] → (xs ≡ ys) × (a ≡ b)
snoc_same [] [] a b e = (refl, cc)
snoc_same [] (y ∷ ys) a b e = absurd (omega (arith, ap length e, length-append ys (b ∷ [])))
snoc_same (x ∷ xs) [] a b e = absurd (omega (arith, ap length e, length-append xs (a ∷ [])))
snoc_same (x ∷ xs) (y ∷ ys) a b e =
    let tails : xs ++ a ∷ [] ≡ ys ++ b ∷ [] = cc in
    let heads : x ≡ y = cc in
    let more = snoc_same xs ys a b tails in
    let firsts : xs ≡ ys = more.0 in
    (cc, more.1)

pub popped : (items rest : List Open) (o : Open) (front : List (List ℕ × Role)) (x : List ℕ × Role) → items ≡ rest ++ o ∷ [] → map open_text items ≡ front ++ x ∷ []
    → (map open_text rest ≡ front) × (open_text o ≡ x)
popped items rest o front x split is =
    snoc_same (map open_text rest) front (open_text o) x (sym (map_push open_text rest o) ∙ sym (ap (map open_text) split) ∙ is)

pub spot_is : (a b : Role) (r s : Bool) (d e : ℕ) → a ≡ b → r ≡ s → d ≡ e
    → (let one : Spot = record { outer = a; has_root = r; depth = d } in let two : Spot = record { outer = b; has_root = s; depth = e } in one ≡ two)
spot_is a b r s d e same_role same_root same_depth = cc

pub length_texts : (items : List Open) → length (map open_text items) ≡ length items
length_texts [] = refl
length_texts (o ∷ items) = ap suc (length_texts items)
