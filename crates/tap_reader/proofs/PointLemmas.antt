-- What a line says is what the grammar of lines has.
use Rattle.std.proofs.Common.{◌≡◌, ◌≢◌, ◌↔◌, ℕ, ◌+◌, ◌*◌, ◌/◌, ◌%◌, ◌<◌, ◌≤◌, nat_eq, Bool, true, false, cond, List, [], ◌∷◌, ◌++◌, length, take, drop, replicate, codes, refl, sym, ap, ◌∙◌, subst, append_assoc, arith}
use Rattle.std.specs.Prelude.{◌==◌, ◌&&◌, nat_lt, Option, Some, None, option_map, is_some}
use Rattle.std.specs.List.{starts_with}
use Rattle.std.proofs.lemmas.Bool.Decides.{Decides-eqb, nat_tests}
use Rattle.std.proofs.lemmas.List.{drop_all, drop_at, length-append, take-append-drop, take_at}
use Rattle.tap_reader.specs.declared.entries.Directive.{Directive}
use Rattle.tap_reader.specs.LineForms.{Said, Plan, Point, Bail, Test, described, digits, directive_in, ends_plan, ends_word, hash_place, is_number_len, number_from, numbered_in, plan_in, point_in, said_by, said_in, spaces, trimmed, undashed, unspaced}
use Rattle.tap_reader.specs.LineGrammar.{EndsWord, IsComment, IsDashed, IsDescribed, IsDirective, IsFirstHash, IsLine, IsNumber, IsNumberWord, IsNumbered, IsSaid, result_word, says_bail_out, says_plan, says_point, with_directive, with_number, without_directive, without_number}
use Rattle.tap_reader.proofs.TextLemmas.{NoSpace, both, both_true, spaces_of, spaces_split, unspaced_of}
use Rattle.tap_reader.proofs.WordLemmas.{comment_is, comment_of, dashed_is, dashed_of, digits_of, number_is, number_len_of, number_word, number_word_of, starts, word_is, word_of}
use Rattle.tap_reader.proofs.DirectiveLemmas.{DirectiveIs, directive_is, directive_of, first_hash, first_hash_of, trimmed_is, trimmed_of}

-- descriptions and directives

directive_nothing : directive_in [] ≡ None
unfolding directive_in
directive_nothing = refl

none_behind : (text : List ℕ) (d : Directive) → length text ≤ hash_place 32 text → directive_in (drop (hash_place 32 text + 1) text) ≢ Some d
none_behind text d h e =
    let nothing : drop (hash_place 32 text + 1) text ≡ [] = drop_all (hash_place 32 text + 1) text (omega (arith, h)) in
    let same : None ≡ Some d = sym directive_nothing ∙ sym (ap directive_in nothing) ∙ e in absurd (cc)

within_by : (text : List ℕ) (d : Directive) (t : Bool) → nat_lt (hash_place 32 text) (length text) ≡ t → directive_in (drop (hash_place 32 text + 1) text) ≡ Some d → hash_place 32 text < length text
within_by text d true e h = grind (arith, nat_tests)
within_by text d false e h =
    let past : length text ≤ hash_place 32 text = grind (arith, nat_tests) in absurd (none_behind text d past h)

hash_rest : (text before behind : List ℕ) (p : ℕ) → text ≡ before ++ 35 ∷ behind → p ≡ length before → drop (p + 1) text ≡ behind
hash_rest text before behind p e q =
    ap (drop (p + 1)) (e ∙ sym (append_assoc before (35 ∷ []) behind))
    ∙ drop_at (before ++ 35 ∷ []) behind (p + 1) (length-append before (35 ∷ []) ∙ ap (λ k. k + 1) (sym q))

described_by : (text : List ℕ) (o : Option Directive) → directive_in (drop (hash_place 32 text + 1) text) ≡ o → DirectiveIs (drop (hash_place 32 text + 1) text) o → IsDescribed text (trimmed (cond (is_some o) (take (hash_place 32 text) text) text)) o
described_by text (Some d) e h =
    let p = hash_place 32 text in
    with_directive (take p text) (drop (p + 1) text) d
    (first_hash text (within_by text d (nat_lt p (length text)) refl e)) h refl (trimmed_is (take p text))
described_by text None e h =
    without_directive
    (λ before behind d first there.
    let p = first_hash_of text before behind first in
    let rest : drop (hash_place 32 text + 1) text ≡ behind = hash_rest text before behind (hash_place 32 text) first.here.spelled p.0 in
    let same : None ≡ Some d = sym e ∙ ap directive_in rest ∙ directive_of behind d there in absurd (cc))
    refl (trimmed_is text)

described_is : (text : List ℕ) → IsDescribed text (trimmed (cond (is_some (directive_in (drop (hash_place 32 text + 1) text))) (take (hash_place 32 text) text) text)) (directive_in (drop (hash_place 32 text + 1) text))
described_is text =
    let rest = drop (hash_place 32 text + 1) text in described_by text (directive_in rest) refl (directive_is rest)

no_directive : (text : List ℕ) (o : Option Directive) → directive_in (drop (hash_place 32 text + 1) text) ≡ o → DirectiveIs (drop (hash_place 32 text + 1) text) o → ((before behind : List ℕ) (d : Directive) → IsFirstHash text before behind → ¬ IsDirective behind d) → o ≡ None
no_directive text None e h no_ = refl
no_directive text (Some d) e h no_ =
    let p = hash_place 32 text in
    absurd (no_ (take p text) (drop (p + 1) text) d (first_hash text (within_by text d (nat_lt p (length text)) refl e)) h)

described_of : (text description : List ℕ) (directive : Option Directive) → IsDescribed text description directive → (directive_in (drop (hash_place 32 text + 1) text) ≡ directive) × (trimmed (cond (is_some directive) (take (hash_place 32 text) text) text) ≡ description)
described_of text description directive (with_directive before behind d first there same trim) =
    let p = first_hash_of text before behind first in
    let k = hash_place 32 text in
    let rest : drop (k + 1) text ≡ behind = hash_rest text before behind k first.here.spelled p.0 in
    let front : take k text ≡ before = ap (take k) first.here.spelled ∙ take_at before (35 ∷ behind) k (sym p.0) in (
      ap directive_in rest ∙ directive_of behind d there ∙ sym same,
      ap (λ o. trimmed (cond (is_some o) (take k text) text)) same ∙ ap trimmed front ∙ trimmed_of before description trim,
    )
described_of text description directive (without_directive no_ same trim) =
    let k = hash_place 32 text in
    let rest = drop (k + 1) text in (
      no_directive text (directive_in rest) refl (directive_is rest) no_ ∙ sym same,
      ap (λ o. trimmed (cond (is_some o) (take k text) text)) same ∙ trimmed_of text description trim,
    )

-- points

abbrev NumberTest : List ℕ → Bool
NumberTest text = is_number_len (digits text) && ends_word (drop (digits text) text)

-- the parts of a point behind `ok` and a space
pub record Parts (text : List ℕ) (t : Test) : Type 0 where
  pub dashed : List ℕ
  pub described : List ℕ
  pub number : IsNumbered text t.number dashed
  pub dash : IsDashed dashed described
  pub description : IsDescribed described t.description t.directive
  pub bare : t.diagnostic ≡ []

described_parts : (passed : Bool) (text : List ℕ) (number : Option ℕ) (rest : List ℕ) → IsNumbered text number rest → Parts text (described passed number rest)
unfolding described
described_parts passed text number rest h = record {
  dashed = rest;
  described = undashed rest;
  number = h;
  dash = dashed_is rest;
  description = described_is (undashed rest);
  bare = refl;
}

no_number : (text : List ℕ) → NumberTest text ≡ false → (n : ℕ) (behind : List ℕ) → ¬ IsNumberWord text n behind
no_number text e n behind w =
    let same : true ≡ false = sym (number_word_of text n behind w).0 ∙ e in absurd (cc)

numbered_parts_by : (t : Bool) (passed : Bool) (text : List ℕ) → NumberTest text ≡ t → Parts text (cond t (described passed (Some (number_from 0 (take (digits text) text))) (drop (digits text + 1) text)) (described passed None text))
numbered_parts_by true passed text e =
    let n = number_from 0 (take (digits text) text) in
    described_parts passed text (Some n) (drop (digits text + 1) text) (with_number n (number_word text e) refl)
numbered_parts_by false passed text e = described_parts passed text None text (without_number (no_number text e) refl refl)

numbered_parts : (passed : Bool) (text : List ℕ) → Parts text (numbered_in passed text)
unfolding numbered_in
numbered_parts passed text = numbered_parts_by (NumberTest text) passed text refl

described_passed : (passed : Bool) (number : Option ℕ) (text : List ℕ) → (described passed number text).passed ≡ passed
unfolding described
described_passed passed number text = refl

numbered_passed_by : (t : Bool) (passed : Bool) (text : List ℕ) (n : Option ℕ) (a b : List ℕ) → (cond t (described passed n a) (described passed None b)).passed ≡ passed
numbered_passed_by true passed text n a b = described_passed passed n a
numbered_passed_by false passed text n a b = described_passed passed None b

numbered_passed : (passed : Bool) (text : List ℕ) → (numbered_in passed text).passed ≡ passed
unfolding numbered_in
numbered_passed passed text =
    numbered_passed_by (NumberTest text) passed text (Some (number_from 0 (take (digits text) text))) (drop (digits text + 1) text) text

-- a point by its parts
test_by : (t : Test) (number : Option ℕ) (directive : Option Directive) (description : List ℕ) → number ≡ t.number → directive ≡ t.directive → description ≡ t.description → t.diagnostic ≡ [] → record { passed = t.passed; number = number; directive = directive; description = description; diagnostic = [] } ≡ t
test_by t number directive description a b c d =
    ap (λ (x : Option ℕ). let r : Test = record { passed = t.passed; number = x; directive = directive; description = description; diagnostic = [] } in r) a
    ∙ ap (λ (x : Option Directive). let r : Test = record { passed = t.passed; number = t.number; directive = x; description = description; diagnostic = [] } in r) b
    ∙ ap (λ (x : List ℕ). let r : Test = record { passed = t.passed; number = t.number; directive = t.directive; description = x; diagnostic = [] } in r) c
    ∙ ap (λ (x : List (List ℕ)). let r : Test = record { passed = t.passed; number = t.number; directive = t.directive; description = t.description; diagnostic = x } in r) (sym d)

described_same : (t : Test) (number : Option ℕ) (dashed rest : List ℕ) → number ≡ t.number → IsDashed dashed rest → IsDescribed rest t.description t.directive → t.diagnostic ≡ [] → described t.passed number dashed ≡ t
unfolding described
described_same t number dashed rest e dash d bare =
    let u = undashed dashed in
    let there : u ≡ rest = dashed_of dashed rest dash in
    let P : List ℕ → Type 0 = λ xs. IsDescribed xs t.description t.directive in
    let p = described_of u t.description t.directive (subst P (sym there) d) in
    let directive = directive_in (drop (hash_place 32 u + 1) u) in
    test_by t number directive (trimmed (cond (is_some directive) (take (hash_place 32 u) u) u)) e p.0
    (ap (λ o. trimmed (cond (is_some o) (take (hash_place 32 u) u) u)) p.0 ∙ p.1) bare

number_none : (t : Bool) (text : List ℕ) → NumberTest text ≡ t → ((n : ℕ) (behind : List ℕ) → ¬ IsNumberWord text n behind) → t ≡ false
number_none true text e no_ = absurd (no_ (number_from 0 (take (digits text) text)) (drop (digits text + 1) text) (number_word text e))
number_none false text e no_ = refl

-- where the parts are these, just this point is read
numbered_same : (t : Test) (text dashed rest : List ℕ) → IsNumbered text t.number dashed → IsDashed dashed rest → IsDescribed rest t.description t.directive → t.diagnostic ≡ [] → numbered_in t.passed text ≡ t
unfolding numbered_in
numbered_same t text dashed rest (with_number n w e) dash d bare =
    let p = number_word_of text n dashed w in
    let number = number_from 0 (take (digits text) text) in
    let behind = drop (digits text + 1) text in
    rw p.0 (ap (described t.passed (Some number)) (sym p.2) ∙ described_same t (Some number) dashed rest (ap Some (sym p.1) ∙ sym e) dash d bare)
numbered_same t text dashed rest (without_number no_ e same) dash d bare =
    let p : NumberTest text ≡ false = number_none (NumberTest text) text refl no_ in
    rw p (ap (described t.passed None) (sym same) ∙ described_same t None dashed rest (sym e) dash d bare)

-- texts behind the indent

abbrev SaidIs : List ℕ → Option Said → Type 0
SaidIs text None = Unit {0}
SaidIs text (Some s) = IsSaid text s

said_cond : (t : Bool) (text : List ℕ) (o p : Option Said) → (t ≡ true → SaidIs text o) → (t ≡ false → SaidIs text p) → SaidIs text (cond t o p)
said_cond true text o p a b = a refl
said_cond false text o p a b = b refl

plan_said : (t : Bool) (text rest : List ℕ) → text ≡ codes "1.." ++ rest → (is_number_len (digits rest) && ends_plan (drop (digits rest) rest)) ≡ t → SaidIs text (cond t (Some (Plan (number_from 0 (take (digits rest) rest)))) None)
plan_said true text rest e h =
    let n = digits rest in
    let p = both (is_number_len n) (ends_plan (drop n rest)) h in
    says_plan (number_from 0 (take n rest)) (record {
      digits = take n rest;
      comment = drop n rest;
      spelled = e ∙ ap (λ xs. codes "1.." ++ xs) (sym (take-append-drop n rest));
      is_number = number_is rest p.0;
      is_comment = comment_is (drop n rest) p.1;
    }) refl
plan_said false text rest e h = tt

plan_is : (text rest : List ℕ) → text ≡ codes "1.." ++ rest → SaidIs text (plan_in rest)
unfolding plan_in
plan_is text rest e = plan_said (is_number_len (digits rest) && ends_plan (drop (digits rest) rest)) text rest e refl

point_said : (t : Bool) (passed : Bool) (text rest : List ℕ) → text ≡ result_word passed ++ rest → ends_word rest ≡ t → SaidIs text (cond t (Some (Point (numbered_in passed (drop 1 rest)))) None)
point_said true passed text rest e h =
    let parts = numbered_parts passed (drop 1 rest) in
    says_point (numbered_in passed (drop 1 rest)) (record {
      tail = rest;
      numbered = drop 1 rest;
      dashed = parts.dashed;
      described = parts.described;
      spelled = e ∙ ap (λ b. result_word b ++ rest) (sym (numbered_passed passed (drop 1 rest)));
      word = word_is rest h;
      number = parts.number;
      dash = parts.dash;
      description = parts.description;
      bare = parts.bare;
    }) refl
point_said false passed text rest e h = tt

point_is : (passed : Bool) (text rest : List ℕ) → text ≡ result_word passed ++ rest → SaidIs text (point_in passed rest)
unfolding point_in
point_is passed text rest e = point_said (ends_word rest) passed text rest e refl

said_is : (text : List ℕ) → SaidIs text (said_in text)
unfolding said_in
said_is text =
    let bail = cond (starts_with nat_eq text (codes "Bail out!")) (Some Bail) None in
    let failed = cond (starts_with nat_eq text (codes "not ok")) (point_in false (drop 6 text)) bail in
    let passed = cond (starts_with nat_eq text (codes "ok")) (point_in true (drop 2 text)) failed in
    said_cond (starts_with nat_eq text (codes "1..")) text (plan_in (drop 3 text)) passed (λ e. plan_is text (drop 3 text) ((starts text (codes "1..")).0 e))
    (λ no_1. said_cond (starts_with nat_eq text (codes "ok")) text (point_in true (drop 2 text)) failed (λ e. point_is true text (drop 2 text) ((starts text (codes "ok")).0 e))
    (λ no_2. said_cond (starts_with nat_eq text (codes "not ok")) text (point_in false (drop 6 text)) bail (λ e. point_is false text (drop 6 text) ((starts text (codes "not ok")).0 e))
    (λ no_3. said_cond (starts_with nat_eq text (codes "Bail out!")) text (Some Bail) None (λ e. says_bail_out (drop 9 text) ((starts text (codes "Bail out!")).0 e) refl) (λ no_4. tt))))

-- and just that is read

plan_of_text : (rest : List ℕ) (count : ℕ) (ds comment : List ℕ) → rest ≡ ds ++ comment → IsNumber ds count → IsComment comment → plan_in rest ≡ Some (Plan count)
unfolding plan_in
plan_of_text rest count ds comment e number is_comment =
    let c = comment_of comment is_comment in
    let len : digits rest ≡ length ds = ap digits e ∙ digits_of ds comment number.digits c.1 in
    let taken : take (digits rest) rest ≡ ds = ap (take (digits rest)) e ∙ take_at ds comment (digits rest) (sym len) in
    let dropped : drop (digits rest) rest ≡ comment = ap (drop (digits rest)) e ∙ drop_at ds comment (digits rest) (sym len) in
    let t : (is_number_len (digits rest) && ends_plan (drop (digits rest) rest)) ≡ true =
    both_true (is_number_len (digits rest)) (ends_plan (drop (digits rest) rest))
    (number_len_of (digits rest) (omega (arith, len, number.some)) (omega (arith, len, number.few))) (ap ends_plan dropped ∙ c.0) in
    rw t (ap (λ n. Some (Plan n)) (ap (number_from 0) taken ∙ sym number.spelled))

point_of_text : (t : Test) (rest numbered dashed described : List ℕ) → EndsWord rest numbered → IsNumbered numbered t.number dashed → IsDashed dashed described → IsDescribed described t.description t.directive → t.diagnostic ≡ [] → point_in t.passed rest ≡ Some (Point t)
unfolding point_in
point_of_text t rest numbered dashed described word number dash d bare =
    let w = word_of rest numbered word in
    rw w.0 (ap (λ xs. Some (Point (numbered_in t.passed xs))) w.1 ∙ ap (λ x. Some (Point x)) (numbered_same t numbered dashed described number dash d bare))

said_plan : (text rest : List ℕ) → text ≡ codes "1.." ++ rest → said_in text ≡ plan_in rest
unfolding said_in
said_plan text rest e =
    let t : starts_with nat_eq text (codes "1..") ≡ true = (starts text (codes "1..")).1 rest e in rw t (ap (λ xs. plan_in (drop 3 xs)) e)

said_passed : (text rest : List ℕ) → text ≡ codes "ok" ++ rest → said_in text ≡ point_in true rest
unfolding said_in
said_passed text rest e =
    let s : starts_with nat_eq text (codes "1..") ≡ false = ap (λ xs. starts_with nat_eq xs (codes "1..")) e in
    let t : starts_with nat_eq text (codes "ok") ≡ true = (starts text (codes "ok")).1 rest e in rw (s, t) (ap (λ xs. point_in true (drop 2 xs)) e)

said_failed : (text rest : List ℕ) → text ≡ codes "not ok" ++ rest → said_in text ≡ point_in false rest
unfolding said_in
said_failed text rest e =
    let r : starts_with nat_eq text (codes "1..") ≡ false = ap (λ xs. starts_with nat_eq xs (codes "1..")) e in
    let s : starts_with nat_eq text (codes "ok") ≡ false = ap (λ xs. starts_with nat_eq xs (codes "ok")) e in
    let t : starts_with nat_eq text (codes "not ok") ≡ true = (starts text (codes "not ok")).1 rest e in rw (r, s, t) (ap (λ xs. point_in false (drop 6 xs)) e)

said_bail : (text rest : List ℕ) → text ≡ codes "Bail out!" ++ rest → said_in text ≡ Some Bail
unfolding said_in
said_bail text rest e =
    let q : starts_with nat_eq text (codes "1..") ≡ false = ap (λ xs. starts_with nat_eq xs (codes "1..")) e in
    let r : starts_with nat_eq text (codes "ok") ≡ false = ap (λ xs. starts_with nat_eq xs (codes "ok")) e in
    let s : starts_with nat_eq text (codes "not ok") ≡ false = ap (λ xs. starts_with nat_eq xs (codes "not ok")) e in
    let t : starts_with nat_eq text (codes "Bail out!") ≡ true = (starts text (codes "Bail out!")).1 rest e in rw (q, r, s, t) refl

said_result : (passed : Bool) (text rest : List ℕ) → text ≡ result_word passed ++ rest → said_in text ≡ point_in passed rest
said_result true text rest e = said_passed text rest e
said_result false text rest e = said_failed text rest e

said_of_text : (text : List ℕ) (s : Said) → IsSaid text s → said_in text ≡ Some s
said_of_text text s (says_plan count p e) =
    said_plan text (p.digits ++ p.comment) p.spelled ∙ plan_of_text (p.digits ++ p.comment) count p.digits p.comment refl p.is_number p.is_comment ∙ ap Some (sym e)
said_of_text text s (says_point t p e) =
    said_result t.passed text p.tail p.spelled ∙ point_of_text t p.tail p.numbered p.dashed p.described p.word p.number p.dash p.description p.bare ∙ ap Some (sym e)
said_of_text text s (says_bail_out rest p e) = said_bail text rest p ∙ ap Some (sym e)

-- what says something doesn't begin with a space
first_byte : (b : ℕ) (bs text : List ℕ) → text ≡ b ∷ bs → b ≢ 32 → NoSpace text
first_byte b bs text e h rest same = let x : b ∷ bs ≡ 32 ∷ rest = sym e ∙ same in h (cc)

result-no_space : (passed : Bool) (text rest : List ℕ) → text ≡ result_word passed ++ rest → NoSpace text
result-no_space true text rest e = first_byte 111 (107 ∷ rest) text e (λ h. omega arith)
result-no_space false text rest e = first_byte 110 (codes "ot ok" ++ rest) text e (λ h. omega arith)

said-no_space : (text : List ℕ) (s : Said) → IsSaid text s → NoSpace text
said-no_space text s (says_plan count p e) = first_byte 49 (46 ∷ 46 ∷ (p.digits ++ p.comment)) text p.spelled (λ h. omega arith)
said-no_space text s (says_point t p e) = result-no_space t.passed text p.tail p.spelled
said-no_space text s (says_bail_out rest p e) = first_byte 66 (codes "ail out!" ++ rest) text p (λ h. omega arith)

-- lines

line_from : (line : List ℕ) (level : ℕ) (s : Said) (o : Option Said) → spaces line ≡ 4 * level → SaidIs (unspaced line) o → o ≡ Some s → IsLine line level s
line_from line level s None k h e = absurd (cc)
line_from line level s (Some r) k h e =
    let same : r ≡ s = cc in
    let P : Said → Type 0 = λ s. IsSaid (unspaced line) s in
    record {
      text = unspaced line;
      spelled = spaces_split line ∙ ap (λ n. replicate n 32 ++ unspaced line) k;
      says = subst P same h;
    }

abbrev said_at : ℕ → Said → ℕ × Said
said_at n s = (n, s)

some_same : (x y : ℕ × Said) → Some x ≡ Some y → x ≡ y
some_same x y e = cc

mapped_from : (n level : ℕ) (o : Option Said) (s : Said) → option_map (said_at n) o ≡ Some (level, s) → (n ≡ level) × (o ≡ Some s)
mapped_from n level None s e = absurd (cc)
mapped_from n level (Some r) s e =
    let p = some_same (said_at n r) (said_at level s) e in (ap (λ (x : ℕ × Said). x.0) p, ap (λ (x : ℕ × Said). Some x.1) p)

line_by : (t : Bool) (line : List ℕ) (level : ℕ) (s : Said) → (spaces line % 4 == 0) ≡ t → cond t (option_map (said_at (spaces line / 4)) (said_in (unspaced line))) None ≡ Some (level, s) → IsLine line level s
line_by true line level s t e =
    let p = mapped_from (spaces line / 4) level (said_in (unspaced line)) s e in
    let zero_left : spaces line % 4 ≡ 0 = (Decides-eqb (spaces line % 4) 0).0 t in
    line_from line level s (said_in (unspaced line)) (omega (arith, zero_left, p.0)) (said_is (unspaced line)) p.1
line_by false line level s t e = absurd (cc)

line_to : (line : List ℕ) (level : ℕ) (s : Said) → IsLine line level s → said_by line ≡ Some (level, s)
unfolding said_by
line_to line level s l =
    let bare = said-no_space l.text s l.says in
    let k : spaces line ≡ 4 * level = ap spaces l.spelled ∙ spaces_of (4 * level) l.text bare in
    let text : unspaced line ≡ l.text = ap unspaced l.spelled ∙ unspaced_of (4 * level) l.text bare in
    let t : (spaces line % 4 == 0) ≡ true = (Decides-eqb (spaces line % 4) 0).1 (omega (arith, k)) in
    let n : spaces line / 4 ≡ level = omega (arith, k) in
    rw t (ap (λ xs. option_map (said_at (spaces line / 4)) (said_in xs)) text
    ∙ ap (option_map (said_at (spaces line / 4))) (said_of_text l.text s l.says) ∙ ap (λ k. Some (k, s)) n)

pub line_read : (line : List ℕ) (level : ℕ) (s : Said) → (said_by line ≡ Some (level, s)) ↔ IsLine line level s
unfolding said_by
line_read line level s = (line_by (spaces line % 4 == 0) line level s refl, line_to line level s)
