-- Whatever is the print of a tree was read construct by construct, and there is one way to read so.
use Rattle.std.proofs.Common.{◌≡◌, ◌<◌, ◌≤◌, ◌-◌, ℕ, Bool, true, false, List, [], ◌∷◌, length, Option, Some, None, Result, Ok, Err, ◌⊎◌, inl, inr, ⊎_elim, zero, suc, nat_le, refl, sym, ap, subst, ◌∙◌, arith}
use Rattle.std.proofs.lemmas.Bool.Decides.{nat_tests}
use Rattle.junit_parts.proofs.TreeLemmas.{grown_printed, grown_sound}
use Rattle.junit_reader.proofs.ShrinkLaws.{token_leaves}
use Rattle.std.specs.Prelude.{if◌then◌else◌}
use Rattle.names_realms.specs.declared.states.Case.{Case}
use Rattle.junit_parts.specs.Cases.{cases_in}
use Rattle.junit_parts.specs.Constructs.{Token, Stands, Opens, Whole, Closes, token_from}
use Rattle.junit_parts.specs.Flaws.{IsSound, IsSoundAt, flaw_at, token_flaw}
use Rattle.junit_parts.specs.Reports.{HasCases, HasFault, HasFlaw, IsDocument, document_of, text_place, told}
use Rattle.junit_parts.specs.Reports.HasFlaw.{wrong, broken, open_end, no_root}
use Rattle.junit_parts.specs.Reports.HasFault.{flawed, no_text, text_ends, too_long}
use Rattle.junit_parts.specs.Tree.{Content, Nothing, Then, Element, Unfinished, Outside, Within, IsAt, Prints, PrintsFront, has_element, content_of, grown, put}
use Rattle.junit_parts.specs.declared.faults.Cause.TheVariants.{NotWellFormed, NoRoot}
use Rattle.junit_parts.specs.declared.faults.Flaw.{Flaw}
use Rattle.junit_parts.specs.declared.faults.JunitFault.{JunitFault}
use Rattle.junit_parts.specs.declared.faults.JunitFault.TheVariants.{NotText}
use Rattle.junit_parts.specs.declared.roles.Role.TheVariants.{Top}
use Rattle.junit_reader.specs.Laws.{CasesOrAFault, CasesOrFault, OneFault, OneListOfCases}

-- the tree is reached, one construct after the other
pub data Reaches (document : List ℕ) : Unfinished → List ℕ → Type 0 where
  start : Reaches document (Outside Nothing) document
  step : (u : Unfinished) (middle rest : List ℕ) (token : Token) → Reaches document u middle → token_from middle ≡ Some (token, rest)
      → token_flaw u (length middle) token ≡ None → Reaches document (grown u (length middle) token) rest

-- one construct more, at its place
stepped : (document : List ℕ) (u v : Unfinished) (middle rest : List ℕ) (left : ℕ) (token : Token) → Reaches document u middle → IsAt middle left token rest → token_flaw u left token ≡ None → grown u left token ≡ v → Reaches document v rest
stepped document u v middle rest left token reached at right is =
    let P : ℕ → Type 0 = λ n. token_flaw u n token ≡ None in
    let one = step u middle rest token reached at.read (subst P at.place right) in
    let Q : Unfinished → Type 0 = λ w. Reaches document w rest in
    subst Q (ap (λ n. grown u n token) (sym at.place) ∙ is) one

-- content is reached behind the place where it begins
content_reached : (document : List ℕ) (spot : Content → Unfinished) → ((c : Content) → content_of (spot c) ≡ c) → ((c d : Content) → put (spot c) d ≡ spot d)
    → (begin rest : List ℕ) (c : Content) → Reaches document (spot Nothing) begin → Prints begin c rest → IsSoundAt spot c → Reaches document (spot c) rest
content_reached document spot has puts begin rest Nothing reached printed sound = let P : List ℕ → Type 0 = λ t. Reaches document (spot Nothing) t in subst P printed reached
content_reached document spot has puts begin rest (Then before left leaf) reached printed sound =
    stepped document (spot before) (spot (Then before left leaf)) printed.0 rest left (Stands leaf)
    (content_reached document spot has puts begin printed.0 before reached printed.1 sound.0) printed.2 sound.1
    (ap (λ c. put (spot before) (Then c left leaf)) (has before) ∙ puts before (Then before left leaf))
content_reached document spot has puts begin rest (Element before left tag own None) reached printed sound =
    stepped document (spot before) (spot (Element before left tag own None)) printed.0 rest left (Whole tag)
    (content_reached document spot has puts begin printed.0 before reached printed.1 sound.0) printed.3 sound.1
    (ap (λ c. put (spot before) (Element c left tag Nothing None)) (has before) ∙ puts before (Element before left tag Nothing None)
    ∙ ap (λ c. spot (Element before left tag c None)) (sym printed.2))
content_reached document spot has puts begin rest (Element before left tag own (Some end)) reached printed sound =
    let inside : Content → Unfinished = λ c. Within (spot before) left tag c in
    let opened = stepped document (spot before) (inside Nothing) printed.0 printed.1 left (Opens tag)
    (content_reached document spot has puts begin printed.0 before reached printed.3 sound.0) printed.4 sound.1 refl in
    let filled = content_reached document inside (λ c. refl) (λ c d. refl) printed.1 printed.2 own opened printed.5 sound.2 in
    stepped document (inside own) (spot (Element before left tag own (Some end))) printed.2 rest end.0 (Closes end.1) filled printed.6 sound.3
    (ap (λ c. put (spot before) (Element c left tag own (Some end))) (has before) ∙ puts before (Element before left tag own (Some end)))

front_reached : (document : List ℕ) (u : Unfinished) (rest : List ℕ) → PrintsFront document u rest → IsSound u → Reaches document u rest
front_reached document (Outside content) rest printed sound = content_reached document (λ c. Outside c) (λ c. refl) (λ c d. refl) document rest content start printed sound
front_reached document (Within outer left tag content) rest printed sound =
    let opened = stepped document outer (Within outer left tag Nothing) printed.0 printed.1 left (Opens tag) (front_reached document outer printed.0 printed.2 sound.0) printed.3 sound.1 refl in
    content_reached document (λ c. Within outer left tag c) (λ c. refl) (λ c d. refl) printed.1 rest content opened printed.4 sound.2

-- what is answered at the end, and where it is not the end: nothing where the reading goes on
abbrev Answer : Type 0
Answer = Result (List Case) Flaw

abbrev last_answer : Unfinished → Answer
last_answer (Outside content) = if has_element content then Ok (cases_in Top content) else Err (flaw_at 0 NoRoot)
last_answer (Within outer left tag content) = Err (flaw_at 0 NotWellFormed)

abbrev judged : Option Flaw → Option Answer
judged None = None
judged (Some flaw) = Some (Err flaw)

abbrev read_answer : Unfinished → ℕ → Option (Token × List ℕ) → Option Answer
read_answer u left None = Some (Err (flaw_at left NotWellFormed))
read_answer u left (Some found) = judged (token_flaw u left found.0)

abbrev answer_at : Unfinished → List ℕ → Option Answer
answer_at u [] = Some (last_answer u)
answer_at u (b ∷ bs) = read_answer u (length (b ∷ bs)) (token_from (b ∷ bs))

-- an answer is reached from a tree on, in so many steps
abbrev Steps : ℕ → Unfinished → List ℕ → Answer → Type 0
Steps zero u rest answer = answer_at u rest ≡ Some answer
Steps (suc n) u rest answer =
    (token : Token) × (next : List ℕ) × (token_from rest ≡ Some (token, next)) × (token_flaw u (length rest) token ≡ None) × Steps n (grown u (length rest) token) next answer

record Runs (u : Unfinished) (rest : List ℕ) (answer : Answer) : Type 0 where
  count : ℕ
  steps : Steps count u rest answer

halt : (u : Unfinished) (rest : List ℕ) (answer : Answer) → answer_at u rest ≡ Some answer → Runs u rest answer
halt u rest answer is = record { count = 0; steps = is }

move : (u : Unfinished) (rest next : List ℕ) (token : Token) (answer : Answer) → token_from rest ≡ Some (token, next) → token_flaw u (length rest) token ≡ None
    → Runs (grown u (length rest) token) next answer → Runs u rest answer
move u rest next token answer is right runs = record { count = suc runs.count; steps = (token, next, is, right, runs.steps) }

from_start : (document : List ℕ) (u : Unfinished) (rest : List ℕ) (answer : Answer) → Reaches document u rest → Runs u rest answer → Runs (Outside Nothing) document answer
from_start document _ _ answer start runs = runs
from_start document _ _ answer (step u middle rest token before is right) runs = from_start document u middle answer before (move u middle rest token answer is right runs)

no_token : token_from [] ≡ None
unfolding token_from
no_token = refl

goes_on : (u : Unfinished) (rest next : List ℕ) (token : Token) → token_from rest ≡ Some (token, next) → token_flaw u (length rest) token ≡ None → answer_at u rest ≡ None
goes_on u [] next token is right = absurd (let both : None ≡ Some (token, next) = sym no_token ∙ is in cc)
goes_on u (b ∷ bs) next token is right = ap (read_answer u (length (b ∷ bs))) is ∙ ap judged right

abbrev found_or : Token × List ℕ → Option (Token × List ℕ) → Token × List ℕ
found_or other None = other
found_or other (Some found) = found

same_found : (o : Option (Token × List ℕ)) (t s : Token) (q r : List ℕ) → o ≡ Some (t, q) → o ≡ Some (s, r) → (t ≡ s) × (q ≡ r)
same_found o t s q r one two = let e = sym one ∙ two in (ap (λ x. (found_or (t, q) x).0) e, ap (λ x. (found_or (t, q) x).1) e)

one_way : (n m : ℕ) (u : Unfinished) (rest : List ℕ) (a b : Answer) → Steps n u rest a → Steps m u rest b → a ≡ b
one_way zero zero u rest a b one two = let both : Some a ≡ Some b = sym one ∙ two in cc
one_way zero (suc m) u rest a b one two = absurd (let both : None ≡ Some a = sym (goes_on u rest two.1 two.0 two.2 two.3) ∙ one in cc)
one_way (suc n) zero u rest a b one two = absurd (let both : None ≡ Some b = sym (goes_on u rest one.1 one.0 one.2 one.3) ∙ two in cc)
one_way (suc n) (suc m) u rest a b one two =
    let same = same_found (token_from rest) one.0 two.0 one.1 two.1 one.2 two.2 in
    let tokens : one.0 ≡ two.0 = same.0 in
    let nexts : one.1 ≡ two.1 = same.1 in
    let P : Token → Type 0 = λ t. Steps m (grown u (length rest) t) two.1 b in
    let Q : List ℕ → Type 0 = λ t. Steps m (grown u (length rest) one.0) t b in
    one_way n m (grown u (length rest) one.0) one.1 a b one.4 (subst Q (sym nexts) (subst P (sym tokens) two.4))

one_run : (u : Unfinished) (rest : List ℕ) (a b : Answer) → Runs u rest a → Runs u rest b → a ≡ b
one_run u rest a b one two = one_way one.count two.count u rest a b one.steps two.steps

document_runs : (document : List ℕ) (cases : List Case) → IsDocument document cases → Runs (Outside Nothing) document (Ok cases)
document_runs document cases d =
    let last : last_answer (Outside d.tree) ≡ Ok cases = ap (λ (b : Bool). let r : Answer = if b then Ok (cases_in Top d.tree) else Err (flaw_at 0 NoRoot) in r) d.root ∙ ap Ok (sym d.same) in
    from_start document (Outside d.tree) [] (Ok cases) (front_reached document (Outside d.tree) [] d.printed d.sound) (halt _ _ _ (ap Some last))

breaks_at : (u : Unfinished) (middle : List ℕ) → 0 < length middle → token_from middle ≡ None → answer_at u middle ≡ Some (Err (flaw_at (length middle) NotWellFormed))
breaks_at u [] some none = absurd (omega arith)
breaks_at u (b ∷ bs) some none = ap (read_answer u (length (b ∷ bs))) none

wrong_at : (u : Unfinished) (middle rest : List ℕ) (token : Token) (flaw : Flaw) → token_from middle ≡ Some (token, rest) → token_flaw u (length middle) token ≡ Some flaw → answer_at u middle ≡ Some (Err flaw)
wrong_at u [] rest token flaw is found = absurd (let both : None ≡ Some (token, rest) = sym no_token ∙ is in cc)
wrong_at u (b ∷ bs) rest token flaw is found = ap (read_answer u (length (b ∷ bs))) is ∙ ap judged found

flaw_runs : (document : List ℕ) (flaw : Flaw) → HasFlaw document flaw → Runs (Outside Nothing) document (Err flaw)
flaw_runs document flaw (wrong front middle rest token printed sound at found) =
    from_start document front middle (Err flaw) (front_reached document front middle printed sound) (halt _ _ _ (wrong_at front middle rest token flaw at.read found))
flaw_runs document flaw (broken front middle printed sound some none is) =
    from_start document front middle (Err flaw) (front_reached document front middle printed sound) (halt _ _ _ (breaks_at front middle some none ∙ ap (λ (f : Flaw). let a : Answer = Err f in Some a) (sym is)))
flaw_runs document flaw (open_end outer left tag content printed sound is) =
    from_start document (Within outer left tag content) [] (Err flaw) (front_reached document (Within outer left tag content) [] printed sound) (halt _ _ _ (ap (λ (f : Flaw). let a : Answer = Err f in Some a) (sym is)))
flaw_runs document flaw (no_root tree printed sound none is) =
    let last : last_answer (Outside tree) ≡ Err flaw = ap (λ (b : Bool). let r : Answer = if b then Ok (cases_in Top tree) else Err (flaw_at 0 NoRoot) in r) none ∙ ap Err (sym is) in
    from_start document (Outside tree) [] (Err flaw) (front_reached document (Outside tree) [] printed sound) (halt _ _ _ (ap Some last))

same_cases : (document : List ℕ) (cases other : List Case) → IsDocument document cases → IsDocument document other → cases ≡ other
same_cases document cases other one two = let both : Ok cases ≡ Ok other = one_run (Outside Nothing) document (Ok cases) (Ok other) (document_runs document cases one) (document_runs document other two) in cc

same_flaw : (document : List ℕ) (flaw other : Flaw) → HasFlaw document flaw → HasFlaw document other → flaw ≡ other
same_flaw document flaw other one two = let both : Err flaw ≡ Err other = one_run (Outside Nothing) document (Err flaw) (Err other) (flaw_runs document flaw one) (flaw_runs document other two) in cc

not_both : (document : List ℕ) (cases : List Case) (flaw : Flaw) → IsDocument document cases → HasFlaw document flaw → ⊥
not_both document cases flaw one two = let both : Ok cases ≡ Err flaw = one_run (Outside Nothing) document (Ok cases) (Err flaw) (document_runs document cases one) (flaw_runs document flaw two) in cc

pub one_list_of_cases : OneListOfCases
one_list_of_cases bytes cases other one two = same_cases (document_of bytes) cases other one.document two.document

pub cases_or_fault : CasesOrFault
cases_or_fault bytes cases fault has (too_long more is) = let fits = has.text in omega arith
cases_or_fault bytes cases fault has (flawed short flaw found before is) = not_both (document_of bytes) cases flaw has.document found
cases_or_fault bytes cases fault has (no_text ends others found is) = let fits = has.text in omega arith
cases_or_fault bytes cases fault has (text_ends ends flaw found before is) = not_both (document_of bytes) cases flaw has.document found

-- a flaw isn't before the end of the text and behind it
before_and_behind : (len text place : ℕ) → text < len → text ≤ place → (len ≤ text) ⊎ (place < text) → ⊥
before_and_behind len text place ends behind (inl fits) = omega arith
before_and_behind len text place ends behind (inr before) = omega arith

apart : (bytes : List ℕ) (flaw other : Flaw) → HasFlaw (document_of bytes) flaw → HasFlaw (document_of bytes) other → (length bytes ≤ text_place bytes) ⊎ (length bytes - flaw.left < text_place bytes)
    → text_place bytes < length bytes → text_place bytes ≤ length bytes - other.left → ⊥
apart bytes flaw other one two before ends behind =
    let same : other ≡ flaw = same_flaw (document_of bytes) other flaw two one in
    let P : Flaw → Type 0 = λ f. text_place bytes ≤ length bytes - f.left in
    before_and_behind (length bytes) (text_place bytes) (length bytes - flaw.left) ends (subst P same behind) before

pub one_fault : OneFault
one_fault bytes fault other (too_long more is) (too_long more' is') = is ∙ sym is'
one_fault bytes fault other (too_long more is) (flawed short flaw found before is') = absurd (omega (arith, more, short))
one_fault bytes fault other (too_long more is) (no_text ends cases found is') = is ∙ sym is'
one_fault bytes fault other (too_long more is) (text_ends ends flaw found behind is') = is ∙ sym is'
one_fault bytes fault other (flawed short flaw found before is) (too_long more is') = absurd (omega (arith, more, short))
one_fault bytes fault other (flawed short flaw found before is) (flawed short' flaw' found' before' is') = is ∙ ap (told (length bytes)) (same_flaw (document_of bytes) flaw flaw' found found') ∙ sym is'
one_fault bytes fault other (flawed short flaw found before is) (no_text ends cases found' is') = absurd (not_both (document_of bytes) cases flaw found' found)
one_fault bytes fault other (flawed short flaw found before is) (text_ends ends flaw' found' behind is') = absurd (apart bytes flaw flaw' found found' before ends behind)
one_fault bytes fault other (no_text ends cases found is) (too_long more is') = is ∙ sym is'
one_fault bytes fault other (no_text ends cases found is) (flawed short flaw found' before is') = absurd (not_both (document_of bytes) cases flaw found found')
one_fault bytes fault other (no_text ends cases found is) (no_text ends' cases' found' is') = is ∙ sym is'
one_fault bytes fault other (no_text ends cases found is) (text_ends ends' flaw found' behind is') = is ∙ sym is'
one_fault bytes fault other (text_ends ends flaw found behind is) (too_long more is') = is ∙ sym is'
one_fault bytes fault other (text_ends ends flaw found behind is) (flawed short flaw' found' before is') = absurd (apart bytes flaw' flaw found' found before ends behind)
one_fault bytes fault other (text_ends ends flaw found behind is) (no_text ends' cases found' is') = is ∙ sym is'
one_fault bytes fault other (text_ends ends flaw found behind is) (text_ends ends' flaw' found' behind' is') = is ∙ sym is'

-- there is an answer
by_option : {A P : Type 0} (o : Option A) → (o ≡ None → P) → ((x : A) → o ≡ Some x → P) → P
by_option None none some = none refl
by_option (Some x) none some = some x refl

by_bool : {P : Type 0} (b : Bool) → (b ≡ true → P) → (b ≡ false → P) → P
by_bool true one other = one refl
by_bool false one other = other refl

abbrev Answered : List ℕ → Type 0
Answered document = ((cases : List Case) × IsDocument document cases) ⊎ ((flaw : Flaw) × HasFlaw document flaw)

at_end : (document : List ℕ) (u : Unfinished) → PrintsFront document u [] → IsSound u → Answered document
at_end document (Outside tree) printed sound =
    by_bool (has_element tree)
    (λ root. inl (cases_in Top tree, record { tree = tree; printed = printed; sound = sound; root = root; same = refl }))
    (λ none. inr (flaw_at 0 NoRoot, no_root tree printed sound none refl))
at_end document (Within outer left tag content) printed sound = inr (flaw_at 0 NotWellFormed, open_end outer left tag content printed sound refl)

answered : (n : ℕ) (document rest : List ℕ) (u : Unfinished) → length rest ≤ n → PrintsFront document u rest → IsSound u → Answered document
answered n document [] u few printed sound = at_end document u printed sound
answered zero document (b ∷ bs) u few printed sound = absurd (omega arith)
answered (suc n) document (b ∷ bs) u few printed sound =
    let middle = b ∷ bs in
    by_option (token_from middle)
    (λ none. inr (flaw_at (length middle) NotWellFormed, broken u middle printed sound (omega arith) none refl))
    (λ found is.
    by_option (token_flaw u (length middle) found.0)
    (λ right.
    let shorter = token_leaves middle found is in
    answered n document found.1 (grown u (length middle) found.0) (omega (arith, shorter))
    (grown_printed document middle found.1 u (length middle) found.0 printed (record { place = refl; read = is }) right) (grown_sound u (length middle) found.0 sound right))
    (λ flaw at. inr (flaw, wrong u middle found.1 found.0 printed sound (record { place = refl; read = is }) at)))

or_below : (a b : ℕ) → (a ≤ b) ⊎ (b < a)
or_below a b = by_bool (nat_le a b) (λ e. inl (grind (arith, nat_tests, e))) (λ e. inr (grind (arith, nat_tests, e)))

abbrev AnsweredReport : List ℕ → Type 0
AnsweredReport bytes = ((cases : List Case) × HasCases bytes cases) ⊎ ((fault : JunitFault) × HasFault bytes fault)

short_report : (bytes : List ℕ) → length bytes ≤ 67_108_864 → AnsweredReport bytes
short_report bytes short =
    ⊎_elim
    (λ (one : (cases : List Case) × IsDocument (document_of bytes) cases).
    ⊎_elim
    (λ (fits : length bytes ≤ text_place bytes). inl (one.0, record { text = fits; document = one.1 }))
    (λ (ends : text_place bytes < length bytes). inr (NotText (text_place bytes), no_text ends one.0 one.1 refl))
    (or_below (length bytes) (text_place bytes)))
    (λ (two : (flaw : Flaw) × HasFlaw (document_of bytes) flaw).
    ⊎_elim
    (λ (fits : length bytes ≤ text_place bytes). inr (told (length bytes) two.0, flawed short two.0 two.1 (inl fits) refl))
    (λ (ends : text_place bytes < length bytes).
    ⊎_elim
    (λ (behind : text_place bytes ≤ length bytes - two.0.left). inr (NotText (text_place bytes), text_ends ends two.0 two.1 behind refl))
    (λ (before : length bytes - two.0.left < text_place bytes). inr (told (length bytes) two.0, flawed short two.0 two.1 (inr before) refl))
    (or_below (text_place bytes) (length bytes - two.0.left)))
    (or_below (length bytes) (text_place bytes)))
    (answered (length (document_of bytes)) (document_of bytes) (document_of bytes) (Outside Nothing) (omega arith) refl tt)

pub cases_or_a_fault : CasesOrAFault
cases_or_a_fault bytes =
    ⊎_elim
    (λ (short : length bytes ≤ 67_108_864). short_report bytes short)
    (λ (more : 67_108_864 < length bytes). inr (NotText (text_place bytes), too_long more refl))
    (or_below (length bytes) 67_108_864)
