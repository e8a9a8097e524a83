-- A report is its version and the lines behind it.
use Rattle.std.proofs.Common.{◌≡◌, ℕ, zero, suc, ◌+◌, nat_eq, Bool, true, false, cond, List, [], ◌∷◌, ◌++◌, length, drop, replicate, codes, refl, sym, ap, ◌∙◌, subst, arith}
use Rattle.std.specs.Prelude.{◌==◌, ◌||◌, Option, Some, None, option_map}
use Rattle.std.specs.List.{list_all, starts_with}
use Rattle.std.proofs.lemmas.Bool.Decides.{Decides-eqb}
use Rattle.std.proofs.lemmas.Slice.Eq.{starts_is}
use Rattle.tap_reader.specs.Lines.{lines}
use Rattle.tap_reader.specs.Counted.{Line, counted}
use Rattle.tap_reader.specs.Reports.{after_version, begins_version, counted_in, is_blank, is_version}
use Rattle.tap_reader.specs.Grammar.{Counts, IsReport, IsVersion, fourteen, thirteen}
use Rattle.tap_reader.specs.Laws.{GrammarIsRead}
use Rattle.tap_reader.proofs.TextLemmas.{both, both_true}
use Rattle.tap_reader.proofs.GrammarLemmas.{counts_all, counts_only}

all_spaces : (text : List ℕ) → list_all (λ b. b == 32) text ≡ true → text ≡ replicate (length text) 32
all_spaces [] e = refl
all_spaces (b ∷ bs) e =
    let p = both (b == 32) (list_all (λ b. b == 32) bs) e in
    ap (λ x. x ∷ bs) ((Decides-eqb b 32).0 p.0) ∙ ap (λ xs. 32 ∷ xs) (all_spaces bs p.1)

spaces_all : (n : ℕ) → list_all (λ b. b == 32) (replicate n 32) ≡ true
spaces_all zero = refl
spaces_all (suc n) = spaces_all n

starts : (line word : List ℕ) → (starts_with nat_eq line word ≡ true → line ≡ word ++ drop (length word) line) × ((rest : List ℕ) → line ≡ word ++ rest → starts_with nat_eq line word ≡ true)
starts line word = starts_is Decides-eqb line word (starts_with nat_eq line word) refl

spelled : (word line : List ℕ) → starts_with nat_eq line word ≡ true → list_all (λ b. b == 32) (drop (length word) line) ≡ true → line ≡ word ++ replicate (length (drop (length word) line)) 32
spelled word line p q = (starts line word).0 p ∙ ap (λ xs. word ++ xs) (all_spaces (drop (length word) line) q)

version_by : (s t : Bool) (line : List ℕ) → starts_with nat_eq line (codes "TAP version 14") ≡ s → starts_with nat_eq line (codes "TAP version 13") ≡ t → (s || t) ≡ true → list_all (λ b. b == 32) (drop 14 line) ≡ true → IsVersion line
version_by true t line p q e h = fourteen (length (drop 14 line)) (spelled (codes "TAP version 14") line p h)
version_by false true line p q e h = thirteen (length (drop 14 line)) (spelled (codes "TAP version 13") line q h)
version_by false false line p q e h = absurd (cc)

first_true : (s t : Bool) → s ≡ true → (s || t) ≡ true
first_true s t e = rw e refl

second_true : (s t : Bool) → t ≡ true → (s || t) ≡ true
second_true true t e = refl
second_true false t e = e

version_is : (line : List ℕ) → is_version line ≡ true → IsVersion line
unfolding begins_version
version_is line e =
    let p = both (begins_version line) (list_all (λ b. b == 32) (drop 14 line)) e in
    version_by (starts_with nat_eq line (codes "TAP version 14")) (starts_with nat_eq line (codes "TAP version 13")) line refl refl p.0 p.1

version_read : (line : List ℕ) → IsVersion line → is_version line ≡ true
unfolding begins_version
version_read line (fourteen n e) =
    both_true (begins_version line) (list_all (λ b. b == 32) (drop 14 line))
    (first_true (starts_with nat_eq line (codes "TAP version 14")) (starts_with nat_eq line (codes "TAP version 13")) ((starts line (codes "TAP version 14")).1 (replicate n 32) e))
    (ap (λ xs. list_all (λ b. b == 32) (drop 14 xs)) e ∙ spaces_all n)
version_read line (thirteen n e) =
    both_true (begins_version line) (list_all (λ b. b == 32) (drop 14 line))
    (second_true (starts_with nat_eq line (codes "TAP version 14")) (starts_with nat_eq line (codes "TAP version 13")) ((starts line (codes "TAP version 13")).1 (replicate n 32) e))
    (ap (λ xs. list_all (λ b. b == 32) (drop 14 xs)) e ∙ spaces_all n)

version-no_blank : (line : List ℕ) → IsVersion line → is_blank line ≡ false
version-no_blank line (fourteen n e) = ap is_blank e
version-no_blank line (thirteen n e) = ap is_blank e

-- the lines behind the version, which stands behind blank lines
abbrev AfterIs : ℕ → List (List ℕ) → Option (ℕ × List (List ℕ)) → Type 0
AfterIs n ls None = Unit {0}
AfterIs n ls (Some (first, behind)) = (blank : List (List ℕ)) × (line : List ℕ) × (ls ≡ blank ++ line ∷ behind) × (list_all is_blank blank ≡ true) × IsVersion line × (first ≡ n + (length blank + 1))

after_blank : (n : ℕ) (l : List ℕ) (ls : List (List ℕ)) (o : Option (ℕ × List (List ℕ))) → is_blank l ≡ true → AfterIs (n + 1) ls o → AfterIs n (l ∷ ls) o
after_blank n l ls None e h = tt
after_blank n l ls (Some (first, behind)) e h =
    (l ∷ h.0, h.1, ap (λ xs. l ∷ xs) h.2, both_true (is_blank l) (list_all is_blank h.0) e h.3, h.4, omega (arith, h.5))

after_here : (t : Bool) (n : ℕ) (l : List ℕ) (ls : List (List ℕ)) → is_version l ≡ t → AfterIs n (l ∷ ls) (cond t (Some (n + 1, ls)) None)
after_here true n l ls e = ([], l, refl, refl, version_is l e, omega arith)
after_here false n l ls e = tt

after_step : (t : Bool) (n : ℕ) (l : List ℕ) (ls : List (List ℕ)) → is_blank l ≡ t → AfterIs (n + 1) ls (after_version (n + 1) ls) → AfterIs n (l ∷ ls) (cond t (after_version (n + 1) ls) (cond (is_version l) (Some (n + 1, ls)) None))
after_step true n l ls e h = after_blank n l ls (after_version (n + 1) ls) e h
after_step false n l ls e h = after_here (is_version l) n l ls refl

after_is : (n : ℕ) (ls : List (List ℕ)) → AfterIs n ls (after_version n ls)
after_is n [] = tt
after_is n (l ∷ ls) = after_step (is_blank l) n l ls refl (after_is (n + 1) ls)

after_of : (n : ℕ) (blank : List (List ℕ)) (line : List ℕ) (behind : List (List ℕ)) → list_all is_blank blank ≡ true → IsVersion line → after_version n (blank ++ line ∷ behind) ≡ Some (n + (length blank + 1), behind)
after_of n [] line behind e v =
    let p : is_blank line ≡ false = version-no_blank line v in
    let q : is_version line ≡ true = version_read line v in
    rw (p, q) (ap (λ k. Some (k, behind)) (let s : n + 1 ≡ n + (0 + 1) = omega arith in s))
after_of n (l ∷ ls) line behind e v =
    let p = both (is_blank l) (list_all is_blank ls) e in
    rw p.0 (after_of (n + 1) ls line behind p.1 v ∙ ap (λ k. Some (k, behind)) (let s : n + 1 + (length ls + 1) ≡ n + (suc (length ls) + 1) = omega arith in s))

report_from : (bytes : List ℕ) (o : Option (ℕ × List (List ℕ))) (out : List Line) → AfterIs 1 (lines bytes) o → option_map (λ p. counted p.0 0 p.1) o ≡ Some out → IsReport bytes out
report_from bytes None out h e = absurd (cc)
report_from bytes (Some (first, behind)) out h e =
    let same : counted first 0 behind ≡ out = cc in
    let number : first ≡ length h.0 + 2 = omega (arith, h.5) in
    let P : ℕ → Type 0 = λ k. Counts k behind out in
    let Q : List Line → Type 0 = λ out. Counts first behind out in
    record {
      blank = h.0;
      version = h.1;
      behind = behind;
      spelled = h.2;
      are_blank = h.3;
      is_version = h.4;
      counts = subst P number (subst Q same (counts_all first behind));
    }

report_to : (bytes : List ℕ) (out : List Line) → IsReport bytes out → counted_in bytes ≡ Some out
report_to bytes out r =
    ap (λ ls. option_map (λ (p : ℕ × List (List ℕ)). counted p.0 0 p.1) (after_version 1 ls)) r.spelled
    ∙ ap (option_map (λ (p : ℕ × List (List ℕ)). counted p.0 0 p.1)) (after_of 1 r.blank r.version r.behind r.are_blank r.is_version)
    ∙ ap (λ k. Some (counted k 0 r.behind)) (let s : 1 + (length r.blank + 1) ≡ length r.blank + 2 = omega arith in s)
    ∙ ap Some (sym (counts_only (length r.blank + 2) r.behind out r.counts))

pub grammar_is_read_proof : GrammarIsRead
grammar_is_read_proof bytes out = (report_from bytes (after_version 1 (lines bytes)) out (after_is 1 (lines bytes)), report_to bytes out)
