-- Lines have one tree, and a report has one outcome.
use Rattle.std.proofs.Common.{◌≡◌, ◌≢◌, ℕ, zero, suc, ◌-◌, ◌<◌, ◌≤◌, List, [], ◌∷◌, ◌++◌, refl, sym, ap, ◌∙◌, arith}
use Rattle.std.specs.Prelude.{Option, Some, None, Result, Ok, Err}
use Rattle.names_realms.specs.declared.states.Case.{Case}
use Rattle.tap_reader.specs.declared.faults.TapFault.{TapFault}
use Rattle.tap_reader.specs.declared.faults.TapFault.TheVariants.{NoVersion, TwoPlans, NoPlan, PlanExceeded, OpenDiagnostic, TooDeep, NotText, PlanTooLarge, Memory}
use Rattle.tap_reader.specs.Counted.{Line}
use Rattle.tap_reader.specs.Streams.{Stream, Ends, Unfinished, Goes, IsAt, lines_of, report_fault}
use Rattle.tap_reader.specs.Cases.{names_len}
use Rattle.tap_reader.specs.Reports.{HasLongNames, Reads, ReadsLines, ReadsText, counted_in, judged, text_fault}
use Rattle.tap_reader.specs.Laws.{OneOutcome, OneTree, SomeOutcome}
use Rattle.tap_reader.proofs.StreamLemmas.{Deeper, Deeper-append}
use Rattle.tap_reader.proofs.OutcomeLemmas.{is_tree, tree_in}
use Rattle.tap_reader.specs.Growing.{put}

-- a tree at a level with these lines more in front
plant : ℕ → List Line → Stream → Stream
plant level [] t = t
plant level (l ∷ ls) t = put (l.level - level) l (plant level ls t)

plant-append : (level : ℕ) (xs ys : List Line) (t : Stream) → plant level (xs ++ ys) t ≡ plant level xs (plant level ys t)
unfolding plant
plant-append level [] ys t = refl
plant-append level (x ∷ xs) ys t = ap (put (x.level - level) x) (plant-append level xs ys t)

put-before : (d : ℕ) (x : Line) (s : Stream) (l : Line) (r : Stream) → put (suc d) x (Goes s l r) ≡ Goes (put d x s) l r
unfolding put
put-before d x s l r = refl

put-alone : (d : ℕ) (x : Line) → put (suc d) x Ends ≡ Unfinished (put d x Ends)
unfolding put
put-alone d x = refl

put-unfinished : (d : ℕ) (x : Line) (s : Stream) → put (suc d) x (Unfinished s) ≡ Unfinished (put d x s)
unfolding put
put-unfinished d x s = refl

put-here : (x : Line) (t : Stream) → put zero x t ≡ Goes Ends x t
unfolding put
put-here x t = refl

below : (level n : ℕ) → level < n → n - level ≡ suc (n - suc level)
below level n h = omega arith

plant-before : (level : ℕ) (xs : List Line) (s : Stream) (l : Line) (r : Stream) → Deeper level xs → plant level xs (Goes s l r) ≡ Goes (plant (suc level) xs s) l r
unfolding plant
plant-before level [] s l r d = refl
plant-before level (x ∷ xs) s l r d =
    ap (put (x.level - level) x) (plant-before level xs s l r d.1)
    ∙ ap (λ n. put n x (Goes (plant (suc level) xs s) l r)) (below level x.level d.0)
    ∙ put-before (x.level - suc level) x (plant (suc level) xs s) l r

plant-unfinished : (level : ℕ) (x : Line) (xs : List Line) → Deeper level (x ∷ xs) → plant level (x ∷ xs) Ends ≡ Unfinished (plant (suc level) (x ∷ xs) Ends)
unfolding plant
plant-unfinished level x [] d = ap (λ n. put n x Ends) (below level x.level d.0) ∙ put-alone (x.level - suc level) x
plant-unfinished level x (y ∷ ys) d =
    ap (put (x.level - level) x) (plant-unfinished level y ys d.1)
    ∙ ap (λ n. put n x (Unfinished (plant (suc level) (y ∷ ys) Ends))) (below level x.level d.0)
    ∙ put-unfinished (x.level - suc level) x (plant (suc level) (y ∷ ys) Ends)

lines-deeper : (k level : ℕ) (t : Stream) → k < level → IsAt level t → Deeper k (lines_of t)
lines-deeper k level Ends h at = tt
lines-deeper k level (Unfinished sub) h at = lines-deeper k (suc level) sub (omega arith) at.1
lines-deeper k level (Goes sub l rest) h at =
    Deeper-append k (lines_of sub) (l ∷ lines_of rest) (lines-deeper k (suc level) sub (omega arith) at.0)
    ((let e : k < l.level = omega (arith, at.1) in e), lines-deeper k level rest h at.2)

some_behind : (xs : List Line) (l : Line) (ys : List Line) → xs ++ l ∷ ys ≢ []
some_behind [] l ys e = cc
some_behind (x ∷ xs) l ys e = cc

lines-some : (level : ℕ) (t : Stream) → t ≢ Ends → IsAt level t → lines_of t ≢ []
lines-some level Ends n at e = n refl
lines-some level (Unfinished sub) n at e = lines-some (suc level) sub at.0 at.1 e
lines-some level (Goes sub l rest) n at e = some_behind (lines_of sub) l (lines_of rest) e

unfinished_by : (level : ℕ) (xs : List Line) → xs ≢ [] → Deeper level xs → plant level xs Ends ≡ Unfinished (plant (suc level) xs Ends)
unfinished_by level [] n d = absurd (n refl)
unfinished_by level (x ∷ xs) n d = plant-unfinished level x xs d

planted : (level : ℕ) (t : Stream) → IsAt level t → plant level (lines_of t) Ends ≡ t
unfolding plant
planted level Ends at = refl
planted level (Unfinished sub) at =
    unfinished_by level (lines_of sub) (lines-some (suc level) sub at.0 at.1) (lines-deeper level (suc level) sub (omega arith) at.1)
    ∙ ap Unfinished (planted (suc level) sub at.1)
planted level (Goes sub l rest) at =
    plant-append level (lines_of sub) (l ∷ lines_of rest) Ends
    ∙ ap (λ t. plant level (lines_of sub) (put (l.level - level) l t)) (planted level rest at.2)
    ∙ ap (λ n. plant level (lines_of sub) (put n l rest)) (let e : l.level - level ≡ zero = omega (arith, at.1) in e)
    ∙ ap (plant level (lines_of sub)) (put-here l rest)
    ∙ plant-before level (lines_of sub) Ends l rest (lines-deeper level (suc level) sub (omega arith) at.0)
    ∙ ap (λ s. Goes s l rest) (planted (suc level) sub at.0)

pub one_tree_proof : OneTree
one_tree_proof ls s t p q =
    sym (planted 0 s p.levels) ∙ ap (λ xs. plant 0 xs Ends) (p.lines ∙ sym q.lines) ∙ planted 0 t q.levels

one_of_lines : (o : Option (List Line)) (r s : Result (List Case) TapFault) → ReadsLines o r → ReadsLines o s → r ≡ s
one_of_lines None r s p q = p ∙ sym q
one_of_lines (Some ls) r s p q =
    p.2 ∙ ap (λ t. judged (report_fault ls t) t) (one_tree_proof ls p.0 q.0 p.1 q.1) ∙ sym q.2

one_of_text : (o : Option ℕ) (bytes : List ℕ) (r s : Result (List Case) TapFault) → ReadsText o bytes r → ReadsText o bytes s → r ≡ s
one_of_text (Some at) bytes r s p q = p ∙ sym q
one_of_text None bytes r s p q = one_of_lines (counted_in bytes) r s p q

pub one_outcome_proof : OneOutcome
one_outcome_proof bytes r s p q = one_of_text (text_fault bytes) bytes r s p q

some_of_lines : (o : Option (List Line)) → (r : Result (List Case) TapFault) × ReadsLines o r
some_of_lines None = (Err NoVersion, refl)
some_of_lines (Some ls) = (judged (report_fault ls (tree_in ls)) (tree_in ls), (tree_in ls, is_tree ls, refl))

some_of_text : (o : Option ℕ) (bytes : List ℕ) → (r : Result (List Case) TapFault) × ReadsText o bytes r
some_of_text (Some at) bytes = (Err (NotText at), refl)
some_of_text None bytes = some_of_lines (counted_in bytes)

pub some_outcome_proof : SomeOutcome
some_outcome_proof bytes = some_of_text (text_fault bytes) bytes

-- a report of cases has no fault
no_fault : (bytes : List ℕ) (f : TapFault) → HasLongNames bytes → ¬ Reads bytes (Err f)
no_fault bytes f h q =
    let same : Ok h.0 ≡ Err f = one_outcome_proof bytes (Ok h.0) (Err f) h.1 q in absurd (cc)

-- so what is answered of one with long names is want of memory
pub long_is_memory : (bytes : List ℕ) (f : TapFault) → (f ≢ Memory → Reads bytes (Err f)) → HasLongNames bytes → f ≡ Memory
long_is_memory bytes NoVersion p h = absurd (no_fault bytes NoVersion h (p (λ e. cc)))
long_is_memory bytes (TwoPlans n) p h = absurd (no_fault bytes (TwoPlans n) h (p (λ e. cc)))
long_is_memory bytes NoPlan p h = absurd (no_fault bytes NoPlan h (p (λ e. cc)))
long_is_memory bytes (PlanExceeded n) p h = absurd (no_fault bytes (PlanExceeded n) h (p (λ e. cc)))
long_is_memory bytes (OpenDiagnostic n) p h = absurd (no_fault bytes (OpenDiagnostic n) h (p (λ e. cc)))
long_is_memory bytes (TooDeep n) p h = absurd (no_fault bytes (TooDeep n) h (p (λ e. cc)))
long_is_memory bytes (NotText at) p h = absurd (no_fault bytes (NotText at) h (p (λ e. cc)))
long_is_memory bytes (PlanTooLarge n) p h = absurd (no_fault bytes (PlanTooLarge n) h (p (λ e. cc)))
long_is_memory bytes Memory p h = refl

-- and never its cases
pub long-no_cases : (bytes : List ℕ) (cases : List Case) → Reads bytes (Ok cases) → names_len cases ≤ 536870912 → ¬ HasLongNames bytes
long-no_cases bytes cases q few h =
    let both : Ok h.0 ≡ Ok cases = one_outcome_proof bytes (Ok h.0) (Ok cases) h.1 q in
    let same : h.0 ≡ cases = cc in
    omega (arith, ap names_len same, h.2, few)
