-- What the lines of a report that count give, by what was written of them.
use Rattle.std.proofs.Common.{◌≡◌, ℕ, ◌≤◌, Bool, true, false, cond, not, List, [], ◌∷◌, ◌++◌, map, refl, sym, ap, ◌∙◌, arith}
use Rattle.std.specs.Prelude.{◌==◌, ◌||◌, nat_lt, filter, fold, Option, Some, None, option_to_list, is_some, Ok, Err}
use Rattle.std.specs.List.{list_any}
use Rattle.std.specs.Option.{option_or}
use Rattle.names_realms.specs.declared.states.Case.{Case}
use Rattle.tap_reader.specs.declared.faults.TapFault.{TapFault}
use Rattle.tap_reader.specs.declared.faults.TapFault.TheVariants.{NoPlan}
use Rattle.tap_reader.specs.declared.entries.Entry.{Entry}
use Rattle.tap_reader.specs.Counted.{Line}
use Rattle.tap_reader.specs.Entries.{line_of}
use Rattle.tap_reader.specs.Streams.{Stream, IsAt, IsTree, earlier, first_alone, first_fault, in_tree, is_bail, missing_numbers, own_from, plan_fault, plan_of, plan_said, report_fault, stream_faults}
use Rattle.tap_reader.specs.Cases.{report_cases}
use Rattle.tap_reader.specs.Completing.{State, at_level, completed, filled, missing_line, with_line}
use Rattle.tap_reader.specs.CompletingViews.{empty_state}
use Rattle.tap_reader.specs.Naming.{named}
use Rattle.tap_reader.specs.Reports.{ReadsLines, judged}
use Rattle.tap_reader.proofs.StreamLemmas.{fold_append, own_written, report_run, st, whole, written}
use Rattle.tap_reader.proofs.RunLemmas.{NoneHigher, own_run}
use Rattle.tap_reader.proofs.CaseLemmas.{report_listed}
use Rattle.tap_reader.specs.Growing.{tree_of}
use Rattle.tap_reader.proofs.TreeLemmas.{IsAt-tree, lines-tree}

-- a test of some line, where the lines are those of entries
pub any_line : (test : Line → Bool) (es : List Entry) → list_any test (map line_of es) ≡ list_any (λ e. test (line_of e)) es
any_line test [] = refl
any_line test (e ∷ es) = ap (λ rest. test (line_of e) || rest) (any_line test es)

-- the tree of the lines that count
abbrev pub tree_in : List Line → Stream
tree_in ls = tree_of (filter in_tree ls)

pub is_tree : (ls : List Line) → IsTree ls (tree_in ls)
is_tree ls = record { lines = lines-tree (filter in_tree ls); levels = IsAt-tree (filter in_tree ls) }

-- what the code has written of the lines
abbrev pub Wrote : Bool → List Line → State → Type 0
Wrote fill ls s = s ≡ completed fill (fold (with_line fill) empty_state (filter in_tree ls))

wrote_tree : (fill : Bool) (ls : List Line) (s : State) → Wrote fill ls s → s ≡ st (whole fill 0 (tree_in ls)) (fold earlier None (stream_faults (tree_in ls)))
wrote_tree fill ls s e =
    e ∙ ap (λ xs. completed fill (fold (with_line fill) empty_state xs)) (sym (lines-tree (filter in_tree ls)))
    ∙ report_run fill (tree_in ls) (IsAt-tree (filter in_tree ls))

pub wrote_fault : (fill : Bool) (ls : List Line) (s : State) → Wrote fill ls s → fold earlier s.fault (option_to_list (first_alone 0 ls)) ≡ first_fault ls (tree_in ls)
wrote_fault fill ls s e =
    ap (λ x. fold earlier x (option_to_list (first_alone 0 ls))) (ap (λ x. x.fault) (wrote_tree fill ls s e))
    ∙ sym (fold_append earlier None (stream_faults (tree_in ls)) (option_to_list (first_alone 0 ls)))

none_above : (ls : List Line) → NoneHigher 0 ls
none_above [] = tt
none_above (l ∷ ls) = ((let h : 0 ≤ l.level = omega arith in h), none_above ls)

filter-append : (p : Line → Bool) (xs ys : List Line) → filter p (xs ++ ys) ≡ filter p xs ++ filter p ys
filter-append p [] ys = refl
filter-append p (x ∷ xs) ys = filtered_by (p x) x (filter p xs) (filter p ys) (filter p (xs ++ ys)) (filter-append p xs ys)
  where
    filtered_by : (t : Bool) (x : Line) (a b c : List Line) → c ≡ a ++ b → cond t (x ∷ c) c ≡ cond t (x ∷ a) a ++ b
    filtered_by true x a b c e = ap (λ l. x ∷ l) e
    filtered_by false x a b c e = e

plan_of-append : (xs ys : List Line) → plan_of ys ≡ None → plan_of (xs ++ ys) ≡ plan_of xs
plan_of-append [] ys e = e
plan_of-append (x ∷ xs) ys e = ap (option_or (plan_said x.said)) (plan_of-append xs ys e)

plan_missing : (ns : List ℕ) → plan_of (at_level 0 (map (missing_line 0) ns)) ≡ None
plan_missing [] = refl
plan_missing (n ∷ ns) = plan_missing ns

plan_filled : (fill : Bool) (here : List Line) → plan_of (at_level 0 (filled fill 0 here)) ≡ None
plan_filled true here = plan_missing (missing_numbers here)
plan_filled false here = refl

plan_whole : (fill : Bool) (t : Stream) → IsAt 0 t → plan_of (at_level 0 (whole fill 0 t)) ≡ plan_of (own_from 0 t)
plan_whole fill t at =
    let w = written fill 0 0 t in
    let here = own_from 0 t in
    let top : at_level 0 w ≡ here = sym (own_run 0 [] w (none_above w)) ∙ own_written fill 0 0 [] t at in
    ap plan_of (filter-append (λ l. l.level == 0) w (filled fill 0 here))
    ∙ plan_of-append (at_level 0 w) (at_level 0 (filled fill 0 here)) (plan_filled fill here) ∙ ap plan_of top

pub wrote_plan : (fill : Bool) (ls : List Line) (s : State) → Wrote fill ls s → plan_of (at_level 0 s.lines) ≡ plan_of (own_from 0 (tree_in ls))
wrote_plan fill ls s e =
    ap (λ x. plan_of (at_level 0 x.lines)) (wrote_tree fill ls s e) ∙ plan_whole fill (tree_in ls) (IsAt-tree (filter in_tree ls))

pub wrote_cases : (ls : List Line) (s : State) → Wrote true ls s → named s.lines ≡ report_cases (tree_in ls)
wrote_cases ls s e =
    ap (λ x. named x.lines) (wrote_tree true ls s e) ∙ report_listed (tree_in ls) (IsAt-tree (filter in_tree ls))

pub earlier_none : (o p : Option TapFault) → fold earlier o (option_to_list p) ≡ None → p ≡ None
earlier_none o None e = refl
earlier_none None (Some f) e = cc
earlier_none (Some g) (Some f) e = absurd (some_of (nat_lt _ _) f g e)
  where
    some_of : (t : Bool) (f g : TapFault) → cond t (Some f) (Some g) ≡ None → ⊥
    some_of true f g e = cc
    some_of false f g e = cc

-- a report whose first fault is this
pub reads_fault : (ls : List Line) (f : TapFault) → first_fault ls (tree_in ls) ≡ Some f → ReadsLines (Some ls) (Err f)
reads_fault ls f e = (tree_in ls, is_tree ls, ap (λ o. judged (option_or o (plan_fault ls (tree_in ls))) (tree_in ls)) (sym e))

-- a report without a fault of a line, by what is wrong with its plan
judged_by : (ls : List Line) (o : Option TapFault) → first_fault ls (tree_in ls) ≡ None → plan_fault ls (tree_in ls) ≡ o → judged o (tree_in ls) ≡ judged (report_fault ls (tree_in ls)) (tree_in ls)
judged_by ls o e p =
    ap (λ x. judged x (tree_in ls)) (sym p) ∙ ap (λ x. judged (option_or x (plan_fault ls (tree_in ls))) (tree_in ls)) (sym e)

-- the top stream has a plan, or the run was given up
abbrev pub has_end_of : List Line → Bool
has_end_of ls = is_some (plan_of (own_from 0 (tree_in ls))) || list_any (λ l. is_bail l.said) ls

pub reads_no_plan : (ls : List Line) → first_fault ls (tree_in ls) ≡ None → has_end_of ls ≡ false → ReadsLines (Some ls) (Err NoPlan)
reads_no_plan ls e h = (tree_in ls, is_tree ls, judged_by ls (Some NoPlan) e (rw h refl))

pub reads_cases : (ls : List Line) (cases : List Case) → first_fault ls (tree_in ls) ≡ None → has_end_of ls ≡ true → cases ≡ report_cases (tree_in ls) → ReadsLines (Some ls) (Ok cases)
reads_cases ls cases e h c = (tree_in ls, is_tree ls, ap Ok c ∙ judged_by ls None e (rw h refl))

pub wrote_end : (fill : Bool) (ls : List Line) (s : State) → Wrote fill ls s → (is_some (plan_of (at_level 0 s.lines)) || list_any (λ l. is_bail l.said) ls) ≡ has_end_of ls
wrote_end fill ls s e = ap (λ p. is_some p || list_any (λ l. is_bail l.said) ls) (wrote_plan fill ls s e)

pub not_false : (b : Bool) → not b ≡ false → b ≡ true
not_false true e = refl
not_false false e = sym e
