-- The lines that count are those of the grammar.
use Rattle.std.proofs.Common.{◌≡◌, ◌≢◌, ℕ, zero, suc, ◌+◌, ◌/◌, ◌%◌, ◌≤◌, nat_eq, Bool, true, false, cond, List, [], ◌∷◌, ◌++◌, length, take, drop, codes, refl, sym, ap, ◌∙◌, subst, append_assoc, arith}
use Rattle.std.specs.Prelude.{◌==◌, ◌&&◌, Option, Some, None, option_map, IfSome}
use Rattle.std.specs.List.{starts_with}
use Rattle.std.specs.Bool.{Decides}
use Rattle.std.proofs.lemmas.Bool.Decides.{not_from_Decides}
use Rattle.std.proofs.lemmas.List.{drop_at, length-append}
use Rattle.tap_reader.specs.LineForms.{Said, Plan, Point, Bail, Open, Missing, Test, digits, ends_plan, ends_word, is_mark, is_number_len, number_from, numbered_in, plan_in, point_in, said_by, said_in, spaces, unspaced}
use Rattle.tap_reader.specs.Counted.{Absent, Endless, Found, Line, Whole, counted, found_end, found_in, given, lines_found, passed_over, until_end, with_found}
use Rattle.tap_reader.specs.Grammar.{Counts, NoneCloses, at_end, bail_out, bare_point, closing, nothing, open_point, opening, plan, point}
use Rattle.tap_reader.proofs.ReadingLemmas.{counted_all, counted_pass}
use Rattle.tap_reader.proofs.TextLemmas.{NoSpace, fails, mark_decides}

dash-no_space : NoSpace (codes "---")
dash-no_space rest e = cc

dot-no_space : NoSpace (codes "...")
dot-no_space rest e = cc

opens : (level : ℕ) (l : List ℕ) → Decides (is_mark (codes "---") level l) (l ≡ opening level)
opens level l = mark_decides (codes "---") level l dash-no_space

closes : (level : ℕ) (l : List ℕ) → Decides (is_mark (codes "...") level l) (l ≡ closing level)
closes level l = mark_decides (codes "...") level l dot-no_space

-- the end of a diagnostic among these lines, or that there is none
abbrev EndIs : ℕ → List (List ℕ) → Option (List (List ℕ)) → Type 0
EndIs level ls None = NoneCloses level ls
EndIs level ls (Some body) = (rest : List (List ℕ)) × NoneCloses level body × (ls ≡ body ++ closing level ∷ rest)

end_more : (level : ℕ) (l : List ℕ) (ls : List (List ℕ)) (o : Option (List (List ℕ))) → l ≢ closing level → EndIs level ls o → EndIs level (l ∷ ls) (option_map (λ body. l ∷ body) o)
end_more level l ls None no_ h = (no_, h)
end_more level l ls (Some body) no_ h = (h.0, (no_, h.1), ap (λ xs. l ∷ xs) h.2)

end_step : (t : Bool) (level : ℕ) (l : List ℕ) (ls : List (List ℕ)) → is_mark (codes "...") level l ≡ t → EndIs level ls (until_end level ls) → EndIs level (l ∷ ls) (cond t (Some []) (option_map (λ body. l ∷ body) (until_end level ls)))
end_step true level l ls e h = (ls, tt, ap (λ x. x ∷ ls) ((closes level l).0 e))
end_step false level l ls e h = end_more level l ls (until_end level ls) (not_from_Decides (is_mark (codes "...") level l) (closes level l) e) h

end_is : (level : ℕ) (ls : List (List ℕ)) → EndIs level ls (until_end level ls)
end_is level [] = tt
end_is level (l ∷ ls) = end_step (is_mark (codes "...") level l) level l ls refl (end_is level ls)

end_of : (level : ℕ) (body rest : List (List ℕ)) → NoneCloses level body → until_end level (body ++ closing level ∷ rest) ≡ Some body
end_of level [] rest h =
    let e : is_mark (codes "...") level (closing level) ≡ true = (closes level (closing level)).1 refl in rw e refl
end_of level (b ∷ bs) rest h =
    let e : is_mark (codes "...") level b ≡ false = fails (is_mark (codes "...") level b) (b ≡ closing level) (closes level b) h.0 in
    rw e (ap (option_map (λ body. b ∷ body)) (end_of level bs rest h.1))

end_none : (level : ℕ) (ls : List (List ℕ)) → NoneCloses level ls → until_end level ls ≡ None
end_none level [] h = refl
end_none level (l ∷ ls) h =
    let e : is_mark (codes "...") level l ≡ false = fails (is_mark (codes "...") level l) (l ≡ closing level) (closes level l) h.0 in
    rw e (ap (option_map (λ body. l ∷ body)) (end_none level ls h.1))

-- a diagnostic that stands there is found
found_whole : (level : ℕ) (body rest : List (List ℕ)) → NoneCloses level body → found_in level (opening level ∷ (body ++ closing level ∷ rest)) ≡ Whole body
found_whole level body rest h =
    let e : is_mark (codes "---") level (opening level) ≡ true = (opens level (opening level)).1 refl in
    rw e (ap found_end (end_of level body rest h))

found_endless : (level : ℕ) (ls : List (List ℕ)) → NoneCloses level ls → found_in level (opening level ∷ ls) ≡ Endless
found_endless level ls h =
    let e : is_mark (codes "---") level (opening level) ≡ true = (opens level (opening level)).1 refl in
    rw e (ap found_end (end_none level ls h))

found_absent : (level : ℕ) (ls : List (List ℕ)) → ((rest : List (List ℕ)) → ls ≢ opening level ∷ rest) → found_in level ls ≡ Absent
found_absent level [] h = refl
found_absent level (l ∷ ls) h =
    let e : is_mark (codes "---") level l ≡ false = fails (is_mark (codes "---") level l) (l ≡ opening level) (opens level l) (λ e. h ls (ap (λ x. x ∷ ls) e)) in
    rw e refl

-- what counts of a point with the lines behind it
point_counts : (n : ℕ) (l : List ℕ) (ls : List (List ℕ)) (level : ℕ) (t : Test) (f : Found) → said_by l ≡ Some (level, Point t) → found_in level ls ≡ f → counted n 0 (l ∷ ls) ≡ with_found n level t f ++ counted (n + 1) (lines_found f ls) ls
point_counts n l ls level t f e p =
    ap (λ o. given n o ls ++ counted (n + 1) (passed_over o ls) ls) e
    ∙ ap (λ f. with_found n level t f ++ counted (n + 1) (lines_found f ls) ls) p

behind_whole : (n : ℕ) (first : List ℕ) (body : List (List ℕ)) (last : List ℕ) (ls : List (List ℕ)) → counted (n + 1) (length body + 2) (first ∷ (body ++ last ∷ ls)) ≡ counted (n + length body + 3) 0 ls
behind_whole n first body last ls =
    let k = length body in
    let cut : drop (k + 1) (body ++ last ∷ ls) ≡ ls =
    ap (drop (k + 1)) (sym (append_assoc body (last ∷ []) ls))
    ∙ drop_at (body ++ last ∷ []) ls (k + 1) (length-append body (last ∷ [])) in
    counted_pass (k + 2) (n + 1) (first ∷ (body ++ last ∷ ls))
    ∙ ap (λ m. counted (n + 1 + (k + 2)) 0 (drop m (first ∷ (body ++ last ∷ ls)))) (let e : k + 2 ≡ suc (k + 1) = omega arith in e)
    ∙ ap (counted (n + 1 + (k + 2)) 0) cut
    ∙ ap (λ m. counted m 0 ls) (let e : n + 1 + (k + 2) ≡ n + k + 3 = omega arith in e)

-- what the grammar has is what is counted
pub counts_only : (n : ℕ) (ls : List (List ℕ)) (out : List Line) → Counts n ls out → out ≡ counted n 0 ls
counts_only _ _ _ (at_end n) = refl
counts_only _ _ _ (nothing n l ls out e h) =
    counts_only (n + 1) ls out h ∙ sym (ap (λ o. given n o ls ++ counted (n + 1) (passed_over o ls) ls) e)
counts_only _ _ _ (plan n l ls out level count e h) =
    ap (λ xs. record { number = n; level = level; said = Plan count } ∷ xs) (counts_only (n + 1) ls out h)
    ∙ sym (ap (λ o. given n o ls ++ counted (n + 1) (passed_over o ls) ls) e)
counts_only _ _ _ (bare_point n l ls out level t e none h) =
    ap (λ xs. record { number = n; level = level; said = Point t } ∷ xs) (counts_only (n + 1) ls out h)
    ∙ sym (point_counts n l ls level t Absent e (found_absent level ls none))
counts_only _ _ _ (point n l body ls out level t e none h) =
    let said = Point (record t { diagnostic = body }) in
    let behind = opening level ∷ (body ++ closing level ∷ ls) in
    ap (λ xs. record { number = n; level = level; said = said } ∷ xs) (counts_only (n + length body + 3) ls out h ∙ sym (behind_whole n (opening level) body (closing level) ls))
    ∙ sym (point_counts n l behind level t (Whole body) e (found_whole level body ls none))
counts_only _ _ _ (open_point n l ls level t e none) =
    let behind = opening level ∷ ls in
    ap (λ xs. record { number = n; level = level; said = Point t } ∷ record { number = n + 1; level = level; said = Open } ∷ xs) (sym (counted_all (n + 1) behind))
    ∙ sym (point_counts n l behind level t Endless e (found_endless level ls none))
counts_only _ _ _ (bail_out n l ls level e) =
    ap (λ xs. record { number = n; level = level; said = Bail } ∷ xs) (sym (counted_all (n + 1) ls))
    ∙ sym (ap (λ o. given n o ls ++ counted (n + 1) (passed_over o ls) ls) e)

-- what lines say is a plan, a point or a bail-out
abbrev IsWritten : Said → Type 0
IsWritten (Plan count) = Unit {0}
IsWritten (Point t) = Unit {0}
IsWritten Bail = Unit {0}
IsWritten Open = ⊥
IsWritten (Missing k) = ⊥

cond_written : (t : Bool) (o p : Option Said) → IfSome o IsWritten → IfSome p IsWritten → IfSome (cond t o p) IsWritten
cond_written true o p a b = a
cond_written false o p a b = b

plan-written : (text : List ℕ) → IfSome (plan_in text) IsWritten
unfolding plan_in
plan-written text =
    cond_written (is_number_len (digits text) && ends_plan (drop (digits text) text)) (Some (Plan (number_from 0 (take (digits text) text)))) None tt tt

point-written : (passed : Bool) (text : List ℕ) → IfSome (point_in passed text) IsWritten
unfolding point_in
point-written passed text = cond_written (ends_word text) (Some (Point (numbered_in passed (drop 1 text)))) None tt tt

said-written : (text : List ℕ) → IfSome (said_in text) IsWritten
unfolding said_in
said-written text =
    let bail = cond (starts_with nat_eq text (codes "Bail out!")) (Some Bail) None in
    let failed = cond (starts_with nat_eq text (codes "not ok")) (point_in false (drop 6 text)) bail in
    let passed = cond (starts_with nat_eq text (codes "ok")) (point_in true (drop 2 text)) failed in
    cond_written (starts_with nat_eq text (codes "1..")) (plan_in (drop 3 text)) passed (plan-written (drop 3 text))
    (cond_written (starts_with nat_eq text (codes "ok")) (point_in true (drop 2 text)) failed (point-written true (drop 2 text))
    (cond_written (starts_with nat_eq text (codes "not ok")) (point_in false (drop 6 text)) bail (point-written false (drop 6 text))
    (cond_written (starts_with nat_eq text (codes "Bail out!")) (Some Bail) None tt tt)))

abbrev LineWritten : Option (ℕ × Said) → Type 0
LineWritten o = IfSome o (λ p. IsWritten p.1)

mapped_written : (level : ℕ) (o : Option Said) → IfSome o IsWritten → LineWritten (option_map (λ s. (level, s)) o)
mapped_written level None h = tt
mapped_written level (Some s) h = h

cond_line_written : (t : Bool) (o : Option (ℕ × Said)) → LineWritten o → LineWritten (cond t o None)
cond_line_written true o h = h
cond_line_written false o h = tt

line-written : (line : List ℕ) → LineWritten (said_by line)
unfolding said_by
line-written line =
    cond_line_written (spaces line % 4 == 0) (option_map (λ s. (spaces line / 4, s)) (said_in (unspaced line)))
    (mapped_written (spaces line / 4) (said_in (unspaced line)) (said-written (unspaced line)))

-- what stands behind a point
abbrev FoundIs : ℕ → List (List ℕ) → Found → Type 0
FoundIs level ls Absent = (rest : List (List ℕ)) → ls ≢ opening level ∷ rest
FoundIs level ls (Whole body) = (rest : List (List ℕ)) × NoneCloses level body × (ls ≡ opening level ∷ (body ++ closing level ∷ rest))
FoundIs level ls Endless = (rest : List (List ℕ)) × NoneCloses level rest × (ls ≡ opening level ∷ rest)

end_found : (level : ℕ) (l : List ℕ) (ls : List (List ℕ)) (o : Option (List (List ℕ))) → l ≡ opening level → EndIs level ls o → FoundIs level (l ∷ ls) (found_end o)
end_found level l ls None e h = (ls, h, ap (λ x. x ∷ ls) e)
end_found level l ls (Some body) e h = (h.0, h.1, ap (λ x. x ∷ ls) e ∙ ap (λ xs. opening level ∷ xs) h.2)

first_line_is : (l m : List ℕ) (ls rest : List (List ℕ)) → l ∷ ls ≡ m ∷ rest → l ≡ m
first_line_is l m ls rest e = cc

found_step : (t : Bool) (level : ℕ) (l : List ℕ) (ls : List (List ℕ)) → is_mark (codes "---") level l ≡ t → FoundIs level (l ∷ ls) (cond t (found_end (until_end level ls)) Absent)
found_step true level l ls e = end_found level l ls (until_end level ls) ((opens level l).0 e) (end_is level ls)
found_step false level l ls e =
    λ rest same. not_from_Decides (is_mark (codes "---") level l) (opens level l) e (first_line_is l (opening level) ls rest same)

no_line : (level : ℕ) (rest : List (List ℕ)) → [] ≢ opening level ∷ rest
no_line level rest e = cc

found_is : (level : ℕ) (ls : List (List ℕ)) → FoundIs level ls (found_in level ls)
found_is level [] = no_line level
found_is level (l ∷ ls) = found_step (is_mark (codes "---") level l) level l ls refl

-- shorter lists of lines have what is counted of them
abbrev Shorter : List (List ℕ) → Type 0
Shorter ls = (m : ℕ) (rest : List (List ℕ)) → length rest ≤ length ls → Counts m rest (counted m 0 rest)

length-behind : (first last : List ℕ) (body rest ls : List (List ℕ)) → ls ≡ first ∷ (body ++ last ∷ rest) → length rest ≤ length ls
length-behind first last body rest ls e = omega (arith, ap length e, length-append body (last ∷ rest))

point_of : (n : ℕ) (l : List ℕ) (ls : List (List ℕ)) (level : ℕ) (t : Test) (f : Found) → said_by l ≡ Some (level, Point t) → FoundIs level ls f → Shorter ls → Counts n (l ∷ ls) (with_found n level t f ++ counted (n + 1) (lines_found f ls) ls)
point_of n l ls level t Absent e h ih = bare_point n l ls (counted (n + 1) 0 ls) level t e h (ih (n + 1) ls (omega arith))
point_of n l ls level t (Whole body) e h ih =
    let first : Line = record { number = n; level = level; said = Point (record t { diagnostic = body }) } in
    let rest = h.0 in
    let behind = opening level ∷ (body ++ closing level ∷ rest) in
    let P : List Line → Type 0 = λ out. Counts n (l ∷ behind) (first ∷ out) in
    let Q : List (List ℕ) → Type 0 = λ xs. Counts n (l ∷ xs) (first ∷ counted (n + 1) (length body + 2) xs) in
    subst Q (sym h.2)
    (subst P (sym (behind_whole n (opening level) body (closing level) rest))
    (point n l body rest (counted (n + length body + 3) 0 rest) level t e h.1
    (ih (n + length body + 3) rest (length-behind (opening level) (closing level) body rest ls h.2))))
point_of n l ls level t Endless e h ih =
    let first : Line = record { number = n; level = level; said = Point t } in
    let open_ : Line = record { number = n + 1; level = level; said = Open } in
    let P : List Line → Type 0 = λ out. Counts n (l ∷ ls) (first ∷ open_ ∷ out) in
    let Q : List (List ℕ) → Type 0 = λ xs. Counts n (l ∷ xs) (first ∷ open_ ∷ []) in
    subst P (sym (counted_all (n + 1) ls)) (subst Q (sym h.2) (open_point n l h.0 level t e h.1))

line_counts : (n : ℕ) (l : List ℕ) (ls : List (List ℕ)) (o : Option (ℕ × Said)) → said_by l ≡ o → LineWritten o → Shorter ls → Counts n (l ∷ ls) (given n o ls ++ counted (n + 1) (passed_over o ls) ls)
line_counts n l ls None e w ih = nothing n l ls (counted (n + 1) 0 ls) e (ih (n + 1) ls (omega arith))
line_counts n l ls (Some (level, Plan count)) e w ih = plan n l ls (counted (n + 1) 0 ls) level count e (ih (n + 1) ls (omega arith))
line_counts n l ls (Some (level, Point t)) e w ih = point_of n l ls level t (found_in level ls) e (found_is level ls) ih
line_counts n l ls (Some (level, Bail)) e w ih =
    let P : List Line → Type 0 = λ out. Counts n (l ∷ ls) (record { number = n; level = level; said = Bail } ∷ out) in
    subst P (sym (counted_all (n + 1) ls)) (bail_out n l ls level e)
line_counts n l ls (Some (level, Open)) e w ih = absurd w
line_counts n l ls (Some (level, Missing k)) e w ih = absurd w

counts_within : (most n : ℕ) (ls : List (List ℕ)) → length ls ≤ most → Counts n ls (counted n 0 ls)
counts_within most n [] h = at_end n
counts_within zero n (l ∷ ls) h = absurd (omega arith)
counts_within (suc most) n (l ∷ ls) h =
    line_counts n l ls (said_by l) refl (line-written l) (λ m rest less. counts_within most m rest (omega arith))

-- what is counted is in the grammar
pub counts_all : (n : ℕ) (ls : List (List ℕ)) → Counts n ls (counted n 0 ls)
counts_all n ls = counts_within (length ls) n ls (omega arith)
