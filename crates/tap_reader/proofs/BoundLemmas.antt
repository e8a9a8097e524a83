-- The numbers of points stay small.
use Rattle.std.proofs.Common.{◌≡◌, ℕ, zero, suc, ◌+◌, ◌-◌, ◌*◌, ◌/◌, ◌%◌, ◌^◌, ◌<◌, ◌≤◌, codes, nat_eq, Bool, true, false, cond, List, [], ◌∷◌, ◌++◌, length, map, take, drop, get_or, refl, sym, ap, ◌∙◌, subst, arith}
use Rattle.std.specs.Prelude.{◌==◌, ◌&&◌, nat_lt, fold, filter, Option, Some, None, option_map, unwrap_or, IfSome}
use Rattle.std.specs.List.{prefix_len, starts_with}
use Rattle.std.specs.Char.{is_ascii_digit}
use Rattle.std.proofs.Math.Nat.{mul-le-mul_right, pow-succ', pow-le-pow_right}
use Rattle.std.proofs.lemmas.Bool.Decides.{nat_tests}
use Rattle.std.proofs.lemmas.List.{length-take, map-append, take_more}
use Rattle.tap_reader.specs.declared.entries.Entry.{Entry}
use Rattle.tap_reader.specs.Entries.{line_of}
use Rattle.tap_reader.specs.CompletingViews.{empty_state}
use Rattle.tap_reader.specs.LineForms.{Said, Plan, Point, Bail, Open, Missing, Test, described, digits, ends_plan, ends_word, is_number_len, number_from, numbered_in, plan_in, point_in, said_by, said_in, spaces, unspaced}
use Rattle.tap_reader.specs.Counted.{Absent, Endless, Found, Line, Whole, counted, found_in, given, passed_over, with_found}
use Rattle.tap_reader.specs.Completing.{State, closed, closed_above, filled, last_number, last_step, missing_line, number_after, own, shut, top_level, with_line}
use Rattle.tap_reader.specs.Streams.{in_tree, missing_numbers, numbered, numbered_said}
use Rattle.tap_reader.specs.Bounds.{AllBelow, IsBelow}

pub below_front : (b : ℕ) (xs ys : List Line) → AllBelow b (xs ++ ys) → AllBelow b xs
below_front b [] ys h = tt
below_front b (x ∷ xs) ys h = (h.0, below_front b xs ys h.1)

AllBelow-append : (b : ℕ) (xs ys : List Line) → AllBelow b xs → AllBelow b ys → AllBelow b (xs ++ ys)
AllBelow-append b [] ys p q = q
AllBelow-append b (x ∷ xs) ys p q = (p.0, AllBelow-append b xs ys p.1 q)

below_more : (b d n : ℕ) → b ≤ d → n < b → n < d
below_more b d n h p = omega arith

some_more : (b d : ℕ) (o : Option ℕ) → b ≤ d → IfSome o (λ n. n < b) → IfSome o (λ n. n < d)
some_more b d None h p = tt
some_more b d (Some n) h p = below_more b d n h p

IsBelow-more : (b d : ℕ) (s : Said) → b ≤ d → IsBelow b s → IsBelow d s
IsBelow-more b d (Plan count) h p = tt
IsBelow-more b d (Point t) h p = some_more b d t.number h p
IsBelow-more b d Bail h p = tt
IsBelow-more b d Open h p = tt
IsBelow-more b d (Missing k) h p = tt

AllBelow-more : (b d : ℕ) (ls : List Line) → b ≤ d → AllBelow b ls → AllBelow d ls
AllBelow-more b d [] h p = tt
AllBelow-more b d (l ∷ ls) h p = (IsBelow-more b d l.said h p.0, AllBelow-more b d ls h p.1)

missing-below : (b level : ℕ) (ns : List ℕ) → AllBelow b (map (missing_line level) ns)
missing-below b level [] = tt
missing-below b level (n ∷ ns) = (tt, missing-below b level ns)

filled-below : (b : ℕ) (fill : Bool) (level : ℕ) (here : List Line) → AllBelow b (filled fill level here)
filled-below b true level here = missing-below b level (missing_numbers here)
filled-below b false level here = tt

closed-below : (b : ℕ) (fill : Bool) (level : ℕ) (s : State) → AllBelow b s.lines → AllBelow b (closed fill level s).lines
unfolding closed
closed-below b fill level s h = AllBelow-append b s.lines (filled fill level (own level s.lines)) h (filled-below b fill level (own level s.lines))

shut-below : (b : ℕ) (fill : Bool) (level n : ℕ) (s : State) → AllBelow b s.lines → AllBelow b (shut fill level n s).lines
shut-below b fill level zero s h = h
shut-below b fill level (suc n) s h = shut-below b fill level n (closed fill (level + suc n) s) (closed-below b fill (level + suc n) s h)

-- closing streams writes no point
pub closed_above-below : (b : ℕ) (fill : Bool) (level : ℕ) (s : State) → AllBelow b s.lines → AllBelow b (closed_above fill level s).lines
closed_above-below b fill level s h = shut-below b fill level (top_level s.lines - level) s h

some_below : (b : ℕ) (o : Option ℕ) → 0 < b → IfSome o (λ n. n < b) → unwrap_or o 0 < b
some_below b None p h = p
some_below b (Some n) p h = h

number_after-below : (b n : ℕ) (s : Said) → 0 < b → n < b → IsBelow b s → number_after n s < b
number_after-below b n (Plan count) p q h = q
number_after-below b n (Point t) p q h = some_below b t.number p h
number_after-below b n Bail p q h = q
number_after-below b n Open p q h = q
number_after-below b n (Missing k) p q h = q

cond_below : (b : ℕ) (t : Bool) (m n : ℕ) → m < b → n < b → cond t m n < b
cond_below b true m n p q = p
cond_below b false m n p q = q

last-below : (b level n : ℕ) (ls : List Line) → 0 < b → n < b → AllBelow b ls → fold (last_step level) n ls < b
last-below b level n [] p q h = q
last-below b level n (l ∷ ls) p q h =
    last-below b level (last_step level n l) ls p
    (cond_below b (nat_lt l.level level) 0 (cond (l.level == level) (number_after n l.said) n) p
    (cond_below b (l.level == level) (number_after n l.said) n (number_after-below b n l.said p q h.0) q))
    h.1

-- the last number of a stream is below the bound of all
pub last_number-below : (b level : ℕ) (ls : List Line) → 0 < b → AllBelow b ls → last_number level ls < b
last_number-below b level ls p h = last-below b level 0 ls p p h

-- ascii digits
abbrev AllDigits : List ℕ → Type 0
AllDigits [] = Unit {0}
AllDigits (b ∷ bs) = (b - 48 < 10) × AllDigits bs

digit_small : (b : ℕ) → is_ascii_digit b ≡ true → b - 48 < 10
digit_small b e = grind (arith, nat_tests)

digits_step : (t : Bool) (b : ℕ) (bs : List ℕ) (n : ℕ) → is_ascii_digit b ≡ t → AllDigits (take n bs) → AllDigits (take (cond t (1 + n) 0) (b ∷ bs))
digits_step true b bs n e h =
    let P : ℕ → Type 0 = λ k. AllDigits (take k (b ∷ bs)) in
    subst P (let s : suc n ≡ 1 + n = omega arith in s) (digit_small b e, h)
digits_step false b bs n e h = tt

digits_take : (text : List ℕ) → AllDigits (take (prefix_len is_ascii_digit text) text)
digits_take [] = tt
digits_take (b ∷ bs) = digits_step (is_ascii_digit b) b bs (prefix_len is_ascii_digit bs) refl (digits_take bs)

number_bound : (n : ℕ) (bs : List ℕ) → AllDigits bs → number_from n bs + 1 ≤ (n + 1) * 10 ^ length bs
number_bound n [] h = omega arith
number_bound n (b ∷ bs) h =
    let m = 10 * n + (b - 48) in
    let k = 10 ^ length bs in
    let step : (m + 1) * k ≤ (10 * (n + 1)) * k = mul-le-mul_right k (omega (arith, h.0)) in
    let pow : 10 ^ suc (length bs) ≡ 10 * k = pow-succ' 10 (length bs) in
    let all : (n + 1) * 10 ^ suc (length bs) ≡ (10 * (n + 1)) * k = ap (λ x. (n + 1) * x) pow ∙ omega arith in
    omega (arith, number_bound m bs h.1, step, all)

number_small : (text : List ℕ) → digits text < 10 → number_from 0 (take (digits text) text) < 2 ^ 40
number_small text h =
    let ds = take (digits text) text in
    let len : length ds ≤ 9 = omega (arith, length-take (digits text) text) in
    let pow : 10 ^ length ds ≤ 10 ^ 9 = pow-le-pow_right {n = 10} (omega arith) len in
    omega (arith, number_bound 0 ds (digits_take text), pow)

and_first : (s t : Bool) → (s && t) ≡ true → s ≡ true
and_first true t e = refl
and_first false t e = e

numbered_by : (t : Bool) (passed : Bool) (text : List ℕ) → (is_number_len (digits text) && ends_word (drop (digits text) text)) ≡ t → IfSome (cond t (described passed (Some (number_from 0 (take (digits text) text))) (drop (digits text + 1) text)) (described passed None text)).number (λ n. n < 2 ^ 40)
unfolding described
numbered_by true passed text e =
    let p : is_number_len (digits text) ≡ true = and_first (is_number_len (digits text)) (ends_word (drop (digits text) text)) e in
    number_small text (let h : digits text < 10 = grind (arith, nat_tests) in h)
numbered_by false passed text e = tt

numbered-below : (passed : Bool) (text : List ℕ) → IfSome (numbered_in passed text).number (λ n. n < 2 ^ 40)
unfolding numbered_in
numbered-below passed text = numbered_by (is_number_len (digits text) && ends_word (drop (digits text) text)) passed text refl

abbrev SomeBelow : Option Said → Type 0
SomeBelow o = IfSome o (IsBelow (2 ^ 40))

cond_some : (t : Bool) (o p : Option Said) → SomeBelow o → SomeBelow p → SomeBelow (cond t o p)
cond_some true o p a b = a
cond_some false o p a b = b

plan-below : (text : List ℕ) → SomeBelow (plan_in text)
unfolding plan_in
plan-below text =
    cond_some (is_number_len (digits text) && ends_plan (drop (digits text) text)) (Some (Plan (number_from 0 (take (digits text) text)))) None tt tt

point-below : (passed : Bool) (text : List ℕ) → SomeBelow (point_in passed text)
unfolding point_in
point-below passed text =
    cond_some (ends_word text) (Some (Point (numbered_in passed (drop 1 text)))) None (numbered-below passed (drop 1 text)) tt

said-below : (text : List ℕ) → SomeBelow (said_in text)
unfolding said_in
said-below text =
    let bail = cond (starts_with nat_eq text (codes "Bail out!")) (Some Bail) None in
    let failed = cond (starts_with nat_eq text (codes "not ok")) (point_in false (drop 6 text)) bail in
    let passed = cond (starts_with nat_eq text (codes "ok")) (point_in true (drop 2 text)) failed in
    cond_some (starts_with nat_eq text (codes "1..")) (plan_in (drop 3 text)) passed (plan-below (drop 3 text))
    (cond_some (starts_with nat_eq text (codes "ok")) (point_in true (drop 2 text)) failed (point-below true (drop 2 text))
    (cond_some (starts_with nat_eq text (codes "not ok")) (point_in false (drop 6 text)) bail (point-below false (drop 6 text))
    (cond_some (starts_with nat_eq text (codes "Bail out!")) (Some Bail) None tt tt)))

abbrev LineBelow : Option (ℕ × Said) → Type 0
LineBelow o = IfSome o (λ p. IsBelow (2 ^ 40) p.1)

mapped : (level : ℕ) (o : Option Said) → SomeBelow o → LineBelow (option_map (λ s. (level, s)) o)
mapped level None h = tt
mapped level (Some s) h = h

cond_line : (t : Bool) (o : Option (ℕ × Said)) → LineBelow o → LineBelow (cond t o None)
cond_line true o h = h
cond_line false o h = tt

line-below : (line : List ℕ) → LineBelow (said_by line)
unfolding said_by
line-below line =
    cond_line (spaces line % 4 == 0) (option_map (λ s. (spaces line / 4, s)) (said_in (unspaced line)))
    (mapped (spaces line / 4) (said_in (unspaced line)) (said-below (unspaced line)))

found-below : (n level : ℕ) (t : Test) (f : Found) → IfSome t.number (λ k. k < 2 ^ 40) → AllBelow (2 ^ 40) (with_found n level t f)
found-below n level t Absent h = (h, tt)
found-below n level t (Whole body) h = (h, tt)
found-below n level t Endless h = (h, (tt, tt))

given-below : (n : ℕ) (o : Option (ℕ × Said)) (ls : List (List ℕ)) → LineBelow o → AllBelow (2 ^ 40) (given n o ls)
given-below n None ls h = tt
given-below n (Some (level, Plan count)) ls h = (tt, tt)
given-below n (Some (level, Point t)) ls h = found-below n level t (found_in level ls) h
given-below n (Some (level, Bail)) ls h = (tt, tt)
given-below n (Some (level, Open)) ls h = tt
given-below n (Some (level, Missing k)) ls h = tt

-- the numbers that lines say are small
pub counted-below : (n pass : ℕ) (ls : List (List ℕ)) → AllBelow (2 ^ 40) (counted n pass ls)
counted-below n pass [] = tt
counted-below n zero (l ∷ ls) =
    AllBelow-append (2 ^ 40) (given n (said_by l) ls) (counted (n + 1) (passed_over (said_by l) ls) ls)
    (given-below n (said_by l) ls (line-below l)) (counted-below (n + 1) (passed_over (said_by l) ls) ls)
counted-below n (suc pass) (l ∷ ls) = counted-below (n + 1) pass ls

pub number_behind-below : (b n : ℕ) (o : Option ℕ) → 2 ^ 40 ≤ b → n < b → IfSome o (λ m. m < 2 ^ 40) → unwrap_or o (n + 1) < b + 1
number_behind-below b n None h p q = omega arith
number_behind-below b n (Some m) h p q = omega arith

numbered_said-below : (b n : ℕ) (s : Said) → 2 ^ 40 ≤ b → n < b → IsBelow (2 ^ 40) s → IsBelow (b + 1) (numbered_said n s)
numbered_said-below b n (Plan count) h p q = tt
numbered_said-below b n (Point t) h p q = number_behind-below b n t.number h p q
numbered_said-below b n Bail h p q = tt
numbered_said-below b n Open h p q = tt
numbered_said-below b n (Missing k) h p q = tt

with_line-below : (b : ℕ) (fill : Bool) (s : State) (l : Line) → 2 ^ 40 ≤ b → IsBelow (2 ^ 40) l.said → AllBelow b s.lines → AllBelow (b + 1) (with_line fill s l).lines
with_line-below b fill s l h q p =
    let ls = (closed_above fill l.level s).lines in
    let below : AllBelow b ls = closed_above-below b fill l.level s p in
    let last : last_number l.level ls < b = last_number-below b l.level ls (omega arith) below in
    AllBelow-append (b + 1) ls (numbered (last_number l.level ls) l ∷ []) (AllBelow-more b (b + 1) ls (omega arith) below)
    (numbered_said-below b (last_number l.level ls) l.said h last q, tt)

run-below : (b : ℕ) (fill : Bool) (s : State) (ls : List Line) → 2 ^ 40 ≤ b → AllBelow (2 ^ 40) ls → AllBelow b s.lines → AllBelow (b + length ls) (fold (with_line fill) s ls).lines
run-below b fill s [] h q p = AllBelow-more b (b + 0) s.lines (omega arith) p
run-below b fill s (l ∷ ls) h q p =
    let ih = run-below (b + 1) fill (with_line fill s l) ls (omega arith) q.1 (with_line-below b fill s l h q.0 p) in
    AllBelow-more (b + 1 + length ls) (b + suc (length ls)) (fold (with_line fill) (with_line fill s l) ls).lines (omega arith) ih

kept : (t : Bool) (b : ℕ) (l : Line) (ls ms : List Line) → IsBelow b l.said → AllBelow b ms → length ms ≤ length ls → AllBelow b (cond t (l ∷ ms) ms) × (length (cond t (l ∷ ms) ms) ≤ suc (length ls))
kept true b l ls ms p q h = ((p, q), omega arith)
kept false b l ls ms p q h = (q, omega arith)

pub filter-below : (b : ℕ) (ls : List Line) → AllBelow b ls → AllBelow b (filter in_tree ls) × (length (filter in_tree ls) ≤ length ls)
filter-below b [] h = (tt, omega arith)
filter-below b (l ∷ ls) h =
    let ih = filter-below b ls h.1 in
    kept (in_tree l) b l ls (filter in_tree ls) h.0 ih.0 ih.1

take-below : (b n : ℕ) (es : List Entry) → AllBelow b (map line_of es) → AllBelow b (map line_of (take n es)) × (length (map line_of (take n es)) ≤ n)
take-below b zero es h = (tt, omega arith)
take-below b (suc n) [] h = (tt, omega arith)
take-below b (suc n) (e ∷ es) h = let ih = take-below b n es h.1 in ((h.0, ih.0), omega (arith, ih.1))

-- the numbers that the code writes fit their type
pub run_small : (fill : Bool) (es : List Entry) (n : ℕ) → n < 2 ^ 63 → AllBelow (2 ^ 40) (map line_of es) → AllBelow (2 ^ 64 - 1) (fold (with_line fill) empty_state (filter in_tree (map line_of (take n es)))).lines
run_small fill es n h p =
    let t = take-below (2 ^ 40) n es p in
    let f = filter-below (2 ^ 40) (map line_of (take n es)) t.0 in
    let xs = filter in_tree (map line_of (take n es)) in
    AllBelow-more (2 ^ 40 + length xs) (2 ^ 64 - 1) (fold (with_line fill) empty_state xs).lines (omega (arith, f.1, t.1))
    (run-below (2 ^ 40) fill empty_state xs (omega arith) f.0 tt)

run_front : (u t : Bool) (fill : Bool) (s : State) (x : Line) (xs : List Line) (l : Line) → ((z : State) → fold (with_line fill) z (filter in_tree (xs ++ l ∷ [])) ≡ cond t (with_line fill (fold (with_line fill) z (filter in_tree xs)) l) (fold (with_line fill) z (filter in_tree xs))) → fold (with_line fill) s (cond u (x ∷ filter in_tree (xs ++ l ∷ [])) (filter in_tree (xs ++ l ∷ []))) ≡ cond t (with_line fill (fold (with_line fill) s (cond u (x ∷ filter in_tree xs) (filter in_tree xs))) l) (fold (with_line fill) s (cond u (x ∷ filter in_tree xs) (filter in_tree xs)))
run_front true t fill s x xs l by = by (with_line fill s x)
run_front false t fill s x xs l by = by s

-- one line more in the run
run_by : (t : Bool) (fill : Bool) (s : State) (xs : List Line) (l : Line) → in_tree l ≡ t → fold (with_line fill) s (filter in_tree (xs ++ l ∷ [])) ≡ cond t (with_line fill (fold (with_line fill) s (filter in_tree xs)) l) (fold (with_line fill) s (filter in_tree xs))
run_by true fill s [] l e = rw e refl
run_by false fill s [] l e = rw e refl
run_by t fill s (x ∷ xs) l e = run_front (in_tree x) t fill s x xs l (λ z. run_by t fill z xs l e)

pub run_more : (fill : Bool) (es : List Entry) (n : ℕ) (d : Entry) → n < length es → fold (with_line fill) empty_state (filter in_tree (map line_of (take (n + 1) es))) ≡ cond (in_tree (line_of (get_or es n d))) (with_line fill (fold (with_line fill) empty_state (filter in_tree (map line_of (take n es)))) (line_of (get_or es n d))) (fold (with_line fill) empty_state (filter in_tree (map line_of (take n es))))
run_more fill es n d h =
    let l = line_of (get_or es n d) in
    ap (λ xs. fold (with_line fill) empty_state (filter in_tree (map line_of xs))) (take_more es n d h)
    ∙ ap (λ xs. fold (with_line fill) empty_state (filter in_tree xs)) (map-append line_of (take n es) (get_or es n d ∷ []))
    ∙ run_by (in_tree l) fill empty_state (map line_of (take n es)) l refl

pub run_step : (fill : Bool) (es : List Entry) (n : ℕ) (d : Entry) (s s' : State) → n < length es → fold (with_line fill) empty_state (filter in_tree (map line_of (take n es))) ≡ s → s' ≡ cond (in_tree (line_of (get_or es n d))) (with_line fill s (line_of (get_or es n d))) s → fold (with_line fill) empty_state (filter in_tree (map line_of (take (n + 1) es))) ≡ s'
run_step fill es n d s s' h e p =
    let l = line_of (get_or es n d) in
    run_more fill es n d h ∙ ap (λ x. cond (in_tree l) (with_line fill x l) x) e ∙ sym p
