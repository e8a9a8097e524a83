-- What the code writes of a tree's lines is what the tree says.
use Rattle.std.proofs.Common.{◌≡◌, ℕ, zero, suc, ◌+◌, ◌-◌, ◌<◌, ◌≤◌, ◌⊎◌, inl, inr, Bool, true, false, List, [], ◌∷◌, ◌++◌, map, refl, sym, ap, ◌∙◌, append_assoc, append-nil, arith}
use Rattle.std.specs.Prelude.{Option, None, option_to_list, fold, nat_lt, ◌==◌}
use Rattle.std.proofs.lemmas.Bool.Decides.{nat_tests}
use Rattle.std.proofs.lemmas.Bool.{cases_lt}
use Rattle.tap_reader.specs.declared.faults.TapFault.{TapFault}
use Rattle.tap_reader.specs.LineForms.{Said, Plan, Point, Bail, Open, Missing}
use Rattle.tap_reader.specs.Counted.{Line}
use Rattle.tap_reader.specs.Streams.{Stream, Ends, Unfinished, Goes, IsAt, earlier, fault_of, faults_below, last_behind, lines_of, missing_numbers, numbered, numbered_said, own_from, stream_faults}
use Rattle.tap_reader.specs.Completing.{State, closed, closed_above, completed, filled, last_number, last_step, missing_line, number_after, own, own_step, put_behind, shut, top_level, with_line}

pub fold_append : {A B : Type 0} (f : B → A → B) (a : B) (xs ys : List A) → fold f a (xs ++ ys) ≡ fold f (fold f a xs) ys
fold_append f a [] ys = refl
fold_append f a (x ∷ xs) ys = fold_append f (f a x) xs ys

-- each of the lines is deeper than the level
abbrev pub Deeper : ℕ → List Line → Type 0
Deeper level [] = Unit {0}
Deeper level (l ∷ ls) = (level < l.level) × Deeper level ls

pub Deeper-append : (level : ℕ) (xs ys : List Line) → Deeper level xs → Deeper level ys → Deeper level (xs ++ ys)
Deeper-append level [] ys p q = q
Deeper-append level (x ∷ xs) ys p q = (p.0, Deeper-append level xs ys p.1 q)

own_step-deeper : (level : ℕ) (acc : List Line) (l : Line) → level < l.level → own_step level acc l ≡ acc
own_step-deeper level acc l h =
    let p : nat_lt l.level level ≡ false = grind (arith, nat_tests) in
    let q : (l.level == level) ≡ false = grind (arith, nat_tests) in
    rw (p, q) refl

last_step-deeper : (level n : ℕ) (l : Line) → level < l.level → last_step level n l ≡ n
last_step-deeper level n l h =
    let p : nat_lt l.level level ≡ false = grind (arith, nat_tests) in
    let q : (l.level == level) ≡ false = grind (arith, nat_tests) in
    rw (p, q) refl

own_step-above : (level : ℕ) (acc : List Line) (l : Line) → l.level < level → own_step level acc l ≡ []
own_step-above level acc l h = let p : nat_lt l.level level ≡ true = grind (arith, nat_tests) in rw p refl

last_step-above : (level n : ℕ) (l : Line) → l.level < level → last_step level n l ≡ 0
last_step-above level n l h = let p : nat_lt l.level level ≡ true = grind (arith, nat_tests) in rw p refl

own_step-here : (level : ℕ) (acc : List Line) (l : Line) → l.level ≡ level → own_step level acc l ≡ acc ++ l ∷ []
own_step-here level acc l h =
    let p : nat_lt l.level level ≡ false = grind (arith, nat_tests) in
    let q : (l.level == level) ≡ true = grind (arith, nat_tests) in
    rw (p, q) refl

last_step-here : (level n : ℕ) (l : Line) → l.level ≡ level → last_step level n l ≡ number_after n l.said
last_step-here level n l h =
    let p : nat_lt l.level level ≡ false = grind (arith, nat_tests) in
    let q : (l.level == level) ≡ true = grind (arith, nat_tests) in
    rw (p, q) refl

own_deeper : (level : ℕ) (acc xs : List Line) → Deeper level xs → fold (own_step level) acc xs ≡ acc
own_deeper level acc [] d = refl
own_deeper level acc (x ∷ xs) d = ap (λ a. fold (own_step level) a xs) (own_step-deeper level acc x d.0) ∙ own_deeper level acc xs d.1

last_deeper : (level n : ℕ) (xs : List Line) → Deeper level xs → fold (last_step level) n xs ≡ n
last_deeper level n [] d = refl
last_deeper level n (x ∷ xs) d = ap (λ a. fold (last_step level) a xs) (last_step-deeper level n x d.0) ∙ last_deeper level n xs d.1

-- no line has a level as deep as this
own_above : (level a : ℕ) (acc ls : List Line) → (a < level → acc ≡ []) → fold (λ _ (l : Line). l.level) a ls < level → fold (own_step level) acc ls ≡ []
own_above level a acc [] p h = p h
own_above level a acc (l ∷ ls) p h = own_above level l.level (own_step level acc l) ls (own_step-above level acc l) h

own_above_top : (level : ℕ) (ls : List Line) → top_level ls < level → own level ls ≡ []
own_above_top level ls h = own_above level 0 [] ls (λ _. refl) h

-- a state by its parts
abbrev pub st : List Line → Option TapFault → State
st ls f = record { lines = ls; fault = f }

filled_none : (fill : Bool) (level : ℕ) → filled fill level [] ≡ []
filled_none true level = refl
filled_none false level = refl

pub closed_as : (fill : Bool) (level : ℕ) (s : State) (here : List Line) → own level s.lines ≡ here → closed fill level s ≡ st (s.lines ++ filled fill level here) (fold earlier s.fault (option_to_list (fault_of here)))
unfolding closed
closed_as fill level s here e = ap (λ o. st (s.lines ++ filled fill level o) (fold earlier s.fault (option_to_list (fault_of o)))) e

closed_none : (fill : Bool) (level : ℕ) (s : State) → own level s.lines ≡ [] → closed fill level s ≡ s
closed_none fill level s e =
    closed_as fill level s [] e ∙ ap (λ ls. st ls s.fault) (ap (λ m. s.lines ++ m) (filled_none fill level) ∙ append-nil s.lines)

shut_none : (fill : Bool) (level n : ℕ) (s : State) → ((j : ℕ) → level < j → own j s.lines ≡ []) → shut fill level n s ≡ s
shut_none fill level zero s h = refl
shut_none fill level (suc n) s h =
    ap (shut fill level n) (closed_none fill (level + suc n) s (h (level + suc n) (omega arith))) ∙ shut_none fill level n s h

shut_top_by : (fill : Bool) (level n : ℕ) (s : State) → (level + n < top_level s.lines) ⊎ (top_level s.lines ≤ level + n) → top_level s.lines ≤ level + suc n → (top_level s.lines ≤ level + n → shut fill level n s ≡ closed_above fill level s) → shut fill level (suc n) s ≡ closed_above fill level s
shut_top_by fill level n s (inr p) h ih =
    ap (shut fill level n) (closed_none fill (level + suc n) s (own_above_top (level + suc n) s.lines (omega arith))) ∙ ih p
shut_top_by fill level n s (inl p) h ih = ap (λ k. shut fill level k s) (let e : suc n ≡ top_level s.lines - level = omega arith in e)

shut_top : (fill : Bool) (level n : ℕ) (s : State) → top_level s.lines ≤ level + n → shut fill level n s ≡ closed_above fill level s
shut_top fill level zero s h = ap (λ k. shut fill level k s) (let e : zero ≡ top_level s.lines - level = omega arith in e)
shut_top fill level (suc n) s h =
    shut_top_by fill level n s (cases_lt (level + n) (top_level s.lines)) h (shut_top fill level n s)

shut_peel : (fill : Bool) (level n : ℕ) (s : State) → shut fill level (suc n) s ≡ closed fill (suc level) (shut fill (suc level) n s)
shut_peel fill level zero s = ap (λ k. closed fill k s) (let e : level + suc zero ≡ suc level = omega arith in e)
shut_peel fill level (suc n) s =
    shut_peel fill level n (closed fill (level + suc (suc n)) s)
    ∙ ap (λ k. closed fill (suc level) (shut fill (suc level) n (closed fill k s))) (let e : level + suc (suc n) ≡ suc level + suc n = omega arith in e)

closed_above-step : (fill : Bool) (level : ℕ) (s : State) → closed_above fill level s ≡ closed fill (suc level) (closed_above fill (suc level) s)
closed_above-step fill level s =
    let n = top_level s.lines in
    sym (shut_top fill level (suc n) s (omega arith)) ∙ shut_peel fill level n s
    ∙ ap (closed fill (suc level)) (shut_top fill (suc level) n s (omega arith))

-- what is written of a stream whose last number is this, before it is closed
abbrev pub written : Bool → ℕ → ℕ → Stream → List Line
written fill level last Ends = []
written fill level last (Unfinished sub) = written fill (suc level) 0 sub ++ filled fill (suc level) (own_from 0 sub)
written fill level last (Goes sub l rest) =
    (written fill (suc level) 0 sub ++ filled fill (suc level) (own_from 0 sub))
    ++ numbered last l ∷ written fill level (last_behind last l.said) rest

missing-deeper : (j level : ℕ) (ns : List ℕ) → j < level → Deeper j (map (missing_line level) ns)
missing-deeper j level [] h = tt
missing-deeper j level (n ∷ ns) h = (h, missing-deeper j level ns h)

filled-deeper : (fill : Bool) (j level : ℕ) (here : List Line) → j < level → Deeper j (filled fill level here)
filled-deeper true j level here h = missing-deeper j level (missing_numbers here) h
filled-deeper false j level here h = tt

written-deeper : (fill : Bool) (j level last : ℕ) (t : Stream) → IsAt level t → j < level → Deeper j (written fill level last t)
written-deeper fill j level last Ends at h = tt
written-deeper fill j level last (Unfinished sub) at h =
    Deeper-append j _ _ (written-deeper fill j (suc level) 0 sub at.1 (omega arith)) (filled-deeper fill j (suc level) (own_from 0 sub) (omega arith))
written-deeper fill j level last (Goes sub l rest) at h =
    Deeper-append j _ _
    (Deeper-append j _ _ (written-deeper fill j (suc level) 0 sub at.0 (omega arith)) (filled-deeper fill j (suc level) (own_from 0 sub) (omega arith)))
    ((let e : j < l.level = omega (arith, at.1) in e), written-deeper fill j level (last_behind last l.said) rest at.2 h)

-- what is written of a stream that stands before a line, or at the end
abbrev pub whole : Bool → ℕ → Stream → List Line
whole fill level t = written fill level 0 t ++ filled fill level (own_from 0 t)

whole-deeper : (fill : Bool) (j level : ℕ) (t : Stream) → IsAt level t → j < level → Deeper j (whole fill level t)
whole-deeper fill j level t at h =
    Deeper-append j _ _ (written-deeper fill j level 0 t at h) (filled-deeper fill j level (own_from 0 t) h)

pub own_written : (fill : Bool) (level last : ℕ) (acc : List Line) (t : Stream) → IsAt level t → fold (own_step level) acc (written fill level last t) ≡ acc ++ own_from last t
own_written fill level last acc Ends at = sym (append-nil acc)
own_written fill level last acc (Unfinished sub) at =
    own_deeper level acc (whole fill (suc level) sub) (whole-deeper fill level (suc level) sub at.1 (omega arith)) ∙ sym (append-nil acc)
own_written fill level last acc (Goes sub l rest) at =
    let x = numbered last l in
    let w = written fill level (last_behind last l.said) rest in
    fold_append (own_step level) acc (whole fill (suc level) sub) (x ∷ w)
    ∙ ap (λ a. fold (own_step level) a (x ∷ w)) (own_deeper level acc (whole fill (suc level) sub) (whole-deeper fill level (suc level) sub at.0 (omega arith)))
    ∙ ap (λ a. fold (own_step level) a w) (own_step-here level acc x at.1)
    ∙ own_written fill level (last_behind last l.said) (acc ++ x ∷ []) rest at.2
    ∙ append_assoc acc (x ∷ []) (own_from (last_behind last l.said) rest)

-- nothing was written of streams deeper than the level
abbrev pub Fresh : ℕ → List Line → Type 0
Fresh level ls = (j : ℕ) → level < j → (own j ls ≡ []) × (last_number j ls ≡ 0)

-- the state behind a stream's lines
abbrev pub after : Bool → ℕ → Stream → State → State
after fill level t s =
    st (s.lines ++ written fill level (last_number level s.lines) t) (fold earlier s.fault (faults_below t))

-- the state behind the lines of a stream that stands before a line of the level above
abbrev pub after_sub : Bool → ℕ → Stream → State → State
after_sub fill level sub s =
    st (s.lines ++ whole fill (suc level) sub) (fold earlier s.fault (faults_below sub ++ option_to_list (fault_of (own_from 0 sub))))

sub_closed : (fill : Bool) (level : ℕ) (sub : Stream) (s x : State) → IsAt (suc level) sub → Fresh level s.lines → closed_above fill (suc level) x ≡ after fill (suc level) sub s → closed_above fill level x ≡ after_sub fill level sub s
sub_closed fill level sub s x at fresh e =
    let none = fresh (suc level) (omega arith) in
    let ls = s.lines ++ written fill (suc level) 0 sub in
    let base : after fill (suc level) sub s ≡ st ls (fold earlier s.fault (faults_below sub)) =
    ap (λ n. st (s.lines ++ written fill (suc level) n sub) (fold earlier s.fault (faults_below sub))) none.1 in
    let here : own (suc level) ls ≡ own_from 0 sub =
    fold_append (own_step (suc level)) [] s.lines (written fill (suc level) 0 sub)
    ∙ ap (λ a. fold (own_step (suc level)) a (written fill (suc level) 0 sub)) none.0
    ∙ own_written fill (suc level) 0 [] sub at in
    closed_above-step fill level x ∙ ap (closed fill (suc level)) (e ∙ base)
    ∙ closed_as fill (suc level) (st ls (fold earlier s.fault (faults_below sub))) (own_from 0 sub) here
    ∙ ap (λ l. st l (fold earlier (fold earlier s.fault (faults_below sub)) (option_to_list (fault_of (own_from 0 sub)))))
    (append_assoc s.lines (written fill (suc level) 0 sub) (filled fill (suc level) (own_from 0 sub)))
    ∙ ap (st (s.lines ++ whole fill (suc level) sub))
    (sym (fold_append earlier s.fault (faults_below sub) (option_to_list (fault_of (own_from 0 sub)))))

number_after-numbered : (n : ℕ) (said : Said) → number_after n (numbered_said n said) ≡ last_behind n said
number_after-numbered n (Plan count) = refl
number_after-numbered n (Point t) = refl
number_after-numbered n Bail = refl
number_after-numbered n Open = refl
number_after-numbered n (Missing k) = refl

-- the state behind a line at the level and the stream before it
abbrev pub after_line : Bool → ℕ → Stream → Line → State → State
after_line fill level sub l s =
    st ((s.lines ++ whole fill (suc level) sub) ++ numbered (last_number level s.lines) l ∷ [])
    (fold earlier s.fault (faults_below sub ++ option_to_list (fault_of (own_from 0 sub))))

last_whole : (fill : Bool) (level : ℕ) (sub : Stream) (ls : List Line) → IsAt (suc level) sub → last_number level (ls ++ whole fill (suc level) sub) ≡ last_number level ls
last_whole fill level sub ls at =
    fold_append (last_step level) 0 ls (whole fill (suc level) sub)
    ∙ last_deeper level (last_number level ls) (whole fill (suc level) sub) (whole-deeper fill level (suc level) sub at (omega arith))

line_put : (fill : Bool) (level : ℕ) (sub : Stream) (l : Line) (s x : State) → IsAt (suc level) sub → l.level ≡ level → closed_above fill level x ≡ after_sub fill level sub s → with_line fill x l ≡ after_line fill level sub l s
line_put fill level sub l s x at e done =
    ap (λ j. put_behind l (closed_above fill j x)) e ∙ ap (put_behind l) done
    ∙ ap (λ n. st ((s.lines ++ whole fill (suc level) sub) ++ numbered n l ∷ []) (fold earlier s.fault (faults_below sub ++ option_to_list (fault_of (own_from 0 sub)))))
    (ap (λ j. last_number j (s.lines ++ whole fill (suc level) sub)) e ∙ last_whole fill level sub s.lines at)

fresh_line : (level : ℕ) (ls : List Line) (x : Line) → x.level ≡ level → Fresh level (ls ++ x ∷ [])
fresh_line level ls x e = λ j h. (
  fold_append (own_step j) [] ls (x ∷ []) ∙ own_step-above j (own j ls) x (omega arith),
  fold_append (last_step j) 0 ls (x ∷ []) ∙ last_step-above j (last_number j ls) x (omega arith),
)

last_line-put : (fill : Bool) (level : ℕ) (sub : Stream) (l : Line) (s : State) → IsAt (suc level) sub → l.level ≡ level → last_number level (after_line fill level sub l s).lines ≡ last_behind (last_number level s.lines) l.said
last_line-put fill level sub l s at e =
    let n = last_number level s.lines in
    let front = s.lines ++ whole fill (suc level) sub in
    fold_append (last_step level) 0 front (numbered n l ∷ [])
    ∙ ap (λ m. last_step level m (numbered n l)) (last_whole fill level sub s.lines at)
    ∙ last_step-here level n (numbered n l) e ∙ number_after-numbered n l.said

-- the state behind the lines of a stream is the one that its tree says
pub stream_run : (fill : Bool) (level : ℕ) (t : Stream) (s : State) → IsAt level t → Fresh level s.lines → closed_above fill level (fold (with_line fill) s (lines_of t)) ≡ after fill level t s
stream_run fill level Ends s at fresh =
    shut_none fill level (top_level s.lines - level) s (λ j h. (fresh j h).0) ∙ ap (λ l. st l s.fault) (sym (append-nil s.lines))
stream_run fill level (Unfinished sub) s at fresh =
    sub_closed fill level sub s (fold (with_line fill) s (lines_of sub)) at.1 fresh
    (stream_run fill (suc level) sub s at.1 (λ j h. fresh j (omega arith)))
stream_run fill level (Goes sub l rest) s at fresh =
    let x = fold (with_line fill) s (lines_of sub) in
    let n = last_number level s.lines in
    let y = after_line fill level sub l s in
    let done = sub_closed fill level sub s x at.0 fresh (stream_run fill (suc level) sub s at.0 (λ j h. fresh j (omega arith))) in
    let put = line_put fill level sub l s x at.0 at.1 done in
    let fault = fold earlier s.fault (faults_below sub ++ option_to_list (fault_of (own_from 0 sub))) in
    let w = written fill level (last_behind n l.said) rest in
    ap (closed_above fill level) (fold_append (with_line fill) s (lines_of sub) (l ∷ lines_of rest) ∙ ap (λ z. fold (with_line fill) z (lines_of rest)) put)
    ∙ stream_run fill level rest y at.2 (fresh_line level (s.lines ++ whole fill (suc level) sub) (numbered n l) at.1)
    ∙ ap (λ m. st (y.lines ++ written fill level m rest) (fold earlier fault (faults_below rest))) (last_line-put fill level sub l s at.0 at.1)
    ∙ ap (λ ls. st ls (fold earlier fault (faults_below rest)))
    (append_assoc (s.lines ++ whole fill (suc level) sub) (numbered n l ∷ []) w ∙ append_assoc s.lines (whole fill (suc level) sub) (numbered n l ∷ w))
    ∙ ap (st (s.lines ++ (whole fill (suc level) sub ++ numbered n l ∷ w)))
    (sym (fold_append earlier s.fault (faults_below sub ++ option_to_list (fault_of (own_from 0 sub))) (faults_below rest)))

-- the whole report
pub report_run : (fill : Bool) (t : Stream) → IsAt 0 t → completed fill (fold (with_line fill) (st [] None) (lines_of t)) ≡ st (whole fill 0 t) (fold earlier None (stream_faults t))
report_run fill t at =
    let s = st (written fill 0 0 t) (fold earlier None (faults_below t)) in
    ap (closed fill 0) (stream_run fill 0 t (st [] None) at (λ j h. (refl, refl)))
    ∙ closed_as fill 0 s (own_from 0 t) (own_written fill 0 0 [] t at)
    ∙ ap (st (whole fill 0 t)) (sym (fold_append earlier None (faults_below t) (option_to_list (fault_of (own_from 0 t)))))
