-- The lines of a level, and the ends of lists where they stand.
use Rattle.std.proofs.Common.{◌≡◌, ℕ, suc, ◌+◌, ◌-◌, ◌<◌, ◌≤◌, Bool, true, false, List, [], ◌∷◌, ◌++◌, length, map, take, drop, filter, refl, sym, ap, ◌∙◌, not, get_or, add-zero, append_assoc, append-nil, arith}
use Rattle.std.specs.Prelude.{fold, nat_lt, ◌==◌}
use Rattle.std.specs.Prelude.{Some}
use Rattle.std.specs.List.{range_with_len, list_any}
use Rattle.tap_reader.specs.Streams.{plan_of, says_number, unnamed}
use Rattle.tap_reader.specs.Completing.{State, closed, missing_line, missing_lines, shut}
use Rattle.std.proofs.lemmas.List.{take_more, take-append-drop, map-append}
use Rattle.tap_reader.specs.declared.entries.Entry.{Entry}
use Rattle.tap_reader.specs.Entries.{line_of}
use Rattle.tap_reader.specs.MarkWords.{unmarked}
use Rattle.std.proofs.lemmas.Bool.Decides.{nat_tests}
use Rattle.tap_reader.specs.Counted.{Line}
use Rattle.tap_reader.specs.Completing.{at_level, own, own_step}
use Rattle.tap_reader.proofs.StreamLemmas.{fold_append}

-- each of the lines is at the level or deeper
abbrev pub NoneHigher : ℕ → List Line → Type 0
NoneHigher level [] = Unit {0}
NoneHigher level (l ∷ ls) = (level ≤ l.level) × NoneHigher level ls

step_by : (level : ℕ) (acc : List Line) (l : Line) (ls : List Line) (t : Bool) → nat_lt l.level level ≡ false → (l.level == level) ≡ t → (own_step level acc l) ++ at_level level ls ≡ acc ++ at_level level (l ∷ ls)
step_by level acc l ls true p q = rw (p, q) (append_assoc acc (l ∷ []) (at_level level ls))
step_by level acc l ls false p q = rw (p, q) refl

pub own_run : (level : ℕ) (acc ls : List Line) → NoneHigher level ls → fold (own_step level) acc ls ≡ acc ++ at_level level ls
own_run level acc [] h = sym (append-nil acc)
own_run level acc (l ∷ ls) h =
    own_run level (own_step level acc l) ls h.1
    ∙ step_by level acc l ls (l.level == level) (let p : nat_lt l.level level ≡ false = grind (arith, nat_tests, h.0) in p) refl

-- behind a line of a lower level, or nothing, the lines of the level are those of the rest
pub own_behind : (level : ℕ) (xs ys : List Line) → own level xs ≡ [] → NoneHigher level ys → own level (xs ++ ys) ≡ at_level level ys
own_behind level xs ys e h =
    fold_append (own_step level) [] xs ys ∙ ap (λ a. fold (own_step level) a ys) e ∙ own_run level [] ys h

-- a line of a lower level ends the streams of the level
pub own_push-above : (level : ℕ) (xs : List Line) (l : Line) → l.level < level → own level (xs ++ l ∷ []) ≡ []
own_push-above level xs l h =
    fold_append (own_step level) [] xs (l ∷ []) ∙ (let p : nat_lt l.level level ≡ true = grind (arith, nat_tests) in rw p refl)

-- the lines of a level in a list whose lines from a place on are no higher, and whose line before
-- that place is
pub run_from : (entries : List Entry) (level n : ℕ) (d : Entry) → 0 < n → n ≤ length entries → (get_or entries (n - 1) d).level < level → NoneHigher level (map line_of (drop n entries)) → own level (map line_of entries) ≡ at_level level (map line_of (drop n entries))
run_from entries level n d some within h none =
    let e = get_or entries (n - 1) d in
    let front = take (n - 1) entries in
    let one : n - 1 + 1 ≡ n = omega arith in
    let cut : take n entries ≡ front ++ e ∷ [] =
    ap (λ k. take k entries) (sym one) ∙ take_more entries (n - 1) d (omega arith) in
    let all : map line_of entries ≡ (map line_of front ++ line_of e ∷ []) ++ map line_of (drop n entries) =
    ap (map line_of) (sym (take-append-drop n entries)) ∙ map-append line_of (take n entries) (drop n entries)
    ∙ ap (λ xs. map line_of xs ++ map line_of (drop n entries)) cut
    ∙ ap (λ xs. xs ++ map line_of (drop n entries)) (map-append line_of front (e ∷ [])) in
    ap (own level) all ∙ own_behind level (map line_of front ++ line_of e ∷ []) (map line_of (drop n entries)) (own_push-above level (map line_of front) (line_of e) h) none

-- the numbers, from k up, that aren't marked
unmarked-step : (m : Bool) (k : ℕ) (ms : List Bool) (f : ℕ → Bool) → m ≡ f k → unmarked (k + 1) ms ≡ filter (λ n. not (f n)) (range_with_len (k + 1) (length ms)) → unmarked k (m ∷ ms) ≡ filter (λ n. not (f n)) (range_with_len k (suc (length ms)))
unmarked-step true k ms f e ih = ih ∙ rw (← e) refl
unmarked-step false k ms f e ih = ap (λ xs. k ∷ xs) ih ∙ rw (← e) refl

pub unmarked-is : (k : ℕ) (marks : List Bool) (f : ℕ → Bool) → ((i : ℕ) → i < length marks → get_or marks i false ≡ f (k + i)) → unmarked k marks ≡ filter (λ n. not (f n)) (range_with_len k (length marks))
unmarked-is k [] f h = refl
unmarked-is k (m ∷ ms) f h =
    unmarked-step m k ms f (h 0 (omega arith) ∙ ap f (add-zero k))
    (unmarked-is (k + 1) ms f (λ i p. h (suc i) (omega arith) ∙ ap f (let e : k + suc i ≡ k + 1 + i = omega arith in e)))

-- a stream of the level is closed after the deepest one alone
pub shut-step : (fill : Bool) (level at : ℕ) (s : State) → level < at → shut fill level (at - level) s ≡ shut fill level (at - 1 - level) (closed fill at s)
shut-step fill level at s h =
    let n = at - 1 - level in
    ap (λ k. shut fill level k s) (let e : at - level ≡ suc n = omega arith in e)
    ∙ ap (λ k. shut fill level n (closed fill k s)) (let e : level + suc n ≡ at = omega arith in e)

-- the lines of the numbers that aren't marked are the missing ones
pub missing_marked : (level count : ℕ) (here : List Line) (marks : List Bool) → plan_of here ≡ Some count → length marks ≡ count → ((i : ℕ) → i < count → get_or marks i false ≡ list_any (λ l. says_number (1 + i) l.said) here) → map (missing_line level) (unmarked 1 marks) ≡ missing_lines level here
missing_marked level count here marks plan len h =
    ap (map (missing_line level))
    (unmarked-is 1 marks (λ k. list_any (λ l. says_number k l.said) here) (λ i p. h i (omega arith))
    ∙ ap (λ n. filter (λ k. not (list_any (λ l. says_number k l.said) here)) (range_with_len 1 n)) len
    ∙ ap (λ o. unnamed o here) (sym plan))
