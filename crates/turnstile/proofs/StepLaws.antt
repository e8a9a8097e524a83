-- The steps keep the rule.
use Rattle.std.proofs.Common.{◌≡◌, ◌≢◌, inl, inr, ℕ, zero, suc, ◌+◌, ◌-◌, ◌<◌, ◌≤◌, ◌%◌, ◌==◌, nat_lt, if◌then◌else◌, Bool, true, false, List, [], ◌∷◌, ◌++◌, map, length, slice_index, slice_set, Option, Some, None, MatchBool, refl, sym, ap, subst, ◌∙◌, arith, length-append, append-nil}
use Rattle.std.proofs.Math.Nat.{mod-eq_of_lt}
use Rattle.std.proofs.lemmas.Bool.Decides.{nat_tests}
use mathlib.Core.Option.{some, none, some-ne-none}
use mathlib.Core.List.{append_assoc, map-append}
use lib.ListN.{get_elem?}
use lib.Seq.{map-set}
use prog.Atomic.{either}
use Rattle.atomic_table.specs.Table.{State, step, Act, keeps, takes, gives, Allows, Splits, Joins, Final, Seen, Valid, opening, stepped, carried_after, rest}
use Rattle.atomic_table.proofs.Lists.{at_set, set_here, set_again, at_map, at_snoc}
use Rattle.turnstile.specs.declared.board.Known.{Known}
use Rattle.turnstile.specs.declared.board.View.{View}
use Rattle.turnstile.specs.declared.board.Role.TheVariants.{Idle, Waits, Holds, Ends}
use Rattle.turnstile.specs.Histories.{times, NoneOf, Begins}
use Rattle.turnstile.specs.Seats.{names, first_known, split_left, split_right, longer, joined}
use Rattle.turnstile.specs.Rule.{Kept, IsFair, IsPlaced, HasTurn, all_names, total, Knows, ViewKnows, own_of, role_of, idle, waiting, holding, ending, gone}
use Rattle.turnstile.specs.Steps.{Sat, noted, Finds, met, drew, looked, passed_on, ended, settled}
use Rattle.turnstile.proofs.Totals.{total_set, total-append, times-append, rest_of}
use Rattle.turnstile.proofs.FairLaws.{turn_after, turn_before, one_turn, draw_fair, serve_fair, pass_fair, split_fair}
use Rattle.turnstile.proofs.SeatLaws.{there, all_set, draw_placed, at_home, is_taken, split_placed, numbers_set, in_one, none_last, none_first, none_both, at_most_more, at_most_later, none_above, begins_more, each_known, each_other}

-- ---- numbers, and two histories

-- the next number is there once, where it wasn't there before
new_once : (n m split had : ℕ) → m ≡ split + 1 → (had ≤ 1) × (split < n → had ≡ 0) → (all : ℕ) → all ≡ had + (times n ((m ∷ []) ++ []) + 0) → (all ≤ 1) × (split + 1 < n → all ≡ 0)
new_once n m split had next most all is = cases (n == m) refl
  where
    cases : (b : Bool) → (n == m) ≡ b → (all ≤ 1) × (split + 1 < n → all ≡ 0)
    cases true e =
        let same : n ≡ m = grind (arith, nat_tests) in
        let free : had ≡ 0 = most.1 (omega arith) in
        (grind arith, λ above. absurd (omega arith))
    cases false e =
        let low = most.0 in
        let one : all ≡ had = grind arith in
        (omega arith, λ above. let free = most.1 (omega arith) in omega arith)

own_name : {E : Type 0} (n : ℕ) (k : Known E) (ks : List (Known E)) → n ≡ k.number → 1 ≤ times n (all_names (k ∷ ks))
own_name n k ks e = grind arith

not_own : {E : Type 0} (n : ℕ) (k : Known E) → times n (names k) ≡ 0 → k.number ≢ n
not_own n k free e = grind arith

module _ {E : Type 0} (by : E → ℕ) (log : List E) (a b : Known E) (sa : Begins by (names a) log a.seen) (sb : Begins by (names b) log b.seen) where
  agree_as : (t : Bool) → nat_lt (length a.seen) (length b.seen) ≡ t
      → Begins by (names a ++ names b) log (if t then b.seen else a.seen) × (Begins by (names a) (if t then b.seen else a.seen) a.seen × Begins by (names b) (if t then b.seen else a.seen) b.seen)
  agree_as true is =
      let less : length a.seen < length b.seen = grind (arith, nat_tests) in
      let r = rest_of b.seen a.seen sb.0 sa.0 (omega arith) (sym sb.1 ∙ sa.1) in
      let old : NoneOf by (names a) (r.0 ++ sb.0) = subst (NoneOf by (names a)) r.2 sa.2 in (
        (sb.0, sb.1, none_both by (names a) (names b) sb.0 (none_last by (names a) r.0 sb.0 old) sb.2),
        ((r.0, r.1, none_first by (names a) r.0 sb.0 old), ([], sym (append-nil b.seen), tt)),
      )
  agree_as false is =
      let more : length b.seen ≤ length a.seen = grind (arith, nat_tests) in
      let r = rest_of a.seen b.seen sa.0 sb.0 more (sym sa.1 ∙ sb.1) in
      let old : NoneOf by (names b) (r.0 ++ sa.0) = subst (NoneOf by (names b)) r.2 sb.2 in (
        (sa.0, sa.1, none_both by (names a) (names b) sa.0 sa.2 (none_last by (names b) r.0 sa.0 old)),
        (([], sym (append-nil a.seen), tt), (r.0, r.1, none_first by (names b) r.0 sa.0 old)),
      )

  agree : Begins by (names a ++ names b) log (longer a.seen b.seen) × (Begins by (names a) (longer a.seen b.seen) a.seen × Begins by (names b) (longer a.seen b.seen) b.seen)
  agree = agree_as (nat_lt (length a.seen) (length b.seen)) refl

-- ---- the steps

module _ {T E : Type 0} (stands : T → List E → Type 0) (by : E → ℕ) where
  -- one view becomes another with the same role and the same numbers
  replaced : (s : State (Option T) (View E)) (words : List ℕ) (id : ℕ) (v w : View E) (kept : Kept stands by s) → words ≡ s.words → get_elem? s.views id ≡ some v → role_of w ≡ role_of v
      → ((n : ℕ) → times n (all_names w.known) ≡ times n (all_names v.known)) → ViewKnows by kept.drawn kept.split kept.log w
      → Kept stands by record { words = words; homes = s.homes; views = slice_set s.views id w }
  replaced s words id v w kept same here role numbers knows =
      let old = map role_of s.views in
      let again : slice_set old id (role_of v) ≡ old = set_again old id (role_of v) (at_map role_of s.views id v here) in
      let roles : old ≡ map role_of (slice_set s.views id w) = sym (map-set role_of s.views id w ∙ ap (slice_set old id) role ∙ again) in
      record {
        drawn = kept.drawn;
        passed = kept.passed;
        split = kept.split;
        log = kept.log;
        words = same ∙ kept.words;
        long = kept.long;
        fair = subst (IsFair kept.drawn kept.passed) roles kept.fair;
        placed = subst (λ rs. IsPlaced stands s.homes rs kept.log) roles kept.placed;
        numbers = numbers_set kept.split id s.views v w here numbers kept.numbers;
        older = kept.older;
        knows = all_set (ViewKnows by kept.drawn kept.split kept.log) s.views id w knows (λ i u n. kept.knows i u);
      }

  draws_plain : (slots id ticket : ℕ) (k : Known E) → ticket ≤ 9223372036854775808 → Allows (Kept stands by) slots id (idle k, []) 0 (λ n. either (n == ticket) (ticket + 1) n) (drew (step slots 0 ticket (ticket + 1) none) (idle k, []))
  draws_plain slots id ticket k low s kept len here fits = cases (slice_index s.words 0 == ticket) refl
    where
      word : slice_index s.words 0 ≡ kept.drawn
      word = ap (λ ws. slice_index ws 0) kept.words

      mine : Knows by kept.drawn kept.split kept.log k
      mine = (kept.knows id (idle k) here).0.0

      later : k.drawn ≤ slice_index s.words 0
      later = let h = mine.found in omega (arith, word)

      cases : (b : Bool) → (slice_index s.words 0 == ticket) ≡ b
          → (w : View E) × (a : Act (Option T)) × Valid s.homes [] a × Kept stands by (stepped s 0 (either b (ticket + 1) (slice_index s.words 0)) id [] w a)
          × ((k.drawn ≤ slice_index s.words 0) × MatchBool b (◌≡◌ {A = Sat T E} (w, carried_after [] a) (waiting ticket (noted k (slice_index s.words 0)), [])) (◌≡◌ {A = Sat T E} (w, carried_after [] a) (idle (noted k (slice_index s.words 0)), [])))
      cases true e =
          let same : kept.drawn ≡ ticket = grind (arith, nat_tests, word) in
          let old = map role_of s.views in
          let w : View E = waiting ticket (noted k (slice_index s.words 0)) in
          let at : get_elem? old id ≡ some Idle = at_map role_of s.views id (idle k) here in
          let roles : slice_set old id (Waits ticket) ≡ map role_of (slice_set s.views id w) = sym (map-set role_of s.views id w) in (
            w,
            keeps,
            tt,
            record {
              drawn = ticket + 1;
              passed = kept.passed;
              split = kept.split;
              log = kept.log;
              words = ap (λ ws. slice_set ws 0 (ticket + 1)) kept.words;
              long = kept.long;
              fair = subst (IsFair (ticket + 1) kept.passed) roles (subst (λ d. IsFair (d + 1) kept.passed (slice_set old id (Waits d))) same (draw_fair kept.drawn kept.passed id old kept.fair at (omega (arith, same, low))));
              placed = subst (λ rs. IsPlaced stands s.homes rs kept.log) roles (draw_placed stands s.homes old kept.log id ticket at kept.placed);
              numbers = numbers_set kept.split id s.views (idle k) w here (λ n. refl) kept.numbers;
              older = kept.older;
              knows = all_set (ViewKnows by (ticket + 1) kept.split kept.log) s.views id w
                  ((record { found = omega (arith, word, same); low = mine.low; splitter = mine.splitter; first = mine.first; seen = mine.seen }, tt), λ t is. absurd cc)
                  (λ i u n h. (each_known by kept.drawn (ticket + 1) kept.split kept.split kept.log kept.log (λ j h. record { found = let f = h.found in omega (arith, same); low = h.low; splitter = h.splitter; first = h.first; seen = h.seen }) u.known (kept.knows i u h).0, (kept.knows i u h).1));
            },
            (later, refl),
          )
      cases false e = (
        idle (noted k (slice_index s.words 0)),
        keeps,
        tt,
        replaced s (slice_set s.words 0 (slice_index s.words 0)) id (idle k) (idle (noted k (slice_index s.words 0))) kept (ap (λ ws. slice_set ws 0 (slice_index ws 0)) kept.words ∙ sym kept.words) here refl (λ n. refl)
            ((record { found = omega (arith, word); low = mine.low; splitter = mine.splitter; first = mine.first; seen = mine.seen }, tt), λ t is. absurd cc),
        (later, refl),
      )

  looks_plain : (told : T → List E → Type 0) → ((v : T) (log : List E) → stands v log → told v log) → (slots id ticket : ℕ) (k : Known E) → Allows (Kept stands by) slots id (waiting ticket k, []) 1 (λ n. n) (looked told by (step slots 1 0 0 none) (waiting ticket k, []))
  looks_plain told tells slots id ticket k s kept len here fits = cases (slice_index s.words 1 == ticket) refl
    where
      word : slice_index s.words 1 ≡ kept.passed
      word = ap (λ ws. slice_index ws 1) kept.words

      again : slice_set s.words 1 (slice_index s.words 1) ≡ kept.drawn ∷ kept.passed ∷ []
      again = ap (λ ws. slice_set ws 1 (slice_index ws 1)) kept.words

      mine : Knows by kept.drawn kept.split kept.log k
      mine = (kept.knows id (waiting ticket k) here).0.0

      cases : (b : Bool) → (slice_index s.words 1 == ticket) ≡ b
          → (w : View E) × (a : Act (Option T)) × Valid s.homes [] a × Kept stands by (stepped s 1 (slice_index s.words 1) id [] w a)
          × MatchBool b ((v : T) × ◌≡◌ {A = Sat T E} (w, carried_after [] a) (holding ticket (own_of w), (0, Some v) ∷ []) × told v (own_of w).seen × Finds by ticket k (own_of w)) (◌≡◌ {A = Sat T E} (w, carried_after [] a) (waiting ticket k, []))
      cases true e =
          let same : kept.passed ≡ ticket = grind (arith, nat_tests, word) in
          let old = map role_of s.views in
          let w : View E = holding ticket (record k { seen = kept.log }) in
          let at : get_elem? old id ≡ some (Waits ticket) = at_map role_of s.views id (waiting ticket k) here in
          let next : get_elem? old id ≡ some (Waits kept.passed) = at ∙ ap (λ t. some (Waits t)) (sym same) in
          let home = at_home stands s.homes old kept.log kept.drawn kept.passed id kept.fair next kept.placed in
          let roles : slice_set old id (Holds ticket) ≡ map role_of (slice_set s.views id w) = sym (map-set role_of s.views id w) in
          let least : kept.log ≡ kept.log ++ [] = sym (append-nil kept.log) in (
            w,
            takes 0 (Some home.0),
            ap (λ hs. get_elem? hs 0) home.1,
            record {
              drawn = kept.drawn;
              passed = kept.passed;
              split = kept.split;
              log = kept.log;
              words = again;
              long = kept.long;
              fair = subst (IsFair kept.drawn kept.passed) roles (serve_fair kept.drawn kept.passed id old kept.fair (Waits ticket) (Holds ticket) at (ap Some (sym same)) (ap Some (sym same)) (ap Some (sym same)) refl);
              placed = inr (id, Holds ticket, subst (λ rs. get_elem? rs id ≡ some (Holds ticket)) roles (set_here old id (Holds ticket) (there old id (Waits ticket) at)), ap (λ hs. slice_set hs 0 none) home.1);
              numbers = numbers_set kept.split id s.views (waiting ticket k) w here (λ n. refl) kept.numbers;
              older = kept.older;
              knows = all_set (ViewKnows by kept.drawn kept.split kept.log) s.views id w
                  ((record { found = mine.found; low = mine.low; splitter = mine.splitter; first = mine.first; seen = ([], least, tt) }, tt), λ t is. refl)
                  (λ i u n. kept.knows i u);
            },
            (home.0, refl, tells home.0 kept.log home.2, (refl, mine.seen, kept.long ∙ same, λ first. at_most_later by kept.split (4294967296 - k.splits) kept.log (let all = mine.first first in omega arith) kept.older)),
          )
      cases false e = (waiting ticket k, keeps, tt, replaced s (slice_set s.words 1 (slice_index s.words 1)) id (waiting ticket k) (waiting ticket k) kept (again ∙ sym kept.words) here refl (λ n. refl) (kept.knows id (waiting ticket k) here), refl)

  passes_plain : (fits : List E → E → Type 0) (slots id ticket : ℕ) (k : Known E) (e : E) (v : T) → stands v (k.seen ++ e ∷ []) → by e ≡ k.number → fits k.seen e
      → Allows (Kept stands by) slots id (holding ticket k, (0, Some v) ∷ []) 1 (λ n. (n + 1) % 18446744073709551616) (passed_on fits (step slots 1 1 0 none) (holding ticket k, (0, Some v) ∷ []))
  passes_plain fits slots id ticket k e v st own fit s kept len here below_max =
      let added : List E = e ∷ [] in
      let old = map role_of s.views in
      let longer : Known E = record k { seen = k.seen ++ added } in
      let w : View E = idle longer in
      let knows = kept.knows id (holding ticket k) here in
      let mine = knows.0.0 in
      let at : get_elem? old id ≡ some (Holds ticket) = at_map role_of s.views id (holding ticket k) here in
      let turn = kept.fair.turn id ticket (Holds ticket, at, refl) in
      let next : get_elem? old id ≡ some (Holds kept.passed) = at ∙ ap (λ t. some (Holds t)) turn in
      let below = (kept.fair.tickets id kept.passed (Holds kept.passed, next, refl)).1 in
      let room = kept.fair.room in
      let word : slice_index s.words 1 ≡ kept.passed = ap (λ ws. slice_index ws 1) kept.words in
      let one_more : (slice_index s.words 1 + 1) % 18446744073709551616 ≡ kept.passed + 1 = ap (λ n. (n + 1) % 18446744073709551616) word ∙ mod-eq_of_lt (omega arith) in
      let out : s.homes ≡ none ∷ [] = is_taken stands s.homes old kept.log kept.drawn kept.passed id ticket (Holds ticket) kept.fair at refl kept.placed in
      let whole : k.seen ≡ kept.log = knows.1 ticket refl in
      let log' : k.seen ++ added ≡ kept.log ++ added = ap (λ l. l ++ added) whole in
      let long = kept.long in
      let roles : slice_set old id Idle ≡ map role_of (slice_set s.views id w) = sym (map-set role_of s.views id w) in
      let other : (i t : ℕ) → i ≢ id → HasTurn old i t → ⊥ = λ i t n h. n (one_turn kept.drawn kept.passed old kept.fair i id t ticket h (Holds ticket, at, refl)) in (
        w,
        gives,
        tt,
        record {
          drawn = kept.drawn;
          passed = kept.passed + 1;
          split = kept.split;
          log = kept.log ++ added;
          words = ap (λ ws. slice_set ws 1 ((slice_index s.words 1 + 1) % 18446744073709551616)) kept.words ∙ ap (λ n. kept.drawn ∷ n ∷ []) one_more;
          long = omega (arith, length-append kept.log added, long);
          fair = subst (IsFair kept.drawn (kept.passed + 1)) roles (pass_fair kept.drawn kept.passed id old kept.fair next);
          placed = inl (
            v,
            ap (λ hs. slice_set hs 0 (some (Some v))) out,
            subst (stands v) log' st,
            subst (λ rs. (i t : ℕ) → ¬ HasTurn rs i t) roles (λ i t h. elim (turn_after old id i t Idle h) [
              | inl p ↦ absurd (let is = p.1 in cc)
              | inr p ↦ other i t p.0 p.1
            ]),
          );
          numbers = numbers_set kept.split id s.views (holding ticket k) w here (λ n. refl) kept.numbers;
          older = at_most_more by kept.split kept.log e kept.older (let low = mine.low in omega (arith, own));
          knows = all_set (ViewKnows by kept.drawn kept.split (kept.log ++ added)) s.views id w
              ((record { found = mine.found; low = mine.low; splitter = mine.splitter; first = mine.first; seen = ([], sym (append-nil (k.seen ++ added) ∙ log'), tt) }, tt), λ t is. absurd cc)
              (λ i u n h.
              let none = in_one kept.split id s.views (holding ticket k) w here (by e) i u kept.numbers n h (own_name (by e) k [] own) in (
                each_other by kept.drawn kept.drawn kept.split kept.split kept.log (kept.log ++ added) (by e) (λ j free h. record { found = h.found; low = h.low; splitter = h.splitter; first = h.first; seen = begins_more by (names j) kept.log j.seen e free h.seen }) u.known none (kept.knows i u h).0,
                λ t is. absurd (other i t n (role_of u, at_map role_of s.views i u h, is)),
              ));
        },
        (e, refl, fit),
      )

  -- the slot goes home without a value
  ends_plain : (slots id ticket : ℕ) (k : Known E) → Allows (Kept stands by) slots id (holding ticket k, (0, None) ∷ []) 1 (λ n. n) (ended (step slots 1 0 0 none) (holding ticket k, (0, None) ∷ []))
  ends_plain slots id ticket k s kept len here fits =
      let old = map role_of s.views in
      let w : View E = ending ticket k in
      let at : get_elem? old id ≡ some (Holds ticket) = at_map role_of s.views id (holding ticket k) here in
      let turn = kept.fair.turn id ticket (Holds ticket, at, refl) in
      let out : s.homes ≡ none ∷ [] = is_taken stands s.homes old kept.log kept.drawn kept.passed id ticket (Holds ticket) kept.fair at refl kept.placed in
      let roles : slice_set old id (Ends ticket) ≡ map role_of (slice_set s.views id w) = sym (map-set role_of s.views id w) in (
        w,
        gives,
        tt,
        record {
          drawn = kept.drawn;
          passed = kept.passed;
          split = kept.split;
          log = kept.log;
          words = ap (λ ws. slice_set ws 1 (slice_index ws 1)) kept.words;
          long = kept.long;
          fair = subst (IsFair kept.drawn kept.passed) roles (serve_fair kept.drawn kept.passed id old kept.fair (Holds ticket) (Ends ticket) at (ap Some turn) (ap Some turn) (ap Some turn) refl);
          placed = inr (id, Ends ticket, subst (λ rs. get_elem? rs id ≡ some (Ends ticket)) roles (set_here old id (Ends ticket) (there old id (Holds ticket) at)), ap (λ hs. slice_set hs 0 (some None)) out);
          numbers = numbers_set kept.split id s.views (holding ticket k) w here (λ n. refl) kept.numbers;
          older = kept.older;
          knows = all_set (ViewKnows by kept.drawn kept.split kept.log) s.views id w (kept.knows id (holding ticket k) here) (λ i u n. kept.knows i u);
        },
        refl,
      )

  -- ---- a seat is split in two

  splits_plain : (id : ℕ) (k : Known E) → 0 < k.splits → Splits (Kept stands by) id (idle k) (idle (split_left k)) (idle (split_right k))
  splits_plain id k some_left s kept here =
      let v : View E = idle k in
      let l : View E = idle (split_left k) in
      let r : View E = idle (split_right k) in
      let old = map role_of s.views in
      let mine = (kept.knows id v here).0.0 in
      let first = mine.splitter some_left in
      let all = mine.first first in
      let next : 4294967297 - k.splits ≡ kept.split + 1 = omega (arith, all) in
      let at : get_elem? old id ≡ some Idle = at_map role_of s.views id v here in
      let roles : old ++ Idle ∷ [] ≡ map role_of (slice_set s.views id l ++ r ∷ []) =
      sym (map-append role_of (slice_set s.views id l) (r ∷ []) ∙ ap (λ rs. rs ++ Idle ∷ []) (map-set role_of s.views id l ∙ set_again old id Idle at)) in
      let new_seen : Begins by ((4294967297 - k.splits) ∷ []) kept.log k.seen =
      (mine.seen.0, mine.seen.1, none_last by ((4294967297 - k.splits) ∷ []) k.seen mine.seen.0 (subst (NoneOf by ((4294967297 - k.splits) ∷ [])) mine.seen.1 (none_above by kept.split (4294967297 - k.splits) kept.log (omega (arith, next)) kept.older))) in
      record {
        drawn = kept.drawn;
        passed = kept.passed;
        split = kept.split + 1;
        log = kept.log;
        words = kept.words;
        long = kept.long;
        fair = subst (IsFair kept.drawn kept.passed) roles (split_fair kept.drawn kept.passed old kept.fair);
        placed = subst (λ rs. IsPlaced stands s.homes rs kept.log) roles (split_placed stands s.homes old kept.log kept.placed);
        numbers = λ n.
            let f : View E → ℕ = λ u. times n (all_names u.known) in
            let more = total-append f (slice_set s.views id l) (r ∷ []) in
            let had = numbers_set kept.split id s.views v l here (λ m. refl) kept.numbers n in
            new_once n (4294967297 - k.splits) kept.split (total f (slice_set s.views id l)) next had (total f (slice_set s.views id l ++ r ∷ [])) more;
        older = at_most_later by kept.split (kept.split + 1) kept.log (omega arith) kept.older;
        knows = λ i u h. elim (at_snoc (slice_set s.views id l) r u i h) [
          | inl p ↦ all_set (ViewKnows by kept.drawn (kept.split + 1) kept.log) s.views id l
              ((record { found = mine.found; low = let low = mine.low in omega arith; splitter = λ more. first; first = λ e. omega (arith, all); seen = mine.seen }, tt), λ t is. absurd cc)
              (λ j x n at_x.
              let free = in_one kept.split id s.views v l here 0 j x kept.numbers n at_x (own_name 0 k [] (sym first)) in
              (each_other by kept.drawn kept.drawn kept.split (kept.split + 1) kept.log kept.log 0 (λ j not_first h. record { found = h.found; low = let low = h.low in omega arith; splitter = h.splitter; first = λ e. absurd (not_own 0 j not_first e); seen = h.seen }) x.known free (kept.knows j x at_x).0, (kept.knows j x at_x).1))
              i u p
          | inr p ↦ subst (ViewKnows by kept.drawn (kept.split + 1) kept.log) p
              ((record { found = mine.found; low = omega (arith, next); splitter = λ more. absurd (omega arith); first = λ e. absurd (omega (arith, next, e)); seen = new_seen }, tt), λ t is. absurd cc)
        ];
      }

  -- ---- one seat is joined into another

  joins_plain : (id other : ℕ) (a b : Known E) → Joins (Kept stands by) id (idle a) other (idle b) (met (idle a) (idle b)) gone
  joins_plain id other a b s kept here apart there' =
      let both : View E = met (idle a) (idle b) in
      let spent : View E = gone in
      let old = map role_of s.views in
      let one : List (View E) = slice_set s.views id both in
      let at_b : get_elem? s.views other ≡ some (idle b) = elim (at_set s.views id other both (idle b) there') [
        | inl p ↦ absurd (apart p.0)
        | inr p ↦ p.1
      ] in
      let mine = (kept.knows id (idle a) here).0.0 in
      let theirs = (kept.knows other (idle b) at_b).0.0 in
      let same_one : map role_of one ≡ old = map-set role_of s.views id both ∙ set_again old id Idle (at_map role_of s.views id (idle a) here) in
      let same : old ≡ map role_of (slice_set one other spent) =
      sym (map-set role_of one other spent ∙ ap (λ rs. slice_set rs other Idle) same_one ∙ set_again old other Idle (at_map role_of s.views other (idle b) at_b)) in
      record {
        drawn = kept.drawn;
        passed = kept.passed;
        split = kept.split;
        log = kept.log;
        words = kept.words;
        long = kept.long;
        fair = subst (IsFair kept.drawn kept.passed) same kept.fair;
        placed = subst (λ rs. IsPlaced stands s.homes rs kept.log) same kept.placed;
        numbers = λ n.
            let f : View E → ℕ = λ u. times n (all_names u.known) in
            let first = total_set f s.views id (idle a) both here in
            let second = total_set f one other (idle b) spent there' in
            let whole = times-append n (names a) (all_names (b ∷ [])) in
            let left = times-append n (names a) [] in
            let had = kept.numbers n in
            let all : total f (slice_set one other spent) ≡ total f s.views = joined_once (total f (slice_set one other spent)) (total f one) (total f s.views) (f (idle a)) (f (idle b)) (f both) (times n (names a)) second first left whole in
            (let most = had.0 in omega (arith, all), λ above. let free = had.1 above in omega (arith, all));
        older = kept.older;
        knows = all_set (ViewKnows by kept.drawn kept.split kept.log) one other spent (tt, λ t is. absurd cc)
            (λ i u n h. all_set (ViewKnows by kept.drawn kept.split kept.log) s.views id both ((mine, (theirs, tt)), λ t is. absurd cc) (λ j x m. kept.knows j x) i u h);
      }
    where
      joined_once : (all one before fa fb both na : ℕ) → all + fb ≡ one + 0 → one + fa ≡ before + both → fa ≡ na + 0 → both ≡ na + fb → all ≡ before
      joined_once all one before fa fb both na second first left whole = omega arith

  -- what both knew becomes what one knows
  settles_plain : (slots id : ℕ) (a b : Known E) → Allows (Kept stands by) slots id (met (idle a) (idle b), []) 0 (λ n. n) (settled by (step slots 0 0 0 none) (met (idle a) (idle b), []))
  settles_plain slots id a b s kept len here fits =
      let both : View E = met (idle a) (idle b) in
      let w : View E = idle (joined a b) in
      let mine = (kept.knows id both here).0.0 in
      let theirs = (kept.knows id both here).0.1.0 in
      let all = agree by kept.log a b mine.seen theirs.seen in (
        w,
        keeps,
        tt,
        replaced s (slice_set s.words 0 (slice_index s.words 0)) id both w kept (ap (λ ws. slice_set ws 0 (slice_index ws 0)) kept.words ∙ sym kept.words) here refl
            (λ n. ap (λ l. times n (a.number ∷ l)) (append_assoc a.ended (b.number ∷ b.ended) []))
            ((record { found = let f = mine.found in let g = theirs.found in omega arith; low = mine.low; splitter = mine.splitter; first = mine.first; seen = all.0 }, tt), λ t is. absurd cc),
        (refl, all.1),
      )

  -- ---- the end

  ends_plain_empty : (id t : ℕ) (k : Known E) (ws : List ℕ) (xs : List (Option T)) → Final (Seen (Kept stands by) id (ending t k)) ws xs → get_elem? xs 0 ≡ some None
  ends_plain_empty id t k ws xs f =
      let s = f.0 in
      let kept = f.1.0 in
      let at : get_elem? (map role_of s.views) id ≡ some (Ends t) = at_map role_of s.views id (ending t k) f.1.1 in
      let out : s.homes ≡ some None ∷ [] = is_taken stands s.homes (map role_of s.views) kept.log kept.drawn kept.passed id t (Ends t) kept.fair at refl kept.placed in
      f.4 0 None (ap (λ hs. get_elem? hs 0) out)

  -- ---- the same for a seat that is known by an equation

  pub ends_empty : (id t : ℕ) (v : View E) (ws : List ℕ) (xs : List (Option T)) → v ≡ ending t (own_of v) → Final (Seen (Kept stands by) id v) ws xs → get_elem? xs 0 ≡ some None
  ends_empty id t v ws xs is f = ends_plain_empty id t (own_of v) ws xs (subst (λ u. Final (Seen (Kept stands by) id u) ws xs) is f)

  pub draws : (slots id ticket : ℕ) (me : Sat T E) → me ≡ (idle (own_of me.0), []) → ticket ≤ 9223372036854775808 → Allows (Kept stands by) slots id me 0 (λ n. either (n == ticket) (ticket + 1) n) (drew (step slots 0 ticket (ticket + 1) none) me)
  draws slots id ticket me is low = subst (λ m. Allows (Kept stands by) slots id m 0 (λ n. either (n == ticket) (ticket + 1) n) (drew (step slots 0 ticket (ticket + 1) none) m)) (sym is) (draws_plain slots id ticket (own_of me.0) low)

  pub looks : (told : T → List E → Type 0) → ((v : T) (log : List E) → stands v log → told v log) → (slots id ticket : ℕ) (me : Sat T E) → me ≡ (waiting ticket (own_of me.0), []) → Allows (Kept stands by) slots id me 1 (λ n. n) (looked told by (step slots 1 0 0 none) me)
  looks told tells slots id ticket me is = subst (λ m. Allows (Kept stands by) slots id m 1 (λ n. n) (looked told by (step slots 1 0 0 none) m)) (sym is) (looks_plain told tells slots id ticket (own_of me.0))

  pub passes : (fits : List E → E → Type 0) (slots id ticket : ℕ) (k : Known E) (v : T) (me : Sat T E) → me ≡ (holding ticket k, (0, Some v) ∷ []) → (e : E) × stands v (k.seen ++ e ∷ []) × (by e ≡ k.number) × fits k.seen e
      → Allows (Kept stands by) slots id me 1 (λ n. (n + 1) % 18446744073709551616) (passed_on fits (step slots 1 1 0 none) me)
  passes fits slots id ticket k v me is some_entry = subst (λ m. Allows (Kept stands by) slots id m 1 (λ n. (n + 1) % 18446744073709551616) (passed_on fits (step slots 1 1 0 none) m)) (sym is) (passes_plain fits slots id ticket k some_entry.0 v some_entry.1 some_entry.2 some_entry.3)

  pub ends : (slots id ticket : ℕ) (k : Known E) (me : Sat T E) → me ≡ (holding ticket k, (0, None) ∷ []) → Allows (Kept stands by) slots id me 1 (λ n. n) (ended (step slots 1 0 0 none) me)
  ends slots id ticket k me is = subst (λ m. Allows (Kept stands by) slots id m 1 (λ n. n) (ended (step slots 1 0 0 none) m)) (sym is) (ends_plain slots id ticket k)

  pub splits : (id : ℕ) (v : View E) → v ≡ idle (own_of v) → 0 < (own_of v).splits → Splits (Kept stands by) id v (idle (split_left (own_of v))) (idle (split_right (own_of v)))
  splits id v is some_left = subst (λ u. Splits (Kept stands by) id u (idle (split_left (own_of u))) (idle (split_right (own_of u)))) (sym is) (splits_plain id (own_of v) some_left)

  pub joins : (id other : ℕ) (v w : View E) → v ≡ idle (own_of v) → w ≡ idle (own_of w) → Joins (Kept stands by) id v other w (met v w) gone
  joins id other v w is is' = subst (λ u. Joins (Kept stands by) id u other w (met u w) gone) (sym is) (subst (λ u. Joins (Kept stands by) id (idle (own_of v)) other u (met (idle (own_of v)) u) gone) (sym is') (joins_plain id other (own_of v) (own_of w)))

  pub settles : (slots id : ℕ) (a b : Known E) (me : Sat T E) → me ≡ (met (idle a) (idle b), []) → Allows (Kept stands by) slots id me 0 (λ n. n) (settled by (step slots 0 0 0 none) me)
  settles slots id a b me is = subst (λ m. Allows (Kept stands by) slots id m 0 (λ n. n) (settled by (step slots 0 0 0 none) m)) (sym is) (settles_plain slots id a b)

  -- ---- the start

  starts_plain : (v : T) → stands v [] → Kept stands by (opening (0 ∷ 0 ∷ []) (Some v ∷ []) (idle first_known))
  starts_plain v empty =
      let first : View E = idle first_known in
      let nobody : (i : ℕ) (u : View E) → get_elem? [] i ≡ some u → ⊥ = λ i u h. some-ne-none u (sym h) in
      record {
        drawn = 0;
        passed = 0;
        split = 0;
        log = [];
        words = refl;
        long = refl;
        fair = split_fair 0 0 [] record {
          room = omega arith;
          many = omega arith;
          tickets = λ i t h. absurd (some-ne-none h.0 (sym h.1));
          turn = λ i t h. absurd (some-ne-none h.0 (sym h.1));
          apart = λ i j t h k. absurd (some-ne-none h.0 (sym h.1));
        };
        placed = inl (v, refl, empty, λ i t h. let old = turn_before [] i t h in some-ne-none old.0 (sym old.1));
        numbers = λ n. new_once_first n;
        older = tt;
        knows = λ i u h. elim (at_snoc [] first u i h) [
          | inl p ↦ absurd (nobody i u p)
          | inr p ↦ subst (ViewKnows by 0 0 []) p ((record { found = omega arith; low = omega arith; splitter = λ more. refl; first = λ e. refl; seen = ([], refl, tt) }, tt), λ t is. absurd cc)
        ];
      }
    where
      new_once_first : (n : ℕ) → (times n ((0 ∷ []) ++ []) + 0 ≤ 1) × (0 < n → times n ((0 ∷ []) ++ []) + 0 ≡ 0)
      new_once_first zero = (omega arith, λ above. absurd (omega arith))
      new_once_first (suc n) = (grind (arith, nat_tests), λ above. grind (arith, nat_tests))

  pub starts : (xs : List (Option T)) → (v : T) × (xs ≡ Some v ∷ []) × stands v [] → Kept stands by (opening (0 ∷ 0 ∷ []) xs (idle first_known))
  starts xs is = subst (λ l. Kept stands by (opening (0 ∷ 0 ∷ []) l (idle first_known))) (sym is.1) (starts_plain is.0 is.2)

-- the list of a seat that has one slot
pub carries : {T E : Type 0} (me : Sat T E) (d : View E) (x : Option T) → me ≡ (d, (0, x) ∷ []) → me.1 ≡ (0, x) ∷ rest me.1
carries {T} {E} me d x is = ap (λ (m : Sat T E). m.1) is ∙ ap (λ r. (0, x) ∷ r) (sym (ap (λ (m : Sat T E). rest m.1) is))

-- another value in that slot
pub puts : {T E : Type 0} (me after : Sat T E) (d : View E) (x y : Option T) → me ≡ (d, (0, x) ∷ []) → after ≡ (me.0, (0, y) ∷ rest me.1) → after ≡ (d, (0, y) ∷ [])
puts {T} {E} me after d x y is put = put ∙ ap (λ (m : Sat T E). (m.0, (0, y) ∷ rest m.1)) is

-- two idle seats in one
pub meets : {T E : Type 0} (me other after : Sat T E) → me ≡ (idle (own_of me.0), []) → other ≡ (idle (own_of other.0), []) → after ≡ (met me.0 other.0, me.1) → after ≡ (met (idle (own_of me.0)) (idle (own_of other.0)), [])
meets {T} {E} me other after is is' so = so ∙ ap (λ (m : Sat T E). (met m.0 other.0, m.1)) is ∙ ap (λ (m : Sat T E). (met (idle (own_of me.0)) m.0, [])) is'

-- the value in the one slot of a seat
slot_of : {T : Type 0} → List (ℕ × Option T) → Option T
slot_of [] = None
slot_of (x ∷ xs) = x.1

pub same_slot : {T E : Type 0} (me : Sat T E) (d e : View E) (x y : Option T) → me ≡ (d, (0, x) ∷ []) → me ≡ (e, (0, y) ∷ []) → x ≡ y
unfolding slot_of
same_slot {T} {E} me d e x y is so = ap (λ (m : Sat T E). slot_of m.1) (sym is ∙ so)

-- who takes the value knows as much as before
pub still_holds : {T E : Type 0} (ticket : ℕ) (k : Known E) (after : Sat T E) → after ≡ (holding ticket k, (0, None) ∷ []) → after ≡ (holding ticket (own_of after.0), (0, None) ∷ [])
still_holds {T} {E} ticket k after is = is ∙ ap (λ (j : Known E). (holding ticket j, (0, None) ∷ [])) (sym (ap (λ (m : Sat T E). own_of m.0) is))
