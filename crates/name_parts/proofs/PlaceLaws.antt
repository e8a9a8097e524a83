-- The bad place that a fault names is the first that breaks the grammar.
use Rattle.std.proofs.Common.{◌≡◌, ℕ, suc, ◌+◌, ◌<◌, ◌≤◌, Bool, true, false, not, ◌&&◌, cond, List, [], ◌∷◌, ◌++◌, length, take, Option, Some, None, option_map, refl, sym, ap, subst, ◌∙◌, arith, append-nil, one-add, nat_lt, inl, inr, ◌⊎◌}
use Rattle.std.specs.List.{list_all, position, prefix_len}
use Rattle.std.proofs.lemmas.Bool.{and_from, cases_Bool}
use Rattle.std.proofs.lemmas.Bool.Decides.{nat_tests}
use Rattle.name_parts.specs.declared.alphabets.Alphabet.{Alphabet}
use Rattle.name_parts.specs.declared.alphabets.Alphabet.TheVariants.{Invocation, Project, Subrealm, Outcome, Artifact}
use Rattle.name_parts.specs.Alphabets.{may_begin, may_follow}
use Rattle.name_parts.specs.Grammar.{IsFirstBadPlace}
use Rattle.name_parts.specs.Parts.{alphabet_place, has_alphabet, is_key, key_place_from, key_step}
use Rattle.name_parts.specs.Laws.{LettersBreakFirst, KeysBreakFirst}
use Rattle.name_parts.proofs.KeyLemmas.{key_place-None, key-place, key_place-on, key_place-stop}

some_of : Option ℕ → ℕ → ℕ
some_of None other = other
some_of (Some n) other = n

same_place : (m n : ℕ) → Some m ≡ Some n → m ≡ n
unfolding some_of
same_place m n e = ap (λ o. some_of o m) e

-- one place further
next_place : (o : Option ℕ) (place : ℕ) → option_map (λ n. n + 1) o ≡ Some place → (before : ℕ) × ((o ≡ Some before) × (place ≡ suc before))
next_place None place e = absurd cc
next_place (Some n) place e = let same : n + 1 ≡ place = same_place (n + 1) place e in (n, (refl, omega (arith, same)))

-- What breaks at its first bad place, by a test on whole texts.
record Breaks (is : List ℕ → Bool) (text : List ℕ) (place : ℕ) : Type 0 where
  within : place ≤ length text
  rest : List ℕ
  goes_on : is (take place text ++ rest) ≡ true
  stops : place < length text → (more : List ℕ) → is (take (place + 1) text ++ more) ≡ false
  itself : is text ≡ false

not_so : (b : Bool) → b ≡ false → b ≡ true → ⊥
not_so b no_is yes_is = absurd (let both : true ≡ false = sym yes_is ∙ no_is in cc)

first_place : (is : List ℕ → Bool) (text : List ℕ) (place : ℕ) → Breaks is text place → IsFirstBadPlace (λ t. is t ≡ true) text place
first_place is text place b = record {
  within = b.within;
  before = record { rest = b.rest; whole = b.goes_on };
  here = λ few on. not_so _ (b.stops few on.rest) on.whole;
  itself = λ on. not_so _ b.itself on;
}

-- letters

letter_begins : (of : Alphabet) → may_begin of 97 ≡ true
letter_begins Invocation = refl
letter_begins Project = refl
letter_begins Subrealm = refl
letter_begins Outcome = refl
letter_begins Artifact = refl

-- how many bytes pass a test from the front on
abbrev passing : (ℕ → Bool) → List ℕ → ℕ
passing p bs = prefix_len (λ x. not (not (p x))) bs

passing_on : (p : ℕ → Bool) (b : ℕ) (bs : List ℕ) → p b ≡ true → passing p (b ∷ bs) ≡ suc (passing p bs)
passing_on p b bs e = rw e (one-add (passing p bs))

passing_stop : (p : ℕ → Bool) (b : ℕ) (bs : List ℕ) → p b ≡ false → passing p (b ∷ bs) ≡ 0
passing_stop p b bs e = rw e refl

-- those before the first that fails pass
pass_before : (p : ℕ → Bool) (bs : List ℕ) → list_all p (take (passing p bs) bs) ≡ true
pass_before p [] = refl
pass_before p (b ∷ bs) =
    elim (cases_Bool (p b)) [
      | inl passes ↦ ap (λ n. list_all p (take n (b ∷ bs))) (passing_on p b bs passes) ∙ and_from (p b) _ passes (pass_before p bs)
      | inr fails ↦ ap (λ n. list_all p (take n (b ∷ bs))) (passing_stop p b bs fails)
    ]

-- with the next byte they don't
fails_there : (p : ℕ → Bool) (bs : List ℕ) → passing p bs < length bs → (more : List ℕ) → list_all p (take (passing p bs + 1) bs ++ more) ≡ false
fails_there p [] few more = absurd (omega (arith, few))
fails_there p (b ∷ bs) few more =
    elim (cases_Bool (p b)) [
      | inl passes ↦
          let count = passing_on p b bs passes in
          let less : passing p bs < length bs = omega (arith, few, count) in
          let next : passing p (b ∷ bs) + 1 ≡ suc (passing p bs + 1) = omega (arith, count) in
          ap (λ n. list_all p (take n (b ∷ bs) ++ more)) next ∙ ap (λ t. t && list_all p (take (passing p bs + 1) bs ++ more)) passes ∙ fails_there p bs less more
      | inr fails ↦
          let next : passing p (b ∷ bs) + 1 ≡ 1 = omega (arith, passing_stop p b bs fails) in
          ap (λ n. list_all p (take n (b ∷ bs) ++ more)) next ∙ ap (λ t. t && list_all p more) fails
    ]

fails_whole : (p : ℕ → Bool) (bs : List ℕ) → passing p bs < length bs → list_all p bs ≡ false
fails_whole p [] few = absurd (omega (arith, few))
fails_whole p (b ∷ bs) few =
    elim (cases_Bool (p b)) [
      | inl passes ↦
          let less : passing p bs < length bs = omega (arith, few, passing_on p b bs passes) in
          ap (λ t. t && list_all p bs) passes ∙ fails_whole p bs less
      | inr fails ↦ ap (λ t. t && list_all p bs) fails
    ]

-- the first that fails
found_at : (p : ℕ → Bool) (bs : List ℕ) (place : ℕ) → position (λ x. not (p x)) bs ≡ Some place → (passing p bs ≡ place) × (passing p bs < length bs)
found_at p bs place =
    elim (nat_lt (passing p bs) (length bs)) as (λ t. nat_lt (passing p bs) (length bs) ≡ t → cond t (Some (passing p bs)) None ≡ Some place → (passing p bs ≡ place) × (passing p bs < length bs)) [
      | true ↦ λ is e. (same_place (passing p bs) place e, grind (arith, nat_tests, is))
      | false ↦ λ is e. absurd cc
    ] refl

letters_from : (of : Alphabet) (b : ℕ) (bs : List ℕ) (place : ℕ) → may_begin of b ≡ true → position (λ x. not (may_follow of x)) bs ≡ Some place → Breaks (has_alphabet of) (b ∷ bs) (suc place)
letters_from of b bs place begins e =
    let found = found_at (may_follow of) bs place e in
    let next : suc place + 1 ≡ suc (passing (may_follow of) bs + 1) = omega (arith, found.0) in
    record {
      within = omega (arith, found.0, found.1);
      rest = [];
      goes_on = ap (has_alphabet of) (append-nil (take (suc place) (b ∷ bs)))
          ∙ ap (λ n. has_alphabet of (take (suc n) (b ∷ bs))) (sym found.0) ∙ and_from (may_begin of b) _ begins (pass_before (may_follow of) bs);
      stops = λ few more. ap (λ n. has_alphabet of (take n (b ∷ bs) ++ more)) next
          ∙ ap (λ t. t && list_all (may_follow of) (take (passing (may_follow of) bs + 1) bs ++ more)) begins ∙ fails_there (may_follow of) bs found.1 more;
      itself = ap (λ t. t && list_all (may_follow of) bs) begins ∙ fails_whole (may_follow of) bs found.1;
    }

no_letters : (of : Alphabet) → Breaks (has_alphabet of) [] 0
no_letters of = record {
  within = omega arith;
  rest = 97 ∷ [];
  goes_on = and_from (may_begin of 97) true (letter_begins of) refl;
  stops = λ few more. absurd (omega (arith, few));
  itself = refl;
}

bad_first : (of : Alphabet) (b : ℕ) (bs : List ℕ) → may_begin of b ≡ false → Breaks (has_alphabet of) (b ∷ bs) 0
bad_first of b bs fails = record {
  within = omega arith;
  rest = 97 ∷ [];
  goes_on = and_from (may_begin of 97) true (letter_begins of) refl;
  stops = λ few more. ap (λ t. t && list_all (may_follow of) more) fails;
  itself = ap (λ t. t && list_all (may_follow of) bs) fails;
}

behind_first : (of : Alphabet) (b : ℕ) (bs : List ℕ) (place : ℕ) → may_begin of b ≡ true → option_map (λ n. n + 1) (position (λ x. not (may_follow of x)) bs) ≡ Some place → Breaks (has_alphabet of) (b ∷ bs) place
behind_first of b bs place begins e =
    let before = next_place (position (λ x. not (may_follow of x)) bs) place e in
    subst (Breaks (has_alphabet of) (b ∷ bs)) (sym before.1.1) (letters_from of b bs before.0 begins before.1.0)

letters_begin : (of : Alphabet) (b : ℕ) (bs : List ℕ) (place : ℕ) → alphabet_place of (b ∷ bs) ≡ Some place → Breaks (has_alphabet of) (b ∷ bs) place
letters_begin of b bs place =
    elim (may_begin of b) as (λ t. may_begin of b ≡ t → cond t (option_map (λ n. n + 1) (position (λ x. not (may_follow of x)) bs)) (Some 0) ≡ Some place → Breaks (has_alphabet of) (b ∷ bs) place) [
      | true ↦ λ begins e. behind_first of b bs place begins e
      | false ↦ λ fails e. subst (Breaks (has_alphabet of) (b ∷ bs)) (same_place 0 place e) (bad_first of b bs fails)
    ] refl

letters_break : (of : Alphabet) (text : List ℕ) (place : ℕ) → alphabet_place of text ≡ Some place → Breaks (has_alphabet of) text place
letters_break of [] place e = subst (Breaks (has_alphabet of) []) (same_place 0 place e) (no_letters of)
letters_break of (b ∷ bs) place e = letters_begin of b bs place e

pub letters_break_first : LettersBreakFirst
letters_break_first of text place e = first_place (has_alphabet of) text place (letters_break of text place e)

-- keys

-- Where a key breaks: some text goes on up to there, and none with the byte there too.
record KeyBreaks (start : Bool) (text : List ℕ) (place : ℕ) : Type 0 where
  within : place ≤ length text
  rest : List ℕ
  goes_on : key_place_from start (take place text ++ rest) ≡ None
  stops : place < length text → (more : List ℕ) → (n : ℕ) × (key_place_from start (take (place + 1) text ++ more) ≡ Some n)

goes_on_somehow : (start : Bool) → (rest : List ℕ) × (key_place_from start rest ≡ None)
goes_on_somehow true = (97 ∷ [], refl)
goes_on_somehow false = ([], refl)

breaks_here : (start : Bool) (b : ℕ) (bs : List ℕ) → key_step start b ≡ None → KeyBreaks start (b ∷ bs) 0
breaks_here start b bs none =
    let on = goes_on_somehow start in
    record { within = omega arith; rest = on.0; goes_on = on.1; stops = λ few more. (0, key_place-stop start b more none) }

breaks_later : (start next : Bool) (b : ℕ) (bs : List ℕ) (place : ℕ) → key_step start b ≡ Some next → KeyBreaks next bs place → KeyBreaks start (b ∷ bs) (suc place)
breaks_later start next b bs place step k = record {
  within = omega (arith, k.within);
  rest = k.rest;
  goes_on = key_place-on start next b (take place bs ++ k.rest) step ∙ ap (option_map (λ n. n + 1)) k.goes_on;
  stops = λ few more.
      let later = k.stops (omega (arith, few)) more in
      let count : suc place + 1 ≡ suc (place + 1) = omega arith in (
        later.0 + 1,
        ap (λ n. key_place_from start (take n (b ∷ bs) ++ more)) count
            ∙ key_place-on start next b (take (place + 1) bs ++ more) step ∙ ap (option_map (λ n. n + 1)) later.1,
      );
}

step_cases : (o : Option Bool) → (o ≡ None) ⊎ ((next : Bool) × (o ≡ Some next))
step_cases None = inl refl
step_cases (Some next) = inr (next, refl)

keys_break : (start : Bool) (text : List ℕ) (place : ℕ) → key_place_from start text ≡ Some place → KeyBreaks start text place
keys_break true [] place e = subst (KeyBreaks true []) (same_place 0 place e) (record { within = omega arith; rest = 97 ∷ []; goes_on = refl; stops = λ few more. absurd (omega (arith, few)) })
keys_break false [] place e = absurd cc
keys_break start (b ∷ bs) place e =
    elim (step_cases (key_step start b)) [
      | inl none ↦ subst (KeyBreaks start (b ∷ bs)) (same_place 0 place (sym (key_place-stop start b bs none) ∙ e)) (breaks_here start b bs none)
      | inr step ↦
          let before = next_place (key_place_from step.0 bs) place (sym (key_place-on start step.0 b bs step.1) ∙ e) in
          subst (KeyBreaks start (b ∷ bs)) (sym before.1.1) (breaks_later start step.0 b bs before.0 step.1 (keys_break step.0 bs before.0 before.1.0))
    ]

no_key : (text : List ℕ) (n : ℕ) → key_place_from true text ≡ Some n → is_key text ≡ false
no_key text n e =
    elim (cases_Bool (is_key text)) [
      | inl is ↦ absurd (let none = key-place text is in cc)
      | inr other ↦ other
    ]

pub keys_break_first : KeysBreakFirst
keys_break_first text place e =
    let k = keys_break true text place e in
    first_place is_key text place (record {
      within = k.within;
      rest = k.rest;
      goes_on = key_place-None (take place text ++ k.rest) k.goes_on;
      stops = λ few more. let at = k.stops few more in no_key (take (place + 1) text ++ more) at.0 at.1;
      itself = no_key text place e;
    })
