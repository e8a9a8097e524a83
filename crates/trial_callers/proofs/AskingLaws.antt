-- What is counted of calls, after one more.
use Rattle.std.proofs.Common.{◌≡◌, ℕ, ◌+◌, Bool, true, false, List, [], ◌∷◌, ◌++◌, length, cond, refl, sym, ap, subst, ◌∙◌, append-nil, append_assoc, length-append, arith}
use Rattle.std.specs.Prelude.{filter}
use Rattle.std.proofs.lemmas.List.Elements.{filter-append}
use Rattle.call_forms.specs.declared.asked.Asked.{Asked}
use Rattle.call_forms.specs.declared.forms.Told.{Told}
use Rattle.tellers.specs.Exchange.{Exchange}
use Rattle.trial_callers.specs.declared.counts.Heard.{Heard}
use Rattle.trial_callers.specs.Counting.{Counts, HasAskedAll, IsCounted, WasAsked, had_turn, had_turns, is_accepted, last_told, one_if, shows_same, turn_of}
use Rattle.trial_callers.specs.Working.{HasCreated, HasRead}

-- ---- counts

count_one : {X : Type 0} (x : X) (b : Bool) → length (cond b (x ∷ []) []) ≡ one_if b
count_one x true = refl
count_one x false = refl

pub count_both : {X : Type 0} (p : X → Bool) (xs ys : List X) → length (filter p (xs ++ ys)) ≡ length (filter p xs) + length (filter p ys)
count_both p xs ys = ap length (filter-append p xs ys) ∙ length-append (filter p xs) (filter p ys)

pub count_more : {X : Type 0} (p : X → Bool) (xs : List X) (x : X) → length (filter p (xs ++ x ∷ [])) ≡ length (filter p xs) + one_if (p x)
count_more p xs x = count_both p xs (x ∷ []) ∙ ap (λ (n : ℕ). length (filter p xs) + n) (count_one x (p x))

more_turns : (xs : List Exchange) (x : Exchange) → length (had_turns (xs ++ x ∷ [])) ≡ length (had_turns xs) + turn_of x.told
more_turns xs x = count_more (λ y. had_turn y.told) xs x

more_calls : (xs : List Exchange) (x : Exchange) → length (xs ++ x ∷ []) ≡ length xs + 1
more_calls xs x = length-append xs (x ∷ [])

last_more : (xs : List Exchange) (x : Exchange) → last_told (xs ++ x ∷ []) ≡ x.told
last_more [] x = refl
last_more (y ∷ []) x = refl
last_more (y ∷ z ∷ more) x = last_more (z ∷ more) x

-- ---- calls

pub was_nothing : {T : Type 0} (stands : T → T → List Exchange → Type 0) (t : T) → WasAsked stands t t []
was_nothing stands t = λ first before so. subst (stands first t) (sym (append-nil before)) so

pub was_more : {T : Type 0} (stands : T → T → List Exchange → Type 0) (a b c : T) (xs ys : List Exchange) → WasAsked stands a b xs
    → WasAsked stands b c ys → WasAsked stands a c (xs ++ ys)
was_more stands a b c xs ys one two = λ first before so. subst (stands first c) (append_assoc before xs ys) (two first (before ++ xs) (one first before so))

module _ {T : Type 0} (stands : T → T → List Exchange → Type 0) where
  pub created_nothing : (t : T) (heard : Heard) (last : Told) → Counts heard [] [] → last ≡ last_told [] → HasCreated stands t t heard last
  created_nothing t heard last counts is = record {
    creations = [];
    asked = was_nothing stands t;
    counts = counts;
    last_is = is;
  }

  pub created_more : (a b c : T) (before after : Heard) (last told : Told) (asked : Asked) → HasCreated stands a b before last
      → WasAsked stands b c (record { asked = asked; told = told } ∷ []) → after.calls ≡ before.calls + 1 → after.turns ≡ before.turns + turn_of told
      → after.created ≡ before.created + one_if (is_accepted told) → after.own ≡ before.own + one_if false → HasCreated stands a c after told
  created_more a b c before after last told asked has was calls turns created own =
      let x : Exchange = record { asked = asked; told = told } in
      let xs = has.creations in
      let long = more_calls xs x in
      let turned = more_turns xs x in
      let came = count_more (λ y. is_accepted y.told) xs x in
      let old_calls = has.counts.calls in
      let old_turns = has.counts.turns in
      let old_created = has.counts.created in
      let old_own = has.counts.own in
      record {
        creations = xs ++ x ∷ [];
        asked = was_more stands a b c xs (x ∷ []) has.asked was;
        counts = record {
          calls = omega (arith, calls, old_calls, long);
          turns = omega (arith, turns, old_turns, turned);
          created = omega (arith, created, old_created, came);
          own = omega (arith, own, old_own);
        };
        last_is = sym (last_more xs x);
      }

  pub read_nothing : (t : T) (last : Told) (heard : Heard) → HasRead stands t t last heard heard
  read_nothing t last heard = record {
    reads = [];
    asked = was_nothing stands t;
    calls = omega arith;
    turns = omega arith;
    created = refl;
    own = omega arith;
  }

  pub read_more : (a b c : T) (first before after : Heard) (last told : Told) (asked : Asked) → HasRead stands a b last first before
      → WasAsked stands b c (record { asked = asked; told = told } ∷ []) → after.calls ≡ before.calls + 1 → after.turns ≡ before.turns + turn_of told
      → after.created ≡ before.created + one_if false → after.own ≡ before.own + one_if (shows_same told last) → HasRead stands a c last first after
  read_more a b c first before after last told asked has was calls turns created own =
      let x : Exchange = record { asked = asked; told = told } in
      let xs = has.reads in
      let long = more_calls xs x in
      let turned = more_turns xs x in
      let came = count_more (λ y. shows_same y.told last) xs x in
      let old_calls = has.calls in
      let old_turns = has.turns in
      let old_created = has.created in
      let old_own = has.own in
      record {
        reads = xs ++ x ∷ [];
        asked = was_more stands a b c xs (x ∷ []) has.asked was;
        calls = omega (arith, calls, old_calls, long);
        turns = omega (arith, turns, old_turns, turned);
        created = omega (arith, created, old_created);
        own = omega (arith, own, old_own, came);
      }

  pub counted_both : (a b c : T) (before after : Heard) (last : Told) → HasCreated stands a b before last → HasRead stands b c last before after
      → IsCounted stands a c after
  counted_both a b c before after last has read =
      let cs = has.creations in
      let rs = read.reads in
      let old_calls = has.counts.calls in
      let old_turns = has.counts.turns in
      let old_created = has.counts.created in
      let old_own = has.counts.own in
      let new_calls = read.calls in
      let new_turns = read.turns in
      let new_created = read.created in
      let own : after.own ≡ before.own + length (filter (λ (x : Exchange). shows_same x.told (last_told cs)) rs) =
      subst (λ (t : Told). after.own ≡ before.own + length (filter (λ (x : Exchange). shows_same x.told t) rs)) has.last_is read.own in
      record {
        creations = cs;
        reads = rs;
        asked = was_more stands a b c cs rs has.asked read.asked;
        counts = record {
          calls = omega (arith, old_calls, new_calls);
          turns = omega (arith, old_turns, new_turns);
          created = omega (arith, old_created, new_created);
          own = omega (arith, old_own, own);
        };
      }

  pub counted_one : (a b : T) (heard : Heard) (last : Told) → HasCreated stands a b heard last → IsCounted stands a b heard
  counted_one a b heard last has = record {
    creations = has.creations;
    reads = [];
    asked = subst (WasAsked stands a b) (sym (append-nil has.creations)) has.asked;
    counts = has.counts;
  }

  -- ---- one task after the other

  pub all_nothing : (t : T) (heard : Heard) → heard.calls ≡ 0 → heard.turns ≡ 0 → HasAskedAll stands t t heard
  all_nothing t heard calls turns = record { exchanges = []; asked = was_nothing stands t; calls = calls; turns = turns }

  pub all_more : (a b c : T) (before one after : Heard) → HasAskedAll stands a b before → IsCounted stands b c one
      → after.calls ≡ before.calls + one.calls → after.turns ≡ before.turns + one.turns → HasAskedAll stands a c after
  all_more a b c before one after has is calls turns =
      let xs = has.exchanges in
      let cs = is.creations in
      let rs = is.reads in
      let long = length-append xs (cs ++ rs) in
      let own = length-append cs rs in
      let turned = count_both (λ y. had_turn y.told) xs (cs ++ rs) in
      let own_turned = count_both (λ y. had_turn y.told) cs rs in
      let old_calls = has.calls in
      let old_turns = has.turns in
      let one_calls = is.counts.calls in
      let one_turns = is.counts.turns in
      record {
        exchanges = xs ++ (cs ++ rs);
        asked = was_more stands a b c xs (cs ++ rs) has.asked is.asked;
        calls = omega (arith, calls, old_calls, one_calls, long, own);
        turns = omega (arith, turns, old_turns, one_turns, turned, own_turned);
      }
