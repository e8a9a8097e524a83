-- What a seat asked, after one call more.
use Rattle.std.proofs.Common.{◌≡◌, ◌≢◌, ◌⊎◌, inl, inr, ℕ, ◌+◌, ◌<◌, ◌≤◌, ◌^◌, ◌==◌, Bool, true, false, not, List, [], ◌∷◌, ◌++◌, length, map, cond, if◌then◌else◌, refl, sym, ap, subst, ◌∙◌, append-nil, append_assoc, arith}
use Rattle.std.specs.Prelude.{filter}
use Rattle.std.specs.List.{AllByRecursion}
use Rattle.std.proofs.lemmas.List.{map-append}
use Rattle.std.proofs.lemmas.List.Elements.{filter-append}
use Rattle.call_forms.specs.declared.asked.Asked.{Asked}
use Rattle.call_forms.specs.declared.forms.Standin.TheVariants.{Memory, Spent, Unavailable}
use Rattle.call_forms.specs.declared.forms.Told.{Told}
use Rattle.call_forms.specs.declared.forms.Told.TheVariants.{Made, Standin as Instead}
use Rattle.tellers.specs.Exchange.{Exchange}
use Rattle.turnstile.specs.declared.board.Known.{Known}
use Rattle.turnstile.specs.Histories.{Begins, NoneOf, times}
use Rattle.turnstile.proofs.Totals.{times-append}
use Rattle.turnstile.specs.Seats.{Agrees, SameSeat, joined, names}
use Rattle.service_desk.specs.Turns.{HasAsked, HasCalls, HasNoTurn, HasTurn, had_turns, is_spent, made_by}

-- ---- entries of others

by_no : (n m : ℕ) (ms : List ℕ) → times n (m ∷ ms) ≡ 0 → (b : Bool) → (n == m) ≡ b → b ≡ false
by_no n m ms none true is =
    let counts : times n (m ∷ ms) ≡ 1 + times n ms = ap (λ (b : Bool). (if b then 1 else 0) + times n ms) is in
    absurd (omega (arith, counts, none))
by_no n m ms none false is = refl

-- entries of other numbers are none of this one
others_made : {E : Type 0} (by : E → ℕ) (n : ℕ) (ms : List ℕ) (others : List E) → NoneOf by (n ∷ ms) others → made_by by n others ≡ []
others_made by n ms [] none = refl
others_made by n ms (e ∷ es) none =
    let no : (by e == n) ≡ false = by_no (by e) n ms none.0 (by e == n) refl in
    ap (λ (b : Bool). cond b (e ∷ made_by by n es) (made_by by n es)) no ∙ others_made by n ms es none.1

by_yes : (n : ℕ) → (n == n) ≡ true
by_yes n = grind arith

own_made : {E : Type 0} (by : E → ℕ) (n : ℕ) (e : E) → by e ≡ n → made_by by n (e ∷ []) ≡ e ∷ []
own_made by n e is = ap (λ (b : Bool). cond b (e ∷ []) []) (ap (λ m. m == n) is ∙ by_yes n)

-- what was seen, others' entries, and an own one
made_more : {E : Type 0} (by : E → ℕ) (n : ℕ) (ms : List ℕ) (more others : List E) (e : E) → NoneOf by (n ∷ ms) others → by e ≡ n
    → made_by by n ((more ++ others) ++ e ∷ []) ≡ made_by by n more ++ e ∷ []
made_more by n ms more others e none is =
    filter-append (λ x. by x == n) (more ++ others) (e ∷ [])
    ∙ ap (λ l. l ++ made_by by n (e ∷ [])) (filter-append (λ x. by x == n) more others ∙ ap (λ l. made_by by n more ++ l) (others_made by n ms others none) ∙ append-nil (made_by by n more))
    ∙ ap (λ l. made_by by n more ++ l) (own_made by n e is)

-- ---- seats

same_further : {E : Type 0} (a b c : Known E) → SameSeat a b → SameSeat b c → SameSeat a c
same_further a b c one two = (
  two.0 ∙ ap (λ (k : Known _). record k { drawn = c.drawn; seen = c.seen }) one.0,
  omega (arith, one.1, two.1),
)

-- ---- calls

all_end : (P : Exchange → Type 0) (xs : List Exchange) (x : Exchange) → AllByRecursion P xs → P x → AllByRecursion P (xs ++ x ∷ [])
all_end P [] x all here = (here, tt)
all_end P (y ∷ ys) x all here = (all.0, all_end P ys x all.1 here)

all_other : (P Q : Exchange → Type 0) (xs : List Exchange) → ((x : Exchange) → P x → Q x) → AllByRecursion P xs → AllByRecursion Q xs
all_other P Q [] weaker all = tt
all_other P Q (y ∷ ys) weaker all = (weaker y all.0, all_other P Q ys weaker all.1)

turns_more : (xs : List Exchange) (x : Exchange) → is_spent x.told ≡ false → had_turns (xs ++ x ∷ []) ≡ had_turns xs ++ x ∷ []
turns_more xs x is = filter-append (λ y. not (is_spent y.told)) xs (x ∷ []) ∙ ap (λ (b : Bool). had_turns xs ++ cond (not b) (x ∷ []) []) is

turns_same : (xs : List Exchange) (x : Exchange) → is_spent x.told ≡ true → had_turns (xs ++ x ∷ []) ≡ had_turns xs
turns_same xs x is =
    filter-append (λ y. not (is_spent y.told)) xs (x ∷ []) ∙ ap (λ (b : Bool). had_turns xs ++ cond (not b) (x ∷ []) []) is ∙ append-nil (had_turns xs)

module _ {E : Type 0} (by : E → ℕ) (exchange : E → Exchange) (stood : List E → Type 0) where
  pub asked_nothing : (k : Known E) → HasAsked by exchange stood k k []
  asked_nothing k = record {
    same = (refl, omega arith);
    more = [];
    seen = sym (append-nil k.seen);
    own = refl;
    led = inl refl;
    spent = tt;
  }

  -- a call that had its turn
  pub asked_more : (fits : List E → E → Type 0) (first old new : Known E) (xs : List Exchange) (x : Exchange)
      → ((log : List E) (e : E) → fits log e → stood (log ++ e ∷ []))
      → HasAsked by exchange stood first old xs → SameSeat old new → is_spent x.told ≡ false → HasTurn by exchange fits old x new
      → HasAsked by exchange stood first new (xs ++ x ∷ [])
  asked_more fits first old new xs x stands before same is has =
      let others = has.turn.0 in
      let e = has.turn.1 in
      let seen : new.seen ≡ (old.seen ++ others) ++ e ∷ [] = has.turn.2 in
      let number : old.number ≡ first.number = ap (λ (k : Known E). k.number) before.same.0 in
      let ended : old.ended ≡ first.ended = ap (λ (k : Known E). k.ended) before.same.0 in
      let none = has.turn.3 in
      let of : by e ≡ first.number = has.turn.4 ∙ number in
      let fit = has.turn.5 in
      let mine : made_by by first.number ((before.more ++ others) ++ e ∷ []) ≡ made_by by first.number before.more ++ e ∷ [] =
      made_more by first.number old.ended before.more others e (subst (λ (n : ℕ). NoneOf by (n ∷ old.ended) others) number none) of in
      record {
        same = same_further first old new before.same same;
        more = (before.more ++ others) ++ e ∷ [];
        seen = seen ∙ ap (λ l. (l ++ others) ++ e ∷ []) before.seen ∙ ap (λ l. l ++ e ∷ []) (append_assoc first.seen before.more others)
            ∙ append_assoc first.seen (before.more ++ others) (e ∷ []);
        own = ap (map exchange) mine ∙ map-append exchange (made_by by first.number before.more) (e ∷ [])
            ∙ ap (λ l. l ++ exchange e ∷ []) before.own ∙ ap (λ (y : Exchange). had_turns xs ++ y ∷ []) fit.0 ∙ sym (turns_more xs x is);
        led = inr (subst stood (sym seen) (stands (old.seen ++ others) e fit.1));
        spent = all_end _ xs x
            (all_other (λ y. is_spent y.told ≡ true → old.drawn ≡ 2 ^ 63) (λ y. is_spent y.told ≡ true → new.drawn ≡ 2 ^ 63) xs
            (λ y was spent. let all = was spent in absurd (omega (arith, same.1, has.few, all))) before.spent)
            (λ spent. let no : true ≡ false = sym spent ∙ is in absurd cc);
      }

  -- a call that had none
  pub asked_in_vain : (first old new : Known E) (xs : List Exchange) (x : Exchange)
      → HasAsked by exchange stood first old xs → SameSeat old new → is_spent x.told ≡ true → HasNoTurn old new
      → HasAsked by exchange stood first new (xs ++ x ∷ [])
  asked_in_vain first old new xs x before same is none = record {
    same = same_further first old new before.same same;
    more = before.more;
    seen = none.same ∙ before.seen;
    own = before.own ∙ sym (turns_same xs x is);
    led = elim before.led [ inl nothing ↦ inl nothing | inr stood_so ↦ inr (subst stood (sym none.same) stood_so) ];
    spent = all_end _ xs x
        (all_other (λ y. is_spent y.told ≡ true → old.drawn ≡ 2 ^ 63) (λ y. is_spent y.told ≡ true → new.drawn ≡ 2 ^ 63) xs
        (λ y was spent. none.drawn) before.spent)
        (λ spent. none.drawn);
  }

  pub asked_on : (fits : List E → E → Type 0) (first old new : Known E) (xs : List Exchange) (asked : Asked) (told : Told)
      → ((log : List E) (e : E) → fits log e → stood (log ++ e ∷ []))
      → HasAsked by exchange stood first old xs → SameSeat old new
      → (told ≢ Instead Spent → HasTurn by exchange fits old (record { asked = asked; told = told }) new)
      → (told ≡ Instead Spent → HasNoTurn old new)
      → HasAsked by exchange stood first new (xs ++ record { asked = asked; told = told } ∷ [])
  asked_on fits first old new xs asked (Made answer) stands before same turn none =
      asked_more fits first old new xs (record { asked = asked; told = Made answer }) stands before same refl (turn (λ is. cc))
  asked_on fits first old new xs asked (Instead Memory) stands before same turn none =
      asked_more fits first old new xs (record { asked = asked; told = Instead Memory }) stands before same refl (turn (λ is. cc))
  asked_on fits first old new xs asked (Instead Unavailable) stands before same turn none =
      asked_more fits first old new xs (record { asked = asked; told = Instead Unavailable }) stands before same refl (turn (λ is. cc))
  asked_on fits first old new xs asked (Instead Spent) stands before same turn none =
      asked_in_vain first old new xs (record { asked = asked; told = Instead Spent }) before same refl (none refl)

-- ---- whole histories

none_both : {E : Type 0} (by : E → ℕ) (ns : List ℕ) (xs ys : List E) → NoneOf by ns xs → NoneOf by ns ys → NoneOf by ns (xs ++ ys)
none_both by ns [] ys one two = two
none_both by ns (x ∷ xs) ys one two = (one.0, none_both by ns xs ys one.1 two)

none_fewer : {E : Type 0} (by : E → ℕ) (ns ms : List ℕ) (es : List E) → ((n : ℕ) → times n ms ≡ 0 → times n ns ≡ 0) → NoneOf by ms es
    → NoneOf by ns es
none_fewer by ns ms [] fewer none = tt
none_fewer by ns ms (e ∷ es) fewer none = (fewer (by e) none.0, none_fewer by ns ms es fewer none.1)

begins_further : {E : Type 0} (by : E → ℕ) (ns : List ℕ) (log mid seen : List E) → Begins by ns log mid → Begins by ns mid seen → Begins by ns log seen
begins_further by ns log mid seen far near = (
  near.0 ++ far.0,
  far.1 ∙ ap (λ l. l ++ far.0) near.1 ∙ append_assoc seen near.0 far.0,
  none_both by ns near.0 far.0 near.2 far.2,
)

-- a history that begins with what a joined seat has seen begins with what each of the two had seen
pub joined_begins : {E : Type 0} (by : E → ℕ) (a b : Known E) (log : List E) → Agrees by a b → Begins by (names (joined a b)) log (joined a b).seen
    → Begins by (names a) log a.seen × Begins by (names b) log b.seen
joined_begins by a b log agrees begins =
    let all : List ℕ = names (joined a b) in
    let of_a : (n : ℕ) → times n all ≡ 0 → times n (names a) ≡ 0 =
    λ n none. let parts = times-append n (names a) (names b) in omega (arith, parts, none) in
    let of_b : (n : ℕ) → times n all ≡ 0 → times n (names b) ≡ 0 =
    λ n none. let parts = times-append n (names a) (names b) in omega (arith, parts, none) in (
      begins_further by (names a) log (joined a b).seen a.seen (begins.0, begins.1, none_fewer by (names a) all begins.0 of_a begins.2) agrees.0,
      begins_further by (names b) log (joined a b).seen b.seen (begins.0, begins.1, none_fewer by (names b) all begins.0 of_b begins.2) agrees.1,
    )

-- what a seat asked since it had seen no entry of its own is all that the whole history has of it
pub whole_has_calls : {E : Type 0} (by : E → ℕ) (exchange : E → Exchange) (stood : List E → Type 0) (first now : Known E) (xs : List Exchange)
    (log : List E) → HasAsked by exchange stood first now xs → made_by by first.number first.seen ≡ [] → Begins by (names now) log now.seen
    → HasCalls by exchange first.number log xs
whole_has_calls by exchange stood first now xs log asked none begins =
    let n = first.number in
    let number : now.number ≡ n = ap (λ (k : Known _). k.number) asked.same.0 in
    let others : made_by by n begins.0 ≡ [] = others_made by n now.ended begins.0 (subst (λ (m : ℕ). NoneOf by (m ∷ now.ended) begins.0) number begins.2) in
    let split : made_by by n log ≡ made_by by n asked.more =
    ap (made_by by n) (begins.1 ∙ ap (λ l. l ++ begins.0) asked.seen)
    ∙ filter-append (λ e. by e == n) (first.seen ++ asked.more) begins.0
    ∙ ap (λ l. l ++ made_by by n begins.0) (filter-append (λ e. by e == n) first.seen asked.more ∙ ap (λ l. l ++ made_by by n asked.more) none)
    ∙ ap (λ l. made_by by n asked.more ++ l) others
    ∙ append-nil (made_by by n asked.more) in
    ap (map exchange) split ∙ asked.own
