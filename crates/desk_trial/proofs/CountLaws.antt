-- The calls of seats that are joined, in one history.
use Rattle.std.proofs.Common.{◌≡◌, ℕ, ◌+◌, ◌-◌, ◌<◌, ◌≤◌, ◌==◌, Bool, true, false, not, nat_lt, List, [], ◌∷◌, ◌++◌, length, cond, refl, sym, ap, subst, ◌∙◌, arith, All}
use Rattle.std.specs.Prelude.{filter}
use Rattle.std.specs.List.{AllByRecursion, AllZip}
use Rattle.std.proofs.lemmas.List.{length-map}
use Rattle.std.proofs.lemmas.List.Elements.{All-from_recursion}
use Rattle.call_forms.specs.declared.forms.Standin.TheVariants.{Memory, Spent, Unavailable}
use Rattle.call_forms.specs.declared.forms.Told.{Told}
use Rattle.call_forms.specs.declared.forms.Told.TheVariants.{Made, Standin as Instead}
use Rattle.atomic_table.specs.Seated.{TableId}
use Rattle.tellers.specs.Exchange.{Exchange, StandsForSome}
use Rattle.turnstile.specs.declared.board.Known.{Known}
use Rattle.turnstile.specs.Histories.{AtMost}
use Rattle.turnstile.specs.Seats.{Agrees, Seated, first_known, joined, split_left, split_right}
use Rattle.service_desk.specs.ServiceCore.History.{Entry}
use Rattle.service_desk.specs.RecordDesk.Standing.{exchange_of}
use Rattle.service_desk.specs.Turns.{HasAsked, HasCalls, had_turns, is_spent, made_by}
use Rattle.service_desk.proofs.TurnLaws.{asked_nothing, joined_begins, whole_has_calls}
use Rattle.trial_callers.specs.declared.callers.Caller.{Caller}
use Rattle.trial_callers.specs.Counting.{had_turn, had_turns as with_turns, one_if}
use Rattle.trial_callers.specs.Callings.{HasAskedOwn}
use Rattle.trial_callers.proofs.AskingLaws.{count_both}
use Rattle.desk_trial.specs.Seats.{EachFrom, HadTurns, IsAllOf, Sits, StandBelow, StandTimes, first_after, seat_of}

-- ---- numbers

one_more : (m n : ℕ) → one_if (nat_lt m (n + 1)) ≡ one_if (nat_lt m n) + one_if (m == n)
one_more m n = grind arith

is_below : (m n : ℕ) → m < n → nat_lt m n ≡ true
is_below m n low = grind (arith, low)

none_below : (m : ℕ) → nat_lt m 0 ≡ false
none_below m = grind arith

cond_long : {X : Type 0} (b : Bool) (x : X) (xs : List X) → length (cond b (x ∷ xs) xs) ≡ one_if b + length xs
cond_long true x xs = omega arith
cond_long false x xs = omega arith

abbrev Below : ℕ → Entry → Bool
Below count e = nat_lt e.seat count

below_more : (n : ℕ) (log : List Entry)
    → length (filter (λ e. nat_lt e.seat (n + 1)) log) ≡ length (filter (λ e. nat_lt e.seat n) log) + length (made_by (λ e. e.seat) n log)
below_more n [] = refl
below_more n (e ∷ es) =
    let next = cond_long (nat_lt e.seat (n + 1)) e (filter (λ x. nat_lt x.seat (n + 1)) es) in
    let low = cond_long (nat_lt e.seat n) e (filter (λ x. nat_lt x.seat n) es) in
    let own = cond_long (e.seat == n) e (made_by (λ x. x.seat) n es) in
    let one = one_more e.seat n in
    let rest = below_more n es in
    omega (arith, next, low, own, one, rest)

below_none : (log : List Entry) → length (filter (λ e. nat_lt e.seat 0) log) ≡ 0
below_none [] = refl
below_none (e ∷ es) = ap (λ (b : Bool). length (cond b (e ∷ filter (λ x. nat_lt x.seat 0) es) (filter (λ x. nat_lt x.seat 0) es))) (none_below e.seat) ∙ below_none es

below_all : (most count : ℕ) (log : List Entry) → most < count → AtMost (λ e. e.seat) most log → length (filter (λ e. nat_lt e.seat count) log) ≡ length log
below_all most count [] low all = refl
below_all most count (e ∷ es) low all =
    let here : e.seat < count = let at = all.0 in omega (arith, low, at) in
    let long = cond_long (nat_lt e.seat count) e (filter (λ x. nat_lt x.seat count) es) in
    let one : one_if (nat_lt e.seat count) ≡ 1 = ap one_if (is_below e.seat count here) in
    let rest = below_all most count es low all.1 in
    omega (arith, long, one, rest)

-- ---- seats

-- what a seat asked stands as often in each history that goes on from what it has seen
pub stand_times : (stood : List Entry → Type 0) (number turns : ℕ) (first now : Known Entry) (xs : List Exchange) → first ≡ seat_of number
    → HasAsked (λ e. e.seat) exchange_of stood first now xs → turns ≡ length (had_turns xs) → StandTimes number turns now
stand_times stood number turns first now xs is asked counted = λ log begins.
    let n : first.number ≡ number = ap (λ (k : Known Entry). k.number) is in
    let unseen : first.seen ≡ [] = ap (λ (k : Known Entry). k.seen) is in
    let calls : HasCalls (λ (e : Entry). e.seat) exchange_of number log xs =
    subst (λ (m : ℕ). HasCalls (λ (e : Entry). e.seat) exchange_of m log xs) n
    (whole_has_calls (λ e. e.seat) exchange_of stood first now xs log asked (ap (made_by (λ (e : Entry). e.seat) first.number) unseen) begins) in
    sym (length-map (made_by (λ e. e.seat) number log) exchange_of) ∙ ap length calls ∙ sym counted

-- of a first seat that was asked nothing
pub first_below : (k : Known Entry) (count : ℕ) → k ≡ first_after count → StandBelow 1 0 k
first_below k count is = λ log begins.
    let stood : List Entry → Type 0 = λ l. Unit {0} in
    let number : k.number ≡ 0 = ap (λ (s : Known Entry). s.number) is in
    let unseen : k.seen ≡ [] = ap (λ (s : Known Entry). s.seen) is in
    let calls : HasCalls (λ (e : Entry). e.seat) exchange_of 0 log [] =
    subst (λ (m : ℕ). HasCalls (λ (e : Entry). e.seat) exchange_of m log []) number
    (whole_has_calls (λ e. e.seat) exchange_of stood k k [] log (asked_nothing (λ e. e.seat) exchange_of stood k)
    (ap (made_by (λ (e : Entry). e.seat) k.number) unseen) begins) in
    let none : length (made_by (λ (e : Entry). e.seat) 0 log) ≡ 0 = sym (length-map (made_by (λ e. e.seat) 0 log) exchange_of) ∙ ap length calls in
    let more = below_more 0 log in
    let zero_below = below_none log in
    omega (arith, none, more, zero_below)

pub join_below : (count turns more : ℕ) (whole other now : Known Entry) → StandBelow count turns whole → StandTimes count more other
    → Agrees (λ e. e.seat) whole other → now ≡ joined whole other → StandBelow (count + 1) (turns + more) now
join_below count turns more whole other now low own agrees is =
    subst (λ (k : Known Entry). StandBelow (count + 1) (turns + more) k) (sym is)
    (λ log begins.
    let both = joined_begins (λ e. e.seat) whole other log agrees begins in
    let before = low log both.0 in
    let mine = own log both.1 in
    let all = below_more count log in
    omega (arith, before, mine, all))

-- the same for a loop over seats
pub join_more : (n turns more sum m : ℕ) (whole other now : Known Entry) → StandBelow (1 + n) turns whole → StandTimes (1 + n) more other
    → Agrees (λ e. e.seat) whole other → now ≡ joined whole other → sum ≡ turns + more → m ≡ n + 1 → StandBelow (1 + m) sum now
join_more n turns more sum m whole other now low own agrees is total next =
    let same : (1 + n) + 1 ≡ 1 + m = omega (arith, next) in
    let all = join_below (1 + n) turns more whole other now low own agrees is in
    subst (λ (k : ℕ). StandBelow k sum now) same (subst (λ (t : ℕ). StandBelow ((1 + n) + 1) t now) (sym total) all)

-- the first seat, into which all others were joined
pub all_of : (count turns : ℕ) (whole first : Known Entry) → StandBelow (1 + count) turns whole → first ≡ first_after count → whole.number ≡ first.number
    → whole.splits ≡ first.splits → count ≤ 1000 → IsAllOf turns whole
all_of count turns whole first low is same_number same_splits few = λ log is_whole.
    let number : whole.number ≡ 0 = same_number ∙ ap (λ (k : Known Entry). k.number) is in
    let splits : whole.splits ≡ 4294967296 - count = same_splits ∙ ap (λ (k : Known Entry). k.splits) is in
    let most : 4294967296 - whole.splits < 1 + count = omega (arith, few, splits) in
    sym (below_all (4294967296 - whole.splits) (1 + count) log most (is_whole.3 number)) ∙ low log is_whole.0

-- ---- seats that are split off

pub first_unsplit : (k : Known Entry) → k ≡ first_known → k ≡ first_after 0
first_unsplit k is = is

pub left_by : (i : ℕ) (k now : Known Entry) → k ≡ first_after i → now ≡ split_left k → now ≡ first_after (i + 1)
left_by i k now is left =
    let fewer : 4294967296 - i - 1 ≡ 4294967296 - (i + 1) = omega arith in
    left ∙ ap split_left is ∙ ap (λ (s : ℕ). record first_known { splits = s }) fewer

pub right_by : (i : ℕ) (k now : Known Entry) → i ≤ 1000 → k ≡ first_after i → now ≡ split_right k → now ≡ seat_of (1 + i)
right_by i k now few is right =
    let number : 4294967297 - (4294967296 - i) ≡ 1 + i = omega (arith, few) in
    right ∙ ap split_right is ∙ ap seat_of number

pub each_push : {X : Type 0} (fits : ℕ → X → Type 0) (n : ℕ) (xs : List X) (x : X) → EachFrom fits n xs → fits (n + length xs) x
    → EachFrom fits n (xs ++ x ∷ [])
each_push {X} fits n [] x each here = let same : n + length {A = X} [] ≡ n = omega arith in (subst (λ (k : ℕ). fits k x) same here, tt)
each_push {X} fits n (y ∷ ys) x each here =
    let same : n + length (y ∷ ys) ≡ (n + 1) + length ys = omega arith in
    (each.0, each_push fits (n + 1) ys x each.1 (subst (λ (k : ℕ). fits k x) same here))

-- ---- callers

-- the same calls had turns, as callers count them and as a desk does
same_turn : (t : Told) → had_turn t ≡ not (is_spent t)
same_turn (Made answer) = refl
same_turn (Instead Unavailable) = refl
same_turn (Instead Memory) = refl
same_turn (Instead Spent) = refl

same_turns : (xs : List Exchange) → with_turns xs ≡ had_turns xs
same_turns [] = refl
same_turns (x ∷ xs) =
    ap (λ (b : Bool). cond b (x ∷ with_turns xs) (with_turns xs)) (same_turn x.told)
    ∙ ap (λ (l : List Exchange). cond (not (is_spent x.told)) (x ∷ l) l) (same_turns xs)

module _ {K T : Type 0} (desk : T → K) (table_of : K → TableId) (seat : T → Seated Entry) (stood : T → List Entry → Type 0) where
  abbrev Asks : T → T → List Exchange → Type 0
  Asks t u xs = (desk u ≡ desk t) × ((seat u).table ≡ table_of (desk u)) × HasAsked (λ e. e.seat) exchange_of (stood t) (seat t).knows (seat u).knows xs

  abbrev SitsAt : K → ℕ → Caller T → Type 0
  SitsAt at n c = Sits at (table_of at) n (desk c.teller) (seat c.teller)

  begins : (at : K) (n : ℕ) (c : Caller T) → SitsAt at n c → Asks c.teller c.teller []
  begins at n c sits =
      (refl, sits.table_is ∙ ap table_of (sym sits.desk_is), asked_nothing (λ e. e.seat) exchange_of (stood c.teller) (seat c.teller).knows)

  some : (at : K) (n : ℕ) (cs : List (Caller T)) → EachFrom (SitsAt at) n cs → AllByRecursion (λ (c : Caller T). StandsForSome Asks c.teller) cs
  some at n [] each = tt
  some at n (c ∷ cs) each = ((c.teller, [], begins at n c each.0), some at (n + 1) cs each.1)

  pub all_stand : (at : K) (cs : List (Caller T)) → EachFrom (SitsAt at) 1 cs → All (λ (c : Caller T). StandsForSome Asks c.teller) cs
  all_stand at cs each = All-from_recursion (λ (c : Caller T). StandsForSome Asks c.teller) cs (some at 1 cs each)

  had_one : (at : K) (n : ℕ) (c d : Caller T) → SitsAt at n c → HasAskedOwn Asks c d → HadTurns (table_of at) n d.heard.turns d.heard.calls (seat d.teller)
  had_one at n c d sits own =
      let counted = own.counted in
      let now = counted.asked c.teller [] (begins at n c sits) in
      record {
        table_is = now.1 ∙ ap table_of (now.0 ∙ sits.desk_is);
        stand = stand_times (stood c.teller) n d.heard.turns (seat c.teller).knows (seat d.teller).knows (counted.creations ++ counted.reads) sits.knows now.2
            (counted.counts.turns ∙ sym (count_both _ counted.creations counted.reads) ∙ ap length (same_turns (counted.creations ++ counted.reads)));
        few = own.few;
      }

  pub had_all : (at : K) (n : ℕ) (cs ds : List (Caller T)) → EachFrom (SitsAt at) n cs → AllZip (HasAskedOwn Asks) cs ds
      → EachFrom (λ m (d : Caller T). HadTurns (table_of at) m d.heard.turns d.heard.calls (seat d.teller)) n ds
  had_all at n [] [] each zip = tt
  had_all at n [] (d ∷ ds) each zip = absurd zip
  had_all at n (c ∷ cs) [] each zip = absurd zip
  had_all at n (c ∷ cs) (d ∷ ds) each zip = (had_one at n c d each.0 zip.0, had_all at (n + 1) cs ds each.1 zip.1)
