-- Seats that are split off and joined again.
use Rattle.std.proofs.Common.{◌≡◌, ◌≢◌, ℕ, suc, ◌+◌, ◌-◌, ◌<◌, ◌≤◌, ◌==◌, Bool, true, List, [], ◌∷◌, ◌++◌, length, map, if◌then◌else◌, refl, sym, ap, subst, ◌∙◌, arith}
use Rattle.std.specs.List.{AllByRecursion}
use Rattle.std.proofs.lemmas.List.{length-map, map-append}
use Rattle.atomic_table.specs.Seated.{TableId}
use Rattle.service_desk.specs.ServiceCore.History.{Entry}
use Rattle.turnstile.specs.declared.board.Known.{Known}
use Rattle.turnstile.specs.Histories.{AtMost, Begins, NoneOf, times}
use Rattle.turnstile.specs.Seats.{Agrees, IsWhole, Seated, first_known, joined, names, split_left, split_right}
use Rattle.service_desk.proofs.TurnLaws.{joined_begins}
use Rattle.served_desk.specs.Posts.{EachFrom}
use Rattle.served_desk.specs.Seatings.{AreSeats, IsJoined, JoinsAll, seat_at}

-- ---- lists with numbers

pub each_push : {X : Type 0} (fits : ℕ → X → Type 0) (n : ℕ) (xs : List X) (x : X) → EachFrom fits n xs → fits (n + length xs) x
    → EachFrom fits n (xs ++ x ∷ [])
each_push {X} fits n [] x each here = let same : n + length {A = X} [] ≡ n = omega arith in (subst (λ (k : ℕ). fits k x) same here, tt)
each_push {X} fits n (y ∷ ys) x each here =
    let same : n + length (y ∷ ys) ≡ (n + 1) + length ys = omega arith in
    (each.0, each_push fits (n + 1) ys x each.1 (subst (λ (k : ℕ). fits k x) same here))

pub each_other : {X Y : Type 0} (P : ℕ → X → Type 0) (Q : ℕ → Y → Type 0) (of : X → Y) (n : ℕ) (xs : List X) → ((k : ℕ) (x : X) → P k x → Q k (of x))
    → EachFrom P n xs → EachFrom Q n (map of xs)
each_other P Q of n [] gives each = tt
each_other P Q of n (x ∷ xs) gives each = (gives n x each.0, each_other P Q of (n + 1) xs gives each.1)

pub all_push : {X : Type 0} (P : X → Type 0) (xs : List X) (x : X) → AllByRecursion P xs → P x → AllByRecursion P (xs ++ x ∷ [])
all_push P [] x all here = (here, tt)
all_push P (y ∷ ys) x all here = (all.0, all_push P ys x all.1 here)

missed : {X : Type 0} (m n : ℕ) (xs : List X) → EachFrom (λ k x. m ≢ k) n xs → n ≤ m → m < n + length xs → ⊥
missed m n [] each low high = omega (arith, low, high)
missed m n (x ∷ xs) each low high =
    missed m (n + 1) xs each.1 (let apart = each.0 in omega (arith, low, apart)) (omega (arith, high))

-- ---- seats that are split off

-- the first seat, of which so many were split off
abbrev pub unsplit : ℕ → Known Entry
unsplit i = record first_known { splits = 4294967296 - i }

pub first_unsplit : (k : Known Entry) → k ≡ first_known → k ≡ unsplit 0
first_unsplit k is = is

pub left_by : (i : ℕ) (k now : Known Entry) → k ≡ unsplit i → now ≡ split_left k → now ≡ unsplit (i + 1)
left_by i k now is left =
    let fewer : 4294967296 - i - 1 ≡ 4294967296 - (i + 1) = omega arith in
    left ∙ ap split_left is ∙ ap (λ (s : ℕ). record first_known { splits = s }) fewer

pub right_by : (count i : ℕ) (k now : Known Entry) → i ≤ 64 → k ≡ unsplit i → now ≡ split_right k → now ≡ seat_at count (1 + i)
right_by count i k now few is right =
    let number : 4294967297 - (4294967296 - i) ≡ suc i = omega (arith, few) in
    let next : suc i ≡ 1 + i = omega arith in
    let made : now ≡ seat_at count (suc i) =
    right ∙ ap split_right is ∙ ap (λ (n : ℕ). record { number = n; splits = 0; drawn = 0; ended = []; seen = [] }) number in
    subst (λ (n : ℕ). now ≡ seat_at count n) next made

pub front_by : (count i : ℕ) (k : Known Entry) → i + 1 ≡ count → k ≡ unsplit i → k ≡ seat_at count 0
front_by count i k all is =
    let splits : 4294967296 - i ≡ 4294967297 - count = omega (arith, all) in
    is ∙ ap (λ (s : ℕ). record first_known { splits = s }) splits

-- ---- seats that are joined

pub joined_itself : (k : Known Entry) → IsJoined k k
joined_itself k = record { drawn = omega arith; begins = λ log begins. begins }

joined_further : (whole other : Known Entry) (all : List (Known Entry)) → Agrees (λ e. e.seat) whole other → AllByRecursion (IsJoined whole) all
    → AllByRecursion (IsJoined (joined whole other)) (all ++ other ∷ [])
joined_further whole other [] agrees each = (
  record {
    drawn = omega arith;
    begins = λ log begins. (joined_begins (λ e. e.seat) whole other log agrees begins).1;
  },
  tt,
)
joined_further whole other (k ∷ ks) agrees each = (
  record {
    drawn = let low = each.0.drawn in omega (arith, low);
    begins = λ log begins. each.0.begins log (joined_begins (λ e. e.seat) whole other log agrees begins).0;
  },
  joined_further whole other ks agrees each.1,
)

pub joins_more : (ks : List (Known Entry)) (whole other now : Known Entry) → JoinsAll ks whole → Agrees (λ e. e.seat) whole other
    → now ≡ joined whole other → JoinsAll (ks ++ other ∷ []) now
joins_more [] whole other now joins agrees is = absurd joins
joins_more (k ∷ ks) whole other now joins agrees is =
    let rest = joined_further whole other (k ∷ ks) agrees joins.2 in
    subst (λ (w : Known Entry). JoinsAll (k ∷ (ks ++ other ∷ [])) w) (sym is) (joins.0, joins.1, rest)

-- ---- workers, each with a seat

pub seats_push : {X : Type 0} (seat : X → Seated Entry) (table : TableId) (count : ℕ) (ws : List X) (w : X) → AreSeats table count 1 (map seat ws)
    → (seat w).table ≡ table → (seat w).knows ≡ seat_at count (1 + length ws) → AreSeats table count 1 (map seat (ws ++ w ∷ []))
seats_push {X} seat table count ws w seats own knows =
    let long : 1 + length ws ≡ 1 + length (map seat ws) = omega (arith, length-map ws seat) in
    subst (AreSeats table count 1) (sym (map-append seat ws (w ∷ [])))
    (each_push (λ n s. (s.table ≡ table) × (s.knows ≡ seat_at count n)) 1 (map seat ws) (seat w) seats
    (own, subst (λ (n : ℕ). (seat w).knows ≡ seat_at count n) long knows))

pub joins_push : {X : Type 0} (knows : X → Known Entry) (first : Known Entry) (ws : List X) (w : X) (whole now : Known Entry)
    → JoinsAll (first ∷ map knows ws) whole → Agrees (λ e. e.seat) whole (knows w) → now ≡ joined whole (knows w)
    → JoinsAll (first ∷ map knows (ws ++ w ∷ [])) now
joins_push knows first ws w whole now joins agrees is =
    subst (λ (ks : List (Known Entry)). JoinsAll (first ∷ ks) now) (sym (map-append knows ws (w ∷ [])))
    (joins_more (first ∷ map knows ws) whole (knows w) now joins agrees is)

-- ---- whole histories

pub below_all : (most count : ℕ) (log : List Entry) → most < count → AtMost (λ e. e.seat) most log → AllByRecursion (λ (e : Entry). e.seat < count) log
below_all most count [] low all = tt
below_all most count (e ∷ es) low all = (let here = all.0 in omega (arith, low, here), below_all most count es low all.1)

yes : (m n : ℕ) → m ≡ n → (m == n) ≡ true
yes m n same = grind arith

-- an entry that no seat has seen is of none of their numbers
differs : (count n : ℕ) (whole k : Known Entry) (e : Entry) (es : List Entry) → k ≡ seat_at count n → IsJoined whole k
    → Begins (λ x. x.seat) (names whole) (e ∷ es) whole.seen → e.seat ≢ n
differs count n whole k e es is one begins same =
    let there : Begins (λ (x : Entry). x.seat) (n ∷ []) (e ∷ es) [] =
    subst (λ (s : Known Entry). Begins (λ (x : Entry). x.seat) (names s) (e ∷ es) s.seen) is (one.begins (e ∷ es) begins) in
    let none : NoneOf (λ (x : Entry). x.seat) (n ∷ []) (e ∷ es) = subst (λ (l : List Entry). NoneOf (λ (x : Entry). x.seat) (n ∷ []) l) (sym there.1) there.2 in
    let no : times e.seat (n ∷ []) ≡ 0 = none.0 in
    let once : times e.seat (n ∷ []) ≡ 1 = ap (λ (b : Bool). (if b then 1 else 0) + 0) (yes e.seat n same) in
    absurd (omega (arith, no, once))

all_differ : (count n : ℕ) (whole : Known Entry) (ks : List (Known Entry)) (e : Entry) (es : List Entry)
    → EachFrom (λ m k. k ≡ seat_at count m) n ks → AllByRecursion (IsJoined whole) ks
    → Begins (λ x. x.seat) (names whole) (e ∷ es) whole.seen → EachFrom (λ m k. e.seat ≢ m) n ks
all_differ count n whole [] e es each joins begins = tt
all_differ count n whole (k ∷ ks) e es each joins begins =
    (differs count n whole k e es each.0 joins.0 begins, all_differ count (n + 1) whole ks e es each.1 joins.1 begins)

-- the first of the seats tells that the joined one is the first, and how many were split off
pub whole_first : (count : ℕ) (whole : Known Entry) (ks : List (Known Entry)) (log : List Entry) → 0 < count → count ≤ 64
    → (first : Known Entry) → first.number ≡ 0 → first.splits ≡ 4294967297 - count → whole.number ≡ first.number → whole.splits ≡ first.splits
    → IsWhole (λ e. e.seat) whole log → AllByRecursion (λ (e : Entry). e.seat < count) log
whole_first count whole ks log some few first number splits same_number same_splits is_whole =
    let most : 4294967296 - whole.splits < count = omega (arith, some, few, splits, same_splits) in
    below_all (4294967296 - whole.splits) count log most (is_whole.3 (same_number ∙ number))

-- Where nothing was asked of seats that are all joined, the whole history has no entry.
pub nothing_whole : (count : ℕ) (whole : Known Entry) (ks : List (Known Entry)) (log : List Entry) → 0 < count → count ≤ 64 → length ks ≡ count
    → EachFrom (λ n k. k ≡ seat_at count n) 0 ks → JoinsAll ks whole → IsWhole (λ e. e.seat) whole log → log ≡ []
nothing_whole count whole [] log some few long each joins is_whole = absurd joins
nothing_whole count whole (k ∷ ks) [] some few long each joins is_whole = refl
nothing_whole count whole (k ∷ ks) (e ∷ es) some few long each joins is_whole =
    let all = all_differ count 0 whole (k ∷ ks) e es each joins.2 is_whole.0 in
    let number : k.number ≡ 0 = ap (λ (s : Known Entry). s.number) each.0 in
    let splits : k.splits ≡ 4294967297 - count = ap (λ (s : Known Entry). s.splits) each.0 in
    let low = whole_first count whole (k ∷ ks) (e ∷ es) some few k number splits joins.0 joins.1 is_whole in
    let here = low.0 in
    absurd (missed e.seat 0 (k ∷ ks) all (omega arith) (omega (arith, here, long)))
