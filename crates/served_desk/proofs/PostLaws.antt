-- What workers did at their doors, in the whole history.
use Rattle.std.proofs.Common.{◌≡◌, ℕ, suc, ◌+◌, ◌-◌, ◌<◌, ◌≤◌, List, [], ◌∷◌, length, map, Option, Some, None, refl, sym, ap, subst, ◌∙◌, arith}
use Rattle.std.specs.Prelude.{IfNone, IfSome}
use Rattle.std.specs.List.{AllByRecursion, AllZip}
use Rattle.std.specs.Borrow.{GName}
use Rattle.std.proofs.lemmas.List.{length-map}
use Rattle.atomic_table.specs.Seated.{TableId}
use Rattle.outside.specs.Ends.{Ends}
use Rattle.dialers.specs.Dials.{Dials}
use Rattle.service_desk.specs.ServiceCore.History.{Entry}
use Rattle.tellers.specs.Exchange.{Exchange}
use Rattle.service_desk.specs.RecordDesk.Standing.{exchange_of}
use Rattle.turnstile.specs.declared.board.Known.{Known}
use Rattle.turnstile.specs.Seats.{IsWhole, Seated, first_known}
use Rattle.door_workers.specs.Visits.{exchanges_on}
use Rattle.door_workers.specs.Work.{ServesDoor}
use Rattle.door_workers.specs.Workers.{IsWorked, worker_of}
use Rattle.door_workers.specs.declared.tally.Tally.{Tally}
use Rattle.door_workers.specs.declared.worker.Worked.{Worked}
use Rattle.door_workers.specs.declared.worker.Worker.{Worker}
use Rattle.service_desk.specs.Turns.{HasAsked, HasCalls, made_by}
use Rattle.service_desk.proofs.TurnLaws.{whole_has_calls}
use Rattle.served_desk.specs.Posts.{AreCallsOf, EachFrom, Post, ServesDoors, sum_of}
use Rattle.served_desk.specs.Seatings.{AreSeats, IsJoined, JoinsAll, seat_at}
use Rattle.served_desk.proofs.SeatLaws.{each_other, joined_itself, nothing_whole, whole_first}

-- by what a call answered
pub either_way : {X : Type 0} (P : X → Type 0) (N G : Type 0) (r : Option X) → IfSome r P → IfNone r N → ((x : X) → P x → G) → (N → G) → G
either_way P N G (Some x) some none one other = one x some
either_way P N G None some none one other = other none

pub if_some : {X : Type 0} (P Q : X → Type 0) (r : Option X) → IfSome r P → ((x : X) → P x → Q x) → IfSome r Q
if_some P Q (Some x) some gives = gives x some
if_some P Q None some gives = tt

pub if_none : {X : Type 0} (P Q : Type 0) (r : Option X) → IfNone r P → (P → Q) → IfNone r Q
if_none P Q (Some x) none gives = tt
if_none P Q None none gives = gives none

-- workers that were worked with, without what they counted
pub of_workers : {A T Y : Type 0} (of : Worker A T → Y) (ds : List (Worked A T)) → map of (map worker_of ds) ≡ map (λ d. of (worker_of d)) ds
of_workers of [] = refl
of_workers of (d ∷ ds) = ap (λ l. of (worker_of d) ∷ l) (of_workers of ds)

pub as_many : {A T : Type 0} (R : Worker A T → Worked A T → Type 0) (ws : List (Worker A T)) (ds : List (Worked A T)) → AllZip R ws ds
    → length (map worker_of ds) ≡ length ws
as_many R [] [] zip = refl
as_many R [] (d ∷ ds) zip = absurd zip
as_many R (w ∷ ws) [] zip = absurd zip
as_many R (w ∷ ws) (d ∷ ds) zip = ap suc (as_many R ws ds zip.1)

all_other : {X : Type 0} (P Q : X → Type 0) (xs : List X) → ((x : X) → P x → Q x) → AllByRecursion P xs → AllByRecursion Q xs
all_other P Q [] gives all = tt
all_other P Q (x ∷ xs) gives all = (gives x all.0, all_other P Q xs gives all.1)

-- what a seat asked are the calls of its number in the whole history
calls_of : (count n : ℕ) (stood : List Entry → Type 0) (first now whole : Known Entry) (xs : List Exchange) (log : List Entry) → first ≡ seat_at count n
    → HasAsked (λ e. e.seat) exchange_of stood first now xs → IsJoined whole now → IsWhole (λ e. e.seat) whole log → AreCallsOf log n xs
calls_of count n stood first now whole xs log is asked joins is_whole =
    let number : first.number ≡ n = ap (λ (k : Known Entry). k.number) is in
    let unseen : first.seen ≡ [] = ap (λ (k : Known Entry). k.seen) is in
    record {
      calls = subst (λ (m : ℕ). HasCalls (λ (e : Entry). e.seat) exchange_of m log xs) number
          (whole_has_calls (λ e. e.seat) exchange_of stood first now xs log asked (ap (made_by (λ (e : Entry). e.seat) first.number) unseen)
          (joins.begins log is_whole.0));
      spent = all_other _ _ xs
          (λ x was spent.
          let drawn = was spent in
          let low = joins.drawn in
          let long = is_whole.1 in
          let short = is_whole.2 in
          omega (arith, drawn, low, long, short)) asked.spent;
    }

-- the posts of workers that did their work
posts_of : {A T : Type 0} → List (Worker A T) → List (Worked A T) → List (Post A)
posts_of [] ds = []
posts_of (w ∷ ws) [] = []
posts_of (w ∷ ws) (d ∷ ds) = record { before = w.door; tally = d.tally; after = d.door } ∷ posts_of ws ds

posts_before : {A T : Type 0} (R : Worker A T → Worked A T → Type 0) (ws : List (Worker A T)) (ds : List (Worked A T)) → AllZip R ws ds
    → map (λ w. w.door) ws ≡ map (λ p. p.before) (posts_of ws ds)
unfolding posts_of
posts_before R [] [] zip = refl
posts_before R [] (d ∷ ds) zip = absurd zip
posts_before R (w ∷ ws) [] zip = absurd zip
posts_before R (w ∷ ws) (d ∷ ds) zip = ap (λ l. w.door ∷ l) (posts_before R ws ds zip.1)

posts_after : {A T : Type 0} (R : Worker A T → Worked A T → Type 0) (ws : List (Worker A T)) (ds : List (Worked A T)) → AllZip R ws ds
    → map (λ d. d.door) ds ≡ map (λ p. p.after) (posts_of ws ds)
unfolding posts_of
posts_after R [] [] zip = refl
posts_after R [] (d ∷ ds) zip = absurd zip
posts_after R (w ∷ ws) [] zip = absurd zip
posts_after R (w ∷ ws) (d ∷ ds) zip = ap (λ l. d.door ∷ l) (posts_after R ws ds zip.1)

posts_tally : {A T : Type 0} (R : Worker A T → Worked A T → Type 0) (ws : List (Worker A T)) (ds : List (Worked A T)) → AllZip R ws ds
    → map (λ d. d.tally) ds ≡ map (λ p. p.tally) (posts_of ws ds)
unfolding posts_of
posts_tally R [] [] zip = refl
posts_tally R [] (d ∷ ds) zip = absurd zip
posts_tally R (w ∷ ws) [] zip = absurd zip
posts_tally R (w ∷ ws) (d ∷ ds) zip = ap (λ l. d.tally ∷ l) (posts_tally R ws ds zip.1)

-- a teller with the seat of a number, which has asked nothing
pub record Sits {T : Type 0} (stands : T → T → List Exchange → Type 0) (knows : T → Known Entry) (count n : ℕ) (t : T) : Type 0 where
  pub knows_so : knows t ≡ seat_at count n
  pub stands_so : stands t t []

-- workers with the seats that were split off for them
pub sits_all : {A T : Type 0} (stands : T → T → List Exchange → Type 0) (seat : T → Seated Entry) (at : T → Type 0) (table : TableId) (count n : ℕ)
    (ws : List (Worker A T)) → ((t : T) → at t → (seat t).table ≡ table → stands t t [])
    → AreSeats table count n (map (λ (w : Worker A T). seat w.teller) ws) → AllByRecursion (λ (w : Worker A T). at w.teller) ws
    → EachFrom (λ m (w : Worker A T). Sits stands (λ (t : T). (seat t).knows) count m w.teller) n ws
    × AllByRecursion (λ (w : Worker A T). at w.teller × ((seat w.teller).table ≡ table)) ws
sits_all stands seat at table count n [] begins seats all = (tt, tt)
sits_all stands seat at table count n (w ∷ ws) begins seats all =
    let rest = sits_all stands seat at table count (n + 1) ws begins seats.1 all.1 in
    let own = seats.0.0 in (
      (record { knows_so = seats.0.1; stands_so = begins w.teller all.0 own }, rest.0),
      ((all.0, own), rest.1),
    )

-- Where nothing was asked of workers' seats, the whole history has no entry.
pub unasked_whole : {A T : Type 0} (stands : T → T → List Exchange → Type 0) (knows : T → Known Entry) (count : ℕ) (ws : List (Worker A T))
    (whole : Known Entry) → 0 < count → count ≤ 64 → length ws ≡ count → EachFrom (λ m (w : Worker A T). Sits stands knows count m w.teller) 0 ws
    → JoinsAll (map (λ (w : Worker A T). knows w.teller) ws) whole → (log : List Entry) → IsWhole (λ e. e.seat) whole log → log ≡ []
unasked_whole {A} {T} stands knows count ws whole some few long each joins log is_whole =
    nothing_whole count whole (map (λ (w : Worker A T). knows w.teller) ws) log some few (length-map ws (λ (w : Worker A T). knows w.teller) ∙ long)
    (each_other (λ m (w : Worker A T). Sits stands knows count m w.teller) (λ m k. k ≡ seat_at count m) (λ (w : Worker A T). knows w.teller) 0 ws
    (λ m w sits. sits.knows_so) each) joins is_whole

-- A first seat that was asked nothing and from which none was split off.
pub first_whole : (k : Known Entry) → k ≡ first_known → (log : List Entry) → IsWhole (λ e. e.seat) k log → log ≡ []
first_whole k is log is_whole =
    nothing_whole 1 k (k ∷ []) log (omega arith) (omega arith) refl (is, tt) (refl, refl, (joined_itself k, tt)) is_whole

module _ {A T L : Type 0} (tells : A → Dials L) (ends : L → Ends) (holds : L → List GName) (stands : T → T → List Exchange → Type 0)
    (teller_holds : T → List GName) (knows : T → Known Entry) (stood : T → List Entry → Type 0)
    (asks : (t u : T) (xs : List Exchange) → stands t u xs → HasAsked (λ e. e.seat) exchange_of (stood t) (knows t) (knows u) xs) where
  post_served : (count n : ℕ) (w : Worker A T) (d : Worked A T) (whole : Known Entry) (log : List Entry) → Sits stands knows count n w.teller
      → IsWorked tells ends holds stands teller_holds w d → IsJoined whole (knows d.teller) → IsWhole (λ e. e.seat) whole log
      → ServesDoor ends holds (AreCallsOf log n) (tells w.door) d.tally (tells d.door)
  post_served count n w d whole log sits worked joins is_whole =
      let work = worked.serves.work in
      record {
        work = record {
          visits = work.visits;
          served = work.served;
          passed = work.passed;
          asked_all = calls_of count n (stood w.teller) (knows w.teller) (knows d.teller) whole (exchanges_on work.visits) log sits.knows_so
              (asks w.teller d.teller (exchanges_on work.visits) (work.asked_all w.teller [] sits.stands_so)) joins is_whole;
          counts = work.counts;
        };
        end = worked.serves.end;
      }

  posts_served : (count n : ℕ) (ws : List (Worker A T)) (ds : List (Worked A T)) (whole : Known Entry) (log : List Entry)
      → EachFrom (λ m (w : Worker A T). Sits stands knows count m w.teller) n ws → AllZip (IsWorked tells ends holds stands teller_holds) ws ds
      → AllByRecursion (IsJoined whole) (map (λ (d : Worked A T). knows d.teller) ds) → IsWhole (λ e. e.seat) whole log
      → EachFrom (λ m (p : Post A). ServesDoor ends holds (AreCallsOf log m) (tells p.before) p.tally (tells p.after)) n (posts_of ws ds)
  unfolding posts_of
  posts_served count n [] [] whole log each zip joins is_whole = tt
  posts_served count n [] (d ∷ ds) whole log each zip joins is_whole = absurd zip
  posts_served count n (w ∷ ws) [] whole log each zip joins is_whole = absurd zip
  posts_served count n (w ∷ ws) (d ∷ ds) whole log each zip joins is_whole = (
    post_served count n w d whole log each.0 zip.0 joins.0 is_whole,
    posts_served count (n + 1) ws ds whole log each.1 zip.1 joins.1 is_whole,
  )

  numbers_of : (count : ℕ) (ws : List (Worker A T)) (ds : List (Worked A T)) (whole : Known Entry) (log : List Entry) → 0 < count → count ≤ 64
      → EachFrom (λ m (w : Worker A T). Sits stands knows count m w.teller) 0 ws → AllZip (IsWorked tells ends holds stands teller_holds) ws ds
      → JoinsAll (map (λ (d : Worked A T). knows d.teller) ds) whole → IsWhole (λ e. e.seat) whole log
      → AllByRecursion (λ (e : Entry). e.seat < count) log × AllByRecursion (IsJoined whole) (map (λ (d : Worked A T). knows d.teller) ds)
  numbers_of count [] [] whole log some few each zip joins is_whole = absurd joins
  numbers_of count [] (d ∷ ds) whole log some few each zip joins is_whole = absurd zip
  numbers_of count (w ∷ ws) [] whole log some few each zip joins is_whole = absurd zip
  numbers_of count (w ∷ ws) (d ∷ ds) whole log some few each zip joins is_whole =
      let asked = asks w.teller d.teller (exchanges_on zip.0.serves.work.visits) (zip.0.serves.work.asked_all w.teller [] each.0.stands_so) in
      let sits = each.0.knows_so in
      let number : (knows d.teller).number ≡ 0 = ap (λ (k : Known Entry). k.number) asked.same.0 ∙ ap (λ (k : Known Entry). k.number) sits in
      let splits : (knows d.teller).splits ≡ 4294967297 - count = ap (λ (k : Known Entry). k.splits) asked.same.0 ∙ ap (λ (k : Known Entry). k.splits) sits in
      (whole_first count whole [] log some few (knows d.teller) number splits joins.0 joins.1 is_whole, joins.2)

  -- what is so of a teller and stays when it is asked is so of those that were worked with
  pub kept_after : (owns : T → Type 0) → ((t u : T) (xs : List Exchange) → stands t u xs → owns t → owns u) → (count n : ℕ) (ws : List (Worker A T))
      (ds : List (Worked A T)) → EachFrom (λ m (w : Worker A T). Sits stands knows count m w.teller) n ws
      → AllZip (IsWorked tells ends holds stands teller_holds) ws ds → AllByRecursion (λ (w : Worker A T). owns w.teller) ws
      → AllByRecursion (λ (w : Worker A T). owns w.teller) (map worker_of ds)
  kept_after owns keeps count n [] [] each zip own = tt
  kept_after owns keeps count n [] (d ∷ ds) each zip own = absurd zip
  kept_after owns keeps count n (w ∷ ws) [] each zip own = absurd zip
  kept_after owns keeps count n (w ∷ ws) (d ∷ ds) each zip own = (
    keeps w.teller d.teller (exchanges_on zip.0.serves.work.visits) (zip.0.serves.work.asked_all w.teller [] each.0.stands_so) own.0,
    kept_after owns keeps count (n + 1) ws ds each.1 zip.1 own.1,
  )

  -- The doors of workers were served, and their calls stand in the whole history.
  pub doors_served : (count : ℕ) (ws : List (Worker A T)) (ds : List (Worked A T)) (whole : Known Entry) (log : List Entry) (before after : List A)
      (sum : Tally) → 0 < count → count ≤ 64 → length before ≡ count → map (λ (w : Worker A T). w.door) ws ≡ before
      → after ≡ map (λ (d : Worked A T). d.door) ds → sum ≡ sum_of (map (λ (d : Worked A T). d.tally) ds)
      → EachFrom (λ m (w : Worker A T). Sits stands knows count m w.teller) 0 ws → AllZip (IsWorked tells ends holds stands teller_holds) ws ds
      → JoinsAll (map (λ (d : Worked A T). knows d.teller) ds) whole → IsWhole (λ e. e.seat) whole log
      → ServesDoors tells ends holds log before sum after
  doors_served count ws ds whole log before after sum some few long before_is after_is sum_is each zip joins is_whole =
      let both = numbers_of count ws ds whole log some few each zip joins is_whole in
      let R = IsWorked tells ends holds stands teller_holds in
      record {
        posts = posts_of ws ds;
        before_are = sym before_is ∙ posts_before R ws ds zip;
        after_are = after_is ∙ posts_after R ws ds zip;
        served = posts_served count 0 ws ds whole log each zip both.1 is_whole;
        numbers = subst (λ (n : ℕ). AllByRecursion (λ (e : Entry). e.seat < n) log) (sym long) both.0;
        sum_is = sum_is ∙ ap sum_of (posts_tally R ws ds zip);
      }
