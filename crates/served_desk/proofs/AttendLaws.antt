-- What is so when the doors of workers at a desk were attended.
use Rattle.std.proofs.Common.{◌≡◌, ℕ, zero, suc, ◌+◌, ◌<◌, ◌≤◌, List, [], ◌∷◌, length, map, All, slice_index_or, Option, Some, None, refl, sym, ap, subst, ◌∙◌, arith}
use Rattle.std.specs.Prelude.{IfNone, IfSome}
use Rattle.std.specs.List.{AllByRecursion, AllZip}
use Rattle.std.specs.Borrow.{GName}
use Rattle.std.proofs.lemmas.List.{length-map}
use Rattle.atomic_table.specs.Seated.{TableId}
use Rattle.outside.specs.Ends.{Ends}
use Rattle.dialers.specs.Dials.{Dials}
use Rattle.service_desk.specs.ServiceCore.History.{Entry}
use Rattle.tellers.specs.Exchange.{Exchange, StandsForSome}
use Rattle.service_desk.specs.RecordDesk.Standing.{exchange_of}
use Rattle.turnstile.specs.declared.board.Known.{Known}
use Rattle.turnstile.specs.Seats.{IsWhole, Seated, first_known}
use Rattle.door_workers.specs.Workers.{IsWorked, worker_of}
use Rattle.door_workers.specs.declared.tally.Tally.{Tally}
use Rattle.door_workers.specs.declared.worker.Worked.{Worked}
use Rattle.door_workers.specs.declared.worker.Worker.{Worker}
use Rattle.service_desk.specs.Turns.{HasAsked}
use Rattle.service_desk.proofs.TurnLaws.{asked_nothing}
use Rattle.served_desk.specs.Posts.{EachFrom, ServesDoors, sum_of}
use Rattle.served_desk.specs.Seatings.{AreSeats, JoinsAll}
use Rattle.served_desk.proofs.PostLaws.{Sits, as_many, doors_served, either_way, first_whole, if_none, if_some, kept_after, of_workers, sits_all, unasked_whole}

all_at : {X : Type 0} (P : X → Type 0) (xs : List X) → AllByRecursion P xs → (k : ℕ) (d : X) → k < length xs → P (slice_index_or xs k d)
all_at P [] all k d low = absurd (omega (arith, low))
all_at P (x ∷ xs) all zero d low = all.0
all_at P (x ∷ xs) all (suc k) d low = all_at P xs all.1 k d (omega (arith, low))

if_nothing : {X : Type 0} (P : Type 0) (r : Option X) → P → IfNone r P
if_nothing P (Some x) so = tt
if_nothing P None so = so

-- A first seat that was asked nothing has no history.
pub none_asked : {A X : Type 0} (r : Option X) (now before : List A) (k first : Known Entry) → now ≡ before → k ≡ first → first ≡ first_known
    → IfNone r ((now ≡ before) × ((log : List Entry) → IsWhole (λ e. e.seat) k log → log ≡ []))
none_asked r now before k first same knows is = if_nothing _ r (same, first_whole k (knows ∙ is))

module _ {A T K L : Type 0} (tells : A → Dials L) (ends : L → Ends) (holds : L → List GName) (teller_holds : T → List GName) (desk : T → K)
    (table_of : K → TableId) (seat : T → Seated Entry) (stood : T → List Entry → Type 0) where
  abbrev pub Asks : T → T → List Exchange → Type 0
  Asks first now xs =
      (desk now ≡ desk first) × ((seat now).table ≡ table_of (desk now))
      × HasAsked (λ e. e.seat) exchange_of (stood first) (seat first).knows (seat now).knows xs

  abbrev knows : T → Known Entry
  knows t = (seat t).knows

  begins : (at : K) (t : T) → desk t ≡ at → (seat t).table ≡ table_of at → Asks t t []
  begins at t is own = (refl, own ∙ sym (ap table_of is), asked_nothing (λ e. e.seat) exchange_of (stood t) (knows t))

  stand : (count n : ℕ) (ws : List (Worker A T)) → EachFrom (λ m (w : Worker A T). Sits Asks knows count m w.teller) n ws
      → AllByRecursion (λ (w : Worker A T). StandsForSome Asks w.teller) ws
  stand count n [] each = tt
  stand count n (w ∷ ws) each = ((w.teller, [], each.0.stands_so), stand count (n + 1) ws each.1)

  tables : (at : K) (ws : List (Worker A T)) → AllByRecursion (λ (w : Worker A T). (desk w.teller ≡ at) × ((seat w.teller).table ≡ table_of at)) ws
      → AllByRecursion (λ (w : Worker A T). (seat w.teller).table ≡ table_of at) ws
  tables at [] all = tt
  tables at (w ∷ ws) all = (all.0.1, tables at ws all.1)

  module _ (at : K) (count : ℕ) (ws : List (Worker A T)) (desks : AllByRecursion (λ (w : Worker A T). desk w.teller ≡ at) ws)
      (seats : AreSeats (table_of at) count 0 (map (λ (w : Worker A T). seat w.teller) ws)) where
    abbrev Own : T → Type 0
    Own t = (desk t ≡ at) × ((seat t).table ≡ table_of at)

    sits : EachFrom (λ m (w : Worker A T). Sits Asks knows count m w.teller) 0 ws × AllByRecursion (λ (w : Worker A T). Own w.teller) ws
    sits = sits_all Asks seat (λ t. desk t ≡ at) (table_of at) count 0 ws (begins at) seats desks

    pub all_stand : All (λ (w : Worker A T). StandsForSome Asks w.teller) ws
    all_stand = all_at (λ (w : Worker A T). StandsForSome Asks w.teller) ws (stand count 0 ws sits.0)

    keeps : (t u : T) (xs : List Exchange) → Asks t u xs → Own t → Own u
    keeps t u xs asks own = let same = asks.0 ∙ own.0 in (same, asks.1 ∙ ap table_of same)

    abbrev WorkedSo : List (Worker A T) → Tally → Type 0
    WorkedSo back sum =
        (ds : List (Worked A T)) × AllZip (IsWorked tells ends holds Asks teller_holds) ws ds × (back ≡ map worker_of ds)
        × (sum ≡ sum_of (map (λ (w : Worked A T). w.tally) ds))

    module _ (back : List (Worker A T)) (r : Option Tally) (some : IfSome r (WorkedSo back)) (none : IfNone r (back ≡ ws)) where
      as_before : length back ≡ length ws
      as_before =
          either_way (WorkedSo back) (back ≡ ws) (length back ≡ length ws) r some none
          (λ sum s. ap length s.2 ∙ as_many (IsWorked tells ends holds Asks teller_holds) ws s.0 s.1) (λ same. ap length same)

      pub as_many_back : (doors : List A) → map (λ (w : Worker A T). w.door) ws ≡ doors → length back ≡ length doors
      as_many_back doors before_is = as_before ∙ sym (length-map ws (λ (w : Worker A T). w.door)) ∙ ap length before_is

      pub own_again : AllByRecursion (λ (w : Worker A T). (seat w.teller).table ≡ table_of at) back
      own_again =
          tables at back
          (either_way (WorkedSo back) (back ≡ ws) (AllByRecursion (λ (w : Worker A T). Own w.teller) back) r some none
          (λ sum s. subst (AllByRecursion (λ (w : Worker A T). Own w.teller)) (sym s.2)
          (kept_after tells ends holds Asks teller_holds knows stood (λ t u xs asks. asks.2) Own keeps count 0 ws s.0 sits.0 s.1 sits.1))
          (λ same. subst (AllByRecursion (λ (w : Worker A T). Own w.teller)) (sym same) sits.1))

      module _ (doors after : List A) (whole : Known Entry) (before_is : map (λ (w : Worker A T). w.door) ws ≡ doors) (some_doors : 0 < count)
          (few : count ≤ 64) (long : length doors ≡ count) (after_is : after ≡ map (λ (w : Worker A T). w.door) back)
          (joins : JoinsAll (map (λ (w : Worker A T). knows w.teller) back) whole) where
        pub served_so : IfSome r (λ sum. (log : List Entry) → IsWhole (λ e. e.seat) whole log → ServesDoors tells ends holds log doors sum after)
        served_so =
            if_some (WorkedSo back) _ r some
            (λ sum s log is_whole. doors_served tells ends holds Asks teller_holds knows stood (λ t u xs asks. asks.2) count ws s.0 whole log doors after sum
            some_doors few long before_is (after_is ∙ ap (map (λ (w : Worker A T). w.door)) s.2 ∙ of_workers (λ (w : Worker A T). w.door) s.0) s.3 sits.0
            s.1 (subst (λ (ks : List (Known Entry)). JoinsAll ks whole)
            (ap (map (λ (w : Worker A T). knows w.teller)) s.2 ∙ of_workers (λ (w : Worker A T). knows w.teller) s.0) joins) is_whole)

        pub unasked_so : IfNone r ((after ≡ doors) × ((log : List Entry) → IsWhole (λ e. e.seat) whole log → log ≡ []))
        unasked_so =
            if_none (back ≡ ws) _ r none
            (λ same. (
              after_is ∙ ap (map (λ (w : Worker A T). w.door)) same ∙ before_is,
              unasked_whole Asks knows count ws whole some_doors few (sym (length-map ws (λ (w : Worker A T). w.door)) ∙ ap length before_is ∙ long) sits.0
                  (subst (λ (bs : List (Worker A T)). JoinsAll (map (λ (w : Worker A T). knows w.teller) bs) whole) same joins),
            ))
