-- What the exit status of a run says.
use Rattle.std.proofs.Common.{◌≡◌, ◌≢◌, ℕ, ◌+◌, ◌⊎◌, inl, inr, Bool, true, false, List, [], ◌∷◌, map, ℤ, Option, Result, Ok, Err, refl, sym, ap, ◌∙◌, subst, arith}
use Rattle.std.specs.Borrow.{GName}
use Rattle.std.specs.List.{AllZip, list_any}
use Rattle.dialers.specs.Dials.{Dials, NoneToCome}
use Rattle.door_workers.specs.Work.{ServesDoor, EndsWork}
use Rattle.door_workers.specs.declared.tally.Tally.{Tally}
use Rattle.fault_counts.specs.Causes.{Rose}
use Rattle.outside.specs.Ends.{Ends, Outgoing}
use Rattle.outside.specs.Whole.{WritesWhole}
use Rattle.outside.specs.declared.whole.WriteEnd.{WriteEnd}
use Rattle.outside.specs.declared.whole.WriteEnd.TheVariants as write_ends
use Rattle.policy_tables.specs.declared.tables.PolicyTables.{PolicyTables}
use Rattle.served_desk.specs.Posts.{AreCallsOf, EachFrom, Post, ServesDoors}
use Rattle.served_desk.specs.ServiceCore.History.{Entry}
use Rattle.service_effects.specs.Service.{ServiceWorld}
use Rattle.serve_runs.specs.Endings.{serve_status, served_text, write_status}
use Rattle.serve_runs.specs.Runs.{IsServing, Premises, ServesAll, ServesNone}
use Rattle.serve_runs.specs.Statuses.{AreAtEnd, DoorFailed, NoneFailed, ServeSays}
use Rattle.serve_runs.specs.declared.ending.ServeEnding.{ServeEnding}
use Rattle.serve_runs.specs.declared.ending.ServeEnding.TheVariants as endings

-- ---- the doors

-- one of them failed, or each came to its end
data Doors {A L : Type 0} (tells : A → Dials L) (failed : Bool) (before after : List A) : Type 0 where
  one_failed : failed ≡ true → DoorFailed tells before after → Doors tells failed before after
  all_ended : failed ≡ false → NoneFailed tells before after → AreAtEnd tells before after → Doors tells failed before after

doors_at : {A L : Type 0} (tells : A → Dials L) (ends : L → Ends) (holds : L → List GName) (log : List Entry) (number : ℕ) (posts : List (Post A))
    → EachFrom (λ n p. ServesDoor ends holds (AreCallsOf log n) (tells p.before) p.tally (tells p.after)) number posts
    → Doors tells (list_any (λ t. t.failed) (map (λ p. p.tally) posts)) (map (λ p. p.before) posts) (map (λ p. p.after) posts)
doors_at tells ends holds log number [] served = all_ended refl tt tt
doors_at {A} {L} tells ends holds log number (p ∷ ps) served = by_first p.tally.failed refl served.0.end (doors_at tells ends holds log (number + 1) ps served.1)
  where
    by_first : (failed : Bool) → p.tally.failed ≡ failed → EndsWork p.tally.failed (tells p.before) (tells p.after)
        → Doors tells (list_any (λ t. t.failed) (map (λ q. q.tally) ps)) (map (λ q. q.before) ps) (map (λ q. q.after) ps)
        → Doors tells (list_any (λ t. t.failed) (map (λ q. q.tally) (p ∷ ps))) (map (λ q. q.before) (p ∷ ps)) (map (λ q. q.after) (p ∷ ps))
    by_first true is end later =
        let rose = subst (λ b. EndsWork b (tells p.before) (tells p.after)) is end in
        one_failed (rw is refl) (inl rose.1)
    by_first false is end (one_failed some failed) = one_failed (rw is some) (inr failed)
    by_first false is end (all_ended none kept at_end) =
        let ended = subst (λ b. EndsWork b (tells p.before) (tells p.after)) is end in
        all_ended (rw is none) (ended.0, kept) (ended.1, at_end)

doors_of : {A L : Type 0} (tells : A → Dials L) (ends : L → Ends) (holds : L → List GName) (log : List Entry) (before : List A) (sum : Tally) (after : List A)
    → ServesDoors tells ends holds log before sum after → Doors tells sum.failed before after
doors_of {A} {L} tells ends holds log before sum after s =
    subst (λ (b : Bool). Doors tells b before after) (sym (ap (λ (t : Tally). t.failed) s.sum_is))
    (subst (λ (list : List A). Doors tells (list_any (λ t. t.failed) (map (λ p. p.tally) s.posts)) list after) (sym s.before_are)
    (subst (λ (list : List A). Doors tells (list_any (λ t. t.failed) (map (λ p. p.tally) s.posts)) (map (λ p. p.before) s.posts) list) (sym s.after_are)
    (doors_at tells ends holds log 0 s.posts s.served)))

pub same_doors : {A L : Type 0} (tells : A → Dials L) (doors : List A) → NoneFailed tells doors doors
same_doors tells [] = tt
same_doors tells (a ∷ doors) = (refl, same_doors tells doors)

-- ---- the statuses

says_failed : {A L : Type 0} (tells : A → Dials L) (ends : L → Ends) (holds : L → List GName) (before after : Premises A)
    → DoorFailed tells before.doors after.doors ⊎ Rose before.output.faults after.output.faults → ServeSays tells ends holds 4 before after
says_failed tells ends holds before after why = record {
  known = inr (inl refl);
  done = λ is. absurd (omega (arith, is));
  failed = λ is. why;
  unserved = λ is. absurd (omega (arith, is));
  stalled = λ is. absurd (omega (arith, is));
  no_door_fault = λ n4. absurd (n4 refl);
  no_write_fault = λ n4. absurd (n4 refl);
  no_stall = λ n4 n9. absurd (n4 refl);
}

says_served : {A L : Type 0} (tells : A → Dials L) (ends : L → Ends) (holds : L → List GName) (written : Result (Unit {0}) WriteEnd)
    (before after : Premises A) (log : List Entry) (sum : Tally) → ServesDoors tells ends holds log before.doors sum after.doors
    → NoneFailed tells before.doors after.doors → AreAtEnd tells before.doors after.doors
    → WritesWhole before.output (served_text sum) written after.output → ServeSays tells ends holds (write_status written) before after
says_served tells ends holds (Ok done) before after log sum serves kept at_end told = record {
  known = inl refl;
  done = λ is. record { log = log; sum = sum; serves = serves; at_end = at_end; told = told.written };
  failed = λ is. absurd (omega (arith, is));
  unserved = λ is. absurd (omega (arith, is));
  stalled = λ is. absurd (omega (arith, is));
  no_door_fault = λ n4. kept;
  no_write_fault = λ n4. told.faults;
  no_stall = λ n4 n9. told.stalls;
}
says_served tells ends holds (Err write_ends.WriteFault) before after log sum serves kept at_end told =
    says_failed tells ends holds before after (inr told.faults.1)
says_served tells ends holds (Err write_ends.SinkTakesNothing) before after log sum serves kept at_end told = record {
  known = inr (inr (inr refl));
  done = λ is. absurd (omega (arith, is));
  failed = λ is. absurd (omega (arith, is));
  unserved = λ is. absurd (omega (arith, is));
  stalled = λ is. told.stalls.1;
  no_door_fault = λ n4. kept;
  no_write_fault = λ n4. told.faults;
  no_stall = λ n4 n9. absurd (n9 refl);
}

pub says_unserved : {A L : Type 0} (tells : A → Dials L) (ends : L → Ends) (holds : L → List GName) (before after : Premises A)
    → after.doors ≡ before.doors → after.output ≡ before.output → ServeSays tells ends holds 7 before after
says_unserved {A} {L} tells ends holds before after doors output = record {
  known = inr (inr (inl refl));
  done = λ is. absurd (omega (arith, is));
  failed = λ is. absurd (omega (arith, is));
  unserved = λ is. record { doors = doors; output = output };
  stalled = λ is. absurd (omega (arith, is));
  no_door_fault = λ n4. subst (λ (list : List A). NoneFailed tells before.doors list) (sym doors) (same_doors tells before.doors);
  no_write_fault = λ n4. ap (λ (o : Outgoing). o.faults) output;
  no_stall = λ n4 n9. ap (λ (o : Outgoing). o.stalls) output;
}

says_all : {A L : Type 0} (tells : A → Dials L) (ends : L → Ends) (holds : L → List GName) (failed : Bool) (written : Result (Unit {0}) WriteEnd)
    (before after : Premises A) (log : List Entry) (sum : Tally) → ServesDoors tells ends holds log before.doors sum after.doors
    → failed ≡ sum.failed → WritesWhole before.output (served_text sum) written after.output
    → ServeSays tells ends holds (serve_status (endings.Served failed written)) before after
says_all tells ends holds failed written before after log sum serves is told =
    by_failed failed is (doors_of tells ends holds log before.doors sum after.doors serves)
  where
    by_failed : (b : Bool) → b ≡ sum.failed → Doors tells sum.failed before.doors after.doors
        → ServeSays tells ends holds (serve_status (endings.Served b written)) before after
    by_failed true is (one_failed some why) = says_failed tells ends holds before after (inl why)
    by_failed false is (one_failed some why) = absurd (let e = is ∙ some in cc)
    by_failed true is (all_ended none kept at_end) = absurd (let e = is ∙ none in cc)
    by_failed false is (all_ended none kept at_end) = says_served tells ends holds written before after log sum serves kept at_end told

pub serve_says : {A L : Type 0} (tells : A → Dials L) (ends : L → Ends) (holds : L → List GName) (ending : ServeEnding) (tables : PolicyTables)
    (opened : ServiceWorld) (tells_before : List ℤ → Type 0) (before : Premises A) (tells_after : List ℤ → Type 0) (after : Premises A)
    → IsServing tells ends holds ending tables opened tells_before before tells_after after
    → ServeSays tells ends holds (serve_status ending) before after
serve_says tells ends holds endings.Unserved tables opened tb before ta after s = says_unserved tells ends holds before after s.doors s.output
serve_says tells ends holds (endings.Served failed written) tables opened tb before ta after s =
    says_all tells ends holds failed written before after s.log s.sum s.serves s.failed_is s.told
