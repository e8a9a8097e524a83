-- Work that goes on by one link.
use Rattle.std.proofs.Common.{◌≡◌, ℕ, false, List, [], ◌∷◌, ◌++◌, sym, ap, ◌∙◌, subst, append_assoc, append-nil, arith, length-append}
use Rattle.std.proofs.lemmas.List.Concat.{flat_map-append}
use Rattle.std.proofs.lemmas.List.Elements.{All-push}
use Rattle.std.proofs.lemmas.List.Sums.{sum_by-append}
use Rattle.std.specs.Borrow.{GName}
use Rattle.outside.specs.Ends.{Ends}
use Rattle.dialers.specs.Dials.{Dials}
use Rattle.tellers.specs.Exchange.{Exchange}
use Rattle.door_workers.specs.Visits.{Visit, exchanges_on, WasServed}
use Rattle.door_workers.specs.Steps.{ServesOne}
use Rattle.door_workers.specs.Tallies.{nothing_counted, one_link_more}
use Rattle.door_workers.specs.Work.{Work, ServesDoor}
use Rattle.door_workers.specs.Workers.{WasAsked}
use Rattle.door_workers.specs.declared.tally.Tally.{Tally}
use Rattle.door_workers.proofs.VisitLaws.{nothing_passed, passed_more}

pub asked_nothing : {T : Type 0} (stands : T → T → List Exchange → Type 0) (teller : T) → WasAsked stands teller teller []
asked_nothing {T} stands teller first before stood = subst (λ (all : List Exchange). stands first teller all) (sym (append-nil before)) stood

pub asked_more : {T : Type 0} (stands : T → T → List Exchange → Type 0) (old between new : T) (these those : List Exchange)
    → WasAsked stands old between these → WasAsked stands between new those → WasAsked stands old new (these ++ those)
asked_more {T} stands old between new these those one two first before stood =
    subst (λ (all : List Exchange). stands first new all) (append_assoc before these those) (two first (before ++ these) (one first before stood))

pub no_work : {L : Type 0} (ends : L → Ends) (holds : L → List GName) (asked : List Exchange → Type 0) (dials : Dials L) (tally : Tally) → asked []
    → tally ≡ nothing_counted → Work ends holds asked dials tally dials
no_work ends holds asked dials tally nothing none = record {
  visits = [];
  served = λ k d below. absurd (omega arith);
  passed = nothing_passed dials;
  asked_all = nothing;
  counts = record { connections = ap (λ (t : Tally). t.connections) none; calls = ap (λ (t : Tally). t.calls) none };
}

-- one link more
pub work_more : {L : Type 0} (ends : L → Ends) (holds : L → List GName) (asked asked_next asked_now : List Exchange → Type 0) (before between after : Dials L)
    (tally : Tally) (calls : ℕ) (now : Tally) → ((these those : List Exchange) → asked these → asked_next those → asked_now (these ++ those))
    → Work ends holds asked before tally between → ServesOne ends holds asked_next between calls after
    → now ≡ one_link_more tally calls → Work ends holds asked_now before now after
work_more {L} ends holds asked asked_next asked_now before between after tally calls now joins work one now_is =
    let links_now = ap (λ (t : Tally). t.connections) now_is in
    let calls_now = ap (λ (t : Tally). t.calls) now_is in
    let visits = work.visits ++ one.visit ∷ [] in
    let exchanges = flat_map-append (λ (v : Visit L). v.exchanges) work.visits (one.visit ∷ []) ∙ ap (λ e. exchanges_on work.visits ++ e) (append-nil one.visit.exchanges) in
    record {
      visits = visits;
      served = All-push (WasServed ends holds) work.visits one.visit work.served one.served;
      passed = passed_more before between after work.visits (one.visit ∷ []) work.passed one.passed;
      asked_all = subst asked_now (sym exchanges) (joins (exchanges_on work.visits) one.visit.exchanges work.asked_all one.asked_these);
      counts = record {
        connections = omega (arith, links_now, work.counts.connections, length-append work.visits (one.visit ∷ []));
        calls = omega (arith, calls_now, work.counts.calls, one.calls_are, sum_by-append (λ (v : Visit L). v.ended.calls) work.visits (one.visit ∷ []));
      };
    }

pub same_failed : (tally now : Tally) (calls : ℕ) → now ≡ one_link_more tally calls → now.failed ≡ tally.failed
same_failed tally now calls now_is = ap (λ (t : Tally). t.failed) now_is

pub none_failed : (tally : Tally) → tally ≡ nothing_counted → tally.failed ≡ false
none_failed tally none = ap (λ (t : Tally). t.failed) none

-- what says as much of the exchanges
pub asked_alike : {L : Type 0} (ends : L → Ends) (holds : L → List GName) (asked asked_too : List Exchange → Type 0) (before : Dials L) (tally : Tally)
    (after : Dials L) → ((exchanges : List Exchange) → asked exchanges → asked_too exchanges) → ServesDoor ends holds asked before tally after
    → ServesDoor ends holds asked_too before tally after
asked_alike ends holds asked asked_too before tally after alike serves = record {
  work = record {
    visits = serves.work.visits;
    served = serves.work.served;
    passed = serves.work.passed;
    asked_all = alike _ serves.work.asked_all;
    counts = serves.work.counts;
  };
  end = serves.end;
}
