-- The changes, and then the pages.
use Rattle.std.proofs.Common.{◌≡◌, ℕ, ◌+◌, ◌-◌, List, [], length, map, inl, inr, None, Ok, Err, refl, sym, ap, ◌∙◌, subst, arith, append-nil}
use Rattle.std.specs.List.{flat_map}
use Rattle.tellers.specs.Exchange.{Exchange}
use Rattle.workload_plans.specs.Plans.{changes_asked}
use Rattle.workload_turns.specs.Courses.{Advances, Asks, ReadsPages, turn_exchange}
use Rattle.workload_turns.specs.Runs.{LoadRun}
use Rattle.workload_turns.specs.Tallies.{tally_of}
use Rattle.workload_turns.specs.declared.stops.Stop.{Stop}
use Rattle.workload_turns.specs.declared.tally.Tally.{Tally}
use Rattle.workload_turns.proofs.CourseLaws.{advances_both}
use Rattle.workload_turns.proofs.TallyLaws.{counts_both}

-- it stopped in the changes
pub stopped_run : {T : Type 0} (stands : T → T → List Exchange → Type 0) (a b : T) (ta tb : Tally) (secret : List ℕ) (number count : ℕ) (stop : Stop)
    → Asks stands a ta (changes_asked secret number count) (Err stop) b tb
    → LoadRun (λ es. Advances stands a es b) secret number count (Err stop)
stopped_run stands a b ta tb secret number count stop one = record {
  changes = one.exchanges;
  turns = [];
  told = subst (λ (es : List Exchange). Advances stands a es b) (sym (append-nil one.exchanges)) one.advances;
  runs = inl (one.are, refl);
}

-- it stopped in the pages
pub stopped_pages : {T : Type 0} (stands : T → T → List Exchange → Type 0) (a b c : T) (ta tb tc : Tally) (secret : List ℕ) (number count : ℕ) (stop : Stop)
    → Asks stands a ta (changes_asked secret number count) (Ok tt) b tb → ReadsPages stands (count - 1) b tb None (Err stop) c tc
    → LoadRun (λ es. Advances stands a es c) secret number count (Err stop)
stopped_pages stands a b c ta tb tc secret number count stop one two = record {
  changes = one.exchanges;
  turns = two.turns;
  told = advances_both stands a b c one.exchanges (map (turn_exchange (count - 1)) two.turns) one.advances two.advances;
  runs = inr (one.are, two.are);
}

-- it came to its end
pub whole_run : {T : Type 0} (stands : T → T → List Exchange → Type 0) (a b c : T) (ta tb tc : Tally) (secret : List ℕ) (number count : ℕ)
    → ta ≡ tally_of 0 [] → Asks stands a ta (changes_asked secret number count) (Ok tt) b tb → ReadsPages stands (count - 1) b tb None (Ok tt) c tc
    → LoadRun (λ es. Advances stands a es c) secret number count (Ok tc)
whole_run stands a b c ta tb tc secret number count nothing one two = record {
  changes = one.exchanges;
  turns = two.turns;
  told = advances_both stands a b c one.exchanges (map (turn_exchange (count - 1)) two.turns) one.advances two.advances;
  runs = record {
    answered = one.are;
    turned = two.are;
    tally_is = counts_both ta tb tc (length one.exchanges) (length two.turns) [] (flat_map (λ t. t.page.verdicts) two.turns) one.counts two.counts 0 [] nothing
        ∙ ap (λ n. tally_of n (flat_map (λ t. t.page.verdicts) two.turns)) (sum (length one.exchanges + length two.turns));
  };
}
  where
    sum : (n : ℕ) → 0 + n ≡ n
    sum n = omega arith
