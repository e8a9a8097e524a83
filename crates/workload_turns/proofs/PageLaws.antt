-- Pages that are turned one after the other.
use Rattle.std.proofs.Common.{◌≡◌, ℕ, suc, ◌+◌, List, [], ◌∷◌, ◌++◌, length, map, inl, inr, Option, Some, None, Result, Ok, Err, refl, sym, ap, arith, append-nil}
use Rattle.std.specs.List.{flat_map}
use Rattle.call_forms.specs.declared.forms.Answer.{Answer}
use Rattle.call_forms.specs.declared.forms.Standin.{Standin}
use Rattle.call_forms.specs.declared.forms.Told.TheVariants.{Made, Standin as Instead}
use Rattle.page_tokens.specs.declared.kinds.VerdictCursor.{VerdictCursor}
use Rattle.tellers.specs.Exchange.{Exchange}
use Rattle.workload_plans.specs.Plans.{page_asked}
use Rattle.workload_turns.specs.Courses.{Advances, IsTurned, ReadsPages, Turn, turn_exchange}
use Rattle.workload_turns.specs.Pages.{no_page}
use Rattle.workload_turns.specs.Stops.{stop_of}
use Rattle.workload_turns.specs.Tallies.{Counts}
use Rattle.workload_turns.specs.declared.stops.Stop.{Stop}
use Rattle.workload_turns.specs.declared.stops.Stop.TheVariants.{Memory}
use Rattle.workload_turns.specs.declared.tally.Tally.{Tally}
use Rattle.workload_turns.proofs.CourseLaws.{advances_both, advances_none}
use Rattle.workload_turns.proofs.TallyLaws.{counts_as, counts_both, counts_none}

-- nothing is asked for want of memory
pub reads_none : {T : Type 0} (stands : T → T → List Exchange → Type 0) (i : ℕ) (a : T) (ta : Tally) (behind : Option VerdictCursor)
    → ReadsPages stands i a ta behind (Err Memory) a ta
reads_none stands i a ta behind = record { turns = []; advances = advances_none stands a; are = refl; counts = counts_none ta }

-- a stand-in is told in place of a page
pub reads_standin : {T : Type 0} (stands : T → T → List Exchange → Type 0) (i : ℕ) (a b : T) (ta tb : Tally) (behind : Option VerdictCursor)
    (standin : Standin) (stop : Stop) → stop ≡ stop_of standin
    → Advances stands a (record { asked = page_asked i behind; told = Instead standin } ∷ []) b → Counts ta 1 [] tb
    → ReadsPages stands i a ta behind (Err stop) b tb
reads_standin stands i a b ta tb behind standin stop is advances counts = record {
  turns = record { behind = behind; told = Instead standin; page = no_page } ∷ [];
  advances = advances;
  are = (refl, inr (standin, refl, refl, (refl, ap Err is)));
  counts = counts;
}

-- there is no memory to read a page
pub reads_unread : {T : Type 0} (stands : T → T → List Exchange → Type 0) (i : ℕ) (a b : T) (ta tb : Tally) (behind : Option VerdictCursor) (answer : Answer)
    → Advances stands a (record { asked = page_asked i behind; told = Made answer } ∷ []) b → Counts ta 1 [] tb
    → ReadsPages stands i a ta behind (Err Memory) b tb
reads_unread stands i a b ta tb behind answer advances counts = record {
  turns = record { behind = behind; told = Made answer; page = no_page } ∷ [];
  advances = advances;
  are = (refl, inl (answer, refl, inr (refl, (refl, refl))));
  counts = counts;
}

one_and : (n : ℕ) → 1 + n ≡ suc n
one_and n = omega arith

pub reads_then : {T : Type 0} (stands : T → T → List Exchange → Type 0) (i : ℕ) (a b c : T) (ta tb tc : Tally) (behind : Option VerdictCursor)
    (next : VerdictCursor) (result : Result (Unit {0}) Stop) → IsTurned stands i a ta behind (Some next) b tb → ReadsPages stands i b tb (Some next) result c tc
    → ReadsPages stands i a ta behind result c tc
reads_then stands i a b c ta tb tc behind next result one later =
    let t : Turn = record { behind = behind; told = Made one.answer; page = one.page } in
    record {
      turns = t ∷ later.turns;
      advances = advances_both stands a b c (turn_exchange i t ∷ []) (map (turn_exchange i) later.turns) one.advances later.advances;
      are = (refl, inl (one.answer, refl, inl (one.shows, (Some next, one.next_is, later.are))));
      counts = counts_as ta tc _ _ _ _ (one_and (length later.turns)) refl
          (counts_both ta tb tc 1 (length later.turns) one.page.verdicts (flat_map (λ u. u.page.verdicts) later.turns) one.counts later.counts);
    }

pub reads_last : {T : Type 0} (stands : T → T → List Exchange → Type 0) (i : ℕ) (a b : T) (ta tb : Tally) (behind : Option VerdictCursor)
    → IsTurned stands i a ta behind None b tb → ReadsPages stands i a ta behind (Ok tt) b tb
reads_last stands i a b ta tb behind one = record {
  turns = record { behind = behind; told = Made one.answer; page = one.page } ∷ [];
  advances = one.advances;
  are = (refl, inl (one.answer, refl, inl (one.shows, (None, one.next_is, (refl, refl)))));
  counts = counts_as ta tb 1 1 one.page.verdicts (one.page.verdicts ++ []) refl (sym (append-nil one.page.verdicts)) one.counts;
}

-- The pages from here on are what is left of those from the start.
abbrev pub ContinuesPages : {T : Type 0} → (T → T → List Exchange → Type 0) → ℕ → T → Tally → T → Tally → Option VerdictCursor → Type 0
ContinuesPages {T} stands i start ts now tn behind =
    (result : Result (Unit {0}) Stop) (final : T) (tf : Tally) → ReadsPages stands i now tn behind result final tf
    → ReadsPages stands i start ts None result final tf

pub turns_on : {T : Type 0} (stands : T → T → List Exchange → Type 0) (i : ℕ) (start now then : T) (ts tn tt' : Tally) (behind : Option VerdictCursor)
    (next : VerdictCursor) → ContinuesPages stands i start ts now tn behind → IsTurned stands i now tn behind (Some next) then tt'
    → ContinuesPages stands i start ts then tt' (Some next)
turns_on stands i start now then ts tn tt' behind next so_far one result final tf later =
    so_far result final tf (reads_then stands i now then final tn tt' tf behind next result one later)
