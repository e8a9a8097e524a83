-- What a run was told that stopped, and what one that came to its end.
use Rattle.std.proofs.Common.{◌≡◌, ◌⊎◌, inl, inr, ℕ, ◌-◌, List, [], ◌∷◌, ◌++◌, map, Option, Some, None, Result, Ok, Err, refl, sym, ap, ◌∙◌, subst}
use Rattle.call_forms.specs.declared.asked.Asked.{Asked}
use Rattle.call_forms.specs.declared.forms.Standin.{Standin}
use Rattle.call_forms.specs.declared.forms.Answer.{Answer}
use Rattle.call_forms.specs.declared.forms.Standin.TheVariants as standins
use Rattle.call_forms.specs.declared.forms.Told.TheVariants.{Made, Standin as Instead}
use Rattle.page_tokens.specs.declared.kinds.VerdictCursor.{VerdictCursor}
use Rattle.tellers.specs.Exchange.{Exchange}
use Rattle.workload_turns.specs.Courses.{AreAnswered, AreStopped, AreTurned, FollowedBy, GoesBy, StopsBefore, Turn, turn_exchange}
use Rattle.workload_turns.specs.Pages.{IsNext, Shows, no_page}
use Rattle.workload_turns.specs.Runs.{LoadRun, StopsEarly}
use Rattle.workload_turns.specs.Stops.{stop_of}
use Rattle.workload_turns.specs.declared.stops.Stop.{Stop}
use Rattle.workload_turns.specs.declared.stops.Stop.TheVariants.{Unavailable, Memory}
use Rattle.workload_turns.specs.declared.tally.Tally.{Tally}
use Rattle.workload_plans.specs.Plans.{changes_asked}
use Rattle.workload_plans.specs.Requests.{page_query}

-- how it ended
abbrev IsErr : Stop → Result (Unit {0}) Stop → Type 0
IsErr stop result = Err stop ≡ result

abbrev IsOkay : Result (Unit {0}) Stop → Type 0
IsOkay result = Ok tt ≡ result

same_stop : (a b : Stop) → IsErr a (Err b) → a ≡ b
same_stop a b e = cc

-- what an answered page is followed by
abbrev Reads : ℕ → Turn → Answer → (VerdictCursor → Type 0) → Type 0 → Type 0 → Type 0
Reads i t answer goes_on ends stops =
    (Shows answer t.page × ((next : Option VerdictCursor) × IsNext (page_query i) t.page.next next × GoesBy next goes_on ends))
    ⊎ ((t.page ≡ no_page) × stops)

-- in place of an answer to one of these this was told
abbrev pub SomeTold : Standin → List Exchange → Type 0
SomeTold s [] = ⊥
SomeTold s (e ∷ es) = (e.told ≡ Instead s) ⊎ SomeTold s es

told_first : (s : Standin) (es fs : List Exchange) → SomeTold s es → SomeTold s (es ++ fs)
told_first s [] fs t = absurd t
told_first s (e ∷ es) fs (inl t) = inl t
told_first s (e ∷ es) fs (inr t) = inr (told_first s es fs t)

told_later : (s : Standin) (es fs : List Exchange) → SomeTold s fs → SomeTold s (es ++ fs)
told_later s [] fs t = t
told_later s (e ∷ es) fs t = inr (told_later s es fs t)

told_either : (s : Standin) (es fs : List Exchange) → SomeTold s (es ++ fs) → SomeTold s es ⊎ SomeTold s fs
told_either s [] fs t = inr t
told_either s (e ∷ es) fs (inl t) = inl (inl t)
told_either s (e ∷ es) fs (inr t) = elim (told_either s es fs t) [ inl here ↦ inl (inr here) | inr there ↦ inr there ]

-- ---- changes

answered_none : (s : Standin) (qs : List Asked) (es : List Exchange) → AreAnswered qs es → SomeTold s es → ⊥
answered_none s [] [] a t = t
answered_none s [] (e ∷ es) a t = a
answered_none s (q ∷ qs) [] a t = t
answered_none s (q ∷ qs) (e ∷ es) a (inl t) = let both : Made a.1.0 ≡ Instead s = sym a.1.1 ∙ t in cc
answered_none s (q ∷ qs) (e ∷ es) a (inr t) = answered_none s qs es a.2 t

only_unavailable : (standin : Standin) → Unavailable ≡ stop_of standin → standin ≡ standins.Unavailable
only_unavailable standins.Unavailable e = refl
only_unavailable standins.Memory e = cc
only_unavailable standins.Spent e = cc

stopped_told : (qs : List Asked) (es : List Exchange) → AreStopped qs es Unavailable → SomeTold standins.Unavailable es
stopped_told qs es s = subst (SomeTold standins.Unavailable) (sym s.exchanges_are) (told_later standins.Unavailable s.answered s.last (last s.left s.last s.stops))
  where
    last : (left : List Asked) (es : List Exchange) → StopsBefore left es Unavailable → SomeTold standins.Unavailable es
    last [] [] p = cc
    last (q ∷ qs) [] p = cc
    last [] (e ∷ es) p = absurd p
    last (q ∷ qs) (e ∷ es) p = inl (p.2.1 ∙ ap Instead (only_unavailable p.2.0 p.2.2))

-- ---- pages

-- the pages behind one, of which this is so wherever they begin
told_next : (i : ℕ) (t : Turn) (ts : List Turn) (next : Option VerdictCursor)
    → ((n : VerdictCursor) → AreTurned i (Some n) ts (Err Unavailable) → SomeTold standins.Unavailable (map (turn_exchange i) ts))
    → GoesBy next (λ n. AreTurned i (Some n) ts (Err Unavailable)) ((ts ≡ []) × IsErr Unavailable (Ok tt))
    → SomeTold standins.Unavailable (map (turn_exchange i) (t ∷ ts))
told_next i t ts None later g = let never = g.1 in cc
told_next i t ts (Some n) later g = inr (later n g)

told_page : (i : ℕ) (t : Turn) (ts : List Turn) (answer : Answer)
    → ((n : VerdictCursor) → AreTurned i (Some n) ts (Err Unavailable) → SomeTold standins.Unavailable (map (turn_exchange i) ts))
    → Reads i t answer (λ n. AreTurned i (Some n) ts (Err Unavailable)) ((ts ≡ []) × IsErr Unavailable (Ok tt)) ((ts ≡ []) × IsErr Unavailable (Err Memory))
    → SomeTold standins.Unavailable (map (turn_exchange i) (t ∷ ts))
told_page i t ts answer later (inl page) = told_next i t ts page.1.0 later page.1.2
told_page i t ts answer later (inr unread) = let never = unread.1.1 in cc

told_turn : (i : ℕ) (t : Turn) (ts : List Turn)
    → ((n : VerdictCursor) → AreTurned i (Some n) ts (Err Unavailable) → SomeTold standins.Unavailable (map (turn_exchange i) ts))
    → FollowedBy i t (λ n. AreTurned i (Some n) ts (Err Unavailable)) ((ts ≡ []) × IsErr Unavailable (Ok tt)) (λ stop. (ts ≡ []) × IsErr Unavailable (Err stop))
    → SomeTold standins.Unavailable (map (turn_exchange i) (t ∷ ts))
told_turn i t ts later (inl made) = told_page i t ts made.0 later made.2
told_turn i t ts later (inr stood) = inl (stood.1 ∙ ap Instead (only_unavailable stood.0 (same_stop Unavailable (stop_of stood.0) stood.3.1)))

turned_told : (i : ℕ) (behind : Option VerdictCursor) (ts : List Turn) → AreTurned i behind ts (Err Unavailable)
    → SomeTold standins.Unavailable (map (turn_exchange i) ts)
turned_told i behind [] a = absurd (only_memory (same_stop Unavailable Memory a))
  where
    only_memory : Unavailable ≡ Memory → ⊥
    only_memory e = cc
turned_told i behind (t ∷ ts) a = told_turn i t ts (λ n. turned_told i (Some n) ts) a.1

none_next : (s : Standin) (i : ℕ) (ts : List Turn) (next : Option VerdictCursor)
    → ((n : VerdictCursor) → AreTurned i (Some n) ts (Ok tt) → SomeTold s (map (turn_exchange i) ts) → ⊥)
    → GoesBy next (λ n. AreTurned i (Some n) ts (Ok tt)) ((ts ≡ []) × IsOkay (Ok tt)) → SomeTold s (map (turn_exchange i) ts) → ⊥
none_next s i ts None later g told = subst (λ (l : List Turn). SomeTold s (map (turn_exchange i) l)) g.0 told
none_next s i ts (Some n) later g told = later n g told

none_page : (s : Standin) (i : ℕ) (t : Turn) (ts : List Turn) (answer : Answer)
    → ((n : VerdictCursor) → AreTurned i (Some n) ts (Ok tt) → SomeTold s (map (turn_exchange i) ts) → ⊥)
    → Reads i t answer (λ n. AreTurned i (Some n) ts (Ok tt)) ((ts ≡ []) × IsOkay (Ok tt)) ((ts ≡ []) × IsOkay (Err Memory))
    → SomeTold s (map (turn_exchange i) ts) → ⊥
none_page s i t ts answer later (inl page) told = none_next s i ts page.1.0 later page.1.2 told
none_page s i t ts answer later (inr unread) told = let never = unread.1.1 in cc

none_turn : (s : Standin) (i : ℕ) (t : Turn) (ts : List Turn)
    → ((n : VerdictCursor) → AreTurned i (Some n) ts (Ok tt) → SomeTold s (map (turn_exchange i) ts) → ⊥)
    → FollowedBy i t (λ n. AreTurned i (Some n) ts (Ok tt)) ((ts ≡ []) × IsOkay (Ok tt)) (λ stop. (ts ≡ []) × IsOkay (Err stop))
    → SomeTold s (map (turn_exchange i) (t ∷ ts)) → ⊥
none_turn s i t ts later (inl made) (inl now) = let both : Made made.0 ≡ Instead s = sym made.1 ∙ now in cc
none_turn s i t ts later (inl made) (inr told) = none_page s i t ts made.0 later made.2 told
none_turn s i t ts later (inr stood) told = let never = stood.3.1 in cc

turned_none : (s : Standin) (i : ℕ) (behind : Option VerdictCursor) (ts : List Turn) → AreTurned i behind ts (Ok tt)
    → SomeTold s (map (turn_exchange i) ts) → ⊥
turned_none s i behind [] a told = told
turned_none s i behind (t ∷ ts) a told = none_turn s i t ts (λ n. turned_none s i (Some n) ts) a.1 told

-- ---- runs

-- a run that stopped since the disk failed was told so
pub unavailable_told : (asked : List Exchange → Type 0) (secret : List ℕ) (number count : ℕ) (run : LoadRun asked secret number count (Err Unavailable))
    → SomeTold standins.Unavailable (run.changes ++ map (turn_exchange (count - 1)) run.turns)
unavailable_told asked secret number count run = by_stop run.runs
  where
    by_stop : StopsEarly secret number count run.changes run.turns Unavailable
        → SomeTold standins.Unavailable (run.changes ++ map (turn_exchange (count - 1)) run.turns)
    by_stop (inl stopped) =
        told_first standins.Unavailable run.changes (map (turn_exchange (count - 1)) run.turns) (stopped_told (changes_asked secret number count) run.changes stopped.0)
    by_stop (inr paged) =
        told_later standins.Unavailable run.changes (map (turn_exchange (count - 1)) run.turns) (turned_told (count - 1) None run.turns paged.1)

-- one that came to its end was told no stand-in
pub none_told : (asked : List Exchange → Type 0) (secret : List ℕ) (number count : ℕ) (tally : Tally) (run : LoadRun asked secret number count (Ok tally))
    (s : Standin) → SomeTold s (run.changes ++ map (turn_exchange (count - 1)) run.turns) → ⊥
none_told asked secret number count tally run s told =
    elim (told_either s run.changes (map (turn_exchange (count - 1)) run.turns) told) [
      | inl here ↦ answered_none s (changes_asked secret number count) run.changes run.runs.answered here
      | inr there ↦ turned_none s (count - 1) None run.turns run.runs.turned there
    ]

-- what is so of what was asked and told, is so of a run
abbrev pub run_as : (asked other : List Exchange → Type 0) (secret : List ℕ) (number count : ℕ) (result : Result Tally Stop)
    → ((es : List Exchange) → asked es → other es) → LoadRun asked secret number count result → LoadRun other secret number count result
run_as asked other secret number count result more run = record {
  changes = run.changes;
  turns = run.turns;
  told = more (run.changes ++ map (turn_exchange (count - 1)) run.turns) run.told;
  runs = run.runs;
}
