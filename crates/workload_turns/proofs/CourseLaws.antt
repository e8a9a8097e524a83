-- Requests that are asked one after the other.
use Rattle.std.proofs.Common.{◌≡◌, ℕ, suc, ◌+◌, ◌-◌, ◌<◌, ◌≤◌, List, [], ◌∷◌, ◌++◌, length, Result, Ok, Err, refl, sym, ap, ◌∙◌, subst, arith, append_assoc, append-nil, length-append}
use Rattle.std.specs.List.{range_with_len}
use Rattle.call_forms.specs.declared.asked.Asked.{Asked}
use Rattle.call_forms.specs.declared.forms.Answer.{Answer}
use Rattle.call_forms.specs.declared.forms.Standin.{Standin}
use Rattle.call_forms.specs.declared.forms.Told.TheVariants.{Made, Standin as Instead}
use Rattle.tellers.specs.Exchange.{Exchange, StandsForSome}
use Rattle.workload_turns.specs.Courses.{Advances, AreAnswered, AreAsked, AreStopped, Asks, StopsBefore}
use Rattle.workload_turns.specs.Stops.{stop_of}
use Rattle.workload_turns.specs.Tallies.{Counts}
use Rattle.workload_turns.specs.declared.stops.Stop.{Stop}
use Rattle.workload_turns.specs.declared.stops.Stop.TheVariants.{Memory}
use Rattle.workload_turns.specs.declared.tally.Tally.{Tally}
use Rattle.workload_turns.proofs.TallyLaws.{counts_as, counts_both, counts_none}

-- ---- a teller that is asked more

pub advances_none : {T : Type 0} (stands : T → T → List Exchange → Type 0) (a : T) → Advances stands a [] a
advances_none stands a first before s = subst (stands first a) (sym (append-nil before)) s

pub advances_both : {T : Type 0} (stands : T → T → List Exchange → Type 0) (a b c : T) (es fs : List Exchange)
    → Advances stands a es b → Advances stands b fs c → Advances stands a (es ++ fs) c
advances_both stands a b c es fs one two first before s =
    subst (stands first c) (append_assoc before es fs) (two first (before ++ es) (one first before s))

pub stands_then : {T : Type 0} (stands : T → T → List Exchange → Type 0) (a b : T) (es : List Exchange) → StandsForSome stands a → Advances stands a es b
    → StandsForSome stands b
stands_then stands a b es s one = (s.0, s.1 ++ es, one s.0 s.1 s.2)

-- ---- requests and what was told

answered_both : (qs rs : List Asked) (es fs : List Exchange) → AreAnswered qs es → AreAnswered rs fs → AreAnswered (qs ++ rs) (es ++ fs)
answered_both [] rs [] fs p q = q
answered_both [] rs (e ∷ es) fs p q = absurd p
answered_both (x ∷ qs) rs [] fs p q = absurd p
answered_both (x ∷ qs) rs (e ∷ es) fs p q = (p.0, p.1, answered_both qs rs es fs p.2 q)

stops_before : (qs rs : List Asked) (es : List Exchange) (stop : Stop) → StopsBefore qs es stop → StopsBefore (qs ++ rs) es stop
stops_before [] [] [] stop p = p
stops_before [] (r ∷ rs) [] stop p = p
stops_before (x ∷ qs) rs [] stop p = p
stops_before [] rs (e ∷ es) stop p = absurd p
stops_before (x ∷ qs) rs (e ∷ es) stop p = p

stopped_more : (qs rs : List Asked) (es : List Exchange) (stop : Stop) → AreStopped qs es stop → AreStopped (qs ++ rs) es stop
stopped_more qs rs es stop s = record {
  done = s.done;
  left = s.left ++ rs;
  requests_are = ap (λ (l : List Asked). l ++ rs) s.requests_are ∙ append_assoc s.done s.left rs;
  answered = s.answered;
  last = s.last;
  exchanges_are = s.exchanges_are;
  are = s.are;
  stops = stops_before s.left rs s.last stop s.stops;
}

stopped_behind : (qs rs : List Asked) (es fs : List Exchange) (stop : Stop) → AreAnswered qs es → AreStopped rs fs stop → AreStopped (qs ++ rs) (es ++ fs) stop
stopped_behind qs rs es fs stop p s = record {
  done = qs ++ s.done;
  left = s.left;
  requests_are = ap (λ (l : List Asked). qs ++ l) s.requests_are ∙ sym (append_assoc qs s.done s.left);
  answered = es ++ s.answered;
  last = s.last;
  exchanges_are = ap (λ (l : List Exchange). es ++ l) s.exchanges_are ∙ sym (append_assoc es s.answered s.last);
  are = answered_both qs s.done es s.answered p s.are;
  stops = s.stops;
}

asked_behind : (qs rs : List Asked) (es fs : List Exchange) (result : Result (Unit {0}) Stop) → AreAnswered qs es → AreAsked rs fs result
    → AreAsked (qs ++ rs) (es ++ fs) result
asked_behind qs rs es fs (Ok done) p q = answered_both qs rs es fs p q
asked_behind qs rs es fs (Err stop) p q = stopped_behind qs rs es fs stop p q

-- ---- courses

pub asks_none : {T : Type 0} (stands : T → T → List Exchange → Type 0) (a : T) (ta : Tally) → Asks stands a ta [] (Ok tt) a ta
asks_none stands a ta = record { exchanges = []; advances = advances_none stands a; are = tt; counts = counts_none ta }

pub asks_memory : {T : Type 0} (stands : T → T → List Exchange → Type 0) (a : T) (ta : Tally) (qs : List Asked) → Asks stands a ta qs (Err Memory) a ta
asks_memory stands a ta qs = record {
  exchanges = [];
  advances = advances_none stands a;
  are = record {
    done = [];
    left = qs;
    requests_are = refl;
    answered = [];
    last = [];
    exchanges_are = refl;
    are = tt;
    stops = nothing qs;
  };
  counts = counts_none ta;
}
  where
    nothing : (qs : List Asked) → StopsBefore qs [] Memory
    nothing [] = refl
    nothing (q ∷ qs) = refl

pub asks_one : {T : Type 0} (stands : T → T → List Exchange → Type 0) (a b : T) (ta tb : Tally) (q : Asked) (answer : Answer)
    → Advances stands a (record { asked = q; told = Made answer } ∷ []) b → Counts ta 1 [] tb → Asks stands a ta (q ∷ []) (Ok tt) b tb
asks_one stands a b ta tb q answer advances counts = record {
  exchanges = record { asked = q; told = Made answer } ∷ [];
  advances = advances;
  are = (refl, (answer, refl), tt);
  counts = counts;
}

pub asks_standin : {T : Type 0} (stands : T → T → List Exchange → Type 0) (a b : T) (ta tb : Tally) (q : Asked) (qs : List Asked) (standin : Standin) (stop : Stop)
    → stop ≡ stop_of standin → Advances stands a (record { asked = q; told = Instead standin } ∷ []) b → Counts ta 1 [] tb
    → Asks stands a ta (q ∷ qs) (Err stop) b tb
asks_standin stands a b ta tb q qs standin stop is advances counts = record {
  exchanges = record { asked = q; told = Instead standin } ∷ [];
  advances = advances;
  are = record {
    done = [];
    left = q ∷ qs;
    requests_are = refl;
    answered = [];
    last = record { asked = q; told = Instead standin } ∷ [];
    exchanges_are = refl;
    are = tt;
    stops = (refl, refl, (standin, refl, is));
  };
  counts = counts;
}

pub asks_then : {T : Type 0} (stands : T → T → List Exchange → Type 0) (a b c : T) (ta tb tc : Tally) (qs rs : List Asked) (result : Result (Unit {0}) Stop)
    → Asks stands a ta qs (Ok tt) b tb → Asks stands b tb rs result c tc → Asks stands a ta (qs ++ rs) result c tc
asks_then stands a b c ta tb tc qs rs result one two = record {
  exchanges = one.exchanges ++ two.exchanges;
  advances = advances_both stands a b c one.exchanges two.exchanges one.advances two.advances;
  are = asked_behind qs rs one.exchanges two.exchanges result one.are two.are;
  counts = counts_as ta tc _ _ _ [] (sym (length-append one.exchanges two.exchanges)) refl
      (counts_both ta tb tc (length one.exchanges) (length two.exchanges) [] [] one.counts two.counts);
}

pub asks_stops : {T : Type 0} (stands : T → T → List Exchange → Type 0) (a b : T) (ta tb : Tally) (qs rs : List Asked) (stop : Stop)
    → Asks stands a ta qs (Err stop) b tb → Asks stands a ta (qs ++ rs) (Err stop) b tb
asks_stops stands a b ta tb qs rs stop one = record {
  exchanges = one.exchanges;
  advances = one.advances;
  are = stopped_more qs rs one.exchanges stop one.are;
  counts = one.counts;
}

-- What is still to be asked here is what is left of all that is to be asked from the start.
abbrev pub Continues : {T : Type 0} → (T → T → List Exchange → Type 0) → T → Tally → List Asked → T → Tally → List Asked → Type 0
Continues {T} stands start ts all now tn left =
    (result : Result (Unit {0}) Stop) (final : T) (tf : Tally) → Asks stands now tn left result final tf → Asks stands start ts all result final tf

pub begins : {T : Type 0} (stands : T → T → List Exchange → Type 0) (a : T) (ta : Tally) (all left : List Asked) → left ≡ all → Continues stands a ta all a ta left
begins stands a ta all left is result final tf asks = subst (λ (l : List Asked). Asks stands a ta l result final tf) is asks

pub goes_on : {T : Type 0} (stands : T → T → List Exchange → Type 0) (start now then : T) (ts tn tt' : Tally) (all left qs rs : List Asked)
    → Continues stands start ts all now tn left → left ≡ qs ++ rs → Asks stands now tn qs (Ok tt) then tt' → Continues stands start ts all then tt' rs
goes_on stands start now then ts tn tt' all left qs rs so_far is one result final tf asks =
    so_far result final tf
    (subst (λ (l : List Asked). Asks stands now tn l result final tf) (sym is) (asks_then stands now then final tn tt' tf qs rs result one asks))

pub ends : {T : Type 0} (stands : T → T → List Exchange → Type 0) (start now then : T) (ts tn tt' : Tally) (all left qs rs : List Asked) (stop : Stop)
    → Continues stands start ts all now tn left → left ≡ qs ++ rs → Asks stands now tn qs (Err stop) then tt' → Asks stands start ts all (Err stop) then tt'
ends stands start now then ts tn tt' all left qs rs stop so_far is one =
    so_far (Err stop) then tt'
    (subst (λ (l : List Asked). Asks stands now tn l (Err stop) then tt') (sym is) (asks_stops stands now then tn tt' qs rs stop one))

pub finishes : {T : Type 0} (stands : T → T → List Exchange → Type 0) (start now : T) (ts tn : Tally) (all left : List Asked)
    → Continues stands start ts all now tn left → left ≡ [] → Asks stands start ts all (Ok tt) now tn
finishes stands start now ts tn all left so_far is =
    so_far (Ok tt) now tn (subst (λ (l : List Asked). Asks stands now tn l (Ok tt) now tn) (sym is) (asks_none stands now tn))

-- ---- numbers in turn

pub range_next : (at count : ℕ) → at < count → range_with_len at (count - at) ≡ at ∷ range_with_len (at + 1) (count - (at + 1))
range_next at count h =
    let e : count - at ≡ suc (count - (at + 1)) = omega arith in
    ap (range_with_len at) e

pub range_none : (at count : ℕ) → count ≤ at → range_with_len at (count - at) ≡ []
range_none at count h =
    let e : count - at ≡ 0 = omega arith in
    ap (range_with_len at) e
