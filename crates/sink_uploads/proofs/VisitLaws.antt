-- Tries one after the other on one link.
use Rattle.std.proofs.Common.{◌≡◌, ◌+◌, ◌<◌, ◌≤◌, ℕ, suc, List, [], ◌∷◌, ◌++◌, length, get_or, take, drop, Ok, Err, refl, sym, ap, ◌∙◌, subst, arith, append-nil, append_assoc, length-append, drop-cons}
use Rattle.std.proofs.Common.{inl, inr, ⊎_elim}
use Rattle.std.specs.Prelude.{All}
use Rattle.std.specs.List.{concat}
use Rattle.std.proofs.lemmas.List.{take_more, drop_all}
use Rattle.std.proofs.lemmas.List.Elements.{All-nil, All-push}
use Rattle.outside.specs.Bytes.{Gave, Took}
use Rattle.outside.specs.Ends.{Ends}
use Rattle.outside.proofs.Taken.{gave_both, gave_nothing, took_both, took_nothing}
use Rattle.fault_counts.specs.Causes.{counted}
use Rattle.sink_replies.specs.Replies.{IsReply}
use Rattle.sink_uploads.specs.Visits.{Trace, Carried, IsQuiet, EndsAt, EndsVisit, HasRisen, WriteFailed, TookNothing, ReadFailed, HasEnded}
use Rattle.sink_uploads.specs.Tries.{Tries}
use Rattle.sink_uploads.specs.declared.visit.Parting.{Parting}
use Rattle.sink_uploads.specs.declared.visit.Parting.TheVariants.{Done, Fault, End, Refused, BadReply}

concat-push : (xs : List (List ℕ)) (x : List ℕ) → concat (xs ++ x ∷ []) ≡ concat xs ++ x
concat-push [] x = append-nil x
concat-push (y ∷ ys) x = ap (λ z. y ++ z) (concat-push ys x) ∙ sym (append_assoc y (concat ys) x)

-- ---- counts

quiet_none : (a : Ends) → IsQuiet a a
quiet_none a = record { reads = refl; ends = refl; writes = refl; stalls = refl }

quiet_both : (a b c : Ends) → IsQuiet a b → IsQuiet b c → IsQuiet a c
quiet_both a b c x y = record {
  reads = y.reads ∙ x.reads;
  ends = y.ends ∙ x.ends;
  writes = y.writes ∙ x.writes;
  stalls = y.stalls ∙ x.stalls;
}

risen : (a b c : ℕ) → b ≡ a → HasRisen b c → HasRisen a c
risen a b c same x = subst (λ z. HasRisen z c) same x

write_failed : (request part : List ℕ) (a b c : Ends) → IsQuiet a b → WriteFailed request part b c → WriteFailed request part a c
write_failed request part a b c q x = record {
  behind = x.behind;
  front = x.front;
  reads = x.reads ∙ q.reads;
  ends = x.ends ∙ q.ends;
  writes = risen a.outgoing.faults b.outgoing.faults c.outgoing.faults q.writes x.writes;
  stalls = x.stalls ∙ q.stalls;
}

took_none : (request part : List ℕ) (a b c : Ends) → IsQuiet a b → TookNothing request part b c → TookNothing request part a c
took_none request part a b c q x = record {
  behind = x.behind;
  front = x.front;
  reads = x.reads ∙ q.reads;
  ends = x.ends ∙ q.ends;
  writes = x.writes ∙ q.writes;
  stalls = risen a.outgoing.stalls b.outgoing.stalls c.outgoing.stalls q.stalls x.stalls;
}

read_failed : (request part rest : List ℕ) (a b c : Ends) → IsQuiet a b → ReadFailed request part rest b c → ReadFailed request part rest a c
read_failed request part rest a b c q x = record {
  whole = x.whole;
  unfinished = x.unfinished;
  reads = risen a.incoming.faults b.incoming.faults c.incoming.faults q.reads x.reads;
  ends = x.ends ∙ q.ends;
  writes = x.writes ∙ q.writes;
  stalls = x.stalls ∙ q.stalls;
}

has_ended : (request part rest : List ℕ) (a b c : Ends) → IsQuiet a b → HasEnded request part rest b c → HasEnded request part rest a c
has_ended request part rest a b c q x = record {
  whole = x.whole;
  unfinished = x.unfinished;
  at_end = x.at_end;
  reads = x.reads ∙ q.reads;
  ends = x.ends ∙ ap counted q.ends;
  writes = x.writes ∙ q.writes;
  stalls = x.stalls ∙ q.stalls;
}

-- what came before without a fault or an end
behind_quiet : (request part rest : List ℕ) (a b c : Ends) (p : Parting) → IsQuiet a b → EndsAt request part rest b c p → EndsAt request part rest a c p
behind_quiet request part rest a b c Done q x = absurd x
behind_quiet request part rest a b c Fault q x =
    ⊎_elim (λ (y : WriteFailed request part b c). inl (write_failed request part a b c q y))
    (λ (y : ReadFailed request part rest b c). inr (read_failed request part rest a b c q y)) x
behind_quiet request part rest a b c End q x =
    ⊎_elim (λ (y : TookNothing request part b c). inl (took_none request part a b c q y))
    (λ (y : HasEnded request part rest b c). inr (has_ended request part rest a b c q y)) x
behind_quiet request part rest a b c (Refused status) q x = record {
  whole = x.whole;
  others = x.others;
  reply = x.reply;
  other = x.other;
  quiet = quiet_both a b c q x.quiet;
}
behind_quiet request part rest a b c (BadReply end) q x = record {
  whole = x.whole;
  within = x.within;
  bad = x.bad;
  quiet = quiet_both a b c q x.quiet;
}

-- ---- requests that were answered

-- So many requests were answered, and this was read past their replies.
pub record Visiting (requests : List (List ℕ)) (answered : ℕ) (before now : Ends) (held : List ℕ) : Type 0 where
  pub replies : List (List ℕ)
  pub many : length replies ≡ answered
  pub within : answered ≤ length requests
  pub took : Took before.outgoing.written (concat (take answered requests)) now.outgoing.written
  pub got : List ℕ
  pub gave : Gave before.incoming.left got now.incoming.left
  pub parts : got ≡ concat replies ++ held
  pub ok : All (λ reply. IsReply reply 200) replies
  pub quiet : IsQuiet before now

pub visiting_none : (requests : List (List ℕ)) (before : Ends) (held : List ℕ) → held ≡ [] → Visiting requests 0 before before held
visiting_none requests before held none = record {
  replies = [];
  many = refl;
  within = omega arith;
  took = took_nothing before.outgoing.written;
  got = [];
  gave = gave_nothing before.incoming.left;
  parts = sym none;
  ok = All-nil (λ reply. IsReply reply 200);
  quiet = quiet_none before;
}

pub visiting_more : {T : Type 0} (requests : List (List ℕ)) (k : ℕ) (before between now : Ends) (held later request : List ℕ) (done : T)
    → Visiting requests k before between held → k < length requests → request ≡ get_or requests k request
    → Tries {T = T} request held between (Ok done) later now → Visiting requests (k + 1) before now later
visiting_more requests k before between now held later request done v less at t =
    let reply = t.answer.1.reply in
    let sent : concat (take (k + 1) requests) ≡ concat (take k requests) ++ t.part =
    ap concat (take_more requests k request less)
    ∙ concat-push (take k requests) (get_or requests k request)
    ∙ ap (λ z. concat (take k requests) ++ z) (sym at ∙ sym t.answer.0) in
    let many = v.many in
    record {
      replies = v.replies ++ reply ∷ [];
      many = length-append v.replies (reply ∷ []) ∙ omega (arith, many);
      within = omega (arith, less);
      took = rw sent (took_both before.outgoing.written (concat (take k requests)) t.part between.outgoing.written now.outgoing.written v.took t.took);
      got = v.got ++ t.got;
      gave = gave_both before.incoming.left v.got t.got between.incoming.left now.incoming.left v.gave t.gave;
      parts = ap (λ z. z ++ t.got) v.parts ∙ append_assoc (concat v.replies) held t.got
          ∙ ap (λ z. concat v.replies ++ z) t.answer.1.parts
          ∙ sym (append_assoc (concat v.replies) reply later)
          ∙ ap (λ z. z ++ later) (sym (concat-push v.replies reply));
      ok = All-push (λ r. IsReply r 200) v.replies reply v.ok t.answer.1.is_reply;
      quiet = quiet_both before between now v.quiet t.answer.2;
    }

-- ---- the end of a visit

abbrev pub IsVisit : List (List ℕ) → Ends → Ends → ℕ → Parting → Type 0
IsVisit requests before after answered parting =
    (trace : Trace) × Carried requests trace before after × (length trace.replies ≡ answered) × (trace.parting ≡ parting)

pub visited_all : (requests : List (List ℕ)) (k : ℕ) (before now : Ends) (held : List ℕ) → Visiting requests k before now held
    → length requests ≤ k → IsVisit requests before now k Done
visited_all requests k before now held v all =
    let none : drop (length v.replies) requests ≡ [] = drop_all (length v.replies) requests (let many = v.many in omega (arith, all, many)) in (
      record { replies = v.replies; part = []; rest = held; parting = Done },
      record {
        took = subst (λ z. Took before.outgoing.written z now.outgoing.written)
            (sym (append-nil (concat (take (length v.replies) requests)) ∙ ap (λ n. concat (take n requests)) v.many)) v.took;
        gave = subst (λ z. Gave before.incoming.left z now.incoming.left) v.parts v.gave;
        answered = let many = v.many in let within = v.within in omega (arith, many, within);
        replies = v.ok;
        ended = subst (λ z. EndsVisit z [] held before now Done) (sym none) (refl, refl, v.quiet);
      },
      v.many,
      refl,
    )

pub visited_to : {T : Type 0} (requests : List (List ℕ)) (k : ℕ) (before between now : Ends) (held later request : List ℕ) (p : Parting)
    → Visiting requests k before between held → k < length requests → request ≡ get_or requests k request
    → Tries {T = T} request held between (Err p) later now → IsVisit requests before now k p
visited_to requests k before between now held later request p v less at t =
    let next : drop (length v.replies) requests ≡ request ∷ drop (suc k) requests =
    ap (λ n. drop n requests) v.many ∙ drop-cons requests k request less ∙ ap (λ z. z ∷ drop (suc k) requests) (sym at) in (
      record { replies = v.replies; part = t.part; rest = held ++ t.got; parting = p },
      record {
        took = subst (λ n. Took before.outgoing.written (concat (take n requests) ++ t.part) now.outgoing.written) (sym v.many)
            (took_both before.outgoing.written (concat (take k requests)) t.part between.outgoing.written now.outgoing.written v.took t.took);
        gave = subst (λ z. Gave before.incoming.left z now.incoming.left)
            (ap (λ z. z ++ t.got) v.parts ∙ append_assoc (concat v.replies) held t.got)
            (gave_both before.incoming.left v.got t.got between.incoming.left now.incoming.left v.gave t.gave);
        answered = let many = v.many in let within = v.within in omega (arith, many, within);
        replies = v.ok;
        ended = subst (λ z. EndsVisit z t.part (held ++ t.got) before now p) (sym next)
            (behind_quiet request t.part (held ++ t.got) before between now p v.quiet t.answer);
      },
      v.many,
      refl,
    )
