-- What was answered, in the stream that was to be read.
use Rattle.std.proofs.Common.{◌≡◌, ◌⊎◌, ℕ, ◌+◌, inl, inr, true, List, [], ◌∷◌, ◌++◌, length, Option, Some, None, refl, sym, ap, ◌∙◌, subst, append_assoc, append-nil, zero-add}
use Rattle.std.specs.Bool.{MatchBool}
use Rattle.outside.specs.Bytes.{Gave, IsEnd}
use Rattle.outside.specs.Ends.{Ends}
use Rattle.tellers.specs.Exchange.{Exchange}
use Rattle.http_wire.specs.Stream.{IsMessage, HasEnd, Framed, FramedFrom, Spells, StayOpen, closes}
use Rattle.http_wire.specs.declared.message.End.{End}
use Rattle.http_wire.specs.declared.message.End.TheVariants as stream_ends
use Rattle.http_wire.specs.declared.message.Message.{Message}
use Rattle.http_wire.specs.declared.message.WireFault.TheVariants as faults
use Rattle.http_wire.proofs.StreamLaws.{spells_then_framed, reading_of_rest, fault_goes_on, no_message_at_end, same_messages}
use Rattle.http_workers.specs.Turns.{Turn, messages_of, OthersStay, LastCloses}
use Rattle.http_workers.specs.Causes.{row_of, ReachesEnd, NothingLeft, IsRest}
use Rattle.http_workers.specs.Connection.{IsLast, Connection}
use Rattle.http_workers.specs.Ended.{ServesLink}
use Rattle.http_workers.specs.declared.ended.Ended.{Ended}
use Rattle.http_workers.specs.Framing.{Served, AreFirst, AreMessages}
use Rattle.http_workers.specs.declared.ended.Cause.{Cause}
use Rattle.http_workers.specs.declared.ended.Cause.TheVariants as causes

-- ---- the end that was reached

-- an end that was reached stays the stream's, with what is left behind it
end_of_rest : (end : End) (rest left : List ℕ) → ReachesEnd end rest (Some left) → HasEnd (rest ++ left) end
end_of_rest stream_ends.Finished rest left is = ap (λ (t : List ℕ). rest ++ t) is.1 ∙ append-nil rest ∙ is.0
end_of_rest stream_ends.Closed rest left is = absurd is.0
end_of_rest (stream_ends.Fault (faults.CutShort have)) rest left is =
    subst (λ (t : List ℕ). HasEnd t (stream_ends.Fault (faults.CutShort have))) (sym (ap (λ (t : List ℕ). rest ++ t) is.1 ∙ append-nil rest)) is.0
end_of_rest (stream_ends.Fault fault) rest left is = fault_goes_on rest left fault tt is.0

framed_by : (ms : List Message) (text rest : List ℕ) (end : End) → Spells ms text → StayOpen 0 ms → HasEnd rest end → Framed (text ++ rest) ms end
framed_by ms text rest end spelled stay ends =
    subst (λ (all : List Message). Framed (text ++ rest) all end) (append-nil ms) (spells_then_framed ms [] 0 text rest end spelled stay ends)

-- ---- the last message

-- messages, and one more behind them
record Parted (ms : List Message) (m : Message) (text : List ℕ) : Type 0 where
  front : List ℕ
  bytes : List ℕ
  parts : text ≡ front ++ bytes
  spelled : Spells ms front
  is : IsMessage bytes m

parted : (ms : List Message) (m : Message) (text : List ℕ) → Spells (ms ++ m ∷ []) text → Parted ms m text
parted [] m text x = record {
  front = [];
  bytes = x.0;
  parts = x.3 ∙ ap (λ (t : List ℕ). x.0 ++ t) x.4 ∙ append-nil x.0;
  spelled = refl;
  is = x.2;
}
parted (n ∷ ms) m text x =
    let others = parted ms m x.1 x.4 in
    record {
      front = x.0 ++ others.front;
      bytes = others.bytes;
      parts = x.3 ∙ ap (λ (t : List ℕ). x.0 ++ t) others.parts ∙ sym (append_assoc x.0 others.front others.bytes);
      spelled = (x.0, others.front, x.2, refl, others.spelled);
      is = others.is;
    }

abbrev IsLastOne : List Message → Type 0
IsLastOne ms = (ms ≡ []) × (stream_ends.Closed ≡ stream_ends.Closed)

-- where the last one closes, whatever follows
framed_closed : (others : List Message) (last : Message) (text rest : List ℕ) → Parted others last text → StayOpen 0 others → closes (length others) last ≡ true
    → Framed (text ++ rest) (others ++ last ∷ []) stream_ends.Closed
framed_closed others last text rest p stay closing =
    let is_last : closes (0 + length others) last ≡ true = ap (λ (n : ℕ). closes n last) (zero-add (length others)) ∙ closing in
    subst (λ (t : List ℕ). Framed t (others ++ last ∷ []) stream_ends.Closed)
    (sym (ap (λ (t : List ℕ). t ++ rest) p.parts ∙ append_assoc p.front p.bytes rest))
    (spells_then_framed others (last ∷ []) 0 p.front (p.bytes ++ rest) stream_ends.Closed p.spelled stay (
      p.bytes,
      rest,
      p.is,
      refl,
      subst (λ b. MatchBool b (IsLastOne []) (FramedFrom (0 + length others + 1) rest [] stream_ends.Closed)) (sym is_last) (refl, refl),
    ))

-- ---- the first messages

are_first : (ms : List Message) (text rest : List ℕ) → Spells ms text → StayOpen 0 ms → AreFirst ms (text ++ rest)
are_first ms text rest spelled stay all end framed =
    let reading = reading_of_rest ms all 0 text rest end spelled stay framed in
    (reading.0, reading.1)

-- the first of these messages is this one
first_is : (before : ℕ) (m : Message) (bytes rest : List ℕ) (ms : List Message) (end : End) → IsMessage bytes m → FramedFrom before (bytes ++ rest) ms end
    → (others : List Message) × (ms ≡ m ∷ others)
first_is before m bytes rest [] end is framed = absurd (no_message_at_end (bytes ++ rest) end framed bytes rest m refl is)
first_is before m bytes rest (n ∷ ms) end is framed =
    let same = same_messages bytes rest framed.0 framed.1 m n framed.3 is framed.2 in
    (ms, ap (λ (k : Message). k ∷ ms) (sym same.0))

first_with_last : (others : List Message) (last : Message) (text rest : List ℕ) → Parted others last text → StayOpen 0 others → AreFirst (others ++ last ∷ []) (text ++ rest)
first_with_last others last text rest p stay all end framed =
    let whole = subst (λ (t : List ℕ). Framed t all end) (ap (λ (t : List ℕ). t ++ rest) p.parts ∙ append_assoc p.front p.bytes rest) framed in
    let reading = reading_of_rest others all 0 p.front (p.bytes ++ rest) end p.spelled stay whole in
    let next = first_is (0 + length others) last p.bytes rest reading.0 end p.is reading.2 in
    (next.0, reading.1 ∙ ap (λ (ms : List Message). others ++ ms) next.1 ∙ sym (append_assoc others (last ∷ []) next.0))

others_first : (ms : List Message) (text rest : List ℕ) → Spells ms text → OthersStay ms → AreFirst ms (text ++ rest)
others_first ms text rest spelled o =
    subst (λ (all : List Message). AreFirst all (text ++ rest)) (sym o.parts)
    (first_with_last o.others o.last text rest (parted o.others o.last text (subst (λ (all : List Message). Spells all text) o.parts spelled)) o.stay)

-- ---- by the cause

messages_by : (cause : Cause) (turns : List Turn) (text rest left earlier last : List ℕ) → Spells (messages_of turns) text → IsLast cause turns earlier last
    → IsRest cause rest (Some left) → AreMessages (row_of cause).end (messages_of turns) (text ++ (rest ++ left))
messages_by causes.End turns text rest left earlier last spelled how is =
    framed_by (messages_of turns) text (rest ++ left) stream_ends.Finished spelled how.0 (end_of_rest stream_ends.Finished rest left is)
messages_by (causes.Wire fault) turns text rest left earlier last spelled how is =
    framed_by (messages_of turns) text (rest ++ left) (stream_ends.Fault fault) spelled how.0 (end_of_rest (stream_ends.Fault fault) rest left is)
messages_by causes.Closed turns text rest left earlier last spelled how is =
    let stay = how.0 in
    subst (λ (all : List Message). Framed (text ++ (rest ++ left)) all stream_ends.Closed) (sym stay.parts)
    (framed_closed stay.others stay.last text (rest ++ left)
    (parted stay.others stay.last text (subst (λ (all : List Message). Spells all text) stay.parts spelled)) stay.stay stay.closing)
messages_by causes.ReadFault turns text rest left earlier last spelled how is = are_first (messages_of turns) text (rest ++ left) spelled how.0
messages_by causes.Memory turns text rest left earlier last spelled how is = are_first (messages_of turns) text (rest ++ left) spelled how.0
messages_by causes.WriteFault turns text rest left earlier last spelled how is = others_first (messages_of turns) text (rest ++ left) spelled how.0
messages_by causes.SinkTakesNothing turns text rest left earlier last spelled (inl how) is = others_first (messages_of turns) text (rest ++ left) spelled how.0
messages_by causes.SinkTakesNothing turns text rest left earlier last spelled (inr how) is = are_first (messages_of turns) text (rest ++ left) spelled how.0

framed_of : (cause : Cause) (turns : List Turn) (stream text rest earlier last : List ℕ) (after : Option (List ℕ)) → Gave (Some stream) (text ++ rest) after
    → Spells (messages_of turns) text → IsLast cause turns earlier last → IsRest cause rest after → AreMessages (row_of cause).end (messages_of turns) stream
framed_of cause turns stream text rest earlier last after gave spelled how is =
    subst (λ (t : List ℕ). AreMessages (row_of cause).end (messages_of turns) t) (sym (gave.2 ∙ append_assoc text rest gave.0))
    (messages_by cause turns text rest gave.0 earlier last spelled how (subst (IsRest cause rest) gave.1 is))

pub served : (asked : List Exchange → Type 0) (before : Ends) (calls : ℕ) (cause : Cause) (after : Ends) → Connection asked before calls cause after
    → Served asked before calls cause after
served asked before calls cause after c = record {
  connection = c;
  framed = λ stream told.
      framed_of cause c.turns stream c.text c.rest c.earlier c.last after.incoming.left
      (subst (λ (o : Option (List ℕ)). Gave o (c.text ++ c.rest) after.incoming.left) told c.read) c.spelled c.last_is c.rest_is;
}

-- what was asked, said in other words
connection_so : (asked asked' : List Exchange → Type 0) (before : Ends) (calls : ℕ) (cause : Cause) (after : Ends)
    → ((es : List Exchange) → asked es → asked' es) → Connection asked before calls cause after → Connection asked' before calls cause after
connection_so asked asked' before calls cause after so c = record {
  turns = c.turns;
  text = c.text;
  rest = c.rest;
  earlier = c.earlier;
  last = c.last;
  result = c.result;
  read = c.read;
  spelled = c.spelled;
  told = so _ c.told;
  counted = c.counted;
  few = c.few;
  sent = c.sent;
  last_is = c.last_is;
  last_write = c.last_write;
  rest_is = c.rest_is;
  reads = c.reads;
  ends = c.ends;
}

pub asked_so : (asked asked' : List Exchange → Type 0) (before : Ends) (ended : Ended) (after : Ends)
    → ((es : List Exchange) → asked es → asked' es) → ServesLink asked before ended after → ServesLink asked' before ended after
asked_so asked asked' before ended after so (inl unbegun) = inl (record {
  no_calls = unbegun.no_calls;
  cause_is = unbegun.cause_is;
  told = so [] unbegun.told;
  untouched = unbegun.untouched;
})
asked_so asked asked' before ended after so (inr s) =
    inr (served asked' before ended.calls ended.cause after (connection_so asked asked' before ended.calls ended.cause after so s.connection))
