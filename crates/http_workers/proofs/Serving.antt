-- A connection that goes on: what holds between two messages.
use Rattle.std.proofs.Common.{◌≡◌, ◌≢◌, ℕ, ◌+◌, ◌≤◌, ◌<◌, ◌⊎◌, inl, inr, Bool, true, false, List, [], ◌∷◌, ◌++◌, length, map, Option, Some, None, Result, Ok, Err, refl, sym, ap, ◌∙◌, subst, append_assoc, append-nil, arith, length-append}
use Rattle.std.proofs.lemmas.Bool.{eqb-false, or_parts}
use Rattle.std.proofs.lemmas.List.{map-append, length-map}
use Rattle.outside.specs.Bytes.{Gave, Took}
use Rattle.outside.specs.Ends.{Incoming, Outgoing, Ends}
use Rattle.outside.specs.Whole.{WritesWhole}
use Rattle.outside.specs.declared.whole.WriteEnd.{WriteEnd}
use Rattle.outside.specs.declared.whole.WriteEnd.TheVariants as write_ends
use Rattle.outside.proofs.Taken.{gave_nothing, gave_both, took_nothing, took_both}
use Rattle.call_forms.specs.declared.forms.Told.{Told}
use Rattle.tellers.specs.Exchange.{Exchange, StandsForSome}
use Rattle.http_wire.specs.Head.{head_limit}
use Rattle.http_wire.specs.WireState.{WireState}
use Rattle.http_wire.specs.Held.{Reading}
use Rattle.http_wire.specs.Stream.{IsMessage, Spells, StayOpen, closes, reply_limit}
use Rattle.http_wire.specs.declared.message.Message.{Message}
use Rattle.http_wire.specs.declared.message.WireFault.{WireFault}
use Rattle.http_wire.specs.declared.message.WireFault.TheVariants as faults
use Rattle.http_wire.proofs.StreamLaws.{spells_more, stay_more}
use Rattle.http_workers.specs.Turns.{Turn, messages_of, exchange_in, exchanges_of, OthersStay, LastCloses, replies}
use Rattle.fault_counts.specs.Causes.{Rose, counted}
use Rattle.http_workers.specs.Causes.{cause_of, row_of, closing_standin, IsLastWrite, CountsReads, CountsEnds, IsRest}
use Rattle.http_workers.specs.Closing.{Closes, ClosesBy, WroteNothing}
use Rattle.http_workers.specs.Connection.{Sent, IsLastReply, IsLast, Connection, Answers}
use Rattle.http_workers.specs.declared.ended.Cause.{Cause}
use Rattle.http_workers.specs.declared.ended.Cause.TheVariants as causes
use Rattle.http_workers.proofs.TurnLaws.{reply_of, replies_more}

-- So many messages were answered, none of which closes the connection, and their replies were written whole.
pub record Serving (asked : List Exchange → Type 0) (before : Ends) (wire : WireState) (number : ℕ) (now : Ends) : Type 0 where
  pub turns : List Turn
  pub text : List ℕ
  pub counted : length turns ≡ number
  pub is_open : wire.is_open ≡ true
  pub read : Gave before.incoming.left (text ++ wire.held) now.incoming.left
  pub spelled : Spells (messages_of turns) text
  pub stay : StayOpen 0 (messages_of turns)
  pub told : asked (exchanges_of turns)
  pub wrote : Took before.outgoing.written (replies turns) now.outgoing.written
  pub reads : now.incoming.faults ≡ before.incoming.faults
  pub ends : now.incoming.ends ≡ before.incoming.ends
  pub faults : now.outgoing.faults ≡ before.outgoing.faults
  pub stalls : now.outgoing.stalls ≡ before.outgoing.stalls

pub begins : (asked : List Exchange → Type 0) (before : Ends) (wire : WireState) → asked [] → wire.held ≡ [] → wire.is_open ≡ true
    → Serving asked before wire 0 before
begins asked before wire nothing empty is_open = record {
  turns = [];
  text = [];
  counted = refl;
  is_open = is_open;
  read = subst (λ (t : List ℕ). Gave before.incoming.left t before.incoming.left) (sym empty) (gave_nothing before.incoming.left);
  spelled = refl;
  stay = tt;
  told = nothing;
  wrote = took_nothing before.outgoing.written;
  reads = refl;
  ends = refl;
  faults = refl;
  stalls = refl;
}

-- what was read more
read_on : (a b c : Option (List ℕ)) (text here got : List ℕ) → Gave a (text ++ here) b → Gave b got c → Gave a (text ++ (here ++ got)) c
read_on a b c text here got first then =
    subst (λ (t : List ℕ). Gave a t c) (append_assoc text here got) (gave_both a (text ++ here) got b c first then)

read_message : (a b c : Option (List ℕ)) (text here got bytes held : List ℕ) → Gave a (text ++ here) b → Gave b got c → here ++ got ≡ bytes ++ held
    → Gave a ((text ++ bytes) ++ held) c
read_message a b c text here got bytes held first then parts =
    subst (λ (t : List ℕ). Gave a t c) (ap (λ (t : List ℕ). text ++ t) parts ∙ sym (append_assoc text bytes held)) (read_on a b c text here got first then)

wrote_nothing : (before after : Outgoing) → after ≡ before → WritesWhole {T = Unit {0}} before [] (Ok tt) after
wrote_nothing before after same =
    subst (λ (o : Outgoing). WritesWhole {T = Unit {0}} before [] (Ok tt) o) (sym same)
    (record { written = took_nothing before.written; faults = refl; stalls = refl })

-- behind all replies these bytes were written
sent_behind : (asked : List Exchange → Type 0) (before now after : Ends) (wire : WireState) (n : ℕ) (s : Serving asked before wire n now)
    (last : List ℕ) (result : Result (Unit {0}) WriteEnd) → WritesWhole now.outgoing last result after.outgoing
    → Sent before.outgoing (replies s.turns) last result after.outgoing
sent_behind asked before now after wire n s last result writes = record {
  between = now.outgoing;
  whole = s.wrote;
  faults = s.faults;
  stalls = s.stalls;
  writes = writes;
}

-- One message more was read and asked.
turns_more : (asked asked' : List Exchange → Type 0) (turns : List Turn) (t : Turn) → asked (exchanges_of turns)
    → ((es : List Exchange) → asked es → asked' (es ++ exchange_in t ∷ [])) → asked' (exchanges_of (turns ++ t ∷ []))
turns_more asked asked' turns t told more =
    subst asked' (sym (map-append exchange_in turns (t ∷ []))) (more (exchanges_of turns) told)

spelled_more : (turns : List Turn) (text bytes : List ℕ) (t : Turn) → Spells (messages_of turns) text → IsMessage bytes t.message
    → Spells (messages_of (turns ++ t ∷ [])) (text ++ bytes)
spelled_more turns text bytes t spelled is =
    subst (λ (ms : List Message). Spells ms (text ++ bytes)) (sym (map-append (λ (u : Turn). u.message) turns (t ∷ [])))
    (spells_more (messages_of turns) text bytes t.message spelled is)

counted_messages : (turns : List Turn) (n : ℕ) → length turns ≡ n → 0 + length (messages_of turns) ≡ n
counted_messages turns n counted = let len = length-map turns (λ (t : Turn). t.message) in omega (arith, len, counted)

stay_open : (turns : List Turn) (n : ℕ) (t : Turn) → length turns ≡ n → StayOpen 0 (messages_of turns) → closes n t.message ≡ false
    → StayOpen 0 (messages_of (turns ++ t ∷ []))
stay_open turns n t counted stay goes =
    subst (StayOpen 0) (sym (map-append (λ (u : Turn). u.message) turns (t ∷ [])))
    (stay_more (messages_of turns) 0 t.message stay (subst (λ k. closes k t.message ≡ false) (sym (counted_messages turns n counted)) goes))

others_stay : (turns : List Turn) (t : Turn) → StayOpen 0 (messages_of turns) → OthersStay (messages_of (turns ++ t ∷ []))
others_stay turns t stay = record {
  others = messages_of turns;
  last = t.message;
  parts = map-append (λ (u : Turn). u.message) turns (t ∷ []);
  stay = stay;
}

last_closes : (turns : List Turn) (n : ℕ) (t : Turn) → length turns ≡ n → StayOpen 0 (messages_of turns) → closes n t.message ≡ true
    → LastCloses (messages_of (turns ++ t ∷ []))
last_closes turns n t counted stay last = record {
  others = messages_of turns;
  last = t.message;
  parts = map-append (λ (u : Turn). u.message) turns (t ∷ []);
  stay = stay;
  closing = subst (λ k. closes k t.message ≡ true) (sym (length-map turns (λ (u : Turn). u.message) ∙ counted)) last;
}

-- a reply that doesn't close isn't the last one
pub not_last : (before : ℕ) (m : Message) → closes before m ≡ false → before < reply_limit → before + 1 < reply_limit
not_last before m goes few = let other = eqb-false (before + 1) reply_limit (or_parts m.close _ goes).1 in omega (arith, few, other)

-- what follows for exchanges where one more was told
abbrev pub Extends : (List Exchange → Type 0) → Message → (Told → Type 0) → (List Exchange → Type 0) → Type 0
Extends asked m is_told asked' =
    (told : Told) → is_told told → (es : List Exchange) → asked es → asked' (es ++ record { asked = m.asked; told = told } ∷ [])

-- One message more was answered, and its reply was written whole.
pub goes_on : (asked asked' : List Exchange → Type 0) (is_told : Told → Type 0) (before now then : Ends) (wire wire' : WireState) (n : ℕ) (m : Message)
    → closes n m ≡ false → Serving asked before wire n now → Reading wire now.incoming (Ok (Some m)) then.incoming wire'
    → Answers is_told (closes n m) now.outgoing (Ok tt) then.outgoing → Extends asked m is_told asked'
    → Serving asked' before wire' (n + 1) then
goes_on asked asked' is_told before now then wire wire' n m goes s reading answers extends =
    let t : Turn = record { message = m; told = answers.told } in
    let bytes = reading.answer.0 in
    record {
      turns = s.turns ++ t ∷ [];
      text = s.text ++ bytes;
      counted = omega (arith, s.counted, length-append s.turns (t ∷ []));
      is_open = reading.stays_open;
      read = read_message before.incoming.left now.incoming.left then.incoming.left s.text wire.held reading.got bytes wire'.held s.read reading.gave reading.answer.2;
      spelled = spelled_more s.turns s.text bytes t s.spelled reading.answer.1;
      stay = stay_open s.turns n t s.counted s.stay goes;
      told = turns_more asked asked' s.turns t s.told (extends answers.told answers.tells);
      wrote = subst (λ (r : List ℕ). Took before.outgoing.written r then.outgoing.written) (sym (replies_more n s.turns t s.counted))
          (took_both before.outgoing.written (replies s.turns) (reply_of n t) now.outgoing.written then.outgoing.written s.wrote answers.writes.written);
      reads = reading.faults ∙ s.reads;
      ends = reading.ends ∙ s.ends;
      faults = answers.writes.faults ∙ s.faults;
      stalls = answers.writes.stalls ∙ s.stalls;
    }

last_reply : (turns : List Turn) (n : ℕ) (t : Turn) → length turns ≡ n → IsLastReply (turns ++ t ∷ []) (replies turns) (reply_of n t)
last_reply turns n t counted = record {
  others = turns;
  turn = t;
  turns_are = refl;
  earlier_is = refl;
  last_is = ap (λ k. reply_of k t) (sym counted);
}

-- One message more was asked, and its reply wasn't written whole: a cause of which this is all that it says.
breaks_by : (asked asked' : List Exchange → Type 0) (is_told : Told → Type 0) (before now then : Ends) (wire wire' : WireState) (n : ℕ) (m : Message) (end : WriteEnd)
    → n < reply_limit → Serving asked before wire n now → Reading wire now.incoming (Ok (Some m)) then.incoming wire'
    → Answers is_told (closes n m) now.outgoing (Err end) then.outgoing → Extends asked m is_told asked'
    → (cause : Cause) → ((turns : List Turn) (earlier last : List ℕ) → OthersStay (messages_of turns) → IsLastReply turns earlier last → IsLast cause turns earlier last)
    → IsLastWrite cause (Err end) → ((rest : List ℕ) (left : Option (List ℕ)) → IsRest cause rest left)
    → ((a b : ℕ) → b ≡ a → CountsReads cause a b) → ((a b : ℕ) → b ≡ a → CountsEnds cause a b) → Connection asked' before (n + 1) cause then
breaks_by asked asked' is_told before now then wire wire' n m end few s reading answers extends cause is_last last_write is_rest reads ends =
    let t : Turn = record { message = m; told = answers.told } in
    let bytes = reading.answer.0 in
    record {
      turns = s.turns ++ t ∷ [];
      text = s.text ++ bytes;
      rest = wire'.held;
      earlier = replies s.turns;
      last = reply_of n t;
      result = Err end;
      read = read_message before.incoming.left now.incoming.left then.incoming.left s.text wire.held reading.got bytes wire'.held s.read reading.gave reading.answer.2;
      spelled = spelled_more s.turns s.text bytes t s.spelled reading.answer.1;
      told = turns_more asked asked' s.turns t s.told (extends answers.told answers.tells);
      counted = omega (arith, s.counted, length-append s.turns (t ∷ []));
      few = omega (arith, s.counted, few, length-append s.turns (t ∷ []));
      sent = sent_behind asked before now then wire n s (reply_of n t) (Err end) answers.writes;
      last_is = is_last (s.turns ++ t ∷ []) (replies s.turns) (reply_of n t) (others_stay s.turns t s.stay) (last_reply s.turns n t s.counted);
      last_write = last_write;
      rest_is = is_rest wire'.held then.incoming.left;
      reads = reads before.incoming.faults then.incoming.faults (reading.faults ∙ s.reads);
      ends = ends before.incoming.ends then.incoming.ends (reading.ends ∙ s.ends);
    }

pub breaks_off : (asked asked' : List Exchange → Type 0) (is_told : Told → Type 0) (before now then : Ends) (wire wire' : WireState) (n : ℕ) (m : Message) (end : WriteEnd)
    → n < reply_limit → Serving asked before wire n now → Reading wire now.incoming (Ok (Some m)) then.incoming wire'
    → Answers is_told (closes n m) now.outgoing (Err end) then.outgoing → Extends asked m is_told asked'
    → Connection asked' before (n + 1) (cause_of end) then
breaks_off asked asked' is_told before now then wire wire' n m write_ends.WriteFault few s reading answers extends =
    breaks_by asked asked' is_told before now then wire wire' n m write_ends.WriteFault few s reading answers extends causes.WriteFault
    (λ turns earlier last stay is. (stay, is)) refl (λ rest left. tt) (λ a b same. same) (λ a b same. same)
breaks_off asked asked' is_told before now then wire wire' n m write_ends.SinkTakesNothing few s reading answers extends =
    breaks_by asked asked' is_told before now then wire wire' n m write_ends.SinkTakesNothing few s reading answers extends causes.SinkTakesNothing
    (λ turns earlier last stay is. inl (stay, is)) refl (λ rest left. tt) (λ a b same. same) (λ a b same. same)

-- All replies went out whole, and then the cause's closing bytes were written, as far as they were.
closes_by : (asked : List Exchange → Type 0) (before now after : Ends) (wire : WireState) (n : ℕ) → n ≤ reply_limit
    → (s : Serving asked before wire n now) (got : List ℕ) → Gave now.incoming.left got after.incoming.left
    → (cause : Cause) (last : List ℕ) (result : Result (Unit {0}) WriteEnd) → WritesWhole now.outgoing last result after.outgoing
    → IsLast cause s.turns (replies s.turns) last → IsLastWrite cause result → IsRest cause (wire.held ++ got) after.incoming.left
    → CountsReads cause before.incoming.faults after.incoming.faults → CountsEnds cause before.incoming.ends after.incoming.ends → Connection asked before n cause after
closes_by asked before now after wire n few s got gave cause last result writes last_is last_write rest_is reads ends = record {
  turns = s.turns;
  text = s.text;
  rest = wire.held ++ got;
  earlier = replies s.turns;
  last = last;
  result = result;
  read = read_on before.incoming.left now.incoming.left after.incoming.left s.text wire.held got s.read gave;
  spelled = s.spelled;
  told = s.told;
  counted = omega (arith, s.counted);
  few = omega (arith, s.counted, few);
  sent = sent_behind asked before now after wire n s last result writes;
  last_is = last_is;
  last_write = last_write;
  rest_is = rest_is;
  reads = reads;
  ends = ends;
}

-- The input was read to its end.
pub ended : (asked : List Exchange → Type 0) (before now after : Ends) (wire wire' : WireState) (n : ℕ) → n < reply_limit
    → Serving asked before wire n now → Reading wire now.incoming (Ok None) after.incoming wire' → after.outgoing ≡ now.outgoing
    → Connection asked before n causes.End after
ended asked before now after wire wire' n few s reading same =
    closes_by asked before now after wire n (omega (arith, few)) s reading.got reading.gave causes.End [] (Ok tt) (wrote_nothing now.outgoing after.outgoing same)
    (s.stay, (refl, refl)) refl (reading.answer.0, reading.answer.2) (reading.faults ∙ s.reads) (reading.ends ∙ ap counted s.ends)

-- One message more was answered, which closes the connection, and its reply was written whole.
pub finished : (asked asked' : List Exchange → Type 0) (is_told : Told → Type 0) (before now then : Ends) (wire wire' : WireState) (n : ℕ) (m : Message)
    → n < reply_limit → closes n m ≡ true → Serving asked before wire n now → Reading wire now.incoming (Ok (Some m)) then.incoming wire'
    → length wire'.held ≤ head_limit → Answers is_told (closes n m) now.outgoing (Ok tt) then.outgoing → Extends asked m is_told asked'
    → Connection asked' before (n + 1) causes.Closed then
finished asked asked' is_told before now then wire wire' n m few last s reading short answers extends =
    let t : Turn = record { message = m; told = answers.told } in
    let bytes = reading.answer.0 in
    record {
      turns = s.turns ++ t ∷ [];
      text = s.text ++ bytes;
      rest = wire'.held;
      earlier = replies (s.turns ++ t ∷ []);
      last = [];
      result = Ok tt;
      read = read_message before.incoming.left now.incoming.left then.incoming.left s.text wire.held reading.got bytes wire'.held s.read reading.gave reading.answer.2;
      spelled = spelled_more s.turns s.text bytes t s.spelled reading.answer.1;
      told = turns_more asked asked' s.turns t s.told (extends answers.told answers.tells);
      counted = omega (arith, s.counted, length-append s.turns (t ∷ []));
      few = omega (arith, s.counted, few, length-append s.turns (t ∷ []));
      sent = record {
        between = then.outgoing;
        whole = subst (λ (r : List ℕ). Took before.outgoing.written r then.outgoing.written) (sym (replies_more n s.turns t s.counted))
            (took_both before.outgoing.written (replies s.turns) (reply_of n t) now.outgoing.written then.outgoing.written s.wrote answers.writes.written);
        faults = answers.writes.faults ∙ s.faults;
        stalls = answers.writes.stalls ∙ s.stalls;
        writes = wrote_nothing then.outgoing then.outgoing refl;
      };
      last_is = (last_closes s.turns n t s.counted s.stay last, (refl, refl));
      last_write = refl;
      rest_is = short;
      reads = reading.faults ∙ s.reads;
      ends = reading.ends ∙ s.ends;
    }

-- The wire answered a fault, and the connection is closed.
pub closed : (asked : List Exchange → Type 0) (before now after : Ends) (wire wire' : WireState) (n : ℕ) (fault : WireFault) (cause : Cause) → n < reply_limit
    → Serving asked before wire n now → Reading wire now.incoming (Err fault) after.incoming wire' → Closes fault cause now.outgoing after.outgoing
    → Connection asked before n cause after
closed asked before now after wire wire' n (faults.CutShort have) cause few s reading how =
    subst (λ (k : Cause). Connection asked before n k after) (sym how.1.0)
    (closes_by asked before now after wire n (omega (arith, few)) s reading.got reading.gave (causes.Wire (faults.CutShort have)) [] (Ok tt)
    (wrote_nothing now.outgoing after.outgoing how.1.1.1) (s.stay, (refl, refl)) tt reading.answer (reading.faults ∙ s.reads) (reading.ends ∙ ap counted s.ends))
closed asked before now after wire wire' n faults.ReadFault cause few s reading how =
    subst (λ (k : Cause). Connection asked before n k after) (sym how.1.0)
    (closes_by asked before now after wire n (omega (arith, few)) s reading.got reading.gave causes.ReadFault [] (Ok tt)
    (wrote_nothing now.outgoing after.outgoing how.1.1.1) (s.stay, (refl, refl)) refl reading.answer
    (subst (λ (k : ℕ). (k ≤ after.incoming.faults) × Rose k after.incoming.faults) s.reads reading.faults) (reading.ends ∙ s.ends))
closed asked before now after wire wire' n faults.Memory cause few s reading how =
    out_of_memory asked before now after wire n cause how.0 few s reading.got reading.gave (reading.faults ∙ s.reads) (reading.ends ∙ s.ends) how.1.0 how.1.1
  where
    out_of_memory : (asked : List Exchange → Type 0) (before now after : Ends) (wire : WireState) (n : ℕ) (cause : Cause) (result : Result (Unit {0}) WriteEnd)
        → n < reply_limit → Serving asked before wire n now → (got : List ℕ) → Gave now.incoming.left got after.incoming.left
        → after.incoming.faults ≡ before.incoming.faults → after.incoming.ends ≡ before.incoming.ends → WritesWhole now.outgoing closing_standin result after.outgoing
        → ((cause ≡ causes.Memory) × (result ≢ Err write_ends.SinkTakesNothing)) ⊎ ((cause ≡ causes.SinkTakesNothing) × (result ≡ Err write_ends.SinkTakesNothing))
        → Connection asked before n cause after
    out_of_memory asked before now after wire n cause result few s got gave reads ends writes (inl memory) =
        subst (λ (k : Cause). Connection asked before n k after) (sym memory.0)
        (closes_by asked before now after wire n (omega (arith, few)) s got gave causes.Memory closing_standin result writes (s.stay, (refl, refl)) memory.1 tt reads ends)
    out_of_memory asked before now after wire n cause result few s got gave reads ends writes (inr stall) =
        subst (λ (k : Cause). Connection asked before n k after) (sym stall.0)
        (closes_by asked before now after wire n (omega (arith, few)) s got gave causes.SinkTakesNothing closing_standin result writes (inr (s.stay, (refl, refl))) stall.1 tt reads ends)
closed asked before now after wire wire' n fault cause few s reading how =
    subst (λ (k : Cause). Connection asked before n k after) (sym how.1.0)
    (closes_by asked before now after wire n (omega (arith, few)) s reading.got reading.gave (causes.Wire fault) (row_of (causes.Wire fault)).closing how.0
    how.1.1 (s.stay, (refl, refl)) tt (reading.answer.0, tt) (reading.faults ∙ s.reads) (reading.ends ∙ s.ends))

-- the answer's number and cause
pub answered : {asked : List Exchange → Type 0} {before : Ends} {calls n : ℕ} {cause k : Cause} {after : Ends} → calls ≡ n → cause ≡ k
    → Connection asked before n k after → Connection asked before calls cause after
answered {asked} {before} {calls} {n} {cause} {k} {after} many is c =
    subst (λ (m : ℕ). Connection asked before m cause after) (sym many)
    (subst (λ (j : Cause). Connection asked before n j after) (sym is) c)

-- ---- over the ends between a read and a write

pub reading_to : (wire wire' : WireState) (had mid then : Incoming) (result : Result (Option Message) WireFault) → then ≡ mid
    → Reading wire had result mid wire' → Reading wire had result then wire'
reading_to wire wire' had mid then result same reading = subst (λ (i : Incoming). Reading wire had result i wire') (sym same) reading

pub answers_from : (is_told : Told → Type 0) (close close' : Bool) (now mid then : Outgoing) (result : Result (Unit {0}) WriteEnd) → close ≡ close'
    → mid ≡ now → Answers is_told close mid result then → Answers is_told close' now result then
answers_from is_told close close' now mid then result flag same answers =
    subst (λ (o : Outgoing). Answers is_told close' o result then) same (subst (λ (b : Bool). Answers is_told b mid result then) flag answers)

pub closes_from : (fault : WireFault) (cause : Cause) (now mid then : Outgoing) → mid ≡ now → Closes fault cause mid then → Closes fault cause now then
closes_from fault cause now mid then same how = subst (λ (o : Outgoing). Closes fault cause o then) same how

-- ---- what a teller stands for

pub stands_nothing : {T : Type 0} (stands : T → T → List Exchange → Type 0) (a first : T) (before : List Exchange) → stands first a before
    → stands first a (before ++ [])
stands_nothing stands a first before stood = subst (stands first a) (sym (append-nil before)) stood

pub stands_more : {T : Type 0} (stands : T → T → List Exchange → Type 0) (a b c : T) (m : Message)
    → Extends (λ es. (first : T) (before : List Exchange) → stands first a before → stands first b (before ++ es)) m
    (λ told. (first : T) (before : List Exchange) → stands first b before → stands first c (before ++ record { asked = m.asked; told = told } ∷ []))
    (λ es. (first : T) (before : List Exchange) → stands first a before → stands first c (before ++ es))
stands_more stands a b c m told tells es asked first before stood =
    subst (stands first c) (append_assoc before es (record { asked = m.asked; told = told } ∷ [])) (tells first (before ++ es) (asked first before stood))

-- who stood for something stands for it with all that was asked since
pub stands_on : {T : Type 0} (stands : T → T → List Exchange → Type 0) (a b : T) (es : List Exchange) → StandsForSome stands a
    → ((first : T) (before : List Exchange) → stands first a before → stands first b (before ++ es)) → StandsForSome stands b
stands_on stands a b es stood asked = (stood.0, stood.1 ++ es, asked stood.0 stood.1 stood.2)
