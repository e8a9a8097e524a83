-- One try of a request: it is written, and its reply read.
use Rattle.std.proofs.Common.{◌≡◌, ◌≢◌, ℕ, List, [], Result, Ok, Err, refl, sym, ap, subst, inl, inr}
use Rattle.outside.specs.Ends.{Ends, OnlyReads, OnlyWrites}
use Rattle.outside.specs.Whole.{WritesWhole}
use Rattle.outside.specs.declared.whole.WriteEnd.TheVariants.{WriteFault, SinkTakesNothing}
use Rattle.outside.proofs.Taken.{gave_nothing}
use Rattle.sink_replies.specs.Reading.{ReadsReply}
use Rattle.sink_replies.specs.declared.reads.ReplyEnd.TheVariants as reply
use Rattle.sink_uploads.specs.Tries.{Tries}
use Rattle.sink_uploads.specs.declared.visit.Parting.TheVariants.{Fault, End, Refused, BadReply}

-- A request that was written, and then a read that left what was written as it was.
pub record Wrote (request : List ℕ) (before between after : Ends) : Type 0 where
  pub written : WritesWhole {T = Unit {0}} before.outgoing request (Ok tt) between.outgoing
  pub only_written : OnlyWrites before between
  pub only_read : OnlyReads between after

whole : (request : List ℕ) (before between after : Ends) → Wrote request before between after
    → WritesWhole {T = Unit {0}} before.outgoing request (Ok tt) after.outgoing
whole request before between after w =
    subst (λ z. WritesWhole {T = Unit {0}} before.outgoing request (Ok tt) z) (sym w.only_read) w.written

reply_from : (request held now : List ℕ) (before between after : Ends) (r : Result ℕ reply.the_data) → Wrote request before between after
    → ReadsReply held between.incoming r now after.incoming → ReadsReply held before.incoming r now after.incoming
reply_from request held now before between after r w x =
    subst (λ z. ReadsReply held z r now after.incoming) w.only_written x

pub answered : {T : Type 0} (request held now : List ℕ) (before between after : Ends) (done : T) (status : ℕ) → Wrote request before between after
    → status ≡ 200 → ReadsReply held between.incoming (Ok status) now after.incoming → Tries {T = T} request held before (Ok done) now after
answered request held now before between after done status w is x =
    let y = reply_from request held now before between after (Ok 200) w (subst (λ s. ReadsReply held between.incoming (Ok s) now after.incoming) is x) in
    let z = whole request before between after w in
    record {
      part = request;
      got = y.got;
      took = z.written;
      gave = y.gave;
      answer = (refl, y.answer, record { reads = y.faults; ends = y.ends; writes = z.faults; stalls = z.stalls });
    }

pub refused : {T : Type 0} (request held now : List ℕ) (before between after : Ends) (status : ℕ) → Wrote request before between after
    → status ≢ 200 → ReadsReply held between.incoming (Ok status) now after.incoming
    → Tries {T = T} request held before (Err (Refused status)) now after
refused request held now before between after status w other x =
    let y = reply_from request held now before between after (Ok status) w x in
    let z = whole request before between after w in
    record {
      part = request;
      got = y.got;
      took = z.written;
      gave = y.gave;
      answer = record {
        whole = refl;
        others = now;
        reply = y.answer;
        other = other;
        quiet = record { reads = y.faults; ends = y.ends; writes = z.faults; stalls = z.stalls };
      };
    }

pub ended : {T : Type 0} (request held now : List ℕ) (before between after : Ends) → Wrote request before between after
    → ReadsReply held between.incoming (Err reply.Ended) now after.incoming → Tries {T = T} request held before (Err End) now after
ended request held now before between after w x =
    let y = reply_from request held now before between after (Err reply.Ended) w x in
    let z = whole request before between after w in
    record {
      part = request;
      got = y.got;
      took = z.written;
      gave = y.gave;
      answer = inr (record {
        whole = refl;
        unfinished = y.answer.0;
        at_end = y.answer.1;
        reads = y.faults;
        ends = y.ends;
        writes = z.faults;
        stalls = z.stalls;
      });
    }

pub read_failed : {T : Type 0} (request held now : List ℕ) (before between after : Ends) → Wrote request before between after
    → ReadsReply held between.incoming (Err reply.ReadFault) now after.incoming → Tries {T = T} request held before (Err Fault) now after
read_failed request held now before between after w x =
    let y = reply_from request held now before between after (Err reply.ReadFault) w x in
    let z = whole request before between after w in
    record {
      part = request;
      got = y.got;
      took = z.written;
      gave = y.gave;
      answer = inr (record {
        whole = refl;
        unfinished = y.answer;
        reads = y.faults;
        ends = y.ends;
        writes = z.faults;
        stalls = z.stalls;
      });
    }

pub badly : {T : Type 0} (request held now : List ℕ) (before between after : Ends) (end : ℕ) → Wrote request before between after
    → ReadsReply held between.incoming (Err (reply.BadReply end)) now after.incoming
    → Tries {T = T} request held before (Err (BadReply end)) now after
badly request held now before between after end w x =
    let y = reply_from request held now before between after (Err (reply.BadReply end)) w x in
    let z = whole request before between after w in
    record {
      part = request;
      got = y.got;
      took = z.written;
      gave = y.gave;
      answer = record {
        whole = refl;
        within = y.answer.0;
        bad = y.answer.1;
        quiet = record { reads = y.faults; ends = y.ends; writes = z.faults; stalls = z.stalls };
      };
    }

pub write_failed : {T : Type 0} (request held : List ℕ) (before after : Ends) → OnlyWrites before after
    → WritesWhole {T = Unit {0}} before.outgoing request (Err WriteFault) after.outgoing
    → Tries {T = T} request held before (Err Fault) held after
write_failed request held before after only w = record {
  part = w.written.front;
  got = [];
  took = w.written.took;
  gave = rw only (gave_nothing before.incoming.left);
  answer = inl (record {
    behind = w.written.rest;
    front = w.written.parts;
    reads = ap (λ i. i.faults) only;
    ends = ap (λ i. i.ends) only;
    writes = w.faults;
    stalls = w.stalls;
  });
}

pub took_nothing : {T : Type 0} (request held : List ℕ) (before after : Ends) → OnlyWrites before after
    → WritesWhole {T = Unit {0}} before.outgoing request (Err SinkTakesNothing) after.outgoing
    → Tries {T = T} request held before (Err End) held after
took_nothing request held before after only w = record {
  part = w.written.front;
  got = [];
  took = w.written.took;
  gave = rw only (gave_nothing before.incoming.left);
  answer = inl (record {
    behind = w.written.rest;
    front = w.written.parts;
    reads = ap (λ i. i.faults) only;
    ends = ap (λ i. i.ends) only;
    writes = w.faults;
    stalls = w.stalls;
  });
}
