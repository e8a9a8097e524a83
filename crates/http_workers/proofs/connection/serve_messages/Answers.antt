use Rattle.std.proofs.Common.{◌≡◌, false, sym, ◌∙◌}
use Rattle.http_wire.specs.Stream.{closes}
use Rattle.http_workers.proofs.Serving.{answered, goes_on, breaks_off, ended, finished, closed, not_last, reading_to, answers_from, closes_from, stands_more, stands_on}
use Rattle.http_workers.proofs.connection.serve_messages.Goals as goal

pub answer_message-requires : goal.answer_message-requires
answer_message-requires g c =
    stands_on g.T.Teller.stands c.args.teller.now c.messages.teller _ c.requires.stands c.messages.invariant.serving.told

pub returns-in-Err-answer_message-clause-connection : goal.returns-in-Err-answer_message-clause-connection
returns-in-Err-answer_message-clause-connection g c =
    let s = c.messages.invariant.serving in
    let m = c.in-Ok-Some.message in
    let reading = rw c.in-Ok-Some.field-0-is at (c.in-Ok-Some.ensures.reading s.is_open) in
    answered c.ended.ensures.calls (c.ended.ensures.cause ∙ c.from.ensures)
    (breaks_off _ _ _ _ _ _ _ _ _ m c.in-Err-answer_message.end c.messages.invariant.few s
    (reading_to _ _ _ _ _ _ c.answer_message.ensures.only reading)
    (answers_from _ _ _ _ _ _ _ c.closes-close.ensures c.next.ensures.only c.in-Err-answer_message.ensures.answers)
    (stands_more g.T.Teller.stands c.args.teller.now c.messages.teller c.answer_message.new.teller m))

pub returns-then-close-clause-connection : goal.returns-then-close-clause-connection
returns-then-close-clause-connection g c =
    let s = c.messages.invariant.serving in
    let m = c.in-Ok-Some.message in
    let reading = rw c.in-Ok-Some.field-0-is at (c.in-Ok-Some.ensures.reading s.is_open) in
    answered c.ended-then-close.ensures.calls c.ended-then-close.ensures.cause
    (finished _ _ _ _ _ _ _ _ _ m c.messages.invariant.few (sym c.closes-close.ensures ∙ c.if-close.true) s
    (reading_to _ _ _ _ _ _ c.answer_message.ensures.only reading) c.in-Ok-Some.ensures.bounded
    (answers_from _ _ _ _ _ _ _ c.closes-close.ensures c.next.ensures.only c.in_default.ensures.answers)
    (stands_more g.T.Teller.stands c.args.teller.now c.messages.teller c.answer_message.new.teller m))

pub returns-in-Ok-None-clause-connection : goal.returns-in-Ok-None-clause-connection
returns-in-Ok-None-clause-connection g c =
    let s = c.messages.invariant.serving in
    let reading = rw c.in-Ok-None.field-0-is at (c.in-Ok-None.ensures.reading s.is_open) in
    answered c.ended-in-Ok-None.ensures.calls c.ended-in-Ok-None.ensures.cause
    (ended _ _ _ _ _ _ _ c.messages.invariant.few s reading c.next.ensures.only)

pub returns-in-Err-clause-connection : goal.returns-in-Err-clause-connection
returns-in-Err-clause-connection g c =
    let s = c.messages.invariant.serving in
    let reading = c.in-Err.ensures.reading s.is_open in
    answered c.ended-in-Err.ensures.calls c.ended-in-Err.ensures.cause
    (closed _ _ _ _ _ _ _ _ _ c.messages.invariant.few s (reading_to _ _ _ _ _ _ c.close_after.ensures.only reading)
    (closes_from _ _ _ _ _ c.next.ensures.only c.close_after.ensures.closes))

pub messages-preserved : goal.messages-preserved
messages-preserved g c =
    let s = c.messages.invariant.serving in
    let m = c.in-Ok-Some.message in
    let goes : closes c.messages.answered m ≡ false = sym c.closes-close.ensures ∙ c.if-close.false in
    let reading = rw c.in-Ok-Some.field-0-is at (c.in-Ok-Some.ensures.reading s.is_open) in
    record {
      few = not_last c.messages.answered m goes c.messages.invariant.few;
      serving = goes_on _ _ _ _ _ _ _ _ _ m goes s (reading_to _ _ _ _ _ _ c.answer_message.ensures.only reading)
          (answers_from _ _ _ _ _ _ _ c.closes-close.ensures c.next.ensures.only c.in_default.ensures.answers)
          (stands_more g.T.Teller.stands c.args.teller.now c.messages.teller c.answer_message.new.teller m);
      teller_holds = c.answer_message.ensures.teller_holds ∙ c.messages.invariant.teller_holds;
      link_holds = c.answer_message.ensures.link_holds ∙ c.next.ensures.holds ∙ c.messages.invariant.link_holds;
    }
