use Rattle.std.proofs.Common.{◌++◌, sym, ap, ◌∙◌, refl, List, ℕ, append-nil, string_bytes, encode_utf8_all}
use Rattle.std.proofs.lemmas.Str.{IsUtf8-past_char}
use Rattle.report_ids.proofs.NameLemmas.{front_end, front_step, front_stop, room_end, room_step}
use Rattle.report_ids.proofs.test_names.append_shown.Goals as goal

pub returns-then-len-left-clause-front : goal.returns-then-len-left-clause-front
returns-then-len-left-clause-front c =
    let out = string_bytes c.loop-c.out in
    let stop = front_stop c.loop-c.c-iterator.rest.now c.next.new.self.rest.now c.in-Some.c c.shown-c.result c.len_utf8-len.result c.loop-c.left c.loop-c.invariant.valid c.in-Some.ensures.steps.0 c.shown-c.ensures c.len_utf8-len.ensures.value c.if-len-left.true in
    sym (append-nil out) ∙ ap (λ (cs : List ℕ). out ++ encode_utf8_all cs) (sym stop.0) ∙ c.loop-c.invariant.front

pub returns-then-len-left-clause-left : goal.returns-then-len-left-clause-left
returns-then-len-left-clause-left c =
    let stop = front_stop c.loop-c.c-iterator.rest.now c.next.new.self.rest.now c.in-Some.c c.shown-c.result c.len_utf8-len.result c.loop-c.left c.loop-c.invariant.valid c.in-Some.ensures.steps.0 c.shown-c.ensures c.len_utf8-len.ensures.value c.if-len-left.true in
    sym stop.1 ∙ c.loop-c.invariant.left

pub loop-c-preserved : goal.loop-c-preserved
loop-c-preserved c =
    let text = c.loop-c.c-iterator.rest.now in
    let rest = c.next.new.self.rest.now in
    let old = c.loop-c.invariant in
    record {
      valid = IsUtf8-past_char text rest c.in-Some.c old.valid c.in-Some.ensures.steps.0;
      front = front_step (string_bytes c.loop-c.out) (string_bytes c.push.new.self) text rest c.in-Some.c c.shown-c.result c.len_utf8-len.result c.loop-c.left _ old.valid c.in-Some.ensures.steps.0 c.shown-c.ensures c.len_utf8-len.ensures.value c.if-len-left.false refl c.in_ok-push.ensures.bytes ∙ old.front;
      left = room_step text rest c.in-Some.c c.shown-c.result c.len_utf8-len.result c.loop-c.left _ old.valid c.in-Some.ensures.steps.0 c.shown-c.ensures c.len_utf8-len.ensures.value c.if-len-left.false refl ∙ old.left;
    }

pub returns-clause-front : goal.returns-clause-front
returns-clause-front c =
    front_end (string_bytes c.loop-c.out) c.loop-c.c-iterator.rest.now c.loop-c.left c.in-None.ensures.steps.0.0 ∙ c.loop-c.invariant.front

pub returns-clause-left : goal.returns-clause-left
returns-clause-left c = room_end c.loop-c.c-iterator.rest.now c.loop-c.left c.in-None.ensures.steps.0.0 ∙ c.loop-c.invariant.left
