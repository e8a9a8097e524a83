use Rattle.std.proofs.Common.{◌≡◌, ◌++◌, ◌-◌, length, take, ap, ◌∙◌}
use Rattle.junit_reader.proofs.FrontLemmas.{front_grows}
use Rattle.junit_reader.proofs.fronts.push_front.Goals as goal

pub returns : goal.returns
returns c = λ text is.
    let kept = c.args.kept.now.items in
    let more = c.args.more.now in
    let room : c.saturating_sub-room.result ≡ 1025 - length kept = c.saturating_sub-room.ensures ∙ ap (λ b. 1025 - length b) c.as_slice.ensures.value in
    c.in_ok-extend_from_slice.ensures.items ∙ ap (λ k. kept ++ take k more) c.min.ensures ∙ front_grows kept text more c.saturating_sub-room.result is room
