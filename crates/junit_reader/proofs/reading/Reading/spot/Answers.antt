use Rattle.std.proofs.Common.{◌≡◌, length, sym, ap, ◌∙◌}
use Rattle.junit_parts.specs.Tree.{depth_of}
use Rattle.junit_reader.proofs.StandingLemmas.{length_opens, length_texts, spot_is}
use Rattle.junit_reader.proofs.reading.Reading.spot.Goals as goal

pub returns : goal.returns
returns c = λ u stands.
    let deep : length c.as_slice.result.now ≡ depth_of u = ap length c.as_slice.ensures.value ∙ sym (length_texts c.args.self.now.opened.items) ∙ ap length stands.open_is ∙ length_opens u in
    spot_is _ _ _ _ _ _ (c.role.ensures u stands) stands.root deep
