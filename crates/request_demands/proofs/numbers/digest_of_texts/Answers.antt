use Rattle.std.proofs.Common.{ap, ◌∙◌, append_assoc}
use Rattle.sha2.specs.Sha256.{sha256}
use Rattle.request_demands.proofs.numbers.digest_of_texts.Goals as goal

pub returns : goal.returns
returns c =
    let held = c.update-5.ensures _ (c.update-4.ensures _ (c.update-3.ensures _ (c.update-2.ensures _ (c.update.ensures _ c.new-hasher.ensures)))) in
    c.finalize.ensures _ held ∙ ap sha256 (simp append_assoc)
