use Rattle.std.proofs.Common.{refl, ap, ◌∙◌, rules}
use Rattle.std.specs.List.{concat}
use Rattle.outside.specs.Pieces.{pieces_after}
use Rattle.outside.proofs.FirstPiece.{gave_of_first, nothing_given}
use Rattle.outside.proofs.memory.link.MemoryLinkLink.read.Goals as goal

pub returns-in-Works-clause-read : goal.returns-in-Works-clause-read
returns-in-Works-clause-read c =
    let after = c.give-count.ensures.rest in
    record {
      bound = search rules;
      cause = search rules;
      gives = rw (← c.self.view_is) (
        (_, refl, rw after (gave_of_first _ _ c.give-count.result c.give-count.ensures.given)),
        λ none some. ap concat (after ∙ ap (pieces_after c.give-count.result) (c.give-count.ensures.end (nothing_given _ _ _ c.give-count.ensures.count none some))),
      );
      ends = search rules;
    }
