use Rattle.std.proofs.Common.{◌≡◌, ◌||◌, length, codes}
use Rattle.std.specs.List.{list_all}
use Rattle.invocation_forms.specs.Masks.{pieces, can_be_updated, names}
use Rattle.invocation_forms.proofs.masks.mask_of.Given as goal

abbrev pub invariant-pieces : goal.invariant-pieces
invariant-pieces l = record {
  all : list_all can_be_updated (pieces l.fn.text) ≡ list_all can_be_updated (pieces l.left);
  deadline : names l.fn.text (codes "deadline") ≡ (l.mask.deadline || names l.left (codes "deadline"));
  tags : names l.fn.text (codes "tags") ≡ (l.mask.tags || names l.left (codes "tags"));
}

abbrev pub decreases-pieces : goal.decreases-pieces
decreases-pieces l = length l.left
