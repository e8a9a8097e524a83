use Rattle.permissions.proofs.GrantLemmas.{has_bit-zero}
use Rattle.permissions.proofs.roles.mask_of.Goals as goal

pub loop-text-init : goal.loop-text-init
loop-text-init c = has_bit-zero
