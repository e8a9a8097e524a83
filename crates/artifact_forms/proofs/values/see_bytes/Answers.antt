use Rattle.std.proofs.Common.{arith}
use Rattle.artifact_forms.proofs.values.see_bytes.Goals as goal

pub returns : goal.returns
returns c i = omega (arith, c.type_inv.bytes i)
