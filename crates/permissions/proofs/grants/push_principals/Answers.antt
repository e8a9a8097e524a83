use Rattle.std.proofs.Common.{arith}
use Rattle.permissions.specs.Allows.{gives}
use Rattle.permissions.specs.Grants.{granted}
use Rattle.permissions.specs.Masks.{has_bit}
use Rattle.permissions.proofs.GrantLemmas.{principals_more}
use Rattle.permissions.proofs.grants.push_principals.Goals as goal

pub loop-text-preserved : goal.loop-text-preserved
loop-text-preserved c = λ u p.
    let t = c.args.book.now in
    principals_more (gives t u) c.args.texts.now c.loop-text.text-index c.text-item.result (granted t u p c.args.grants.now) (granted t u p c.loop-text.grants)
    (granted t u p c.push_principal.new.grants) (has_bit c.args.mask p) (omega arith) c.text-item.is (c.loop-text.invariant u p)
    (rw c.as_slice.ensures at c.in_ok-push_principal.ensures u p)
