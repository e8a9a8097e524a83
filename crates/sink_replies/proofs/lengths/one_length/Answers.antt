use Rattle.std.proofs.Common.{◌≡◌, ℕ, List, length, sym, ap, arith, Bor}
use Rattle.sink_replies.specs.Found.{IsFound}
use Rattle.sink_replies.specs.Replies.{IsOneLength}
use Rattle.sink_replies.specs.declared.lengths.Found.{Found}
use Rattle.sink_replies.specs.declared.lengths.Found.TheVariants.{Absent, Once, Again}
use Rattle.sink_replies.proofs.lengths.one_length.Goals as goal

pub returns-in-Once : goal.returns-in-Once
returns-in-Once c =
    let e = rw c.in-Once.is at c.lengths_in.ensures in
    rw e c.said_length.ensures

-- no value, and several, are not one
not_one : (found : Found) (values : List (List ℕ)) (len : ℕ) → IsFound found values
    → ((x : Bor (List ℕ)) → found ≡ Once x → ⊥) → IsOneLength values len → ⊥
not_one Absent values len x other one = let some = ap length (sym x) in let n = ap length one.alone in absurd (omega (arith, some, n))
not_one (Once v) values len x other one = other v (λ i. Once v)
not_one Again values len x other one = let n = ap length one.alone in absurd (omega (arith, x, n))

pub returns-in_default : goal.returns-in_default
returns-in_default c len one = not_one c.lengths_in.result _ len c.lengths_in.ensures c.in_default.not-Once one
