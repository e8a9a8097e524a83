use Rattle.std.proofs.Common.{◌≡◌, ◌+◌, ◌<◌, ◌≤◌, length, arith, ap, refl}
use Rattle.std.specs.Prelude.{vec_len, vec_capacity}
use Rattle.dialers.proofs.memory.MemoryLinks.keep.Goals as goal

pub overflow_sub-self : goal.overflow_sub-self
overflow_sub-self g c =
    let some : 0 < c.args.self.now.out = c.requires c.args.self.now.out refl in
    let same : c.self.inside.out ≡ c.args.self.now.out = ap (λ d. d.out) c.self.view_is in
    omega (arith, some, same)

pub push_reserved-requires : goal.push_reserved-requires
push_reserved-requires g c =
    let some : 0 < c.args.self.now.out = c.requires c.args.self.now.out refl in
    let same : c.self.inside.out ≡ c.args.self.now.out = ap (λ d. d.out) c.self.view_is in
    let fits : length c.self.inside.coming.items + c.self.inside.out + vec_len c.self.inside.returned ≤ vec_capacity c.self.inside.returned = c.self.invariant in
    omega (arith, some, same, fits)

pub invariant_of-self : goal.invariant_of-self
invariant_of-self g c =
    let some : 0 < c.args.self.now.out = c.requires c.args.self.now.out refl in
    let same : c.self.inside.out ≡ c.args.self.now.out = ap (λ d. d.out) c.self.view_is in
    let fits : length c.self.inside.coming.items + c.self.inside.out + vec_len c.self.inside.returned ≤ vec_capacity c.self.inside.returned = c.self.invariant in
    omega (arith, some, same, fits, c.push_reserved.ensures.len, c.push_reserved.ensures.capacity)
