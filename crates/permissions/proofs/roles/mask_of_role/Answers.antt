use Rattle.std.proofs.Common.{◌<◌, length, sym, ap, ◌∙◌, arith}
use Rattle.std.specs.List.{list_any}
use Rattle.std.proofs.lemmas.List.{length-map}
use Rattle.policy_checks.specs.Checks.{role_names}
use Rattle.policy_checks.specs.Permissions.{permission_of}
use Rattle.permissions.specs.Allows.{is_permission}
use Rattle.permissions.specs.Masks.{has_bit}
use Rattle.permissions.proofs.GrantLemmas.{has_bit-zero}
use Rattle.policy_checks.proofs.PlaceLemmas.{place_of-within, role_place, role_none}
use Rattle.permissions.proofs.roles.mask_of_role.Goals as goal

pub returns-in-Some : goal.returns-in-Some
returns-in-Some c = λ p.
    let t = c.args.book.now in
    let place = c.in-Some.place in
    let within : place < length t.roles = omega (arith, length-map t.roles (λ r. r.name), place_of-within c.args.name.now (role_names t) place (sym c.in-Some.ensures)) in
    ap (λ m. has_bit m p) c.mask_at.ensures
    ∙ c.requires.same place p within
    ∙ ap (λ xs. list_any (λ x. is_permission p (permission_of x)) xs) (role_place c.args.name.now t.roles place (sym c.in-Some.ensures))

pub returns-in-None : goal.returns-in-None
returns-in-None c = λ p.
    has_bit-zero p ∙ ap (λ xs. list_any (λ x. is_permission p (permission_of x)) xs) (role_none c.args.name.now c.args.book.now.roles (sym c.in-None.ensures))
