use Rattle.std.proofs.Common.{◌≡◌, ap, refl}
use Rattle.junit_parts.specs.Cases.{role_in, role_of}
use Rattle.junit_reader.specs.Standing.{opens}
use Rattle.junit_reader.proofs.StandingLemmas.{closed_for, popped}
use Rattle.junit_reader.proofs.reading.Reading.close_element.Goals as goal

pub returns-in_ok-end_role-in-Some : goal.returns-in_ok-end_role-in-Some
returns-in_ok-end_role-in-Some c = λ outer left tag content end stands.
    let o = c.in-Some.element in
    let parts = popped c.args.self.now.opened.items c.pop.new.self.items o (opens outer) (tag.name, role_in (role_of outer) tag.name) c.in-Some.ensures.items stands.open_is in
    let named : o.name.now ≡ tag.name = ap (λ x. x.0) parts.1 in
    let is : o.role ≡ role_in (role_of outer) tag.name = ap (λ x. x.1) parts.1 in
    closed_for c.args.self.now _ outer left tag content end o.role o.name.now stands is named c.in_ok-end_role-in-Some.ensures parts.0 refl
