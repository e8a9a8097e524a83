use Rattle.std.proofs.Common.{◌≡◌, map, refl, ap, ◌∙◌}
use Rattle.std.proofs.lemmas.List.{map_push}
use Rattle.junit_parts.specs.Cases.{role_in, role_of}
use Rattle.junit_reader.specs.Standing.{open_text}
use Rattle.junit_parts.specs.Tags.{tag_text}
use Rattle.junit_reader.proofs.StandingLemmas.{opened_for}
use Rattle.junit_reader.proofs.reading.Reading.open_element.Goals as goal

pub returns : goal.returns
returns c = λ u left stands.
    let role : c.role_in-role.result ≡ role_in (role_of u) c.args.tag.now.name.now = c.role_in-role.ensures ∙ ap (λ r. role_in r c.args.tag.now.name.now) (c.role.ensures u stands) in
    opened_for c.args.self.now _ u left (tag_text c.args.tag.now) c.role_in-role.result role stands c.in_ok-begin_role.ensures
    (ap (map open_text) c.in_ok-push.ensures.items ∙ map_push open_text c.args.self.now.opened.items _) refl refl
