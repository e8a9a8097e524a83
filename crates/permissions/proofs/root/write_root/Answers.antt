use Rattle.std.proofs.Common.{◌≡◌, ◌≤◌, ℕ, ◌-◌, ◌++◌, length, take, drop, codes, ap, ◌∙◌, arith}
use Rattle.std.proofs.lemmas.List.{length-take-le, length-drop}
use Rattle.policy_checks.specs.NamesRealms.Realms.{project_len}
use Rattle.permissions.proofs.RootLemmas.{project_most, written}
use Rattle.permissions.proofs.root.write_root.Goals as goal

pub write_front-requires : goal.write_front-requires
write_front-requires c =
    let most : project_len c.args.realm.now ≤ 100 = project_most c.args.realm.now c.requires.realm in
    omega (arith, most, c.project_of-len.ensures.len, c.requires.room, length-take-le c.project_of-len.result c.args.realm.now c.project_of-len.ensures.within)

pub write_front-requires-2 : goal.write_front-requires-2
write_front-requires-2 c =
    let n = c.project_of-len.result in
    let room = c.write_front.new.room in
    let most : project_len c.args.realm.now ≤ 100 = project_most c.args.realm.now c.requires.realm in
    let len : length room ≡ 106 = c.write_front.auto.room ∙ c.requires.room in
    let all : length room - n ≤ length (drop n room) = omega (arith, length-drop n room) in
    omega (arith, most, c.project_of-len.ensures.len, len, length-take-le (length room - n) (drop n room) all)

pub returns-clause-root : goal.returns-clause-root
returns-clause-root c =
    let n = c.project_of-len.result in
    let taken : length (take n c.args.realm.now) ≡ n = length-take-le n c.args.realm.now c.project_of-len.ensures.within in
    written (take n c.args.realm.now) _ (codes ":@root") _ c.write_front.new.room c.write_front-2.new.room n _ taken c.write_front.ensures c.write_front-2.ensures
    ∙ ap (λ (m : ℕ). take m c.args.realm.now ++ codes ":@root") c.project_of-len.ensures.len
