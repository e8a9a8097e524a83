use Rattle.std.proofs.Common.{rules, ◌≡◌, nat_cmp}
use Rattle.std.specs.Prelude.{unwrap_or}
use Rattle.std.specs.BTreeMap.{get}
use Rattle.permissions.proofs.GrantLemmas.{user_more}
use Rattle.permissions.proofs.grants.grant_user.Goals as goal

pub returns : goal.returns
returns c = λ u p.
    let m = c.args.users.now in
    let before : c.unwrap_or-before.result ≡ unwrap_or (get nat_cmp m c.args.user) 0 = search rules in
    user_more m c.insert.new.self c.args.user c.args.mask c.unwrap_or-before.result u p before (c.in_ok-insert.ensures.updates.0 u)
