use Rattle.std.proofs.Common.{◌≡◌, drop}
use Rattle.std.specs.List.{list_any}
use Rattle.permissions.specs.Rights.{gives_user}
use Rattle.permissions.proofs.ranked.Ranked.any_gives.Given as goal

abbrev pub invariant-loop-grant : goal.invariant-loop-grant
invariant-loop-grant l =
    list_any (gives_user l.self.members.items l.ask.user l.ask.permission) (drop l.grant-index l.grants) ≡ list_any (gives_user l.self.members.items l.ask.user l.ask.permission) l.grants
