use Rattle.std.proofs.Common.{◌≡◌, [], map, take, drop}
use Rattle.policy_tables.specs.Findings.{least_with}
use Rattle.policy_checks.specs.Index.{IsIndexOf}
use Rattle.policy_checks.specs.Owners.{repeated}
use Rattle.policy_checks.proofs.owners.index_tokens.Given as goal

-- the tokens so far are indexed, and what is noted, with what is to come, is that of all users
abbrev pub invariant-loop-place : goal.invariant-loop-place
invariant-loop-place l = record {
  path : l.notes.path ≡ [];
  index : IsIndexOf l.index (map (λ u. u.token) (take l.place l.users));
  least : least_with l.notes.least (repeated (map (λ u. u.token) (take l.place l.users)) (drop l.place l.users)) ≡ least_with l.initial.notes.least (repeated [] l.users);
}
