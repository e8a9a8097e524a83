-- A machine of the code: what an ask looks at, the realms by their ranks, with what each grants.
use Rattle.std.specs.Prelude.{◌≡◌, ◌⊎◌, ◌↔◌, ◌<◌, ◌≤◌, ℕ, Bool, true, false, ◌&&◌, ◌||◌, List, [], length, map, Option, Some, slice_index_or, unwrap_or}
use Rattle.std.specs.List.{list_any}
use Rattle.std.specs.Ordering.{nat_cmp}
use Rattle.std.specs.BTreeMap.{get}
use Rattle.policy_checks.specs.declared.permission.Permission.{Permission}
use Rattle.policy_tables.specs.declared.tables.PolicyTables.{PolicyTables}
use Rattle.permissions.specs.declared.grants.GroupGrant.{GroupGrant}
use Rattle.permissions.specs.declared.grants.Grants.{Grants}
use Rattle.permissions.specs.declared.members.Members.{Members}
use Rattle.permissions.specs.declared.ranked.Pass.{Pass}
use Rattle.permissions.specs.declared.ranked.Ranked.{Ranked}
use Rattle.permissions.specs.declared.shortcuts.Shortcut.{Shortcut}
use Rattle.permissions.specs.declared.shortcuts.Shortcut.TheVariants.{OwnGrants, Mark}
use Rattle.permissions.specs.declared.shortcuts.Shortcuts.{Shortcuts}
use Rattle.permissions.specs.Graph.{has, edges, IsWalkOn, graph_of}
use Rattle.permissions.specs.Masks.{has_bit}
use Rattle.permissions.specs.Grants.{AreGrants, AreMembers, is_member}
use Rattle.permissions.specs.Ranks.{AreRanked, IsBoundOn, rank_at}

-- the place is marked
abbrev pub is_marked : List Bool → ℕ → Bool
is_marked marks q = slice_index_or marks q false

-- the marks are of the groups that have the user as a member
abbrev pub AreGroupsOf : List Members → ℕ → List Bool → Type 0
AreGroupsOf members u marks = (group : ℕ) → is_marked marks group ≡ is_member members group u

-- a grant to a group gives the permission to the user
abbrev pub gives_user : List Members → ℕ → Permission → GroupGrant → Bool
gives_user members u p g = is_member members g.group u && has_bit g.mask p

-- grants give the permission to the user
abbrev pub grants_user : List Members → ℕ → Permission → Grants → Bool
grants_user members u p g =
    has_bit (unwrap_or (get nat_cmp g.users u) 0) p
    || list_any (gives_user members u p) g.groups.items

-- the grants at a rank give the permission to the user
abbrev pub binds_by : List Members → List Grants → ℕ → Permission → ℕ → Bool
binds_by members grants u p rank = slice_index_or (map (grants_user members u p) grants) rank false

abbrev pub binds_user : Ranked → ℕ → Permission → ℕ → Bool
binds_user r u p rank = binds_by r.members.items r.grants.items u p rank

abbrev pub shortcut_at : List Shortcut → ℕ → Shortcut
shortcut_at shortcuts rank = slice_index_or shortcuts rank OwnGrants

-- the rank that a pass marks at this place
abbrev pub marked_at : List ℕ → ℕ → ℕ
marked_at marked place = slice_index_or marked place 0

-- whoever asks for whatever, two ranks have the same answer
abbrev pub AreSame : List (List ℕ) → List Grants → ℕ → ℕ → Type 0
AreSame rows grants rank other =
    (members : List Members) (u : ℕ) (p : Permission)
    → IsBoundOn rows (binds_by members grants u p) rank
    ↔ IsBoundOn rows (binds_by members grants u p) other

-- what is known of a rank is so: it leads nowhere, or has the same answer as a marked one, a lesser
-- one or itself
abbrev pub IsShortcut : List (List ℕ) → List Grants → List ℕ → ℕ → Shortcut → Type 0
IsShortcut rows grants marked rank OwnGrants = edges rows rank ≡ []
IsShortcut rows grants marked rank (Mark place) =
    (place < length marked)
    × (marked_at marked place ≤ rank)
    × AreSame rows grants rank (marked_at marked place)

-- the shortcuts of the ranks so far, and those of them that a pass marks, which ascend
pub record AreShortcuts (rows : List (List ℕ)) (grants : List Grants)
    (shortcuts : Shortcuts) : Type 0 where
  pub each : (rank : ℕ) → rank < length shortcuts.of_ranks.items
      → IsShortcut rows grants shortcuts.marked.items rank
      (shortcut_at shortcuts.of_ranks.items rank)
  pub low : (place : ℕ) → place < length shortcuts.marked.items
      → marked_at shortcuts.marked.items place < length shortcuts.of_ranks.items
  pub ascending : (place later : ℕ) → later < length shortcuts.marked.items → place ≤ later
      → marked_at shortcuts.marked.items place ≤ marked_at shortcuts.marked.items later

abbrev pub HasShortcuts : Ranked → Type 0
HasShortcuts r = AreShortcuts r.rows.items r.grants.items r.shortcuts

-- the ranks, what stands at them, and the members of groups are those of the tables
pub record AreRights (t : PolicyTables) (ranks : List (Option ℕ)) (ranked : Ranked) : Type 0 where
  pub places : List ℕ
  pub ranks_are : AreRanked (graph_of t) ranks places ranked.rows.items
  pub all : (place : ℕ) → place < length t.realms → (rank : ℕ) × (rank_at ranks place ≡ Some rank)
  pub grants_are : AreGrants t places (length places) ranked.grants.items
  pub members_are : AreMembers t t.groups (length t.groups) ranked.members.items
  pub shortcuts_are : HasShortcuts ranked
  pub shortcuts_count : length ranked.shortcuts.of_ranks.items ≡ length ranked.rows.items
  pub few : length t.realms ≤ 65536

-- Marked ranks are reached from the start. Each is still to come, or isn't bound and leads to
-- marked ones.
pub record IsLooked (rows : List (List ℕ)) (bound : ℕ → Bool) (start left : ℕ)
    (marks : List Bool) : Type 0 where
  pub reached : (q : ℕ) → is_marked marks q ≡ true → (path : List ℕ) × IsWalkOn rows start path q
  pub begun : is_marked marks start ≡ true
  pub settled : (q : ℕ) → is_marked marks q ≡ true
      → (q < left)
      ⊎ ((bound q ≡ false) × ((r : ℕ) → has r (edges rows q) ≡ true → is_marked marks r ≡ true))

-- the mark is the rank's answer
abbrev pub IsMark : Ranked → ℕ → Permission → ℕ → Bool → Type 0
IsMark r u p rank mark = (mark ≡ true) ↔ IsBoundOn r.rows.items (binds_user r u p) rank

-- what a pass found of the groups, and of the marked ranks to which it came
pub record IsPass (r : Ranked) (u : ℕ) (p : Permission) (pass : Pass) : Type 0 where
  pub groups : AreGroupsOf r.members.items u pass.groups.items
  pub marks : (place : ℕ) → place < length pass.marks.items
      → IsMark r u p (marked_at r.shortcuts.marked.items place)
      (is_marked pass.marks.items place)

-- the pass came to the marked ranks up to this rank
abbrev pub HasCome : Ranked → Pass → ℕ → Type 0
HasCome r pass rank =
    (rank < length r.shortcuts.of_ranks.items)
    × ((place : ℕ) → place < length r.shortcuts.marked.items
    → marked_at r.shortcuts.marked.items place ≤ rank → place < length pass.marks.items)

abbrev pub AllCome : Ranked → Pass → List ℕ → Type 0
AllCome r pass ranks = (q : ℕ) → has q ranks ≡ true → HasCome r pass q

-- a pass over all marked ranks of the tables
pub record IsPassed (t : PolicyTables) (u : ℕ) (p : Permission) (ranks : List (Option ℕ))
    (ranked : Ranked) (pass : Pass) : Type 0 where
  pub rights : AreRights t ranks ranked
  pub pass_is : IsPass ranked u p pass
  pub all : length pass.marks.items ≡ length ranked.shortcuts.marked.items
