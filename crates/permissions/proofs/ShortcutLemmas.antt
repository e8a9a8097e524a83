-- Shortcuts, and the marks of a pass.
use Rattle.std.proofs.Common.{◌≡◌, ℕ, ◌+◌, ◌<◌, Bool, true, false, ◌||◌, List, [], ◌∷◌, ◌++◌, length, get_or, eq-eqb, ltb, ltb-true, BTreeMap, nat_cmp, refl, sym, ap, subst, ◌∙◌, inl, inr, arith, length-append}
use Rattle.std.specs.Prelude.{◌==◌, ◌⊎◌, ◌↔◌, unwrap_or}
use Rattle.std.specs.List.{list_any}
use Rattle.std.specs.BTreeMap.{get}
use Rattle.std.proofs.lemmas.Bool.{cases_eq, cases_lt, eqb-true, or_cases, or_left}
use Rattle.std.proofs.lemmas.List.{append-nil, get_or_append_left, get_or-map}
use Rattle.std.proofs.Math.Seq.{get_or-append_seam}
use Rattle.policy_checks.specs.declared.permission.Permission.{Permission}
use Rattle.permissions.specs.declared.grants.GroupGrant.{GroupGrant}
use Rattle.permissions.specs.declared.grants.Grants.{Grants}
use Rattle.permissions.specs.declared.members.Members.{Members}
use Rattle.permissions.specs.declared.ranked.Pass.{Pass}
use Rattle.permissions.specs.declared.ranked.Ranked.{Ranked}
use Rattle.permissions.specs.declared.shortcuts.Shortcut.{Shortcut}
use Rattle.permissions.specs.declared.shortcuts.Shortcut.TheVariants.{OwnGrants, Mark}
use Rattle.permissions.specs.declared.shortcuts.Shortcuts.{Shortcuts}
use Rattle.permissions.specs.Graph.{has, edges, IsWalkOn}
use Rattle.permissions.specs.Masks.{has_bit}
use Rattle.permissions.specs.Ranks.{IsFalling, IsBoundOn, IsOneBoundOn}
use Rattle.permissions.specs.Rights.{AllCome, AreSame, AreShortcuts, HasCome, HasShortcuts, IsMark, IsPass, IsShortcut, binds_by, binds_user, gives_user, grants_user, is_marked, marked_at, shortcut_at}
use Rattle.permissions.proofs.GrantLemmas.{has_bit-zero}

-- a rank gives what is asked itself, or leads to one that does

pub here_or_led : (rows : List (List ℕ)) (bound : ℕ → Bool) (rank : ℕ) → IsBoundOn rows bound rank → (bound rank ≡ true) ⊎ IsOneBoundOn rows bound (edges rows rank)
here_or_led rows bound rank w = on_path w.path w.to w.walk w.is where
  on_path : (path : List ℕ) (to : ℕ) → IsWalkOn rows rank path to → bound to ≡ true → (bound rank ≡ true) ⊎ IsOneBoundOn rows bound (edges rows rank)
  on_path [] to walk e = inl (ap bound walk ∙ e)
  on_path (x ∷ xs) to walk e = inr (x, walk.0, record { to = to; path = xs; walk = walk.1; is = e })

pub bound_itself : (rows : List (List ℕ)) (bound : ℕ → Bool) (rank : ℕ) → bound rank ≡ true → IsBoundOn rows bound rank
bound_itself rows bound rank e = record { to = rank; path = []; walk = refl; is = e }

pub bound_led : (rows : List (List ℕ)) (bound : ℕ → Bool) (rank : ℕ) → IsOneBoundOn rows bound (edges rows rank) → IsBoundOn rows bound rank
bound_led rows bound rank (q, leads, w) = record { to = w.to; path = q ∷ w.path; walk = (leads, w.walk); is = w.is }

-- one of some ranks

only_has : (x q : ℕ) → has q (x ∷ []) ≡ true → x ≡ q
only_has x q e = elim (or_cases (x == q) false e) [
  | inl same ↦ eqb-true x q same
  | inr never ↦ absurd cc
]

first_has : (x : ℕ) (xs : List ℕ) → has x (x ∷ xs) ≡ true
first_has x xs = or_left (x == x) (has x xs) (eq-eqb x x refl)

-- where the first one isn't bound, one of the others is
pub one_later : (rows : List (List ℕ)) (bound : ℕ → Bool) (x : ℕ) (xs : List ℕ) → (IsBoundOn rows bound x → ⊥) → IsOneBoundOn rows bound (x ∷ xs) → IsOneBoundOn rows bound xs
one_later rows bound x xs not (q, among, w) = elim (or_cases (x == q) (has q xs) among) [
  | inl here ↦ absurd (not (subst (IsBoundOn rows bound) (sym (eqb-true x q here)) w))
  | inr later ↦ (q, later, w)
]

pub none_later : (rows : List (List ℕ)) (bound : ℕ → Bool) → IsOneBoundOn rows bound [] → ⊥
none_later rows bound (q, among, w) = let no : false ≡ true = among in cc

-- a rank that grants nothing and leads to one other

same_as_target : (rows : List (List ℕ)) (bound : ℕ → Bool) (rank target : ℕ) → edges rows rank ≡ target ∷ [] → bound rank ≡ false
    → IsBoundOn rows bound rank ↔ IsBoundOn rows bound target
same_as_target rows bound rank target only nothing = (
  λ w. elim (here_or_led rows bound rank w) [
    | inl own ↦ let no : false ≡ true = sym nothing ∙ own in absurd cc
    | inr one ↦ subst (IsBoundOn rows bound) (sym (only_has target one.0 (ap (has one.0) (sym only) ∙ one.1))) one.2
  ],
  λ w. bound_led rows bound rank (target, ap (has target) only ∙ first_has target [], w),
)

module _ (rows : List (List ℕ)) (grants : List Grants) where
  -- the next rank, where it grants nothing and leads to one other
  pub same_shortcut : (shortcuts : Shortcuts) (rank target place : ℕ) → IsFalling rows → AreShortcuts rows grants shortcuts
      → rank ≡ length shortcuts.of_ranks.items → edges rows rank ≡ target ∷ [] → shortcut_at shortcuts.of_ranks.items target ≡ Mark place
      → ((members : List Members) (u : ℕ) (p : Permission) → binds_by members grants u p rank ≡ false)
      → IsShortcut rows grants shortcuts.marked.items rank (Mark place)
  same_shortcut shortcuts rank target place falling are next only mark nothing =
      let less : target < rank = falling rank target (ap (has target) only ∙ first_has target []) in
      let (there, low, same) = subst (IsShortcut rows grants shortcuts.marked.items target) mark (are.each target (omega (arith, less, next))) in (
        there,
        omega (arith, low, less),
        λ members u p.
            let first = same_as_target rows (binds_by members grants u p) rank target only (nothing members u p) in
            let second = same members u p in
            (λ w. second.0 (first.0 w), λ w. first.1 (second.1 w)),
      )

  -- a shortcut stays one where more ranks are marked
  kept : (marked more : List ℕ) (rank : ℕ) (s : Shortcut) → IsShortcut rows grants marked rank s → IsShortcut rows grants (marked ++ more) rank s
  kept marked more rank OwnGrants h = h
  kept marked more rank (Mark place) (there, low, same) =
      let at : marked_at (marked ++ more) place ≡ marked_at marked place = get_or_append_left marked more 0 place there in (
        omega (arith, there, length-append marked more),
        omega (arith, low, at),
        subst (AreSame rows grants rank) (sym at) same,
      )

  -- the mark of the rank itself
  pub own_mark : (marked : List ℕ) (rank : ℕ) → IsShortcut rows grants (marked ++ rank ∷ []) rank (Mark (length marked))
  own_mark marked rank =
      let at : marked_at (marked ++ rank ∷ []) (length marked) ≡ rank = get_or-append_seam marked rank [] 0 in (
        omega (arith, length-append marked (rank ∷ [])),
        omega (arith, at),
        subst (AreSame rows grants rank) (sym at) (λ members u p. (λ w. w, λ w. w)),
      )

  pub one_longer : (before after : Shortcuts) (s : Shortcut) → after.of_ranks.items ≡ before.of_ranks.items ++ s ∷ [] → length after.of_ranks.items ≡ length before.of_ranks.items + 1
  one_longer before after s ranks = ap length ranks ∙ length-append before.of_ranks.items (s ∷ [])

  -- one shortcut more, and maybe marked ranks
  each_more : (before after : Shortcuts) (more : List ℕ) (s : Shortcut) → AreShortcuts rows grants before
      → after.of_ranks.items ≡ before.of_ranks.items ++ s ∷ [] → after.marked.items ≡ before.marked.items ++ more
      → IsShortcut rows grants after.marked.items (length before.of_ranks.items) s
      → (rank : ℕ) → rank < length after.of_ranks.items → IsShortcut rows grants after.marked.items rank (shortcut_at after.of_ranks.items rank)
  each_more before after more s are ranks marked is = λ rank low. elim (cases_eq rank (length before.of_ranks.items)) [
    | inl here ↦
        subst (λ (n : ℕ). IsShortcut rows grants after.marked.items n (shortcut_at after.of_ranks.items n)) (sym here)
        (subst (IsShortcut rows grants after.marked.items (length before.of_ranks.items))
        (sym (ap (λ (ss : List Shortcut). shortcut_at ss (length before.of_ranks.items)) ranks ∙ get_or-append_seam before.of_ranks.items s [] OwnGrants)) is)
    | inr other ↦
        let past : rank < length before.of_ranks.items = omega (arith, low, other, ap length ranks, length-append before.of_ranks.items (s ∷ [])) in
        subst (IsShortcut rows grants after.marked.items rank)
        (sym (ap (λ (ss : List Shortcut). shortcut_at ss rank) ranks ∙ get_or_append_left before.of_ranks.items (s ∷ []) OwnGrants rank past))
        (subst (λ (ms : List ℕ). IsShortcut rows grants ms rank (shortcut_at before.of_ranks.items rank)) (sym marked)
        (kept before.marked.items more rank (shortcut_at before.of_ranks.items rank) (are.each rank past)))
  ]

  -- one that is known without a mark of its own
  pub known_more : (before after : Shortcuts) (s : Shortcut) → AreShortcuts rows grants before
      → IsShortcut rows grants before.marked.items (length before.of_ranks.items) s
      → after.of_ranks.items ≡ before.of_ranks.items ++ s ∷ [] → after.marked.items ≡ before.marked.items → AreShortcuts rows grants after
  known_more before after s are is ranks marked =
      let longer : length after.of_ranks.items ≡ length before.of_ranks.items + 1 = one_longer before after s ranks in
      record {
        each = each_more before after [] s are ranks (marked ∙ sym (append-nil before.marked.items))
            (subst (λ (ms : List ℕ). IsShortcut rows grants ms (length before.of_ranks.items) s) (sym marked) is);
        low = λ place there.
            omega (arith, longer, ap (λ (ms : List ℕ). marked_at ms place) marked, are.low place (omega (arith, there, ap length marked)));
        ascending = λ place later there over.
            omega (
              arith,
              ap (λ (ms : List ℕ). marked_at ms place) marked,
              ap (λ (ms : List ℕ). marked_at ms later) marked,
              are.ascending place later (omega (arith, there, ap length marked)) over,
            );
      }

  -- one that has a mark of its own
  pub marked_more : (before after : Shortcuts) (rank : ℕ) → AreShortcuts rows grants before → rank ≡ length before.of_ranks.items
      → after.of_ranks.items ≡ before.of_ranks.items ++ Mark (length before.marked.items) ∷ [] → after.marked.items ≡ before.marked.items ++ rank ∷ []
      → AreShortcuts rows grants after
  marked_more before after rank are next ranks marked =
      let longer : length after.of_ranks.items ≡ length before.of_ranks.items + 1 = one_longer before after (Mark (length before.marked.items)) ranks in
      let more : length after.marked.items ≡ length before.marked.items + 1 = ap length marked ∙ length-append before.marked.items (rank ∷ []) in
      let last : marked_at after.marked.items (length before.marked.items) ≡ rank =
      ap (λ (ms : List ℕ). marked_at ms (length before.marked.items)) marked ∙ get_or-append_seam before.marked.items rank [] 0 in
      let old : (place : ℕ) → place < length before.marked.items → marked_at after.marked.items place ≡ marked_at before.marked.items place =
      λ place there. ap (λ (ms : List ℕ). marked_at ms place) marked ∙ get_or_append_left before.marked.items (rank ∷ []) 0 place there in
      record {
        each = each_more before after (rank ∷ []) (Mark (length before.marked.items)) are ranks marked
            (subst (λ (ms : List ℕ). IsShortcut rows grants ms (length before.of_ranks.items) (Mark (length before.marked.items))) (sym marked)
            (subst (λ (n : ℕ). IsShortcut rows grants (before.marked.items ++ rank ∷ []) n (Mark (length before.marked.items))) next
            (own_mark before.marked.items rank)));
        low = λ place there. elim (cases_eq place (length before.marked.items)) [
          | inl here ↦ omega (arith, longer, next, last, ap (marked_at after.marked.items) here)
          | inr other ↦
              let past : place < length before.marked.items = omega (arith, there, more, other) in
              omega (arith, longer, old place past, are.low place past)
        ];
        ascending = λ place later there over. elim (cases_eq later (length before.marked.items)) [
          | inl here ↦ elim (cases_eq place (length before.marked.items)) [
            | inl too ↦ omega (arith, ap (marked_at after.marked.items) here, ap (marked_at after.marked.items) too)
            | inr other ↦
                let past : place < length before.marked.items = omega (arith, over, here, other) in
                omega (arith, next, last, ap (marked_at after.marked.items) here, old place past, are.low place past)
          ]
          | inr other ↦
              let past : later < length before.marked.items = omega (arith, there, more, other) in
              omega (arith, old later past, old place (omega (arith, past, over)), are.ascending place later past over)
        ];
      }

-- one mark more
pub pass_more : (r : Ranked) (u : ℕ) (p : Permission) (pass after : Pass) (b : Bool) → IsPass r u p pass
    → IsMark r u p (marked_at r.shortcuts.marked.items (length pass.marks.items)) b
    → after.groups.items ≡ pass.groups.items → after.marks.items ≡ pass.marks.items ++ b ∷ [] → IsPass r u p after
pass_more r u p pass after b is mark groups marks =
    let rank = marked_at r.shortcuts.marked.items in
    record {
      groups = λ group. ap (λ (ms : List Bool). is_marked ms group) groups ∙ is.groups group;
      marks = λ place low. elim (cases_eq place (length pass.marks.items)) [
        | inl here ↦
            subst (λ (n : ℕ). IsMark r u p (rank n) (is_marked after.marks.items n)) (sym here)
            (subst (IsMark r u p (rank (length pass.marks.items)))
            (sym (ap (λ (ms : List Bool). is_marked ms (length pass.marks.items)) marks ∙ get_or-append_seam pass.marks.items b [] false)) mark)
        | inr other ↦
            let before : place < length pass.marks.items = omega (arith, low, other, ap length marks, length-append pass.marks.items (b ∷ [])) in
            subst (IsMark r u p (rank place))
            (sym (ap (λ (ms : List Bool). is_marked ms place) marks ∙ get_or_append_left pass.marks.items (b ∷ []) false place before))
            (is.marks place before)
      ];
    }

-- where a pass made the marks of the marked ranks before this one, it came to all that it leads to
pub all_come : (r : Ranked) (pass : Pass) (place : ℕ) → IsFalling r.rows.items → HasShortcuts r → place < length r.shortcuts.marked.items
    → length pass.marks.items ≡ place → AllCome r pass (edges r.rows.items (marked_at r.shortcuts.marked.items place))
all_come r pass place falling are there count = λ q leads.
    let rank = marked_at r.shortcuts.marked.items place in
    let less : q < rank = falling rank q leads in (
      omega (arith, less, are.low place there),
      λ other within low. elim (cases_lt other place) [
        | inl before ↦ omega (arith, before, count)
        | inr past ↦ absurd (omega (arith, less, low, are.ascending place other within past))
      ],
    )

-- a mark tells the ranks that have it as their shortcut
pub marked_so : (r : Ranked) (u : ℕ) (p : Permission) (pass : Pass) (rank place : ℕ) (b : Bool) → HasShortcuts r → IsPass r u p pass → HasCome r pass rank
    → shortcut_at r.shortcuts.of_ranks.items rank ≡ Mark place → b ≡ is_marked pass.marks.items place
    → (b ≡ true) ↔ IsBoundOn r.rows.items (binds_user r u p) rank
marked_so r u p pass rank place b are is (low, came) here mark =
    let (there, below, same) = subst (IsShortcut r.rows.items r.grants.items r.shortcuts.marked.items rank) here (are.each rank low) in
    let both = is.marks place (came place there below) in
    let alike = same r.members.items u p in
    (λ e. alike.1 (both.0 (sym mark ∙ e)), λ w. mark ∙ both.1 (alike.0 w))

-- a rank whose grants name nobody

empty_of : {X : Type 0} (xs : List X) → length xs ≡ 0 → xs ≡ []
empty_of [] e = refl
empty_of (x ∷ xs) e = absurd (omega (arith, e))

no_user_grant : (members : List Members) (u : ℕ) (p : Permission) (users : BTreeMap ℕ ℕ) (groups : List GroupGrant) → users.entries ≡ [] → groups ≡ []
    → (has_bit (unwrap_or (get nat_cmp users u) 0) p || list_any (gives_user members u p) groups) ≡ false
no_user_grant members u p users groups e f = rw (e, f, has_bit-zero p)

pub nothing_at : (members : List Members) (u : ℕ) (p : Permission) (grants : List Grants) (rank : ℕ) (here : Grants) (groups : List GroupGrant)
    → true ≡ ltb rank (length grants) → here ≡ get_or grants rank here → length here.users.entries ≡ 0 → groups ≡ here.groups.items
    → (length groups == 0) ≡ true → binds_by members grants u p rank ≡ false
nothing_at members u p grants rank here groups low is users same none =
    let gives = grants_user members u p in
    let nobody : here.users.entries ≡ [] = empty_of here.users.entries users in
    let nowhere : here.groups.items ≡ [] = sym same ∙ empty_of groups (eqb-true (length groups) 0 none) in
    get_or-map gives grants rank here false (ltb-true rank (length grants) (sym low)) ∙ ap gives (sym is)
    ∙ no_user_grant members u p here.users here.groups.items nobody nowhere

pub only_one : (xs : List ℕ) → length xs ≡ 1 → xs ≡ get_or xs 0 0 ∷ []
only_one [] e = absurd (omega (arith, e))
only_one (x ∷ []) e = refl
only_one (x ∷ (y ∷ ys)) e = absurd (omega (arith, e))
