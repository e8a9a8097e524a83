-- How the moments of several calls add up: the clauses of `moments_add_up`, and what follows from
-- them for what is so of each image. They stand here so that the proofs of other crates can cite
-- them.
use Rattle.std.proofs.Common.{Option, None, Some, ◌⊎◌, inl, inr, ⊎_elim, ℕ, ◌≤◌, List, [], ◌∷◌, ◌++◌, length, refl, sym, ◌∙◌, ap, subst, append_assoc, length-append, le_trans, le_refl, le_of_lt, le-add_left, lt_irrefl, lt-suc_self}
use Rattle.disks.specs.Parts.{Part, Parts, Image, MayLeave, with_part}
use Rattle.disks.specs.Moments.{Told, moment, states, after, LeftBy, LeftSince, GoesOn, AtEachMoment}

-- Calls go on one from another,
pub goes_on_twice : (old mid new : Told) → GoesOn old mid → GoesOn mid new → GoesOn old new
goes_on_twice old mid new first second = record {
  later = second.later ++ first.later;
  all = second.all
      ∙ ap (λ (l : List Parts). second.later ++ l) first.all
      ∙ sym (append_assoc second.later first.later (states old));
}

-- and each moment from itself and from the one before it.
pub goes_on_here : (told : Told) → GoesOn told told
goes_on_here told = record { later = []; all = refl }

pub goes_on_next : (told : Told) (number : ℕ) (part : Part) → GoesOn told (after told number part)
goes_on_next told number part = record { later = with_part told.now number part ∷ []; all = refl }

behind : (later past : List Parts) → length past ≤ length (later ++ past)
behind later past =
    subst (λ (n : ℕ). length past ≤ n) (sym (length-append later past))
    (le-add_left (length past) (length later))

-- What was left by later moments and by older ones.
split : (t : ℕ) (later past : List Parts) (image : Image) → LeftBy t (later ++ past) image →
    LeftBy (length past) (later ++ past) image ⊎ LeftBy t past image
split t [] past image left = inr left
split t (parts ∷ later) past image (inl (since, may)) = inl (inl (behind later past, may))
split t (parts ∷ later) past image (inr rest) =
    ⊎_elim (λ more. inl (inr more)) (λ older. inr older) (split t later past image rest)

kept : (t : ℕ) (later past : List Parts) (image : Image) → LeftBy t past image →
    LeftBy t (later ++ past) image
kept t [] past image left = left
kept t (parts ∷ later) past image left = inr (kept t later past image left)

-- What may have been left since a later moment may have been left since an earlier one.
since_earlier : (t u : ℕ) (past : List Parts) (image : Image) → t ≤ u → LeftBy u past image →
    LeftBy t past image
since_earlier t u [] image earlier left = left
since_earlier t u (parts ∷ past) image earlier (inl (since, may)) =
    inl (le_trans earlier since, may)
since_earlier t u (parts ∷ past) image earlier (inr rest) =
    inr (since_earlier t u past image earlier rest)

none_later : (t : ℕ) (past : List Parts) (image : Image) → length past ≤ t → LeftBy t past image → ⊥
none_later t [] image late left = left
none_later t (parts ∷ past) image late (inl (since, may)) =
    lt_irrefl (length past) (le_trans late since)
none_later t (parts ∷ past) image late (inr rest) = none_later t past image (le_of_lt late) rest

-- Since this moment there is no other,
pub only_now : (told : Told) (image : Image) → LeftSince (moment told) told image →
    MayLeave told.now image
only_now told image (inl (since, may)) = may
only_now told image (inr rest) =
    absurd (none_later (moment told) told.past image (le_refl (moment told)) rest)

-- and it is one of those since then.
pub counts_now : (told : Told) (t : ℕ) (image : Image) → t ≤ moment told → MayLeave told.now image →
    LeftSince t told image
counts_now told t image since may = inl (since, may)

-- Up to the next moment there is that one, and there are those before it.
pub left_next : (told : Told) (number : ℕ) (part : Part) (t : ℕ) (image : Image) →
    LeftSince t (after told number part) image →
    MayLeave (with_part told.now number part) image ⊎ LeftSince t told image
left_next told number part t image (inl (since, may)) = inl may
left_next told number part t image (inr before) = inr before

-- Since the first of two calls in a row there are the moments of the first and those of the second.
pub of_first_or_second : (old mid new : Told) → GoesOn old mid → GoesOn mid new → (image : Image) →
    LeftSince (moment old) new image →
    LeftSince (moment old) mid image ⊎ LeftSince (moment mid) new image
of_first_or_second old mid new first second image left =
    let parts = split (moment old) second.later (states mid) image
    (subst (λ (l : List Parts). LeftBy (moment old) l image) second.all left) in
    ⊎_elim
    (λ later. inr (since_earlier (moment mid) (length (states mid)) (states new) image
    (le_of_lt (lt-suc_self (moment mid)))
    (subst (λ (l : List Parts). LeftBy (length (states mid)) l image) (sym second.all) later)))
    (λ older. inl older)
    parts

-- What may have been left is not lost by later calls.
pub not_lost : (old new : Told) → GoesOn old new → (t : ℕ) (image : Image) → LeftSince t old image →
    LeftSince t new image
not_lost old new on t image left =
    subst (λ (l : List Parts). LeftBy t l image) (sym on.all)
    (kept t on.later (states old) image left)

-- So what is so of each image now is so at each moment from this one to this one,
pub at_first : (told : Told) (P : Image → Type 0) →
    ((image : Image) → MayLeave told.now image → P image) →
    AtEachMoment (Some told) (Some told) P
at_first told P here = (goes_on_here told, λ image left. here image (only_now told image left))

-- and up to the next one, where it is so of each image then;
pub at_next : (old told : Told) (number : ℕ) (part : Part) (P : Image → Type 0) →
    AtEachMoment (Some old) (Some told) P →
    ((image : Image) → MayLeave (with_part told.now number part) image → P image) →
    AtEachMoment (Some old) (Some (after told number part)) P
at_next old told number part P so_far here = (
  goes_on_twice old told (after told number part) so_far.0 (goes_on_next told number part),
  λ image left. ⊎_elim (λ now. here image now) (λ before. so_far.1 image before)
      (left_next told number part (moment old) image left),
)

abbrev IsThere : Option Told → Type 0
IsThere None = ⊥
IsThere (Some told) = Unit {0}

-- what is so over each of two calls in a row is so over both,
pub at_both : (old mid new : Option Told) (P Q R : Image → Type 0) →
    ((image : Image) → P image → R image) → ((image : Image) → Q image → R image) →
    AtEachMoment old mid P → AtEachMoment mid new Q → AtEachMoment old new R
at_both None None new P Q R p q first second = second
at_both None (Some mid) new P Q R p q first second = absurd (subst IsThere first tt)
at_both (Some old) None new P Q R p q first second = absurd first
at_both (Some old) (Some mid) None P Q R p q first second = second
at_both (Some old) (Some mid) (Some new) P Q R p q first second = (
  goes_on_twice old mid new first.0 second.0,
  λ image left. ⊎_elim
      (λ one. p image (first.1 image one))
      (λ other. q image (second.1 image other))
      (of_first_or_second old mid new first.0 second.0 image left),
)

-- and so is what follows from it.
pub at_each_of : (old new : Option Told) (P Q : Image → Type 0) →
    ((image : Image) → P image → Q image) → AtEachMoment old new P → AtEachMoment old new Q
at_each_of None new P Q p each = each
at_each_of (Some old) None P Q p each = each
at_each_of (Some old) (Some new) P Q p each = (each.0, λ image left. p image (each.1 image left))
