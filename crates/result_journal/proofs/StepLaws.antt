-- A write and its sync, at each moment and after it.
use Rattle.std.proofs.Common.{refl, ◌≡◌, ◌⊎◌, inl, inr, ⊎_elim, ℕ, Option, None, Some, Result, Ok, Err, List, length, sym, ◌∙◌, ap, subst}
use Rattle.disks.specs.Parts.{Part, Parts, Image, IsPartImage, MayLeave, all_synced, as_read, image_of, part_of, with_part, written_over, write_begun}
use Rattle.disks.specs.Moments.{Told, after, AtEachMoment}
use Rattle.disks.specs.Calls.{ReadsAsImage, Syncs, Writes}
use Rattle.disks.specs.MomentLaws.{at_first, at_next}
use Rattle.disks.specs.PartLaws.{image_of_part, part_as_read, part_changed}
use Rattle.result_journal.specs.Steps.{WritesThrough}

-- What an image has of a part that was put in its place,
pub changed_image : (parts : Parts) (number : ℕ) (part : Part) (image : Image) →
    MayLeave (with_part parts number part) image → IsPartImage part (image_of image number)
changed_image parts number part image may =
    subst (λ (p : Part). IsPartImage p (image_of image number)) (part_changed parts number part)
    (image_of_part (with_part parts number part) number image may)

-- and what a read gives of it.
pub read_image : (told : Option Told) → ReadsAsImage told → (number : ℕ) → (t : Told) → told ≡ Some t →
    IsPartImage (part_of t.now number) (part_of t.now number).bytes
read_image told as_image number t is =
    subst (λ (l : List ℕ). IsPartImage (part_of t.now number) l) (part_as_read t.now number)
    (image_of_part t.now number (as_read t.now) (as_image t is))

-- The bytes of each image of the part, before, during and after it.
pub record EachStep (part : Part) (at : ℕ) (piece : List ℕ) (Q : List ℕ → Type 0) : Type 0 where
  pub before : (image : List ℕ) → IsPartImage part image → Q image
  pub during : (bytes image : List ℕ) → IsPartImage (write_begun part at (length piece) bytes) image → Q image
  pub synced : (image : List ℕ) → IsPartImage (all_synced (written_over part.bytes at piece)) image → Q image

pub at_each_step : {E : Type 0} (number at : ℕ) (piece : List ℕ) (old new : Option Told) (result : Result Unit E)
    (Q : List ℕ → Type 0) → WritesThrough number at piece old result new →
    ((t : Told) → old ≡ Some t → EachStep (part_of t.now number) at piece Q) →
    AtEachMoment old new (λ image. Q (image_of image number))
at_each_step number at piece None new result Q writes each = writes
at_each_step number at piece (Some t) new (Ok done) Q writes each =
    let e = each t refl in
    let P : Image → Type 0 = λ image. Q (image_of image number) in
    let was = part_of t.now number in
    let bytes = written_over was.bytes at piece in
    let part = write_begun was at (length piece) bytes in
    let first = at_first t P (λ image may. e.before (image_of image number) (image_of_part t.now number image may)) in
    let second = at_next t t number part P first
    (λ image may. e.during bytes (image_of image number) (changed_image t.now number part image may)) in
    let third = at_next t (after t number part) number (all_synced bytes) P second
    (λ image may. e.synced (image_of image number)
    (changed_image (with_part t.now number part) number (all_synced bytes) image may)) in
    subst (λ (n : Option Told). AtEachMoment (Some t) n P) (sym writes) third
at_each_step number at piece (Some t) new (Err e') Q writes each =
    let e = each t refl in
    let P : Image → Type 0 = λ image. Q (image_of image number) in
    let was = part_of t.now number in
    let first = at_first t P (λ image may. e.before (image_of image number) (image_of_part t.now number image may)) in
    ⊎_elim
    (λ (same : new ≡ Some t). subst (λ (n : Option Told). AtEachMoment (Some t) n P) (sym same) first)
    (λ (begun : (bytes : List ℕ) × (new ≡ Some (after t number (write_begun was at (length piece) bytes)))).
    subst (λ (n : Option Told). AtEachMoment (Some t) n P) (sym begun.1)
    (at_next t t number (write_begun was at (length piece) begun.0) P first
    (λ image may. e.during begun.0 (image_of image number)
    (changed_image t.now number (write_begun was at (length piece) begun.0) image may))))
    writes

same_told : (o : Option Told) (t u : Told) → o ≡ Some t → o ≡ Some u → t ≡ u
same_told o t u one other = cc

-- How the part stands after a moment that changed it.
pub part_after : (told : Option Told) (t u : Told) (number : ℕ) (part : Part) → told ≡ Some u →
    told ≡ Some (after t number part) → part_of u.now number ≡ part
part_after told t u number part here is =
    ap (λ (v : Told). part_of v.now number) (same_told told u (after t number part) here is)
    ∙ part_changed t.now number part

-- How it stands when it is done,
pub part_when_done : (E : Type 0) (number at : ℕ) (piece : List ℕ) (old new : Option Told) →
    WritesThrough {E = E} number at piece old (Ok tt) new → (u : Told) → new ≡ Some u →
    (t : Told) × (old ≡ Some t)
    × (part_of u.now number ≡ all_synced (written_over (part_of t.now number).bytes at piece))
part_when_done E number at piece None new writes u here = absurd (cc)
part_when_done E number at piece (Some t) new writes u here = (t, refl, part_after new _ u number _ here writes)

-- and where it failed.
pub part_when_failed : {E : Type 0} (number at : ℕ) (piece : List ℕ) (old new : Option Told) (e : E) →
    WritesThrough number at piece old (Err e) new → (u : Told) → new ≡ Some u →
    (t : Told) × (old ≡ Some t) × ((part_of u.now number ≡ part_of t.now number)
    ⊎ ((bytes : List ℕ) × (part_of u.now number ≡ write_begun (part_of t.now number) at (length piece) bytes)))
part_when_failed number at piece None new e writes u here = absurd (cc)
part_when_failed number at piece (Some t) new e writes u here = (
  t,
  refl,
  ⊎_elim
      (λ (same : new ≡ Some t). inl (ap (λ (told : Told). part_of told.now number) (same_told new u t here same)))
      (λ (begun : (bytes : List ℕ) × (new ≡ Some (after t number (write_begun (part_of t.now number) at (length piece) bytes)))).
      inr (begun.0, part_after new t u number _ here begun.1))
      writes,
)

-- A write that failed, and a write that worked with a sync behind it.
pub write_failed : {E F : Type 0} (number at : ℕ) (piece : List ℕ) (old new : Option Told) (e : E) (f : F) →
    Writes number at piece old (Err e) new → WritesThrough number at piece old (Err f) new
write_failed number at piece None new e f writes = writes
write_failed number at piece (Some t) new e f writes = writes

pub written_through : (F : Type 0) {E : Type 0} (number at : ℕ) (piece : List ℕ) (old mid new : Option Told)
    (result : Result Unit E) → Writes {E = F} number at piece old (Ok tt) mid → Syncs number mid result new →
    WritesThrough number at piece old result new
written_through F {E} number at piece None mid new result writes syncs =
    subst (λ (m : Option Told). Syncs {E = E} number m result new) writes syncs
written_through F {E} number at piece (Some t) mid new (Ok done) writes syncs =
    let was = part_of t.now number in
    let part = write_begun was at (length piece) (written_over was.bytes at piece) in
    subst (λ (m : Option Told). Syncs {E = E} number m (Ok done) new) writes syncs
    ∙ ap (λ (p : Part). Some (after (after t number part) number (all_synced p.bytes))) (part_changed t.now number part)
written_through F {E} number at piece (Some t) mid new (Err e) writes syncs =
    inr (written_over (part_of t.now number).bytes at piece, subst (λ (m : Option Told). Syncs {E = E} number m (Err e) new) writes syncs)
