-- A part at the moments of calls on the other part.
use Rattle.std.proofs.Common.{◌≡◌, ⊎_elim, ℕ, Option, None, Some, Result, Ok, Err, List, length, refl, sym, ◌∙◌, ap, subst}
use Rattle.disks.specs.Parts.{Part, Image, IsPartImage, MayLeave, image_of, other_part, part_of, with_part, write_begun, cut_begun}
use Rattle.disks.specs.Moments.{Told, after, AtEachMoment}
use Rattle.disks.specs.Calls.{MayHaveBegun, Writes, Cuts, Syncs}
use Rattle.disks.specs.MomentLaws.{at_first, at_next, at_both}
use Rattle.disks.specs.PartLaws.{image_of_part, other_stays}
use Rattle.result_journal.specs.Steps.{PartAsIn, PartStays}

same_told : (o : Option Told) (t u : Told) → o ≡ Some t → o ≡ Some u → t ≡ u
same_told o t u one other = cc

as_now : (number : ℕ) (t : Told) (image : Image) → IsPartImage (part_of t.now number) (image_of image number) →
    PartAsIn number (Some t) image
as_now number t image is = λ s is_s.
    subst (λ (v : Told). IsPartImage (part_of v.now number) (image_of image number)) (same_told (Some t) t s refl is_s) is

may_as_now : (number : ℕ) (t : Told) (image : Image) → MayLeave t.now image → PartAsIn number (Some t) image
may_as_now number t image may = as_now number t image (image_of_part t.now number image may)

-- Where nothing changes each part stays,
none_changed : (number : ℕ) (old : Option Told) → PartStays number old old
none_changed number None = record { still = λ t u is_t is_u. absurd (cc); moments = refl }
none_changed number (Some t) = record {
  still = λ s u is_s is_u. ap (λ (v : Told). part_of v.now number) (same_told (Some t) u s is_u is_s);
  moments = at_first t (PartAsIn number (Some t)) (λ image may. may_as_now number t image may);
}

pub other_same : (number : ℕ) (old new : Option Told) → new ≡ old → PartStays number old new
other_same number old new same = subst (λ (n : Option Told). PartStays number old n) (sym same) (none_changed number old)

-- and where one changes the other stays,
other_after : (number : ℕ) (t : Told) (part : Part) → PartStays (other_part number) (Some t) (Some (after t number part))
other_after number t part = record {
  still = λ s u is_s is_u.
      ap (λ (v : Told). part_of v.now (other_part number))
      (same_told (Some (after t number part)) u (after t number part) is_u refl)
      ∙ other_stays t.now number part
      ∙ ap (λ (v : Told). part_of v.now (other_part number)) (same_told (Some t) t s refl is_s);
  moments = at_next t t number part (PartAsIn (other_part number) (Some t))
      (at_first t (PartAsIn (other_part number) (Some t)) (λ image may. may_as_now (other_part number) t image may))
      (λ image may. as_now (other_part number) t image
      (subst (λ (p : Part). IsPartImage p (image_of image (other_part number))) (other_stays t.now number part)
      (image_of_part (with_part t.now number part) (other_part number) image may)));
}

other_next : (number : ℕ) (t : Told) (part : Part) (new : Option Told) → new ≡ Some (after t number part) →
    PartStays (other_part number) (Some t) new
other_next number t part new is =
    subst (λ (n : Option Told). PartStays (other_part number) (Some t) n) (sym is) (other_after number t part)

other_begun : (number : ℕ) (t : Told) (begun : List ℕ → Part) (new : Option Told) → MayHaveBegun t number begun new →
    PartStays (other_part number) (Some t) new
other_begun number t begun new may = ⊎_elim
    (λ (same : new ≡ Some t). other_same (other_part number) (Some t) new same)
    (λ (b : (bytes : List ℕ) × (new ≡ Some (after t number (begun bytes)))). other_next number t (begun b.0) new b.1)
    may

pub other_writes : {E : Type 0} (number at : ℕ) (piece : List ℕ) (old new : Option Told) (result : Result Unit E) →
    Writes number at piece old result new → PartStays (other_part number) old new
other_writes number at piece None new result writes = other_same (other_part number) None new writes
other_writes number at piece (Some t) new (Ok done) writes = other_next number t _ new writes
other_writes number at piece (Some t) new (Err e) writes =
    other_begun number t (write_begun (part_of t.now number) at (length piece)) new writes

pub other_cuts : {E : Type 0} (number end : ℕ) (old new : Option Told) (result : Result Unit E) →
    Cuts number end old result new → PartStays (other_part number) old new
other_cuts number end None new result cuts = other_same (other_part number) None new cuts
other_cuts number end (Some t) new (Ok done) cuts = other_next number t _ new cuts
other_cuts number end (Some t) new (Err e) cuts =
    other_begun number t (cut_begun (part_of t.now number) end) new cuts

pub other_syncs : {E : Type 0} (number : ℕ) (old new : Option Told) (result : Result Unit E) →
    Syncs number old result new → PartStays (other_part number) old new
other_syncs number None new result syncs = other_same (other_part number) None new syncs
other_syncs number (Some t) new (Ok done) syncs = other_next number t _ new syncs
other_syncs number (Some t) new (Err e) syncs = other_same (other_part number) (Some t) new syncs

-- and over two calls in a row.
gone : (old : Option Told) (t : Told) (P : Image → Type 0) → old ≡ Some t → AtEachMoment old None P → ⊥
gone None t P is each = absurd (cc)
gone (Some u) t P is each = each

pub other_both : (number : ℕ) (old mid new : Option Told) → PartStays number old mid → PartStays number mid new →
    PartStays number old new
other_both number old None new one two = record {
  still = λ t v is_t is_v. absurd (gone old t (PartAsIn number old) is_t one.moments);
  moments = at_both old None new (PartAsIn number old) (PartAsIn number None) (PartAsIn number old) (λ image stays. stays)
      (λ image stays t is_t. absurd (gone old t (PartAsIn number old) is_t one.moments)) one.moments two.moments;
}
other_both number old (Some u) new one two = record {
  still = λ t v is_t is_v. two.still u v refl is_v ∙ one.still t u is_t refl;
  moments = at_both old (Some u) new (PartAsIn number old) (PartAsIn number (Some u)) (PartAsIn number old)
      (λ image stays. stays)
      (λ image stays t is_t.
      subst (λ (p : Part). IsPartImage p (image_of image number)) (one.still t u is_t refl) (stays u refl))
      one.moments two.moments;
}
