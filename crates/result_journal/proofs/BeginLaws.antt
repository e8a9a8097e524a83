-- How a journal is begun anew.
use Rattle.std.proofs.Common.{◌≡◌, inl, inr, ⊎_elim, ℕ, suc, ◌<◌, ◌≤◌, Option, None, Some, Result, Ok, Err, MatchResult, List, [], ◌∷◌, ◌++◌, length, get_or, take, refl, sym, ◌∙◌, ap, subst, arith, true}
use Rattle.std.proofs.lemmas.List.{ext_get_or, get_or-take}
use Rattle.disks.specs.Parts.{Part, Parts, Image, IsPartImage, MayLeave, all_synced, image_of, part_of, written_over, write_begun, cut_begun}
use Rattle.disks.specs.Moments.{Told, moment, after, LeftBy, AtEachMoment}
use Rattle.disks.specs.Calls.{MayHaveBegun, Writes, Cuts, Syncs, ReadsAsImage}
use Rattle.disks.specs.MomentLaws.{only_now, at_first, at_next, at_both}
use Rattle.disks.specs.PartLaws.{image_of_part, part_changed}
use Rattle.disks.specs.Whole.{FillsRoom}
use Rattle.result_journal.specs.Grammar.{first_version, head, IsOfHead, Bodies, LongReads, Reads}
use Rattle.result_journal.specs.Openings.{PartLeftBeforeOrAlike, ReadsAlike, PartAlikeOnceSynced, Shows, ShownWhereTold}
use Rattle.result_journal.specs.Begins.{IsShort, IsShortImage, IsHead, HeadFault, IsEmptyJournal, BeginsAs}
use Rattle.result_journal.specs.declared.opening.OpenFault.{OpenFault}
use Rattle.result_journal.specs.declared.opening.OpenFault.TheVariants.{NotAJournal, Damaged, NewerVersion, DiskFailed, Memory}
use Rattle.result_journal.proofs.StepLaws.{changed_image, part_after, read_image}

-- One call that leaves a part short, at each moment and after it.
pub record StaysShort (number : ℕ) (old new : Option Told) : Type 0 where
  pub moments : AtEachMoment old new (IsShortImage number)
  pub short : IsShort number new

module _ (number : ℕ) where
  pub both_short : (old mid new : Option Told) → StaysShort number old mid → StaysShort number mid new → StaysShort number old new
  both_short old mid new first second = record {
    moments = at_both old mid new (IsShortImage number) (IsShortImage number) (IsShortImage number) (λ image p. p) (λ image p. p) first.moments
        second.moments;
    short = second.short;
  }

  nothing_told : StaysShort number None None
  nothing_told = record { moments = refl; short = λ t is. absurd (cc) }

  still_short : (t : Told) → IsShort number (Some t) → AtEachMoment (Some t) (Some t) (IsShortImage number)
  still_short t short = at_first t (IsShortImage number) (λ image may. omega (arith, (image_of_part t.now number image may).no_longer, short t refl))

  same_short : (t : Told) (new : Option Told) → IsShort number (Some t) → new ≡ Some t → StaysShort number (Some t) new
  same_short t new short same =
      subst (λ (n : Option Told). StaysShort number (Some t) n) (sym same)
      (record { moments = still_short t short; short = short })

  next_short : (t : Told) (part : Part) (new : Option Told) → IsShort number (Some t) → part.greatest ≤ 9 →
      new ≡ Some (after t number part) → StaysShort number (Some t) new
  next_short t part new short small is =
      subst (λ (n : Option Told). StaysShort number (Some t) n) (sym is) (record {
        moments = at_next t t number part (IsShortImage number) (still_short t short)
            (λ image may. omega (arith, (changed_image t.now number part image may).no_longer, small));
        short = λ u here. subst (λ (p : Part). p.greatest ≤ 9)
            (sym (part_after (Some (after t number part)) t u number part here refl)) small;
      })

  begun_short : (t : Told) (begun : List ℕ → Part) (new : Option Told) → IsShort number (Some t) →
      ((bytes : List ℕ) → (begun bytes).greatest ≤ 9) → MayHaveBegun t number begun new → StaysShort number (Some t) new
  begun_short t begun new short small may =
      ⊎_elim
      (λ (same : new ≡ Some t). same_short t new short same)
      (λ (b : (bytes : List ℕ) × (new ≡ Some (after t number (begun bytes)))).
      next_short t (begun b.0) new short (small b.0) b.1)
      may

  pub writes_short : {E : Type 0} (piece : List ℕ) (old new : Option Told) (result : Result Unit E) →
      length piece ≤ 9 → IsShort number old → Writes number 0 piece old result new → StaysShort number old new
  writes_short piece None new result few short writes =
      subst (λ (n : Option Told). StaysShort number None n) (sym writes) nothing_told
  writes_short piece (Some t) new (Ok done) few short writes =
      next_short t (write_begun (part_of t.now number) 0 (length piece) (written_over (part_of t.now number).bytes 0 piece)) new short
      (omega (arith, short t refl)) writes
  writes_short piece (Some t) new (Err e) few short writes =
      begun_short t (write_begun (part_of t.now number) 0 (length piece)) new short (λ bytes. omega (arith, short t refl)) writes

  pub cuts_short : {E : Type 0} (end : ℕ) (old new : Option Told) (result : Result Unit E) →
      IsShort number old → Cuts number end old result new → StaysShort number old new
  cuts_short end None new result short cuts = subst (λ (n : Option Told). StaysShort number None n) (sym cuts) nothing_told
  cuts_short end (Some t) new (Ok done) short cuts =
      next_short t (cut_begun (part_of t.now number) end (take end (part_of t.now number).bytes)) new short (short t refl) cuts
  cuts_short end (Some t) new (Err e) short cuts =
      begun_short t (cut_begun (part_of t.now number) end) new short (λ bytes. short t refl) cuts

  pub syncs_short : {E : Type 0} (old new : Option Told) (result : Result Unit E) → ReadsAsImage old →
      IsShort number old → Syncs number old result new → StaysShort number old new
  syncs_short None new result image short syncs = subst (λ (n : Option Told). StaysShort number None n) (sym syncs) nothing_told
  syncs_short (Some t) new (Ok done) image short syncs =
      next_short t (all_synced (part_of t.now number).bytes) new short
      (omega (arith, short t refl, (read_image (Some t) image number t refl).no_longer)) syncs
  syncs_short (Some t) new (Err e) image short syncs = same_short t new short syncs

-- A synced part has one image.
pub synced_image : (bytes image : List ℕ) → IsPartImage (all_synced bytes) image → image ≡ bytes
synced_image bytes image is =
    let same : length image ≡ length bytes = omega (arith, is.no_shorter, is.no_longer) in
    ext_get_or 0 image bytes same (λ k below. is.kept k (omega (arith, same)) refl)

-- What is judged of eight bytes holds of the part that they begin.
module _ (bytes room : List ℕ) (long : length room ≡ 8) (fills : FillsRoom bytes 0 room true) where
  same_byte : (k : ℕ) → k < 8 → get_or room k 0 ≡ get_or bytes k 0
  same_byte k below =
      ap (λ (l : List ℕ). get_or l k 0) fills.1 ∙ get_or-take (length room) bytes k 0 (omega arith)

  pub judged : (result : Result Unit OpenFault) → MatchResult result (λ _. IsHead first_version room) (HeadFault first_version room) →
      MatchResult result (λ _. IsHead first_version bytes) (HeadFault first_version bytes)
  judged (Ok done) j = record {
    each = λ k below. subst (IsOfHead k) (same_byte k below) (j.each k below);
    digit = sym (same_byte 7 (omega arith)) ∙ j.digit;
  }
  judged (Err (NotAJournal at)) j = record {
    inside = j.inside;
    before = λ k below. subst (IsOfHead k) (same_byte k (omega (arith, j.inside))) (j.before k below);
    first = λ is. j.first (subst (IsOfHead at) (sym (same_byte at j.inside)) is);
  }
  judged (Err (NewerVersion found)) j = record {
    head = λ k below. subst (IsOfHead k) (same_byte k below) (j.head k below);
    digit = j.digit ∙ same_byte 7 (omega arith);
    newer = j.newer;
  }
  judged (Err (Damaged at byte)) j = j
  judged (Err DiskFailed) j = j
  judged (Err Memory) j = j

some_told : (t u : Told) → Some t ≡ Some u → t ≡ u
some_told t u same = cc

module _ (number : ℕ) where
  left_before : (t : Told) (image : Image) → MayLeave t.now image → PartLeftBeforeOrAlike number (Some t) image
  left_before t image may = λ u is. inl (subst (λ (told : Told). MayLeave told.now image) (some_told t u is) may)

  left_alike : (t : Told) (image : Image) → ReadsAlike (part_of t.now number).bytes (image_of image number) → PartLeftBeforeOrAlike number (Some t) image
  left_alike t image alike =
      λ u is. inr (subst (λ (told : Told). ReadsAlike (part_of told.now number).bytes (image_of image number)) (some_told t u is) alike)

  -- The first sync, at each moment,
  pub sync_moments : {E : Type 0} (old new : Option Told) (result : Result Unit E) → Syncs number old result new →
      AtEachMoment old new (PartLeftBeforeOrAlike number old)
  sync_moments None new result syncs = syncs
  sync_moments (Some t) new (Ok done) syncs =
      subst (λ (n : Option Told). AtEachMoment (Some t) n (PartLeftBeforeOrAlike number (Some t))) (sym syncs)
      (at_next t t number (all_synced (part_of t.now number).bytes) (PartLeftBeforeOrAlike number (Some t))
      (at_first t (PartLeftBeforeOrAlike number (Some t)) (λ image may. left_before t image may))
      (λ image may. left_alike t image (λ reading reads.
      subst (λ (l : List ℕ). Reads l reading) (sym (synced_image (part_of t.now number).bytes (image_of image number)
      (changed_image t.now number (all_synced (part_of t.now number).bytes) image may))) reads)))
  sync_moments (Some t) new (Err e) syncs =
      subst (λ (n : Option Told). AtEachMoment (Some t) n (PartLeftBeforeOrAlike number (Some t))) (sym syncs)
      (at_first t (PartLeftBeforeOrAlike number (Some t)) (λ image may. left_before t image may))

  pub later_same : (old mid new : Option Told) (P : Image → Type 0) → new ≡ mid → AtEachMoment old mid P →
      AtEachMoment old new P
  later_same old mid new P same each = subst (λ (n : Option Told). AtEachMoment old n P) (sym same) each

  -- and what it leaves.
  same_bytes : (t : Told) →
      (part_of (after t number (all_synced (part_of t.now number).bytes)).now number).bytes ≡ (part_of t.now number).bytes
  same_bytes t = ap (λ (p : Part). p.bytes) (part_changed t.now number (all_synced (part_of t.now number).bytes))

  pub same_length : (t : Told) →
      length (part_of (after t number (all_synced (part_of t.now number).bytes)).now number).bytes
      ≡ length (part_of t.now number).bytes
  same_length t = ap (λ (l : List ℕ). length l) (same_bytes t)

  pub after_sync : (E : Type 0) (old mid : Option Told) → Syncs {E = E} number old (Ok tt) mid → (t : Told) → old ≡ Some t →
      mid ≡ Some (after t number (all_synced (part_of t.now number).bytes))
  after_sync E None mid syncs t is = absurd (cc)
  after_sync E (Some s) mid syncs t is =
      syncs ∙ ap (λ (told : Told). Some (after told number (all_synced (part_of told.now number).bytes))) (some_told s t is)

  pub before_sync : (E : Type 0) (old mid : Option Told) → Syncs {E = E} number old (Ok tt) mid → (u : Told) → mid ≡ Some u →
      (t : Told) × (old ≡ Some t) × ((part_of u.now number) ≡ all_synced (part_of t.now number).bytes)
  before_sync E None mid syncs u is = absurd (cc)
  before_sync E (Some s) mid syncs u is =
      (s, refl, part_after mid s u number (all_synced (part_of s.now number).bytes) is syncs)

  pub synced_short : (E : Type 0) (old mid : Option Told) (size : ℕ) → Syncs {E = E} number old (Ok tt) mid → size ≤ 9 →
      ((u : Told) → mid ≡ Some u → size ≡ length (part_of u.now number).bytes) → IsShort number mid
  synced_short E old mid size syncs small long u is =
      let b = before_sync E old mid syncs u is in
      let bytes : (part_of u.now number).bytes ≡ (part_of b.0.now number).bytes = ap (λ (p : Part). p.bytes) b.2 in
      let greatest : (part_of u.now number).greatest ≡ length (part_of b.0.now number).bytes = ap (λ (p : Part). p.greatest) b.2 in
      omega (arith, long u is, ap (λ (l : List ℕ). length l) bytes, greatest, small)

  pub short_reads : (E : Type 0) (old mid : Option Told) (size : ℕ) → Syncs {E = E} number old (Ok tt) mid → size ≤ 9 →
      ((u : Told) → mid ≡ Some u → size ≡ length (part_of u.now number).bytes) → (image : Image) → (IsShortImage number) image →
      (t : Told) → old ≡ Some t → ReadsAlike (part_of t.now number).bytes (image_of image number)
  short_reads E old mid size syncs small long image short t is = λ reading reads.
      let few : length (part_of t.now number).bytes ≤ 9 =
      omega (arith, long (after t number (all_synced (part_of t.now number).bytes)) (after_sync E old mid syncs t is), same_length t, small) in
      ⊎_elim
      (λ (none : (length (part_of t.now number).bytes ≤ 9) × (reading ≡ Bodies [])). inl (short, none.1))
      (λ (some : (9 < length (part_of t.now number).bytes) × LongReads first_version (part_of t.now number).bytes reading). absurd (omega (arith, few, some.0)))
      reads

  pub short_alike : (E : Type 0) (old mid : Option Told) (size : ℕ) → Syncs {E = E} number old (Ok tt) mid → size ≤ 9 →
      ((u : Told) → mid ≡ Some u → size ≡ length (part_of u.now number).bytes) → (image : Image) → (IsShortImage number) image →
      PartLeftBeforeOrAlike number old image
  short_alike E old mid size syncs small long image short =
      λ t is. inr (short_reads E old mid size syncs small long image short t is)

  -- Nothing was left since a moment that is still to come.
  none_yet : (n : ℕ) (past : List Parts) (image : Image) → length past ≤ n → LeftBy n past image → ⊥
  none_yet n [] image late left = left
  none_yet n (parts ∷ past) image late left = ⊎_elim
      (λ (now : (n ≤ length past) × MayLeave parts image). absurd (omega (arith, now.0)))
      (λ (before : LeftBy n past image). none_yet n past image (omega arith) before)
      left

  -- Where the first sync failed, there is no later moment;
  pub failed_sync_alike : {E : Type 0} (old new : Option Told) (e : E) → Syncs number old (Err e) new → PartAlikeOnceSynced number old new
  failed_sync_alike None new e syncs t u is_t is_u image left = absurd (cc)
  failed_sync_alike (Some s) new e syncs t u is_t is_u image left =
      let same : u ≡ t = some_told u t (sym is_u ∙ syncs ∙ is_t) in
      absurd (none_yet (suc (moment t)) (t.now ∷ t.past) image (omega arith)
      (subst (λ (v : Told). LeftBy (suc (moment t)) (v.now ∷ v.past) image) same left))

  -- where it worked and nothing changes the disk, its image is the part;
  pub synced_alike : (E : Type 0) (old mid new : Option Told) → Syncs {E = E} number old (Ok tt) mid → new ≡ mid →
      PartAlikeOnceSynced number old new
  synced_alike E old mid new syncs same t u is_t is_u image left =
      let next = after t number (all_synced (part_of t.now number).bytes) in
      let here : u ≡ next = some_told u next (sym is_u ∙ same ∙ after_sync E old mid syncs t is_t) in
      let may = only_now next image
      (subst (λ (v : Told). LeftBy (suc (moment t)) (v.now ∷ v.past) image) here left) in
      λ reading reads.
      subst (λ (l : List ℕ). Reads l reading) (sym (synced_image (part_of t.now number).bytes (image_of image number)
      (changed_image t.now number (all_synced (part_of t.now number).bytes) image may))) reads

  -- and the moments of later calls read so, where each of their images does.
  pub later_alike : (E : Type 0) (old mid between new : Option Told) (P : Image → Type 0) →
      Syncs {E = E} number old (Ok tt) mid → between ≡ mid → AtEachMoment between new P →
      ((image : Image) → P image → (t : Told) → old ≡ Some t → ReadsAlike (part_of t.now number).bytes (image_of image number)) →
      PartAlikeOnceSynced number old new
  later_alike E old mid between new P syncs same each reads t u is_t is_u image left =
      let next = after t number (all_synced (part_of t.now number).bytes) in
      let begun : between ≡ Some next = same ∙ after_sync E old mid syncs t is_t in
      let from_next : AtEachMoment (Some next) new P = subst (λ (o : Option Told). AtEachMoment o new P) begun each in
      let to_now : AtEachMoment (Some next) (Some u) P =
      subst (λ (o : Option Told). AtEachMoment (Some next) o P) is_u from_next in
      reads image (to_now.1 image left) t is_t

  -- The bytes after the first sync are those before it.
  pub head_shown : (E : Type 0) (old mid : Option Told) (fault : OpenFault) → Syncs {E = E} number old (Ok tt) mid →
      ((u : Told) → mid ≡ Some u → 9 < length (part_of u.now number).bytes) →
      ((u : Told) → mid ≡ Some u → 9 < length (part_of u.now number).bytes → HeadFault first_version (part_of u.now number).bytes fault) →
      ShownWhereTold number old fault
  head_shown E old mid fault syncs long judged = λ t is.
      let next = after t number (all_synced (part_of t.now number).bytes) in
      let here = after_sync E old mid syncs t is in
      by_fault t fault (omega (arith, long next here, same_length t))
      (subst (λ (l : List ℕ). HeadFault first_version l fault) (same_bytes t) (judged next here (long next here)))
    where
      by_fault : (t : Told) (fault : OpenFault) → 9 < length (part_of t.now number).bytes → HeadFault first_version (part_of t.now number).bytes fault →
          Shows (part_of t.now number).bytes fault
      by_fault t (NotAJournal at) more shown = inr (more, shown)
      by_fault t (NewerVersion found) more shown = inr (more, shown)
      by_fault t (Damaged at byte) more shown = absurd shown
      by_fault t DiskFailed more shown = tt
      by_fault t Memory more shown = absurd shown

  pub begun_anew : (E : Type 0) (old mid : Option Told) (bytes : List ℕ) (size : ℕ) → Syncs {E = E} number old (Ok tt) mid →
      size ≤ 9 → ((u : Told) → mid ≡ Some u → size ≡ length (part_of u.now number).bytes) →
      ((u : Told) → mid ≡ Some u → ¬ IsEmptyJournal (part_of u.now number).bytes) → bytes ≡ head ++ 0 ∷ [] → (t : Told) →
      old ≡ Some t → BeginsAs (part_of t.now number).bytes bytes
  begun_anew E old mid bytes size syncs small long not_empty is t here =
      let next = after t number (all_synced (part_of t.now number).bytes) in
      let mid_is = after_sync E old mid syncs t here in
      record {
        long = λ more. absurd (omega (arith, long next mid_is, same_length t, small, more));
        empty = λ empty. absurd (not_empty next mid_is (subst IsEmptyJournal (sym (same_bytes t)) empty));
        anew = λ few not. is;
      }

  -- Where nothing was done, no moment is a later one.
  not_synced : (old : Option Told) → Syncs {E = Unit {0}} number old (Err tt) old
  not_synced None = refl
  not_synced (Some t) = refl

  pub unchanged_moments : (old : Option Told) → AtEachMoment old old (PartLeftBeforeOrAlike number old)
  unchanged_moments old = sync_moments old old (Err tt) (not_synced old)

  pub unchanged_alike : (old : Option Told) → PartAlikeOnceSynced number old old
  unchanged_alike old = failed_sync_alike old old tt (not_synced old)
