-- The steps in which a command is recorded.
use Rattle.std.proofs.Common.{◌≡◌, inl, inr, ℕ, ◌+◌, ◌-◌, Bool, true, false, List, [], ◌∷◌, ◌++◌, length, take, drop, Option, None, Some, Result, Ok, Err, OnOk, OnErr, refl, sym, ap, subst, subst₂, ◌∙◌, arith, append-nil, length-append}
use Rattle.std.specs.Prelude.{MatchBool}
use Rattle.disks.specs.Parts.{Image}
use Rattle.disks.specs.Moments.{Told, AtEachMoment}
use Rattle.disks.specs.MomentLaws.{at_each_of, at_first}
use Rattle.result_journal.specs.Grammar.{framed}
use Rattle.result_journal.specs.Journals.{PartBeforeOrAfter, PartReadsAs, Leaves, ReadsAs, SameButDisk, StandsFor, before_gate, begun_part, disk_of, is_settled, journal_part, prepared}
use Rattle.result_journal.specs.declared.journal.Journal.{Journal}
use Rattle.result_journal.proofs.FrameLaws.{length-framed}
use Rattle.result_journal.proofs.StandLaws.{before_gate-push, stands_leave}
use Rattle.result_journal.proofs.JournalLaws.{settled_leaves}
use Rattle.journal_book.specs.Worlds.{HasSettled, HasWorld, Leads, Play}
use Rattle.journal_book.specs.Books.{HasEither, IsAppended, Stands}
use Rattle.journal_book.proofs.WorldLaws.{either_world, leads_on}

-- what a crash leaves where commands lead to a world, and one more where something is to settle
pub settled_images : {W : Type 0} (plays : Play W) (first w : W) (told : Option Told) (settled : Bool) (commands : List (List ℕ)) (failed : List ℕ)
    → Leads plays first commands w → (settled ≡ false → (next : W) × plays w failed next)
    → MatchBool settled (Leaves told (ReadsAs commands)) (Leaves told (PartBeforeOrAfter begun_part commands failed))
    → Leaves told (HasSettled plays first w settled failed)
settled_images plays first w told true commands failed leads next leaves = λ t is image may. (commands, leaves t is image may, leads)
settled_images plays first w told false commands failed leads next leaves =
    λ t is image may. either_world plays first w commands failed image leads (next refl) (leaves t is image may)

-- what a crash leaves of a journal that stands for commands
pub stands_images : {D W : Type 0} (told : D → Option Told) (plays : Play W) (first w : W) (journal : Journal D) (commands : List (List ℕ))
    → Stands told plays first w journal commands → Leaves (told (disk_of journal)) (HasSettled plays first w (is_settled journal) (prepared journal))
stands_images told plays first w journal commands stands =
    settled_images plays first w (told (disk_of journal)) (is_settled journal) commands (prepared journal) stands.leads stands.failed
    (subst (λ (n : ℕ). MatchBool (is_settled journal) (Leaves (told (disk_of journal)) (PartReadsAs n commands))
    (Leaves (told (disk_of journal)) (PartBeforeOrAfter n commands (prepared journal)))) stands.part
    (stands_leave told journal commands stands.on_disk))

pub settled_reads : {D W : Type 0} (told : D → Option Told) (plays : Play W) (first w : W) (journal : Journal D) (commands : List (List ℕ))
    → Stands told plays first w journal commands → is_settled journal ≡ true → Leaves (told (disk_of journal)) (ReadsAs commands)
settled_reads told plays first w journal commands stands settled =
    subst (λ (n : ℕ). Leaves (told (disk_of journal)) (PartReadsAs n commands)) stands.part
    (settled_leaves told journal commands settled stands.on_disk)

-- a world that an image has, it has also where something is to settle
pub world_settled : {W : Type 0} (plays : Play W) (first w : W) (settled : Bool) (failed : List ℕ) (image : Image)
    → HasWorld plays first w image → HasSettled plays first w settled failed image
world_settled plays first w true failed image has = has
world_settled plays first w false failed image has = inl has

pub unmoved_moments : (told : Option Told) (P : Image → Type 0) → Leaves told P → AtEachMoment told told P
unmoved_moments None P leaves = refl
unmoved_moments (Some t) P leaves = at_first t P (λ image may. leaves t refl image may)

pub settle_moments : {D W : Type 0} (told : D → Option Told) (plays : Play W) (first w : W) (old new : Journal D) (commands : List (List ℕ))
    → Stands told plays first w old commands → (is_settled old ≡ true → new ≡ old)
    → AtEachMoment (told (disk_of old)) (told (disk_of new)) (PartBeforeOrAfter (journal_part old) commands (prepared old))
    → AtEachMoment (told (disk_of old)) (told (disk_of new)) (HasSettled plays first w (is_settled old) (prepared old))
settle_moments {D} told plays first w old new commands stands unmoved each = by_settled (is_settled old) refl
  where
    by_settled : (b : Bool) → is_settled old ≡ b
        → AtEachMoment (told (disk_of old)) (told (disk_of new)) (HasSettled plays first w b (prepared old))
    by_settled true is = subst (λ (j : Journal D). AtEachMoment (told (disk_of old)) (told (disk_of j)) (HasSettled plays first w true (prepared old)))
        (sym (unmoved is))
        (unmoved_moments (told (disk_of old)) (HasSettled plays first w true (prepared old))
        (λ t e image may. (commands, settled_reads told plays first w old commands stands is t e image may, stands.leads)))
    by_settled false is = at_each_of (told (disk_of old)) (told (disk_of new)) (PartBeforeOrAfter begun_part commands (prepared old))
        (HasSettled plays first w false (prepared old))
        (λ image either. either_world plays first w commands (prepared old) image stands.leads (stands.failed is) either)
        (subst (λ (n : ℕ). AtEachMoment (told (disk_of old)) (told (disk_of new)) (PartBeforeOrAfter n commands (prepared old))) stands.part each)

pub same_prepared : {D : Type 0} (old new : Journal D) → new.staged.items ≡ old.staged.items → prepared new ≡ prepared old
same_prepared old new same = ap (λ (l : List ℕ). take (length l - 5) (drop 4 l)) same

-- a journal that is as it was, but for its disk, and is unsettled no more than it was
pub still_stands : {D W : Type 0} (told : D → Option Told) (plays : Play W) (first w : W) (old new : Journal D) (commands : List (List ℕ))
    → Stands told plays first w old commands → SameButDisk old new → (is_settled new ≡ false → is_settled old ≡ false)
    → StandsFor told new commands → Stands told plays first w new commands
still_stands {W = W} told plays first w old new commands stands same back on_disk = record {
  part = same.part ∙ stands.part;
  on_disk = on_disk;
  leads = stands.leads;
  place = same.end ∙ stands.place;
  failed = λ e. subst (λ (l : List ℕ). (next : W) × plays w l next) (sym (same_prepared old new same.staged)) (stands.failed (back e));
}

-- what a call that settles leaves unsettled was unsettled before
pub was_unsettled : {T E : Type 0} (result : Result T E) (before after : Bool) → OnOk result (after ≡ true)
    → OnErr result ((before ≡ false) × (after ≡ false)) → after ≡ false → before ≡ false
was_unsettled (Ok done) before after ok err unsettled = absurd (cc)
was_unsettled (Err e) before after ok err unsettled = err.0

-- the moments of an append, whose command was prepared before
pub append_moments : {D W : Type 0} (told : D → Option Told) (plays : Play W) (first w : W) (old mid new : Journal D) (commands : List (List ℕ)) (command : List ℕ)
    → Leads plays first commands w → ((next : W) × plays w command next) → disk_of mid ≡ disk_of old → prepared mid ≡ command
    → journal_part mid ≡ begun_part
    → AtEachMoment (told (disk_of mid)) (told (disk_of new)) (PartBeforeOrAfter (journal_part mid) commands (prepared mid))
    → AtEachMoment (told (disk_of old)) (told (disk_of new)) (HasSettled plays first w false command)
append_moments {D} told plays first w old mid new commands command leads next disk is part each =
    subst (λ (d : D). AtEachMoment (told d) (told (disk_of new)) (HasSettled plays first w false command)) disk
    (at_each_of (told (disk_of mid)) (told (disk_of new)) (PartBeforeOrAfter (journal_part mid) commands (prepared mid))
    (HasSettled plays first w false command)
    (λ image either. either_world plays first w commands command image leads next
    (subst₂ (λ (n : ℕ) (l : List ℕ). PartBeforeOrAfter n commands l image) part is either)) each)

pub gate_behind : (commands : List (List ℕ)) (command : List ℕ)
    → length (before_gate (commands ++ command ∷ [])) ≡ length (before_gate commands) + (5 + length command)
gate_behind commands command =
    let pushed : length (before_gate (commands ++ command ∷ []) ++ []) ≡ length (before_gate commands ++ (1 ∷ framed command ++ [])) =
    ap (λ (l : List ℕ). length l) (before_gate-push commands command []) in
    let left : length (before_gate (commands ++ command ∷ []) ++ []) ≡ length (before_gate (commands ++ command ∷ [])) =
    ap (λ (l : List ℕ). length l) (append-nil (before_gate (commands ++ command ∷ []))) in
    let right : length (before_gate commands ++ (1 ∷ framed command ++ [])) ≡ length (before_gate commands) + length (1 ∷ framed command ++ []) =
    length-append (before_gate commands) (1 ∷ framed command ++ []) in
    let tail : length (1 ∷ framed command ++ []) ≡ length (1 ∷ framed command) =
    ap (λ (l : List ℕ). length l) (append-nil (1 ∷ framed command)) in
    let frame = length-framed command in
    omega (arith, pushed, left, right, tail, frame)

-- with one more command the journal stands for the world to which it leads
pub appended_stands : {D W : Type 0} (told : D → Option Told) (plays : Play W) (first w next : W) (journal : Journal D) (commands : List (List ℕ)) (command : List ℕ)
    → Leads plays first commands w → plays w command next → IsAppended told journal (commands ++ command ∷ [])
    → Stands told plays first next journal (commands ++ command ∷ [])
appended_stands told plays first w next journal commands command leads step appended = record {
  part = appended.part;
  on_disk = appended.on_disk;
  leads = leads_on plays first commands w command next leads step;
  place = appended.place;
  failed = λ e. absurd (never (sym appended.settled ∙ e));
}
  where
    never : true ≡ false → ⊥
    never e = cc

pub either_settled : {D W : Type 0} (plays : Play W) (first w : W) (journal : Journal D) (command : List ℕ) (image : Image)
    → HasSettled plays first w false command image → HasEither plays first w journal command image
either_settled plays first w journal command image (inl has) = inl (world_settled plays first w (is_settled journal) (prepared journal) image has)
either_settled plays first w journal command image (inr next) = inr next
