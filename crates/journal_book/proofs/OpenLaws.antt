-- What a journal is opened as, and its world.
use Rattle.std.proofs.Common.{◌≡◌, inl, inr, ℕ, ◌<◌, ◌≤◌, List, [], length, Option, None, Some, refl, sym, ap, subst, ◌∙◌, arith}
use Rattle.std.proofs.lemmas.Bool.{cases_lt}
use Rattle.disks.specs.Parts.{Image, part_of}
use Rattle.disks.specs.Moments.{Told, AtEachMoment}
use Rattle.result_journal.specs.Grammar.{Bodies, Reads}
use Rattle.result_journal.specs.Journals.{begun_part}
use Rattle.result_journal.specs.Begins.{BeginsAs, IsEmptyJournal}
use Rattle.result_journal.specs.Openings.{AlikeOnceSynced, LongPartStays, OpensAs}
use Rattle.result_journal.proofs.ReadingLaws.{no_other_reading}
use Rattle.journal_book.specs.Worlds.{Leads, Play}
use Rattle.journal_book.specs.Books.{HasWorldOf}
use Rattle.journal_book.proofs.WorldLaws.{same_bodies}

-- at most nine bytes are opened as at most nine
short_begins : (old new : List ℕ) → BeginsAs old new → length old ≤ 9 → 9 < length new → ⊥
short_begins old new begins short long =
    let changed : IsEmptyJournal old → ⊥ = λ empty. let same = ap (λ (l : List ℕ). length l) (begins.empty empty) in omega (arith, same, short, long) in
    let nine : length new ≡ 9 = ap (λ (l : List ℕ). length l) (begins.anew short changed) in
    omega (arith, nine, long)

-- what is read of the part that was begun was read of the part before
read_before : (old new : List ℕ) (commands : List (List ℕ)) → BeginsAs old new → Reads new (Bodies commands) → Reads old (Bodies commands)
read_before old new commands begins reads = elim (cases_lt 9 (length old)) [
  | inl long ↦ subst (λ (l : List ℕ). Reads l (Bodies commands)) (begins.long long) reads
  | inr short ↦ elim (cases_lt 9 (length new)) [
    | inl grown ↦ absurd (short_begins old new begins (omega (arith, short)) grown)
    | inr nine ↦
        let few : length new ≤ 9 = omega (arith, nine) in
        let none : commands ≡ [] = same_bodies commands [] (no_other_reading new (Bodies commands) (Bodies []) reads (inl (few, refl))) in
        let little : length old ≤ 9 = omega (arith, short) in
        subst (λ (cs : List (List ℕ)). Reads old (Bodies cs)) (sym none) (inl (little, refl))
  ]
]

pub opened_world : {W : Type 0} (plays : Play W) (first w : W) (old new : Option Told) (P : Image → Type 0) (commands : List (List ℕ))
    → AtEachMoment old new P → OpensAs old new → ((t : Told) → new ≡ Some t → Reads (part_of t.now begun_part).bytes (Bodies commands))
    → Leads plays first commands w → HasWorldOf plays first w old
opened_world plays first w None new P commands moments opens reads leads = λ t is. absurd cc
opened_world plays first w (Some a) None P commands moments opens reads leads = absurd moments
opened_world plays first w (Some a) (Some b) P commands moments opens reads leads = λ t is.
    (commands, read_before (part_of t.now begun_part).bytes (part_of b.now begun_part).bytes commands (opens t b is refl) (reads b refl), leads)

pub long_stays : (old new last : Option Told) → last ≡ new → OpensAs old new → LongPartStays old last
long_stays old new last same opens = λ t u is_t is_u long. (opens t u is_t (sym same ∙ is_u)).long long

pub alike_as : (old new last : Option Told) → last ≡ new → AlikeOnceSynced old new → AlikeOnceSynced old last
alike_as old new last same alike = λ t u is_t is_u. alike t u is_t (sym same ∙ is_u)
