-- Commands that an opening gives, and the world that they lead to.
use Rattle.std.proofs.Common.{◌≡◌, inl, inr, ℕ, ◌+◌, List, [], ◌∷◌, ◌++◌, length, take, Option, None, Some, Result, Ok, Err, sym, ap, subst, ◌∙◌, arith}
use Rattle.std.specs.Prelude.{IfErr, IsErrAnd, MatchOption}
use Rattle.disks.specs.Moments.{Told}
use Rattle.disks.specs.Parts.{part_of}
use Rattle.result_journal.specs.Journals.{before_gate, begun_part}
use Rattle.result_journal.specs.Openings.{HasGiven, IsBehind, ShownWhereTold, next_gate, opened_disk, opened_part}
use Rattle.result_journal.specs.declared.opening.Opening.{Opening}
use Rattle.result_journal.specs.declared.opening.OpenFault.{OpenFault}
use Rattle.result_journal.specs.declared.opening.OpenFault.TheVariants.{NotAJournal, Damaged, NewerVersion, DiskFailed, Memory}
use Rattle.journal_book.specs.Worlds.{Play}
use Rattle.journal_book.specs.Reading.{HasPlayed, IsPlayFault, IsReplayFault}
use Rattle.journal_book.proofs.WorldLaws.{leads_on}
use Rattle.journal_book.proofs.StepLaws.{gate_behind}

pub at_none : {T A : Type 0} (B : T → Type 0) (o : Option T) → o ≡ None → MatchOption o A B → A
at_none B None is h = h
at_none B (Some x) is h = absurd cc

pub at_some : {T : Type 0} (A : Type 0) (B : T → Type 0) (o : Option T) (x : T) → o ≡ Some x → MatchOption o A B → B x
at_some A B o x is h = subst (λ p. MatchOption p A B) is h

pub play_fault : {T W : Type 0} (plays : Play W) (first : W) (told : Option Told) (result : Result T OpenFault) (fault : OpenFault)
    → IsErrAnd result (λ e. e ≡ fault) → IsPlayFault plays first told fault → IfErr result (IsPlayFault plays first told)
play_fault plays first told (Ok value) fault is shown = tt
play_fault plays first told (Err e) fault is shown = subst (λ (f : OpenFault). IsPlayFault plays first told f) (sym is) shown

-- with one more command
pub played_on : {D W : Type 0} (told : D → Option Told) (plays : Play W) (first w next : W) (old new : Opening D) (commands : List (List ℕ)) (body : List ℕ) (place : ℕ)
    → HasPlayed told plays first old w commands → opened_part new ≡ opened_part old → HasGiven told new (commands ++ body ∷ [])
    → place ≡ next_gate old + 5 → next_gate new ≡ place + length body → plays w body next → HasPlayed told plays first new next (commands ++ body ∷ [])
played_on told plays first w next old new commands body place played same given at gate step = record {
  part = same ∙ played.part;
  given = given;
  place = let behind = gate_behind commands body in let was = played.place in omega (arith, behind, was, at, gate);
  leads = leads_on plays first commands w body next played.leads step;
}

-- a command that is out of place is shown by the bytes
pub replay_shown : {D W : Type 0} (told : D → Option Told) (plays : Play W) (first w : W) (old new : Opening D) (commands : List (List ℕ)) (body : List ℕ) (place : ℕ)
    (fault : OpenFault) → HasPlayed told plays first old w commands → opened_part new ≡ opened_part old → HasGiven told new (commands ++ body ∷ [])
    → told (opened_disk new) ≡ told (opened_disk old) → place ≡ next_gate old + 5
    → IsReplayFault plays w body place fault → IsPlayFault plays first (told (opened_disk old)) fault
replay_shown told plays first w old new commands body place (NotAJournal at) played same_part given same here is = absurd is
replay_shown told plays first w old new commands body place (Damaged at byte) played same_part given same here is = inr (λ t told_is.
    let behind = subst (λ (n : ℕ). IsBehind (part_of t.now n) (commands ++ body ∷ []) (next_gate new) new.size)
    (same_part ∙ played.part) (given.on_disk t (same ∙ told_is)) in record {
      before = commands;
      body = body;
      w = w;
      leads = played.leads;
      refused = is.0;
      there = subst (λ (n : ℕ). take n (part_of t.now begun_part).bytes ≡ before_gate (commands ++ body ∷ [])) behind.after_records behind.before;
      place = is.1 ∙ (here ∙ ap (λ (n : ℕ). n + 5) played.place);
      first_byte = is.2;
    })
replay_shown told plays first w old new commands body place (NewerVersion found) played same_part given same here is = absurd is
replay_shown told plays first w old new commands body place DiskFailed played same_part given same here is = absurd is
replay_shown told plays first w old new commands body place Memory played same_part given same here is = inl (λ t told_is. tt)

-- the bytes of the part show the fault
pub shown_fault : {W : Type 0} (plays : Play W) (first : W) (told : Option Told) (part : ℕ) (fault : OpenFault) → part ≡ begun_part
    → ShownWhereTold part told fault → IsPlayFault plays first told fault
shown_fault plays first told part fault same shown = inl (subst (λ (n : ℕ). ShownWhereTold n told fault) same shown)
