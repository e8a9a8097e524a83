-- What stands at each step of the journal's calls.
use Rattle.std.proofs.Common.{refl, ◌≡◌, ◌⊎◌, inl, inr, ⊎_elim, ℕ, ◌+◌, ◌≤◌, Bool, true, false, MatchBool, Option, None, Some, Result, Ok, Err, OnOk, OnErr, List, [], ◌∷◌, ◌++◌, length, sym, ◌∙◌, ap, subst, arith}
use Rattle.disks.specs.Parts.{Part, Image, IsPartImage, MayLeave, all_synced, image_of, part_of, written_over, write_begun}
use Rattle.disks.specs.Moments.{Told, AtEachMoment}
use Rattle.disks.specs.Calls.{ReadsAsImage}
use Rattle.disks.specs.MomentLaws.{at_first}
use Rattle.disks.specs.PartLaws.{image_of_part}
use Rattle.result_journal.specs.Grammar.{framed, Bodies, Reads}
use Rattle.result_journal.specs.Steps.{WritesThrough, BeginsBut, IsStaged}
use Rattle.result_journal.specs.Journals.{PartReadsAs, PartBeforeOrAfter, Leaves, TakesMoments, AtRest, AtGate, StandsAt, IsPrepared, StandsFor, prepared, is_settled, is_settled_at, before_gate}
use Rattle.result_journal.specs.declared.journal.Journal.{Journal}
use Rattle.result_journal.specs.declared.journal.Standing.{Standing}
use Rattle.result_journal.specs.declared.journal.Standing.TheVariants.{Settled, GateMayBeOpen}
use Rattle.result_journal.proofs.StandLaws.{stands_leave, at_rest_reads, at_gate_reads, length-piece, rest_long, rest_write, rest_synced, rest_staged, staged_at_gate, gate_write, gate_long, gate_begins, opened, closed_again}
use Rattle.result_journal.proofs.StepLaws.{EachStep, at_each_step, part_when_done, part_when_failed, read_image}

-- A write behind the gate, of anything.
stage_each : (part : Part) (commands : List (List ℕ)) (end : ℕ) (piece : List ℕ) → AtRest part commands end →
    IsPartImage part part.bytes → EachStep part (end + 1) piece (λ c. Reads c (Bodies commands))
stage_each part commands end piece rest is = record {
  before = λ image may. at_rest_reads part commands end image rest may;
  during = λ bytes image may. at_rest_reads (write_begun part (end + 1) (length piece) bytes) commands end image
      (rest_write part commands end rest (length piece) bytes) may;
  synced = λ image may. at_rest_reads (all_synced (written_over part.bytes (end + 1) piece)) commands end image
      (rest_synced part commands end rest piece is) may;
}

-- A write of the gate, open or closed.
gate_each : (part : Part) (commands : List (List ℕ)) (command : List ℕ) (end gate : ℕ) →
    AtGate part commands command end → ((image : List ℕ) →
    IsPartImage (all_synced (written_over part.bytes end (gate ∷ []))) image →
    Reads image (Bodies commands) ⊎ Reads image (Bodies (commands ++ command ∷ []))) →
    EachStep part end (gate ∷ []) (λ c. Reads c (Bodies commands) ⊎ Reads c (Bodies (commands ++ command ∷ [])))
gate_each part commands command end gate at synced = record {
  before = λ image may. at_gate_reads part commands command end image at may;
  during = λ bytes image may. at_gate_reads (write_begun part end 1 bytes) commands command end image
      (gate_write part commands command end at bytes) may;
  synced = synced;
}

-- What stands, by whether anything is to settle.
module _ (standing : Standing) (part : Part) (commands : List (List ℕ)) (command : List ℕ) (end : ℕ) where
  at_rest_where : is_settled_at standing ≡ true → StandsAt standing part commands command end → AtRest part commands end
  at_rest_where settled at = by_case standing settled at
    where
      by_case : (s : Standing) → is_settled_at s ≡ true → StandsAt s part commands command end → AtRest part commands end
      by_case Settled settled at = at
      by_case GateMayBeOpen settled at = absurd (cc)

  at_gate_where : is_settled_at standing ≡ false → StandsAt standing part commands command end →
      AtGate part commands command end
  at_gate_where unsettled at = by_case standing unsettled at
    where
      by_case : (s : Standing) → is_settled_at s ≡ false → StandsAt s part commands command end →
          AtGate part commands command end
      by_case Settled unsettled at = absurd (cc)
      by_case GateMayBeOpen unsettled at = at

  stands_settled : is_settled_at standing ≡ true → AtRest part commands end → StandsAt standing part commands command end
  stands_settled settled at = by_case standing settled
    where
      by_case : (s : Standing) → is_settled_at s ≡ true → StandsAt s part commands command end
      by_case Settled settled = at
      by_case GateMayBeOpen settled = absurd (cc)

  stands_unsettled : is_settled_at standing ≡ false → AtGate part commands command end →
      StandsAt standing part commands command end
  stands_unsettled unsettled at = by_case standing unsettled
    where
      by_case : (s : Standing) → is_settled_at s ≡ false → StandsAt s part commands command end
      by_case Settled unsettled = absurd (cc)
      by_case GateMayBeOpen unsettled = at

module _ {D : Type 0} (told : D → Option Told) (journal : Journal D) (commands : List (List ℕ))
    (stands : StandsFor told journal commands) (as_image : ReadsAsImage (told journal.disk)) where
  reads_now : (t : Told) → told journal.disk ≡ Some t →
      IsPartImage (part_of t.now journal.part) (part_of t.now journal.part).bytes
  reads_now t is = read_image (told journal.disk) as_image journal.part t is

  pub rest_of : is_settled journal ≡ true → (t : Told) → told journal.disk ≡ Some t →
      AtRest (part_of t.now journal.part) commands journal.end
  rest_of settled t is =
      at_rest_where journal.standing (part_of t.now journal.part) commands (prepared journal) journal.end settled (stands.on_disk t is)

  pub gate_of : is_settled journal ≡ false → (t : Told) → told journal.disk ≡ Some t →
      AtGate (part_of t.now journal.part) commands (prepared journal) journal.end
  gate_of unsettled t is =
      at_gate_where journal.standing (part_of t.now journal.part) commands (prepared journal) journal.end unsettled (stands.on_disk t is)

  at_rest_now : is_settled journal ≡ true → (part : Part) → AtRest part commands journal.end →
      StandsAt journal.standing part commands (prepared journal) journal.end
  at_rest_now settled part rest =
      stands_settled journal.standing part commands (prepared journal) journal.end settled rest

  pub stage_long : is_settled journal ≡ true → (t : Told) → told journal.disk ≡ Some t →
      journal.end + 1 ≤ length (part_of t.now journal.part).bytes
  stage_long settled t is = rest_long (part_of t.now journal.part) commands journal.end (rest_of settled t is) (reads_now t is)

  pub stage_moments : {E : Type 0} (piece : List ℕ) (new : Option Told) (result : Result Unit E) →
      is_settled journal ≡ true → WritesThrough journal.part (journal.end + 1) piece (told journal.disk) result new →
      AtEachMoment (told journal.disk) new (PartReadsAs journal.part commands)
  stage_moments piece new result settled writes =
      at_each_step journal.part (journal.end + 1) piece (told journal.disk) new result (λ c. Reads c (Bodies commands)) writes
      (λ t is. stage_each (part_of t.now journal.part) commands journal.end piece (rest_of settled t is) (reads_now t is))

  stage_part : {E : Type 0} (piece : List ℕ) (new : Option Told) (result : Result Unit E) →
      is_settled journal ≡ true → WritesThrough journal.part (journal.end + 1) piece (told journal.disk) result new →
      (u : Told) → new ≡ Some u → AtRest (part_of u.now journal.part) commands journal.end
  stage_part {E} piece new (Ok done) settled writes u is =
      let d = part_when_done E journal.part (journal.end + 1) piece (told journal.disk) new writes u is in
      subst (λ (p : Part). AtRest p commands journal.end) (sym d.2)
      (rest_synced (part_of d.0.now journal.part) commands journal.end (rest_of settled d.0 d.1) piece (reads_now d.0 d.1))
  stage_part piece new (Err e) settled writes u is =
      let d = part_when_failed journal.part (journal.end + 1) piece (told journal.disk) new e writes u is in
      ⊎_elim
      (λ (same : (part_of u.now journal.part) ≡ (part_of d.0.now journal.part)).
      subst (λ (p : Part). AtRest p commands journal.end) (sym same) (rest_of settled d.0 d.1))
      (λ (begun : (bytes : List ℕ) × ((part_of u.now journal.part) ≡ write_begun (part_of d.0.now journal.part) (journal.end + 1) (length piece) bytes)).
      subst (λ (p : Part). AtRest p commands journal.end) (sym begun.1)
      (rest_write (part_of d.0.now journal.part) commands journal.end (rest_of settled d.0 d.1) (length piece) begun.0))
      d.2

  pub stage_stands : {E : Type 0} (piece : List ℕ) (disk : D) (result : Result Unit E) →
      is_settled journal ≡ true → WritesThrough journal.part (journal.end + 1) piece (told journal.disk) result (told disk) →
      StandsFor told (record journal { disk = disk }) commands
  stage_stands piece disk result settled writes = record {
    part = stands.part;
    when_prepared = λ is. let p = stands.when_prepared is in record { is_body = p.is_body; form = p.form; room = p.room };
    when_unsettled = stands.when_unsettled;
    on_disk = λ u is. at_rest_now settled (part_of u.now journal.part) (stage_part piece (told disk) result settled writes u is);
  }

  pub stage_staged : (E : Type 0) (piece : List ℕ) (disk : D) → is_settled journal ≡ true →
      journal.is_prepared ≡ true → piece ≡ journal.staged.items →
      WritesThrough {E = E} journal.part (journal.end + 1) piece (told journal.disk) (Ok tt) (told disk) →
      IsStaged told (record journal { disk = disk }) commands
  stage_staged E piece disk settled is_prepared is writes u here =
      let d = part_when_done E journal.part (journal.end + 1) piece (told journal.disk) (told disk) writes u here in
      let rest = rest_of settled d.0 d.1 in
      let p = stands.when_prepared is_prepared in
      let form : piece ≡ framed (prepared journal) ++ 0 ∷ [] = is ∙ p.form in
      subst (λ (q : Part). AtGate q commands (prepared journal) journal.end) (sym d.2)
      (staged_at_gate (written_over (part_of d.0.now journal.part).bytes (journal.end + 1) piece) commands (prepared journal)
      journal.end rest.are_bodies p.is_body rest.place
      (subst (λ (l : List ℕ). BeginsBut (written_over (part_of d.0.now journal.part).bytes (journal.end + 1) piece) (before_gate commands) l)
      form (rest_staged (part_of d.0.now journal.part) commands journal.end rest piece (reads_now d.0 d.1))))

  -- From a part that stands but for the gate.
  module _ (staged : (t : Told) → told journal.disk ≡ Some t →
      AtGate (part_of t.now journal.part) commands (prepared journal) journal.end) where
    pub open_long : (t : Told) → told journal.disk ≡ Some t → journal.end ≤ length (part_of t.now journal.part).bytes
    open_long t is =
        gate_long (part_of t.now journal.part) commands (prepared journal) journal.end (staged t is) (reads_now t is)

    opened_now : (t : Told) → told journal.disk ≡ Some t →
        AtRest (all_synced (written_over (part_of t.now journal.part).bytes journal.end (1 ∷ []))) (commands ++ prepared journal ∷ [])
        (journal.end + (5 + length (prepared journal)))
    opened_now t is =
        let at = staged t is in
        opened (part_of t.now journal.part).bytes commands (prepared journal) journal.end at.are_bodies at.is_body at.place
        (gate_begins (part_of t.now journal.part) commands (prepared journal) journal.end at (reads_now t is))

    pub open_moments : {E : Type 0} (new : Option Told) (result : Result Unit E) →
        WritesThrough journal.part journal.end (1 ∷ []) (told journal.disk) result new →
        AtEachMoment (told journal.disk) new (PartBeforeOrAfter journal.part commands (prepared journal))
    open_moments new result writes =
        at_each_step journal.part journal.end (1 ∷ []) (told journal.disk) new result
        (λ c. Reads c (Bodies commands) ⊎ Reads c (Bodies (commands ++ prepared journal ∷ []))) writes
        (λ t is. gate_each (part_of t.now journal.part) commands (prepared journal) journal.end 1 (staged t is)
        (λ image may. inr (at_rest_reads _ (commands ++ prepared journal ∷ []) _ image (opened_now t is) may)))

    pub settle_moments : {E : Type 0} (new : Option Told) (result : Result Unit E) →
        WritesThrough journal.part journal.end (0 ∷ []) (told journal.disk) result new →
        AtEachMoment (told journal.disk) new (PartBeforeOrAfter journal.part commands (prepared journal))
    settle_moments new result writes =
        at_each_step journal.part journal.end (0 ∷ []) (told journal.disk) new result
        (λ c. Reads c (Bodies commands) ⊎ Reads c (Bodies (commands ++ prepared journal ∷ []))) writes
        (λ t is. gate_each (part_of t.now journal.part) commands (prepared journal) journal.end 0 (staged t is)
        (λ image may. inl (at_rest_reads _ commands journal.end image
        (closed_again (part_of t.now journal.part) commands (prepared journal) journal.end (staged t is) (reads_now t is)) may)))

    -- After a failed write of the gate it stands so still.
    pub gate_failed : {E : Type 0} (gate : ℕ) (new : Option Told) (e : E) →
        WritesThrough journal.part journal.end (gate ∷ []) (told journal.disk) (Err e) new → (u : Told) → new ≡ Some u →
        AtGate (part_of u.now journal.part) commands (prepared journal) journal.end
    gate_failed gate new e writes u is =
        let d = part_when_failed journal.part journal.end (gate ∷ []) (told journal.disk) new e writes u is in
        ⊎_elim
        (λ (same : (part_of u.now journal.part) ≡ (part_of d.0.now journal.part)).
        subst (λ (p : Part). AtGate p commands (prepared journal) journal.end) (sym same) (staged d.0 d.1))
        (λ (begun : (bytes : List ℕ) × ((part_of u.now journal.part) ≡ write_begun (part_of d.0.now journal.part) journal.end 1 bytes)).
        subst (λ (p : Part). AtGate p commands (prepared journal) journal.end) (sym begun.1)
        (gate_write (part_of d.0.now journal.part) commands (prepared journal) journal.end (staged d.0 d.1) begun.0))
        d.2

    pub open_done : (E : Type 0) (new : Option Told) →
        WritesThrough {E = E} journal.part journal.end (1 ∷ []) (told journal.disk) (Ok tt) new → (u : Told) → new ≡ Some u →
        AtRest (part_of u.now journal.part) (commands ++ prepared journal ∷ []) (journal.end + (5 + length (prepared journal)))
    open_done E new writes u is =
        let d = part_when_done E journal.part journal.end (1 ∷ []) (told journal.disk) new writes u is in
        subst (λ (p : Part). AtRest p (commands ++ prepared journal ∷ []) (journal.end + (5 + length (prepared journal))))
        (sym d.2) (opened_now d.0 d.1)

    pub settle_done : (E : Type 0) (new : Option Told) →
        WritesThrough {E = E} journal.part journal.end (0 ∷ []) (told journal.disk) (Ok tt) new → (u : Told) → new ≡ Some u →
        AtRest (part_of u.now journal.part) commands journal.end
    settle_done E new writes u is =
        let d = part_when_done E journal.part journal.end (0 ∷ []) (told journal.disk) new writes u is in
        subst (λ (p : Part). AtRest p commands journal.end) (sym d.2)
        (closed_again (part_of d.0.now journal.part) commands (prepared journal) journal.end (staged d.0 d.1) (reads_now d.0 d.1))

pub stage_staged_on : {D E : Type 0} (told : D → Option Told) (journal : Journal D) →
    ReadsAsImage (told journal.disk) → (piece : List ℕ) (disk : D) (result : Result Unit E) →
    is_settled journal ≡ true → journal.is_prepared ≡ true → piece ≡ journal.staged.items →
    WritesThrough journal.part (journal.end + 1) piece (told journal.disk) result (told disk) →
    OnOk result ((commands : List (List ℕ)) → StandsFor told journal commands →
    IsStaged told (record journal { disk = disk }) commands)
stage_staged_on {D} {E} told journal as_image piece disk (Ok done) settled is_prepared is writes = λ commands stands.
    stage_staged told journal commands stands as_image E piece disk settled is_prepared is writes
stage_staged_on told journal as_image piece disk (Err e) settled is_prepared is writes = tt

-- The length of a prepared record.
pub staged_length : {D : Type 0} (journal : Journal D) → IsPrepared journal →
    length journal.staged.items ≡ 5 + length (prepared journal)
staged_length journal p = ap (λ (l : List ℕ). length l) p.form ∙ length-piece (prepared journal)

pub open_stands : {D : Type 0} (told : D → Option Told) (journal : Journal D) (commands : List (List ℕ))
    (stands : StandsFor told journal commands) → ReadsAsImage (told journal.disk) →
    IsStaged told journal commands → (E : Type 0) (disk : D) (size : ℕ) → size ≡ length journal.staged.items →
    journal.is_prepared ≡ true → WritesThrough {E = E} journal.part journal.end (1 ∷ []) (told journal.disk) (Ok tt) (told disk) →
    StandsFor told (record journal { disk = disk; end = journal.end + size; is_prepared = false; standing = Settled })
    (commands ++ prepared journal ∷ [])
open_stands told journal commands stands as_image staged E disk size is is_prepared writes = record {
  part = stands.part;
  when_prepared = λ none. absurd (cc);
  when_unsettled = λ unsettled. absurd (cc);
  on_disk = λ u here.
      let long : size ≡ 5 + length (prepared journal) = is ∙ staged_length journal (stands.when_prepared is_prepared) in
      subst (λ (n : ℕ). AtRest (part_of u.now journal.part) (commands ++ prepared journal ∷ []) (journal.end + n)) (sym long)
      (open_done told journal commands stands as_image staged E (told disk) writes u here);
}

-- What holds at each error.
pub on_each_err : {T E P : Type 0} (result : Result T E) → P → OnErr result P
on_each_err (Ok x) p = tt
on_each_err (Err e) p = p

pub unsettled_stands : {D : Type 0} (told : D → Option Told) (journal : Journal D) (commands : List (List ℕ)) →
    StandsFor told journal commands → (disk : D) → is_settled journal ≡ false →
    ((u : Told) → told disk ≡ Some u → AtGate (part_of u.now journal.part) commands (prepared journal) journal.end) →
    StandsFor told (record journal { disk = disk }) commands
unsettled_stands told journal commands stands disk unsettled at = record {
  part = stands.part;
  when_prepared = λ is. let p = stands.when_prepared is in record { is_body = p.is_body; form = p.form; room = p.room };
  when_unsettled = stands.when_unsettled;
  on_disk = λ u is.
      stands_unsettled journal.standing (part_of u.now journal.part) commands (prepared journal) journal.end unsettled (at u is);
}

pub settle_stands : {D : Type 0} (told : D → Option Told) (journal : Journal D) (commands : List (List ℕ)) →
    StandsFor told journal commands → (disk : D) →
    ((u : Told) → told disk ≡ Some u → AtRest (part_of u.now journal.part) commands journal.end) →
    StandsFor told (record journal { disk = disk; standing = Settled }) commands
settle_stands told journal commands stands disk at = record {
  part = stands.part;
  when_prepared = λ is. let p = stands.when_prepared is in record { is_body = p.is_body; form = p.form; room = p.room };
  when_unsettled = λ unsettled. absurd (cc);
  on_disk = at;
}

-- Where nothing is done, each image reads as it stands.
still : (told : Option Told) (P : Image → Type 0) →
    ((t : Told) → told ≡ Some t → (image : Image) → MayLeave t.now image → P image) → AtEachMoment told told P
still None P here = refl
still (Some t) P here = at_first t P (here t refl)

pub still_moments : {D : Type 0} (told : D → Option Told) (journal : Journal D) (commands : List (List ℕ)) →
    StandsFor told journal commands →
    AtEachMoment (told journal.disk) (told journal.disk) (PartBeforeOrAfter journal.part commands (prepared journal))
still_moments told journal commands stands =
    still (told journal.disk) (PartBeforeOrAfter journal.part commands (prepared journal)) (λ t is image may.
    by_gate journal.standing t image may (stands.on_disk t is))
  where
    by_gate : (standing : Standing) (t : Told) (image : Image) → MayLeave t.now image →
        StandsAt standing (part_of t.now journal.part) commands (prepared journal) journal.end →
        PartBeforeOrAfter journal.part commands (prepared journal) image
    by_gate Settled t image may rest = inl (at_rest_reads (part_of t.now journal.part) commands journal.end (image_of image journal.part) rest
        (image_of_part t.now journal.part image may))
    by_gate GateMayBeOpen t image may at =
        at_gate_reads (part_of t.now journal.part) commands (prepared journal) journal.end (image_of image journal.part) at
        (image_of_part t.now journal.part image may)

pub same_command : {D : Type 0} (old new : Journal D) → new ≡ record old { disk = new.disk } →
    prepared new ≡ prepared old
same_command old new same = ap (λ (j : Journal _). prepared j) same

pub settled_leaves : {D : Type 0} (told : D → Option Told) (journal : Journal D) (commands : List (List ℕ)) →
    is_settled journal ≡ true → StandsFor told journal commands → Leaves (told journal.disk) (PartReadsAs journal.part commands)
settled_leaves told journal commands settled stands =
    subst (λ (b : Bool). MatchBool b (Leaves (told journal.disk) (PartReadsAs journal.part commands))
    (Leaves (told journal.disk) (PartBeforeOrAfter journal.part commands (prepared journal)))) settled
    (stands_leave told journal commands stands)

pub takes_both : (old mid new : Option Told) (P : Image → Type 0) → AtEachMoment old mid P → TakesMoments 2 old mid →
    TakesMoments 2 mid new → TakesMoments 4 old new
takes_both old None new P at one other = λ t v is_t is_v. absurd (gone old t is_t at)
  where
    gone : (told : Option Told) (t : Told) → told ≡ Some t → AtEachMoment told None P → ⊥
    gone None t is each = absurd (cc)
    gone (Some u) t is each = each
takes_both old (Some u) new P at one other = λ t v is_t is_v.
    omega (arith, one t u is_t refl, other u v refl is_v)
