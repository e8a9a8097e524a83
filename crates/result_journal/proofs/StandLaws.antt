-- What stands on the disk through writes, syncs and crashes.
use Rattle.std.proofs.Common.{◌≡◌, ◌≢◌, ◌⊎◌, inl, inr, ℕ, ◌+◌, ◌<◌, ◌≤◌, false, MatchBool, Option, Some, List, [], ◌∷◌, ◌++◌, length, get_or, refl, sym, ◌∙◌, ap, subst, arith, append_assoc, length-append}
use Rattle.std.proofs.lemmas.Bool.{cases_eq, cases_lt}
use Rattle.std.proofs.lemmas.Bool.Decides.{nat_tests}
use Rattle.std.proofs.lemmas.List.{append-nil}
use Rattle.disks.specs.declared.range.Range.{Range}
use Rattle.disks.specs.Parts.{Part, IsPartImage, image_of, is_among, all_synced, part_of, written_over, write_begun}
use Rattle.disks.specs.PartLaws.{image_of_part}
use Rattle.result_journal.specs.Grammar.{head, IsBody, framed, records, AreBodies, Bodies, Reads}
use Rattle.result_journal.specs.Steps.{BeginsBut}
use Rattle.disks.specs.Moments.{Told}
use Rattle.result_journal.specs.declared.journal.Journal.{Journal}
use Rattle.result_journal.specs.declared.journal.Standing.{Standing}
use Rattle.result_journal.specs.declared.journal.Standing.TheVariants.{Settled, GateMayBeOpen}
use Rattle.result_journal.specs.Journals.{PartReadsAs, PartBeforeOrAfter, Leaves, StandsBut, before_gate, AtRest, AtGate, StandsAt, StandsFor, prepared, is_settled, is_settled_at}
use Rattle.result_journal.proofs.FrameLaws.{length-framed}
use Rattle.result_journal.proofs.FrontLaws.{Begins, begins, begins_but, get_front, get_but, written_behind, written_byte}

-- A place outside the range of a write is untouched by it.
outside : (at count k : ℕ) (ranges : List Range) → (k < at) ⊎ (at + count ≤ k) → is_among ranges k ≡ false →
    is_among (record { at = at; count = count } ∷ ranges) k ≡ false
outside at count k ranges (inl before) none = grind (arith, nat_tests)
outside at count k ranges (inr behind) none = grind (arith, nat_tests)

-- An image, and what a read gives, begin as they stand.
pub image_begins : (part : Part) (front image : List ℕ) (free : ℕ) → length front ≤ free → StandsBut part free front →
    IsPartImage part image → Begins image front
image_begins part front image free past stands is =
    begins image front (omega (arith, stands.long, is.no_shorter))
    (λ k below. let apart : k ≢ free = omega arith in
    is.kept k (omega (arith, stands.long)) (stands.untouched k below apart) ∙ stands.kept k below apart)

pub image_begins_but : (part : Part) (front back image : List ℕ) (h free : ℕ) → free ≡ length front →
    StandsBut part free (front ++ h ∷ back) → IsPartImage part image → BeginsBut image front back
image_begins_but part front back image h free place stands is =
    begins_but image front back h (omega (arith, stands.long, is.no_shorter))
    (λ k below apart. let other : k ≢ free = omega arith in
    is.kept k (omega (arith, stands.long)) (stands.untouched k below other) ∙ stands.kept k below other)

-- A write that is begun elsewhere leaves it so, and a write at the free place does.
pub write_elsewhere : (part : Part) (front : List ℕ) (free at count : ℕ) (bytes : List ℕ) →
    ((k : ℕ) → k < length front → k ≢ free → (k < at) ⊎ (at + count ≤ k)) → StandsBut part free front →
    StandsBut (write_begun part at count bytes) free front
write_elsewhere part front free at count bytes apart stands = record {
  long = stands.long;
  untouched = λ k below other. outside at count k part.begun (apart k below other) (stands.untouched k below other);
  kept = stands.kept;
}

-- What is synced stands.
pub synced_stands : (bytes front : List ℕ) (free : ℕ) → Begins bytes front → StandsBut (all_synced bytes) free front
synced_stands bytes front free b = record {
  long = omega (arith, ap (λ (l : List ℕ). length l) b.form, length-append front b.rest);
  untouched = λ k below other. refl;
  kept = λ k below other. ap (λ (l : List ℕ). get_or l k 0) b.form ∙ get_front front b.rest k below;
}

pub synced_stands_but : (bytes front back : List ℕ) (h free : ℕ) → free ≡ length front → BeginsBut bytes front back →
    StandsBut (all_synced bytes) free (front ++ h ∷ back)
synced_stands_but bytes front back h free place b = record {
  long = omega (arith, ap (λ (l : List ℕ). length l) b.form, length-append front (b.there ∷ (back ++ b.rest)), length-append back b.rest, length-append front (h ∷ back));
  untouched = λ k below other. refl;
  kept = λ k below other. ap (λ (l : List ℕ). get_or l k 0) b.form
      ∙ get_but front back b.rest b.there h k below (omega arith);
}

-- One record more.
pub records-push : (commands : List (List ℕ)) (command : List ℕ) →
    records (commands ++ command ∷ []) ≡ records commands ++ 1 ∷ framed command
records-push [] command = append-nil (1 ∷ framed command)
records-push (c ∷ commands) command =
    ap (λ (l : List ℕ). 1 ∷ framed c ++ l) (records-push commands command)
    ∙ sym (append_assoc (1 ∷ framed c) (records commands) (1 ∷ framed command))

pub bodies-push : (commands : List (List ℕ)) (command : List ℕ) → AreBodies commands → IsBody command →
    AreBodies (commands ++ command ∷ [])
bodies-push [] command are is = (is, tt)
bodies-push (c ∷ commands) command are is = (are.0, bodies-push commands command are.1 is)

pub before_gate-push : (commands : List (List ℕ)) (command rest : List ℕ) →
    before_gate (commands ++ command ∷ []) ++ rest ≡ before_gate commands ++ (1 ∷ framed command ++ rest)
before_gate-push commands command rest =
    ap (λ (l : List ℕ). head ++ l ++ rest) (records-push commands command)
    ∙ ap (λ (l : List ℕ). l ++ rest) (sym (append_assoc head (records commands) (1 ∷ framed command)))
    ∙ append_assoc (before_gate commands) (1 ∷ framed command) rest

-- Records and a closed gate are read as these records, whatever stands behind.
pub reads_closed : (image : List ℕ) (commands : List (List ℕ)) (gate : ℕ) (rest : List ℕ) → gate ≢ 1 →
    AreBodies commands → image ≡ before_gate commands ++ gate ∷ rest → Reads image (Bodies commands)
reads_closed image [] gate rest closed are form = elim (cases_lt 9 (length image)) [
  | inl long ↦ inr (long, record { gate = gate; rest = rest; closed = closed; are_bodies = are; form = form })
  | inr short ↦ inl (short, refl)
]
reads_closed image (c ∷ commands) gate rest closed are form =
    let more : 9 < length image =
    omega (
      arith,
      ap (λ (l : List ℕ). length l) form,
      length-append (before_gate (c ∷ commands)) (gate ∷ rest),
      length-append head (records (c ∷ commands)),
      length-append (framed c) (records commands),
    ) in
    inr (more, record { gate = gate; rest = rest; closed = closed; are_bodies = are; form = form })

-- At rest each image reads as the commands,
pub at_rest_reads : (part : Part) (commands : List (List ℕ)) (end : ℕ) (image : List ℕ) → AtRest part commands end →
    IsPartImage part image → Reads image (Bodies commands)
at_rest_reads part commands end image rest is =
    let front = before_gate commands ++ rest.gate ∷ [] in
    let long : length front ≤ end + 1 = omega (arith, length-append (before_gate commands) (rest.gate ∷ []), rest.place) in
    let b = image_begins part front image (end + 1) long rest.stands is in
    reads_closed image commands rest.gate b.rest rest.closed rest.are_bodies
    (b.form ∙ append_assoc (before_gate commands) (rest.gate ∷ []) b.rest)

-- and at the gate as the commands, or as these and the one behind it.
pub at_gate_reads : (part : Part) (commands : List (List ℕ)) (command : List ℕ) (end : ℕ) (image : List ℕ) →
    AtGate part commands command end → IsPartImage part image →
    Reads image (Bodies commands) ⊎ Reads image (Bodies (commands ++ command ∷ []))
at_gate_reads part commands command end image at is =
    let b = image_begins_but part (before_gate commands) (framed command ++ 0 ∷ []) image 0 end at.place at.stands is in
    elim (cases_eq b.there 1) [
      | inr closed ↦ inl (reads_closed image commands b.there ((framed command ++ 0 ∷ []) ++ b.rest) closed at.are_bodies b.form)
      | inl open_gate ↦ inr (reads_closed image (commands ++ command ∷ []) 0 b.rest (omega arith)
          (bodies-push commands command at.are_bodies at.is_body)
          (subst (λ (g : ℕ). image ≡ before_gate commands ++ g ∷ ((framed command ++ 0 ∷ []) ++ b.rest)) open_gate b.form
          ∙ ap (λ (l : List ℕ). before_gate commands ++ 1 ∷ l) (append_assoc (framed command) (0 ∷ []) b.rest)
          ∙ sym (before_gate-push commands command (0 ∷ b.rest))))
    ]

-- What a journal that stands for commands leaves.
pub stands_leave : {D : Type 0} (told : D → Option Told) (journal : Journal D) (commands : List (List ℕ)) →
    StandsFor told journal commands → MatchBool (is_settled journal)
    (Leaves (told journal.disk) (PartReadsAs journal.part commands))
    (Leaves (told journal.disk) (PartBeforeOrAfter journal.part commands (prepared journal)))
stands_leave told journal commands stands = by_gate journal.standing stands.on_disk
  where
    by_gate : (standing : Standing) → ((t : Told) → told journal.disk ≡ Some t →
        StandsAt standing (part_of t.now journal.part) commands (prepared journal) journal.end) →
        MatchBool (is_settled_at standing) (Leaves (told journal.disk) (PartReadsAs journal.part commands))
        (Leaves (told journal.disk) (PartBeforeOrAfter journal.part commands (prepared journal)))
    by_gate Settled at = λ t is image may.
        at_rest_reads (part_of t.now journal.part) commands journal.end (image_of image journal.part) (at t is)
        (image_of_part t.now journal.part image may)
    by_gate GateMayBeOpen at = λ t is image may.
        at_gate_reads (part_of t.now journal.part) commands (prepared journal) journal.end (image_of image journal.part)
        (at t is) (image_of_part t.now journal.part image may)

-- The length of what stands in front.
length-front : (commands : List (List ℕ)) (gate end : ℕ) → end ≡ length (before_gate commands) →
    length (before_gate commands ++ gate ∷ []) ≡ end + 1
length-front commands gate end place = omega (arith, length-append (before_gate commands) (gate ∷ []), place)

pub length-piece : (command : List ℕ) → length (framed command ++ 0 ∷ []) ≡ 5 + length command
length-piece command =
    omega (arith, length-append (framed command) (0 ∷ []), length-framed command)

-- A part at rest.
module _ (part : Part) (commands : List (List ℕ)) (end : ℕ) (rest : AtRest part commands end) where
  pub rest_begins : (image : List ℕ) → IsPartImage part image → Begins image (before_gate commands ++ rest.gate ∷ [])
  rest_begins image is = image_begins part (before_gate commands ++ rest.gate ∷ []) image (end + 1)
      (omega (arith, length-front commands rest.gate end rest.place)) rest.stands is

  pub rest_long : IsPartImage part part.bytes → end + 1 ≤ length part.bytes
  rest_long is =
      omega (arith, length-front commands rest.gate end rest.place, rest.stands.long, is.no_shorter)

  -- A write behind the gate leaves it at rest,
  pub rest_write : (count : ℕ) (bytes : List ℕ) → AtRest (write_begun part (end + 1) count bytes) commands end
  rest_write count bytes = record {
    gate = rest.gate;
    closed = rest.closed;
    are_bodies = rest.are_bodies;
    place = rest.place;
    stands = write_elsewhere part (before_gate commands ++ rest.gate ∷ []) (end + 1) (end + 1) count bytes
        (λ k below other. inl (omega (arith, length-front commands rest.gate end rest.place))) rest.stands;
  }

  written : (piece : List ℕ) → IsPartImage part part.bytes →
      Begins (written_over part.bytes (end + 1) piece) ((before_gate commands ++ rest.gate ∷ []) ++ piece)
  written piece is =
      let b = rest_begins part.bytes is in
      let w = written_behind (before_gate commands ++ rest.gate ∷ []) b.rest piece (end + 1)
      (sym (length-front commands rest.gate end rest.place)) in
      record {
        rest = w.rest;
        form = ap (λ (l : List ℕ). written_over l (end + 1) piece) b.form ∙ w.form;
      }

  -- and so does its sync, with the piece behind the gate.
  pub rest_synced : (piece : List ℕ) → IsPartImage part part.bytes →
      AtRest (all_synced (written_over part.bytes (end + 1) piece)) commands end
  rest_synced piece is =
      let w = written piece is in
      record {
        gate = rest.gate;
        closed = rest.closed;
        are_bodies = rest.are_bodies;
        place = rest.place;
        stands = synced_stands (written_over part.bytes (end + 1) piece) (before_gate commands ++ rest.gate ∷ []) (end + 1)
            (record {
              rest = piece ++ w.rest;
              form = w.form ∙ append_assoc (before_gate commands ++ rest.gate ∷ []) piece w.rest;
            });
      }

  pub rest_staged : (piece : List ℕ) → IsPartImage part part.bytes →
      BeginsBut (written_over part.bytes (end + 1) piece) (before_gate commands) piece
  rest_staged piece is =
      let w = written piece is in
      record {
        there = rest.gate;
        rest = w.rest;
        form = w.form
            ∙ append_assoc (before_gate commands ++ rest.gate ∷ []) piece w.rest
            ∙ append_assoc (before_gate commands) (rest.gate ∷ []) (piece ++ w.rest);
      }

-- A part that stands but for the gate.
pub staged_at_gate : (bytes : List ℕ) (commands : List (List ℕ)) (command : List ℕ) (end : ℕ) → AreBodies commands →
    IsBody command → end ≡ length (before_gate commands) →
    BeginsBut bytes (before_gate commands) (framed command ++ 0 ∷ []) → AtGate (all_synced bytes) commands command end
staged_at_gate bytes commands command end are is place b = record {
  are_bodies = are;
  is_body = is;
  place = place;
  stands = synced_stands_but bytes (before_gate commands) (framed command ++ 0 ∷ []) 0 end place b;
}

pub staged_long : (bytes front back : List ℕ) (end : ℕ) → end ≡ length front → BeginsBut bytes front back →
    end ≤ length bytes
staged_long bytes front back end place b =
    omega (arith, ap (λ (l : List ℕ). length l) b.form, length-append front (b.there ∷ (back ++ b.rest)))

opened_end : (commands : List (List ℕ)) (command : List ℕ) (end : ℕ) → end ≡ length (before_gate commands) →
    end + (5 + length command) ≡ length (before_gate (commands ++ command ∷ []))
opened_end commands command end place =
    let longer = ap (λ (l : List ℕ). length l) (before_gate-push commands command []) in
    omega (
      arith,
      longer,
      length-append (before_gate (commands ++ command ∷ [])) [],
      length-append (before_gate commands) (1 ∷ framed command ++ []),
      length-append (framed command) [],
      length-framed command,
      place,
    )

-- The gate is opened, and it is at rest with one command more.
pub opened : (bytes : List ℕ) (commands : List (List ℕ)) (command : List ℕ) (end : ℕ) → AreBodies commands →
    IsBody command → end ≡ length (before_gate commands) →
    BeginsBut bytes (before_gate commands) (framed command ++ 0 ∷ []) →
    AtRest (all_synced (written_over bytes end (1 ∷ []))) (commands ++ command ∷ []) (end + (5 + length command))
opened bytes commands command end are is place b =
    let front = before_gate (commands ++ command ∷ []) in
    let form : written_over bytes end (1 ∷ []) ≡ (front ++ 0 ∷ []) ++ b.rest =
    ap (λ (l : List ℕ). written_over l end (1 ∷ [])) b.form
    ∙ written_byte (before_gate commands) ((framed command ++ 0 ∷ []) ++ b.rest) b.there 1 end place
    ∙ ap (λ (l : List ℕ). before_gate commands ++ 1 ∷ l) (append_assoc (framed command) (0 ∷ []) b.rest)
    ∙ sym (before_gate-push commands command (0 ∷ b.rest))
    ∙ sym (append_assoc front (0 ∷ []) b.rest) in
    record {
      gate = 0;
      closed = omega arith;
      are_bodies = bodies-push commands command are is;
      place = opened_end commands command end place;
      stands = synced_stands (written_over bytes end (1 ∷ [])) (front ++ 0 ∷ []) (end + (5 + length command) + 1)
          (record { rest = b.rest; form = form });
    }

module _ (part : Part) (commands : List (List ℕ)) (command : List ℕ) (end : ℕ)
    (at : AtGate part commands command end) where
  -- A write of the gate leaves it so,
  pub gate_write : (bytes : List ℕ) → AtGate (write_begun part end 1 bytes) commands command end
  gate_write bytes = record {
    are_bodies = at.are_bodies;
    is_body = at.is_body;
    place = at.place;
    stands = write_elsewhere part (before_gate commands ++ 0 ∷ (framed command ++ 0 ∷ [])) end end 1 bytes
        (λ k below other. elim (cases_lt k end) [ inl less ↦ inl less | inr more ↦ inr (omega arith) ]) at.stands;
  }

  pub gate_begins : IsPartImage part part.bytes → BeginsBut part.bytes (before_gate commands) (framed command ++ 0 ∷ [])
  gate_begins is =
      image_begins_but part (before_gate commands) (framed command ++ 0 ∷ []) part.bytes 0 end at.place at.stands is

  pub gate_long : IsPartImage part part.bytes → end ≤ length part.bytes
  gate_long is = staged_long part.bytes (before_gate commands) (framed command ++ 0 ∷ []) end at.place (gate_begins is)

  -- and where it is closed and synced, it is at rest.
  pub closed_again : IsPartImage part part.bytes →
      AtRest (all_synced (written_over part.bytes end (0 ∷ []))) commands end
  closed_again is =
      let b = gate_begins is in
      let form : written_over part.bytes end (0 ∷ []) ≡
      (before_gate commands ++ 0 ∷ []) ++ ((framed command ++ 0 ∷ []) ++ b.rest) =
      ap (λ (l : List ℕ). written_over l end (0 ∷ [])) b.form
      ∙ written_byte (before_gate commands) ((framed command ++ 0 ∷ []) ++ b.rest) b.there 0 end at.place
      ∙ sym (append_assoc (before_gate commands) (0 ∷ []) ((framed command ++ 0 ∷ []) ++ b.rest)) in
      record {
        gate = 0;
        closed = omega arith;
        are_bodies = at.are_bodies;
        place = at.place;
        stands = synced_stands (written_over part.bytes end (0 ∷ [])) (before_gate commands ++ 0 ∷ []) (end + 1)
            (record { rest = (framed command ++ 0 ∷ []) ++ b.rest; form = form });
      }
