-- What an opening finds at a gate.
use Rattle.std.proofs.Common.{◌≡◌, ◌≢◌, inl, inr, ℕ, ◌+◌, ◌-◌, ◌^◌, ◌<◌, ◌≤◌, true, false, Option, None, Some, Result, Ok, Err, IfErr, IsErrAnd, List, [], ◌∷◌, ◌++◌, length, get_or, take, drop, take-append-drop, refl, sym, ◌∙◌, ap, subst, subst₂, arith, append_assoc, length-append}
use Rattle.std.proofs.lemmas.List.{drop-take, get_or-take, get_or-drop, length-drop, drop_more, take_at, length-take-le}
use Rattle.std.proofs.lemmas.Bool.{cases_lt}
use Rattle.std.specs.Int.{w32, from_le_bytes}
use Rattle.disks.specs.Whole.{FillsRoom}
use Rattle.result_journal.specs.Grammar.{head, records, framed, IsBody, AreBodies, BeginsFramed, Bodies, Broken, Reads}
use Rattle.result_journal.specs.Journals.{before_gate, StandsBut, StandsFor}
use Rattle.disks.specs.Parts.{Part, part_of}
use Rattle.result_journal.specs.Openings.{IsWholeAt, IsBrokenAt, HasGiven, FindsLength, BrokenFault, IfFits, ShownWhereTold}
use Rattle.disks.specs.Moments.{Told}
use Rattle.disks.specs.Aheads.{IsAheadOf}
use Rattle.result_journal.specs.declared.journal.Standing.TheVariants.{Settled}
use Rattle.result_journal.specs.declared.opening.Opening.{Opening}
use Rattle.result_journal.specs.declared.opening.OpenFault.{OpenFault}
use Rattle.result_journal.specs.declared.opening.OpenFault.TheVariants.{NotAJournal, Damaged, NewerVersion, DiskFailed, Memory}
use Rattle.result_journal.proofs.FrameLaws.{drop_twice, frame_bounds, frame_made, length-framed}
use Rattle.result_journal.proofs.StandLaws.{synced_stands, bodies-push, before_gate-push, reads_closed}

-- The byte at a place, and the bytes behind it, in what was read from there.
module _ (bytes room : List ℕ) (at : ℕ) (size : ℕ) (long : length room ≡ size) (fills : FillsRoom bytes at room true) where
  pub first_byte : 0 < size → get_or room 0 0 ≡ get_or bytes at 0
  first_byte some =
      ap (λ (l : List ℕ). get_or l 0 0) fills.1
      ∙ get_or-take (length room) (drop at bytes) 0 0 (omega arith)
      ∙ ap (λ (l : List ℕ). get_or l 0 0) (drop_more bytes at 0 (omega (arith, fills.0)))

  pub four_bytes : size ≡ 5 → take 4 (drop 1 room) ≡ take 4 (drop (at + 1) bytes)
  four_bytes five =
      ap (λ (l : List ℕ). take 4 (drop 1 l)) fills.1
      ∙ ap (λ (k : ℕ). take 4 (drop 1 (take k (drop at bytes)))) (let e : length room ≡ 1 + 4 = omega arith in e)
      ∙ ap (λ (l : List ℕ). take 4 l) (drop-take 1 4 (drop at bytes))
      ∙ take_again (drop 1 (drop at bytes))
      ∙ ap (λ (l : List ℕ). take 4 l) (drop_twice 1 at bytes)
    where
      take_again : (l : List ℕ) → take 4 (take 4 l) ≡ take 4 l
      take_again [] = refl
      take_again (a ∷ []) = refl
      take_again (a ∷ b ∷ []) = refl
      take_again (a ∷ b ∷ c ∷ []) = refl
      take_again (a ∷ b ∷ c ∷ d ∷ l) = refl

-- No record stands whole where its length says otherwise.
pub not_whole : (bytes : List ℕ) (place count : ℕ) → count ≡ from_le_bytes w32 (take 4 (drop (place + 1) bytes)) →
    place < length bytes →
    ((1 ≤ count) × (count ≤ 2 ^ 23) × (5 + count < length bytes - place) → ⊥) → BeginsFramed (drop (place + 1) bytes) → ⊥
not_whole bytes place count said inside not f =
    let b = frame_bounds (drop (place + 1) bytes) f in
    not (
      omega (arith, b.some, said),
      omega (arith, b.few, said),
      omega (arith, b.inside, said, length-drop (place + 1) bytes),
    )

module _ (bytes : List ℕ) (given : List (List ℕ)) (place : ℕ) (are : AreBodies given)
    (before : take place bytes ≡ before_gate given) (after_records : place ≡ length (before_gate given)) where
  -- What stands at the gate.
  pub at_gate_form : place < length bytes → bytes ≡ before_gate given ++ get_or bytes place 0 ∷ drop (place + 1) bytes
  at_gate_form inside =
      sym (take-append-drop place bytes)
      ∙ ap (λ (l : List ℕ). l ++ drop place bytes) before
      ∙ ap (λ (l : List ℕ). before_gate given ++ l) (drop_more bytes place 0 inside)

  -- At a closed gate these were all.
  pub closed_reads : place < length bytes → get_or bytes place 0 ≢ 1 → Reads bytes (Bodies given)
  closed_reads inside closed =
      reads_closed bytes given (get_or bytes place 0) (drop (place + 1) bytes) closed are (at_gate_form inside)

  long_past : place < length bytes → get_or bytes place 0 ≡ 1 → (length bytes ≤ 9 → get_or bytes 8 0 ≢ 1) → 9 < length bytes
  long_past inside open_gate short = elim (cases_lt 9 (length bytes)) [
    | inl more ↦ more
    | inr less ↦
        let at_eight : 8 ≡ place = omega (arith, after_records, length-append head (records given)) in
        absurd (short less (ap (λ (k : ℕ). get_or bytes k 0) at_eight ∙ open_gate))
  ]

  -- At an open gate with no whole record they are damaged.
  pub broken_reads : (at byte : ℕ) → place < length bytes → (length bytes ≤ 9 → get_or bytes 8 0 ≢ 1) →
      IsBrokenAt bytes place at byte → Reads bytes (Broken at byte)
  broken_reads at byte inside short b = inr (
    long_past inside b.gate short,
    record {
      bodies = given;
      rest = drop (place + 1) bytes;
      are_bodies = are;
      broken = b.broken;
      form = at_gate_form inside ∙ ap (λ (g : ℕ). before_gate given ++ g ∷ drop (place + 1) bytes) b.gate;
      place = b.there ∙ (let e : place + 1 ≡ 9 + length (records given) =
          omega (arith, after_records, length-append head (records given)) in e);
      there = b.byte_there ∙ first_of_rest bytes place inside;
    },
  )
    where
      first_of_rest : (xs : List ℕ) (k : ℕ) → k < length xs → get_or xs (k + 1) 256 ≡ get_or (drop (k + 1) xs) 0 256
      first_of_rest xs k inside =
          ap (λ (i : ℕ). get_or xs i 256) (let e : k + 1 ≡ k + 1 + 0 = omega arith in e) ∙ sym (get_or-drop (k + 1) xs 0 256)

  -- At an open gate with a whole record it is given.
  pub given_more : (count : ℕ) (body : List ℕ) → IsWholeAt bytes place count →
      body ≡ take count (drop (place + 5) bytes) →
      IsBody body × AreBodies (given ++ body ∷ [])
      × (take (place + 5 + count) bytes ≡ before_gate (given ++ body ∷ []))
      × (place + 5 + count ≡ length (before_gate (given ++ body ∷ [])))
  given_more count body w is =
      let rest = drop (place + 1) bytes in
      let inside : 4 + count < length rest = omega (arith, length-drop (place + 1) bytes, w.inside) in
      let made = frame_made rest count w.word w.some w.few inside in
      let f = made.0 in
      let same : f.body ≡ body =
      made.1 ∙ ap (λ (l : List ℕ). take count l) (drop_twice 4 (place + 1) bytes)
      ∙ ap (λ (k : ℕ). take count (drop k bytes)) (let e : place + 1 + 4 ≡ place + 5 = omega arith in e) ∙ sym is in
      let is_body : IsBody body = subst (λ (l : List ℕ). IsBody l) same f.is_body in
      let form : bytes ≡ before_gate (given ++ body ∷ []) ++ f.gate ∷ f.rest =
      at_gate_form (omega (arith, w.inside))
      ∙ ap (λ (g : ℕ). before_gate given ++ g ∷ rest) w.gate
      ∙ ap (λ (l : List ℕ). before_gate given ++ 1 ∷ l) (f.form ∙ ap (λ (l : List ℕ). framed l ++ f.gate ∷ f.rest) same)
      ∙ sym (before_gate-push given body (f.gate ∷ f.rest)) in
      let size : length body ≡ count =
      ap (λ (l : List ℕ). length l) is ∙ length-take-le count (drop (place + 5) bytes)
      (omega (arith, length-drop (place + 5) bytes, w.inside)) in
      let long : place + 5 + count ≡ length (before_gate (given ++ body ∷ [])) =
      omega (
        arith,
        ap (λ (l : List ℕ). length l) (before_gate-push given body []),
        length-append (before_gate (given ++ body ∷ [])) [],
        length-append (before_gate given) (1 ∷ framed body ++ []),
        length-append (framed body) [],
        length-framed body,
        after_records,
        size,
      ) in (
        is_body,
        bodies-push given body are is_body,
        ap (λ (l : List ℕ). take (place + 5 + count) l) form
            ∙ take_at (before_gate (given ++ body ∷ [])) (f.gate ∷ f.rest) (place + 5 + count) (sym long),
        long,
      )

-- An opening on the same disk has given the same.
pub same_opening : {D : Type 0} (told : D → Option Told) (old new : Opening D) (given : List (List ℕ)) →
    new ≡ record old { disk = new.disk; ahead = new.ahead } → told new.disk ≡ told old.disk →
    IsAheadOf (told old.disk) old.part new.ahead → HasGiven told old given → HasGiven told new given
same_opening told old new given same same_told ahead h =
    subst (λ (o : Opening _). HasGiven told o given) (sym same) (record {
      part = h.part;
      behind_head = h.behind_head;
      inside = h.inside;
      ahead = λ t is. ahead t (sym same_told ∙ is);
      on_disk = λ t is. h.on_disk t (sym same_told ∙ is);
      when_ended = λ ended t is. h.when_ended ended t (sym same_told ∙ is);
    })

-- At a closed gate it is ended.
pub ended_opening : {D : Type 0} (told : D → Option Told) (old new : Opening D) (given : List (List ℕ)) →
    new ≡ record old { disk = new.disk; ahead = new.ahead } → told new.disk ≡ told old.disk →
    IsAheadOf (told old.disk) old.part new.ahead → HasGiven told old given → (found : Option ℕ) → found ≡ None → ((t : Told) → told old.disk ≡ Some t → old.size ≡ length (part_of t.now old.part).bytes →
    FindsLength (part_of t.now old.part).bytes old.place found) →
    HasGiven told (record new { is_ended = true }) given
ended_opening told old new given same same_told ahead h found none finds =
    let at : (t : Told) → told old.disk ≡ Some t → get_or (part_of t.now old.part).bytes old.place 0 ≢ 1 =
    λ t is. subst (λ (f : Option ℕ). FindsLength (part_of t.now old.part).bytes old.place f) none
    (finds t is (h.on_disk t is).whole) in
    subst (λ (o : Opening _). HasGiven told (record o { is_ended = true }) given) (sym same) (record {
      part = h.part;
      behind_head = h.behind_head;
      inside = h.inside;
      ahead = λ t is. ahead t (sym same_told ∙ is);
      on_disk = λ t is. h.on_disk t (sym same_told ∙ is);
      when_ended = λ _ t is. at t (sym same_told ∙ is);
    })

pub ended_reads : {D : Type 0} (told : D → Option Told) (old : Opening D) (given : List (List ℕ)) →
    HasGiven told old given → (found : Option ℕ) → found ≡ None →
    ((t : Told) → told old.disk ≡ Some t → old.size ≡ length (part_of t.now old.part).bytes →
    FindsLength (part_of t.now old.part).bytes old.place found) →
    (t : Told) → told old.disk ≡ Some t → Reads (part_of t.now old.part).bytes (Bodies given)
ended_reads told old given h found none finds t is =
    let b = h.on_disk t is in
    closed_reads (part_of t.now old.part).bytes given old.place b.are_bodies b.before b.after_records
    (omega (arith, h.inside, b.whole))
    (subst (λ (f : Option ℕ). FindsLength (part_of t.now old.part).bytes old.place f) none (finds t is b.whole))

pub broken_shown : {D : Type 0} (told : D → Option Told) (old : Opening D) (given : List (List ℕ)) →
    HasGiven told old given → (fault : OpenFault) → ((t : Told) → told old.disk ≡ Some t →
    old.size ≡ length (part_of t.now old.part).bytes → BrokenFault (part_of t.now old.part).bytes old.place fault) →
    ShownWhereTold old.part (told old.disk) fault
broken_shown told old given h (NotAJournal at) finds t is = absurd (finds t is (h.on_disk t is).whole)
broken_shown told old given h (Damaged at byte) finds t is =
    let b = h.on_disk t is in
    broken_reads (part_of t.now old.part).bytes given old.place b.are_bodies b.before b.after_records at byte
    (omega (arith, h.inside, b.whole)) b.short (finds t is b.whole)
broken_shown told old given h (NewerVersion found) finds t is = absurd (finds t is (h.on_disk t is).whole)
broken_shown told old given h DiskFailed finds t is = tt
broken_shown told old given h Memory finds t is = tt

-- A whole record is given.
pub given_opening : {D : Type 0} (told : D → Option Told) (old new : Opening D) (given : List (List ℕ)) (count : ℕ)
    (body : List ℕ) → new ≡ record old { disk = new.disk; ahead = new.ahead } → told new.disk ≡ told old.disk →
    IsAheadOf (told old.disk) old.part new.ahead → HasGiven told old given →
    old.place + 5 + count < old.size → old.is_ended ≡ false →
    ((t : Told) → told old.disk ≡ Some t → old.size ≡ length (part_of t.now old.part).bytes →
    IsWholeAt (part_of t.now old.part).bytes old.place count) →
    ((t : Told) → told old.disk ≡ Some t → body ≡ take count (drop (old.place + 5) (part_of t.now old.part).bytes)) →
    HasGiven told (record new { place = new.place + 5 + count }) (given ++ body ∷ [])
given_opening told old new given count body same same_told ahead h inside going finds read =
    subst (λ (o : Opening _). HasGiven told (record o { place = o.place + 5 + count }) (given ++ body ∷ [])) (sym same)
    (record {
      part = h.part;
      behind_head = omega (arith, h.behind_head);
      inside = inside;
      ahead = λ t is. ahead t (sym same_told ∙ is);
      on_disk = λ t is.
          let b = h.on_disk t (sym same_told ∙ is) in
          let more = given_more (part_of t.now old.part).bytes given old.place b.are_bodies b.before b.after_records count body
          (finds t (sym same_told ∙ is) b.whole) (read t (sym same_told ∙ is)) in
          record {
            synced = b.synced;
            whole = b.whole;
            are_bodies = more.1;
            before = more.2;
            after_records = more.3;
            short = b.short;
          };
      when_ended = λ ended. absurd (cc);
    })

pub going_opening : {D : Type 0} (told : D → Option Told) (old : Opening D) (given : List (List ℕ)) →
    HasGiven told old given → HasGiven told (record old { is_ended = false }) given
going_opening told old given h = record {
  part = h.part;
  behind_head = h.behind_head;
  inside = h.inside;
  ahead = h.ahead;
  on_disk = h.on_disk;
  when_ended = λ ended. absurd (cc);
}

-- What begins with the head and records begins with the head.
front_taken : (bytes : List ℕ) (given : List (List ℕ)) (place : ℕ) → take place bytes ≡ before_gate given →
    take 8 bytes ≡ before_gate []
front_taken bytes given place before =
    let form : bytes ≡ before_gate given ++ drop place bytes =
    sym (take-append-drop place bytes) ∙ ap (λ (l : List ℕ). l ++ drop place bytes) before in
    ap (λ (l : List ℕ). take 8 l) form

-- Back at the first gate nothing was given.
pub restarted : {D : Type 0} (told : D → Option Told) (old : Opening D) (given : List (List ℕ)) →
    HasGiven told old given → HasGiven told (record old { place = 8; is_ended = false }) []
restarted told old given h = record {
  part = h.part;
  behind_head = omega arith;
  inside = omega (arith, h.behind_head, h.inside);
  ahead = h.ahead;
  on_disk = λ t is.
      let b = h.on_disk t is in
      record {
        synced = b.synced;
        whole = b.whole;
        are_bodies = tt;
        before = front_taken (part_of t.now old.part).bytes given old.place b.before;
        after_records = refl;
        short = b.short;
      };
  when_ended = λ ended. absurd (cc);
}

pub given_next : {D : Type 0} (told : D → Option Told) (old mid new : Opening D) (given : List (List ℕ))
    (found : Option ℕ) (count : ℕ) (body : List ℕ) → HasGiven told old given → old.is_ended ≡ false →
    mid ≡ record old { disk = mid.disk; ahead = mid.ahead } → told mid.disk ≡ told old.disk →
    IsAheadOf (told old.disk) old.part mid.ahead → new ≡ record mid { disk = new.disk; ahead = new.ahead } →
    told new.disk ≡ told mid.disk → IsAheadOf (told mid.disk) mid.part new.ahead →
    found ≡ Some count → IfFits old.place old.size found →
    ((t : Told) → told old.disk ≡ Some t → old.size ≡ length (part_of t.now old.part).bytes →
    FindsLength (part_of t.now old.part).bytes old.place found) →
    ((t : Told) → told mid.disk ≡ Some t → body ≡ take count (drop (mid.place + 5) (part_of t.now mid.part).bytes)) →
    HasGiven told (record new { place = new.place + 5 + count }) (given ++ body ∷ [])
given_next {D} told old mid new given found count body h going same_mid told_mid ahead_mid same_new told_new ahead_new is fits finds read =
    let places : mid.place ≡ old.place = ap (λ (o : Opening D). o.place) same_mid in
    let parts : mid.part ≡ old.part = ap (λ (o : Opening D). o.part) same_mid in
    let sizes : mid.size ≡ old.size = ap (λ (o : Opening D). o.size) same_mid in
    let ends : mid.is_ended ≡ false = ap (λ (o : Opening D). o.is_ended) same_mid ∙ going in
    let whole : IfFits old.place old.size (Some count) =
    subst (λ (f : Option ℕ). IfFits old.place old.size f) is fits in
    given_opening told mid new given count body same_new told_new ahead_new
    (same_opening told old mid given same_mid told_mid ahead_mid h)
    (omega (arith, whole.2, places, sizes)) ends
    (λ t here long. subst₂ (λ (n p : ℕ). IsWholeAt (part_of t.now n).bytes p count) (sym parts) (sym places)
    (subst (λ (f : Option ℕ). FindsLength (part_of t.now old.part).bytes old.place f) is
    (finds t (sym told_mid ∙ here)
    (subst (λ (n : ℕ). old.size ≡ length (part_of t.now n).bytes) parts (sym sizes ∙ long)))))
    read

pub shown_at : {T : Type 0} (number : ℕ) (told : Option Told) (result : Result T OpenFault) (fault : OpenFault) →
    IsErrAnd result (λ e. e ≡ fault) → ShownWhereTold number told fault → IfErr result (ShownWhereTold number told)
shown_at number told (Ok value) fault is shown = tt
shown_at number told (Err e) fault is shown = subst (λ (f : OpenFault). ShownWhereTold number told f) (sym is) shown

-- The journal of an opening that has ended.
pub ready_stands : {D : Type 0} (told : D → Option Told) (opening : Opening D) (given : List (List ℕ)) →
    HasGiven told opening given → opening.is_ended ≡ true →
    StandsFor told (record {
      disk = opening.disk;
      part = opening.part;
      end = opening.place;
      staged = opening.staged;
      is_prepared = false;
      standing = Settled;
    }) given
ready_stands told opening given h ended = record {
  part = h.part;
  when_prepared = λ none. absurd (cc);
  when_unsettled = λ none. absurd (cc);
  on_disk = λ t is.
      let b = h.on_disk t is in
      let bytes = (part_of t.now opening.part).bytes in
      let inside : opening.place < length bytes = omega (arith, h.inside, b.whole) in
      record {
        gate = get_or bytes opening.place 0;
        closed = h.when_ended ended t is;
        are_bodies = b.are_bodies;
        place = b.after_records;
        stands = subst (λ (p : Part). StandsBut p (opening.place + 1) (before_gate given ++ get_or bytes opening.place 0 ∷ []))
            (sym b.synced)
            (synced_stands bytes (before_gate given ++ get_or bytes opening.place 0 ∷ []) (opening.place + 1) (record {
              rest = drop (opening.place + 1) bytes;
              form = at_gate_form bytes given opening.place b.are_bodies b.before b.after_records inside
                  ∙ sym (append_assoc (before_gate given) (get_or bytes opening.place 0 ∷ []) (drop (opening.place + 1) bytes));
            }));
      };
}
