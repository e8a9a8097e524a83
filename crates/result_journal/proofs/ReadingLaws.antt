-- Each list of bytes has one reading.
use Rattle.std.proofs.Common.{◌≡◌, ◌≢◌, ◌⊎◌, inl, inr, ⊎_elim, ℕ, zero, suc, ◌+◌, ◌^◌, ◌<◌, ◌≤◌, List, [], ◌∷◌, ◌++◌, length, get_or, take, drop, take-append-drop, refl, sym, ◌∙◌, ap, subst, arith, append_assoc, length-append}
use Rattle.std.proofs.lemmas.List.{append_cancel_left, drop_more, ext_get_or, length-take-le, get_or-take}
use Rattle.std.proofs.lemmas.Bool.{cases_eq, cases_lt}
use Rattle.std.specs.Int.{w32, from_le_bytes}
use Rattle.result_journal.specs.Grammar.{IsVersion, first_version, head, head_of, IsBody, framed, records, AreBodies, BeginsFramed, IsOfHead, IsForeign, Reading, Bodies, Foreign, Newer, Broken, LongReads, Reads, VersionReads}
use Rattle.result_journal.proofs.FrameLaws.{one_frame, frame_bounds, frame_made, length_said}

-- Records end at a closed gate, or at an open one behind which no framed body stands.
pub data Ends (gate : ℕ) (rest : List ℕ) : Type 0 where
  Closed : gate ≢ 1 → Ends gate rest
  Without : gate ≡ 1 → (BeginsFramed rest → ⊥) → Ends gate rest

-- Bytes are these records, and then they end.
pub record Walked (bytes : List ℕ) : Type 0 where
  pub bodies : List (List ℕ)
  pub gate : ℕ
  pub rest : List ℕ
  pub are_bodies : AreBodies bodies
  pub form : bytes ≡ records bodies ++ gate ∷ rest
  pub ends : Ends gate rest

front_of : (bodies : List (List ℕ)) (gate : ℕ) (rest : List ℕ) →
    (g : ℕ) × (r : List ℕ) × (records bodies ++ gate ∷ rest ≡ g ∷ r)
front_of [] gate rest = (gate, rest, refl)
front_of (body ∷ bodies) gate rest = (1, (framed body ++ records bodies) ++ gate ∷ rest, refl)

-- A record in front is an open gate with a framed body behind it.
goes_on : (gate : ℕ) (rest body : List ℕ) (bodies : List (List ℕ)) (g : ℕ) (r : List ℕ) → IsBody body →
    Ends gate rest → gate ∷ rest ≡ records (body ∷ bodies) ++ g ∷ r → ⊥
goes_on gate rest body bodies g r is_body (Closed closed) e = closed (cc)
goes_on gate rest body bodies g r is_body (Without open_gate none) e =
    let next = front_of bodies g r in
    let behind : rest ≡ (framed body ++ records bodies) ++ g ∷ r = cc in
    none (record {
      body = body;
      gate = next.0;
      rest = next.1;
      is_body = is_body;
      form = behind ∙ append_assoc (framed body) (records bodies) (g ∷ r)
          ∙ ap (λ (l : List ℕ). framed body ++ l) next.2;
    })

pub same_walk : (xs bs : List (List ℕ)) (g h : ℕ) (x y : List ℕ) → AreBodies xs → AreBodies bs → Ends g x → Ends h y →
    records xs ++ g ∷ x ≡ records bs ++ h ∷ y → (xs ≡ bs) × (g ≡ h) × (x ≡ y)
same_walk [] [] g h x y are_as are_bs ends_g ends_h e = (refl, (cc), (cc))
same_walk [] (b ∷ bs) g h x y are_as are_bs ends_g ends_h e = absurd (goes_on g x b bs h y are_bs.0 ends_g e)
same_walk (a ∷ xs) [] g h x y are_as are_bs ends_g ends_h e = absurd (goes_on h y a xs g x are_as.0 ends_h (sym e))
same_walk (a ∷ xs) (b ∷ bs) g h x y are_as are_bs ends_g ends_h e =
    let behind : (framed a ++ records xs) ++ g ∷ x ≡ (framed b ++ records bs) ++ h ∷ y = cc in
    let frames = one_frame a b (records xs ++ g ∷ x) (records bs ++ h ∷ y) are_as.0 are_bs.0
    (sym (append_assoc (framed a) (records xs) (g ∷ x)) ∙ behind ∙ append_assoc (framed b) (records bs) (h ∷ y)) in
    let rest = same_walk xs bs g h x y are_as.1 are_bs.1 ends_g ends_h frames.1 in
    let first : a ≡ b = frames.0 in
    let others : xs ≡ bs = rest.0 in
    ((cc), rest.1, rest.2)

frame_or_not : (bytes : List ℕ) → ((k : ℕ) → get_or bytes k 0 < 256) → BeginsFramed bytes ⊎ (BeginsFramed bytes → ⊥)
frame_or_not bytes are_bytes =
    let n = from_le_bytes w32 (take 4 bytes) in
    elim (cases_lt (length bytes) 4) [
      | inl short ↦ inr (λ f. let b = frame_bounds bytes f in absurd (omega (arith, b.inside)))
      | inr four ↦ elim (cases_lt n 1) [
        | inl none ↦ inr (λ f. let b = frame_bounds bytes f in absurd (omega (arith, b.some)))
        | inr some ↦ elim (cases_lt (2 ^ 23) n) [
          | inl many ↦ inr (λ f. let b = frame_bounds bytes f in absurd (omega (arith, b.few)))
          | inr few ↦ elim (cases_lt (4 + n) (length bytes)) [
            | inl inside ↦ inl (frame_made bytes n (length_said bytes are_bytes four) some few inside).0
            | inr past ↦ inr (λ f. let b = frame_bounds bytes f in absurd (omega (arith, b.inside)))
          ]
        ]
      ]
    ]

byte_behind : (front rest : List ℕ) → ((k : ℕ) → get_or (front ++ rest) k 0 < 256) → (k : ℕ) → get_or rest k 0 < 256
byte_behind [] rest are k = are k
byte_behind (b ∷ front) rest are k = byte_behind front rest (λ i. are (suc i)) k

record_before : (gate : ℕ) (rest : List ℕ) → gate ≡ 1 → (f : BeginsFramed rest) → Walked (f.gate ∷ f.rest) → Walked (gate ∷ rest)
record_before gate rest open_gate f w = record {
  bodies = f.body ∷ w.bodies;
  gate = w.gate;
  rest = w.rest;
  are_bodies = (f.is_body, w.are_bodies);
  form =
      let behind : rest ≡ (framed f.body ++ records w.bodies) ++ w.gate ∷ w.rest =
      f.form ∙ ap (λ (l : List ℕ). framed f.body ++ l) w.form
      ∙ sym (append_assoc (framed f.body) (records w.bodies) (w.gate ∷ w.rest)) in
      (cc);
  ends = w.ends;
}

at_gate : (gate : ℕ) (rest : List ℕ) → ((k : ℕ) → get_or rest k 0 < 256) →
    (gate ≡ 1 → BeginsFramed rest → Walked (gate ∷ rest)) → Walked (gate ∷ rest)
at_gate gate rest are next = elim (cases_eq gate 1) [
  | inr closed ↦ record { bodies = []; gate = gate; rest = rest; are_bodies = tt; form = refl; ends = Closed closed }
  | inl open_gate ↦ ⊎_elim (next open_gate) (λ none. record {
    bodies = [];
    gate = gate;
    rest = rest;
    are_bodies = tt;
    form = refl;
    ends = Without open_gate none;
  }) (frame_or_not rest are)
]

length_behind : (rest : List ℕ) (f : BeginsFramed rest) → length f.rest < length rest
length_behind rest f =
    omega (arith, ap (λ (l : List ℕ). length l) f.form, length-append (framed f.body) (f.gate ∷ f.rest))

walk : (n : ℕ) (gate : ℕ) (rest : List ℕ) → length rest ≤ n → ((k : ℕ) → get_or rest k 0 < 256) → Walked (gate ∷ rest)
walk zero gate rest small are = at_gate gate rest are
    (λ open_gate f. absurd (omega (arith, length_behind rest f, small)))
walk (suc n) gate rest small are = at_gate gate rest are (λ open_gate f. record_before gate rest open_gate f
    (walk n f.gate f.rest (omega (arith, length_behind rest f, small))
    (λ k. byte_behind (framed f.body) (f.gate ∷ f.rest)
    (λ i. subst (λ (l : List ℕ). get_or l i 0 < 256) f.form (are i)) (suc k))))

-- Of files of one version.
module _ (version : ℕ) (is_version : IsVersion version) where
  -- A head of some version is one of a journal,
  pub head_of_head : (rest : List ℕ) (k : ℕ) → k < 8 → IsOfHead k (get_or (head_of version ++ rest) k 0)
  head_of_head rest k below = record {
    name = λ name. front rest k name;
    least = λ is. subst (λ (i : ℕ). 49 ≤ get_or (head_of version ++ rest) i 0) (sym is) is_version.0;
    greatest = λ is. subst (λ (i : ℕ). get_or (head_of version ++ rest) i 0 ≤ 57) (sym is) is_version.1;
  }
    where
      front : (rest : List ℕ) (k : ℕ) → k < 7 → get_or (head_of version ++ rest) k 0 ≡ get_or head k 0
      front rest zero below = refl
      front rest (suc zero) below = refl
      front rest (suc (suc zero)) below = refl
      front rest (suc (suc (suc zero))) below = refl
      front rest (suc (suc (suc (suc zero)))) below = refl
      front rest (suc (suc (suc (suc (suc zero))))) below = refl
      front rest (suc (suc (suc (suc (suc (suc zero)))))) below = refl
      front rest (suc (suc (suc (suc (suc (suc (suc n))))))) below = absurd (omega arith)

  -- The first place that isn't of a head, or there is none below n.
  first_place : (bytes : List ℕ) (n : ℕ) → n ≤ 8 →
      ((k : ℕ) → k < n → IsOfHead k (get_or bytes k 0)) ⊎ ((at : ℕ) × IsForeign bytes at)
  first_place bytes zero small = inl (λ k below. absurd (omega arith))
  first_place bytes (suc n) small = ⊎_elim
      (λ below. ⊎_elim
      (λ here. inl (λ k less. elim (cases_lt k n) [
        | inl lower ↦ below k lower
        | inr upper ↦ let same : n ≡ k = omega arith in subst (λ (i : ℕ). IsOfHead i (get_or bytes i 0)) same here
      ]))
      (λ strange. inr (n, record { inside = omega arith; before = below; first = strange }))
      (of_head_or_not n (get_or bytes n 0)))
      (λ found. inr found)
      (first_place bytes n (omega arith))
    where
      of_head_or_not : (k b : ℕ) → IsOfHead k b ⊎ (IsOfHead k b → ⊥)
      of_head_or_not k b = elim (cases_lt k 7) [
        | inl name ↦ elim (cases_eq b (get_or head k 0)) [
          | inl same ↦ inl (record { name = λ _. same; least = λ is. absurd (omega arith); greatest = λ is. absurd (omega arith) })
          | inr other ↦ inr (λ is. other (is.name name))
        ]
        | inr past ↦ elim (cases_lt b 49) [
          | inl low ↦ elim (cases_eq k 7) [
            | inl seven ↦ inr (λ is. let le = is.least seven in absurd (omega arith))
            | inr more ↦ inl (record { name = λ below. absurd (omega arith); least = λ seven. absurd (more seven); greatest = λ seven. absurd (more seven) })
          ]
          | inr high ↦ elim (cases_lt 57 b) [
            | inl above ↦ elim (cases_eq k 7) [
              | inl seven ↦ inr (λ is. let le = is.greatest seven in absurd (omega arith))
              | inr more ↦ inl (record { name = λ below. absurd (omega arith); least = λ seven. absurd (more seven); greatest = λ seven. absurd (more seven) })
            ]
            | inr within ↦ inl (record { name = λ below. absurd (omega arith); least = λ _. high; greatest = λ _. omega arith })
          ]
        ]
      ]

  name_place : (k : ℕ) → k < 7 → get_or (head_of version) k 0 ≡ get_or head k 0
  name_place zero below = refl
  name_place (suc zero) below = refl
  name_place (suc (suc zero)) below = refl
  name_place (suc (suc (suc zero))) below = refl
  name_place (suc (suc (suc (suc zero)))) below = refl
  name_place (suc (suc (suc (suc (suc zero))))) below = refl
  name_place (suc (suc (suc (suc (suc (suc zero)))))) below = refl
  name_place (suc (suc (suc (suc (suc (suc (suc n))))))) below = absurd (omega arith)

  -- Bytes with a head of this version begin with it.
  pub begins_with_head : (bytes : List ℕ) → 8 ≤ length bytes → ((k : ℕ) → k < 8 → IsOfHead k (get_or bytes k 0)) →
      get_or bytes 7 0 ≡ version → bytes ≡ head_of version ++ drop 8 bytes
  begins_with_head bytes long each digit =
      let size : length (take 8 bytes) ≡ 8 = length-take-le 8 bytes long in
      let front : take 8 bytes ≡ head_of version = ext_get_or 0 (take 8 bytes) (head_of version) size
      (λ k below. get_or-take 8 bytes k 0 (omega (arith, size, below)) ∙ place k (omega (arith, size, below))) in
      sym (take-append-drop 8 bytes) ∙ ap (λ (l : List ℕ). l ++ drop 8 bytes) front
    where
      place : (k : ℕ) → k < 8 → get_or bytes k 0 ≡ get_or (head_of version) k 0
      place k below = elim (cases_lt k 7) [
        | inl name ↦ (each k below).name name ∙ sym (name_place k name)
        | inr last ↦ let seven : 7 ≡ k = omega arith in
            subst (λ (i : ℕ). get_or bytes i 0 ≡ get_or (head_of version) i 0) seven digit
      ]

  -- What is behind the head.
  pub behind_head : (bytes : List ℕ) (bodies : List (List ℕ)) (gate : ℕ) (rest : List ℕ) →
      bytes ≡ head_of version ++ records bodies ++ gate ∷ rest → bytes ≡ head_of version ++ (records bodies ++ gate ∷ rest)
  behind_head bytes bodies gate rest form = form ∙ append_assoc (head_of version) (records bodies) (gate ∷ rest)

  pub before_head : (bytes : List ℕ) (bodies : List (List ℕ)) (gate : ℕ) (rest : List ℕ) →
      bytes ≡ head_of version ++ (records bodies ++ gate ∷ rest) → bytes ≡ head_of version ++ records bodies ++ gate ∷ rest
  before_head bytes bodies gate rest form = form ∙ sym (append_assoc (head_of version) (records bodies) (gate ∷ rest))

  same_records : (bytes : List ℕ) (xs ys : List (List ℕ)) (g h : ℕ) (x y : List ℕ) →
      AreBodies xs → AreBodies ys → Ends g x → Ends h y →
      bytes ≡ head_of version ++ records xs ++ g ∷ x → bytes ≡ head_of version ++ records ys ++ h ∷ y →
      (xs ≡ ys) × (g ≡ h) × (x ≡ y)
  same_records bytes xs ys g h x y are_xs are_ys ends_g ends_h one other =
      same_walk xs ys g h x y are_xs are_ys ends_g ends_h
      (append_cancel_left (head_of version) (records xs ++ g ∷ x) (records ys ++ h ∷ y)
      (sym (behind_head bytes xs g x one) ∙ behind_head bytes ys h y other))

  heads : (bytes : List ℕ) (bodies : List (List ℕ)) (gate : ℕ) (rest : List ℕ) →
      bytes ≡ head_of version ++ records bodies ++ gate ∷ rest → (k : ℕ) → k < 8 → IsOfHead k (get_or bytes k 0)
  heads bytes bodies gate rest form k below =
      subst (λ (l : List ℕ). IsOfHead k (get_or l k 0)) (sym (behind_head bytes bodies gate rest form))
      (head_of_head (records bodies ++ gate ∷ rest) k below)

  version_is : (bytes : List ℕ) (bodies : List (List ℕ)) (gate : ℕ) (rest : List ℕ) →
      bytes ≡ head_of version ++ records bodies ++ gate ∷ rest → get_or bytes 7 0 ≡ version
  version_is bytes bodies gate rest form =
      ap (λ (l : List ℕ). get_or l 7 0) (behind_head bytes bodies gate rest form)

  same_reading : (bytes : List ℕ) (one other : Reading) → LongReads version bytes one → LongReads version bytes other → one ≡ other
  same_reading bytes (Bodies xs) (Bodies ys) a b =
      ap Bodies (same_records bytes xs ys a.gate b.gate a.rest b.rest a.are_bodies b.are_bodies
      (Closed a.closed) (Closed b.closed) a.form b.form).0
  same_reading bytes (Bodies xs) (Foreign at) a b = absurd (b.first (heads bytes xs a.gate a.rest a.form at b.inside))
  same_reading bytes (Bodies xs) (Newer found) a b =
      absurd (b.newer (b.digit ∙ version_is bytes xs a.gate a.rest a.form))
  same_reading bytes (Bodies xs) (Broken at byte) a b =
      absurd (a.closed (same_records bytes xs b.bodies a.gate 1 a.rest b.rest a.are_bodies b.are_bodies
      (Closed a.closed) (Without refl b.broken) a.form b.form).1)
  same_reading bytes (Foreign at) (Bodies ys) a b = absurd (a.first (heads bytes ys b.gate b.rest b.form at a.inside))
  same_reading bytes (Foreign at) (Foreign bt) a b = elim (cases_eq at bt) [
    | inl same ↦ ap Foreign same
    | inr apart ↦ elim (cases_lt at bt) [
      | inl less ↦ absurd (a.first (b.before at less))
      | inr more ↦ absurd (b.first (a.before bt (omega arith)))
    ]
  ]
  same_reading bytes (Foreign at) (Newer found) a b = absurd (a.first (b.head at a.inside))
  same_reading bytes (Foreign at) (Broken bt byte) a b =
      absurd (a.first (heads bytes b.bodies 1 b.rest b.form at a.inside))
  same_reading bytes (Newer found) (Bodies ys) a b =
      absurd (a.newer (a.digit ∙ version_is bytes ys b.gate b.rest b.form))
  same_reading bytes (Newer found) (Foreign bt) a b = absurd (b.first (a.head bt b.inside))
  same_reading bytes (Newer found) (Newer other) a b = ap Newer (a.digit ∙ sym b.digit)
  same_reading bytes (Newer found) (Broken bt byte) a b =
      absurd (a.newer (a.digit ∙ version_is bytes b.bodies 1 b.rest b.form))
  same_reading bytes (Broken at byte) (Bodies ys) a b =
      absurd (b.closed (sym (same_records bytes a.bodies ys 1 b.gate a.rest b.rest a.are_bodies b.are_bodies
      (Without refl a.broken) (Closed b.closed) a.form b.form).1))
  same_reading bytes (Broken at byte) (Foreign bt) a b =
      absurd (b.first (heads bytes a.bodies 1 a.rest a.form bt b.inside))
  same_reading bytes (Broken at byte) (Newer found) a b =
      absurd (b.newer (b.digit ∙ version_is bytes a.bodies 1 a.rest a.form))
  same_reading bytes (Broken at byte) (Broken bt other) a b =
      let same = same_records bytes a.bodies b.bodies 1 1 a.rest b.rest a.are_bodies b.are_bodies
      (Without refl a.broken) (Without refl b.broken) a.form b.form in
      let places : at ≡ bt =
      a.place ∙ ap (λ (xs : List (List ℕ)). 9 + length (records xs)) same.0 ∙ sym b.place in
      let there : byte ≡ other = a.there ∙ ap (λ (l : List ℕ). get_or l 0 256) same.2 ∙ sym b.there in
      (cc)

  pub no_other_version_reading : (bytes : List ℕ) (one other : Reading) → VersionReads version bytes one → VersionReads version bytes other → one ≡ other
  no_other_version_reading bytes one other (inl a) (inl b) = a.1 ∙ sym b.1
  no_other_version_reading bytes one other (inl a) (inr b) = absurd (omega (arith, a.0, b.0))
  no_other_version_reading bytes one other (inr a) (inl b) = absurd (omega (arith, a.0, b.0))
  no_other_version_reading bytes one other (inr a) (inr b) = same_reading bytes one other a.1 b.1

  read_walk : (bytes : List ℕ) → 9 < length bytes → bytes ≡ head_of version ++ drop 8 bytes → Walked (drop 8 bytes) →
      (reading : Reading) × VersionReads version bytes reading
  read_walk bytes long front w = elim w.ends [
    | Closed closed ↦ (
      Bodies w.bodies,
      inr (
        long,
        record {
          gate = w.gate;
          rest = w.rest;
          closed = closed;
          are_bodies = w.are_bodies;
          form = before_head bytes w.bodies w.gate w.rest (front ∙ ap (λ (l : List ℕ). head_of version ++ l) w.form);
        },
      ),
    )
    | Without open_gate none ↦ (
      Broken (9 + length (records w.bodies)) (get_or w.rest 0 256),
      inr (
        long,
        record {
          bodies = w.bodies;
          rest = w.rest;
          are_bodies = w.are_bodies;
          broken = none;
          place = refl;
          there = refl;
          form = subst (λ (g : ℕ). bytes ≡ head_of version ++ records w.bodies ++ g ∷ w.rest) open_gate
              (before_head bytes w.bodies w.gate w.rest (front ∙ ap (λ (l : List ℕ). head_of version ++ l) w.form));
        },
      ),
    )
  ]

  -- Where the bytes are numbers below 256, there is a reading.
  pub some_version_reading : (bytes : List ℕ) → ((k : ℕ) → get_or bytes k 0 < 256) → (reading : Reading) × VersionReads version bytes reading
  some_version_reading bytes are = elim (cases_lt 9 (length bytes)) [
    | inr short ↦ (Bodies [], inl (short, refl))
    | inl long ↦ ⊎_elim
        (λ each. elim (cases_eq (get_or bytes 7 0) version) [
          | inr other ↦ (Newer (get_or bytes 7 0), inr (long, record { head = each; digit = refl; newer = other }))
          | inl digit ↦
              let front = begins_with_head bytes (omega arith) each digit in
              let tail : drop 8 bytes ≡ get_or bytes 8 0 ∷ drop 9 bytes = drop_more bytes 8 0 (omega arith) in
              let walked : Walked (drop 8 bytes) = subst Walked (sym tail)
              (walk (length (drop 9 bytes)) (get_or bytes 8 0) (drop 9 bytes) (omega arith)
              (byte_behind (take 9 bytes) (drop 9 bytes)
              (λ k. subst (λ (l : List ℕ). get_or l k 0 < 256) (sym (take-append-drop 9 bytes)) (are k)))) in
              read_walk bytes long front walked
        ])
        (λ found. (Foreign found.0, inr (long, found.1)))
        (first_place bytes 8 (omega arith))
  ]

pub no_other_reading : (bytes : List ℕ) (one other : Reading) → Reads bytes one → Reads bytes other → one ≡ other
no_other_reading = no_other_version_reading first_version (omega arith, omega arith)
