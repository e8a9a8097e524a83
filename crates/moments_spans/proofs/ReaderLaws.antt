-- Readers that read just the texts of a grammar, and fail just at the first place that breaks it.
use Rattle.std.proofs.Common.{◌≡◌, ℕ, ◌==◌, true, false, Bool, List, [], ◌∷◌, ◌++◌, length, Result, Ok, Err, refl, sym, ap, ◌∙◌, arith, append_assoc}
use Rattle.std.proofs.lemmas.Bool.Decides.{nat_tests}
use Rattle.moments_spans.specs.MomentReading.{◌>>=◌, byte_from}
use Rattle.moments_spans.proofs.DigitLaws.{bind, byte_read}

-- what a reader gives: a value and the rest, or how many bytes stood from the first bad place on
abbrev pub Reader : Type 0 → Type 0
Reader A = List ℕ → Result (A × List ℕ) ℕ

-- Behind this front the reader gives this value, whatever stands behind the first byte of the rest.
abbrev pub Keeps : {A : Type 0} → Reader A → List ℕ → A → List ℕ → Type 0
Keeps r front v rest = (b : ℕ) (bs more : List ℕ) → rest ≡ b ∷ bs → r (front ++ b ∷ more) ≡ Ok (v, b ∷ more)

pub record IsRead {A : Type 0} (r : Reader A) (Is : List ℕ → A → Type 0) (text rest : List ℕ) (v : A) : Type 0 where
  pub front : List ℕ
  pub parted : text ≡ front ++ rest
  pub is : Is front v
  pub keeps : Keeps r front v rest

-- The reader fails where some text of the grammar goes on no longer, whatever stands behind the bad byte.
pub record Breaks {A : Type 0} (r : Reader A) (Is : List ℕ → A → Type 0) (text : List ℕ) (left : ℕ) : Type 0 where
  pub front : List ℕ
  pub bad : List ℕ
  pub parted : text ≡ front ++ bad
  pub many : length bad ≡ left
  pub more : List ℕ
  pub value : A
  pub goes_on : Is (front ++ more) value
  pub fails : (b : ℕ) (bs other : List ℕ) → bad ≡ b ∷ bs → r (front ++ b ∷ other) ≡ Err (length (b ∷ other))

pub record Some {A : Type 0} (Is : List ℕ → A → Type 0) : Type 0 where
  pub text : List ℕ
  pub value : A
  pub is : Is text value

-- The reader reads just the texts of the grammar, in front of what stops it.
pub record Reads {A : Type 0} (r : Reader A) (Is : List ℕ → A → Type 0) (Stops : List ℕ → Type 0) : Type 0 where
  pub some : Some Is
  pub sound : (text rest : List ℕ) (v : A) → r text ≡ Ok (v, rest) → IsRead r Is text rest v
  pub breaks : (text : List ℕ) (left : ℕ) → r text ≡ Err left → Breaks r Is text left
  pub complete : (front rest : List ℕ) (v : A) → Is front v → Stops rest → r (front ++ rest) ≡ Ok (v, rest)

abbrev pub Anything : List ℕ → Type 0
Anything rest = Unit {0}

pub by_result : {X P : Type 0} (m : Result X ℕ) → ((x : X) → m ≡ Ok x → P) → ((e : ℕ) → m ≡ Err e → P) → P
by_result (Ok x) ok err = ok x refl
by_result (Err e) ok err = err e refl

pub bind_err : {A B : Type 0} (r : Result A ℕ) (e : ℕ) (f : A → Result B ℕ) → r ≡ Err e → (r >>= f) ≡ Err e
bind_err r e f is = ap (λ v. v >>= f) is

fault_or : {A E : Type 0} → E → Result A E → E
fault_or other (Ok x) = other
fault_or other (Err e) = e

pub same_err : {A E : Type 0} (d e : E) (r : Result A E) → r ≡ Err d → r ≡ Err e → d ≡ e
unfolding fault_or
same_err d e r is also = ap (fault_or d) (sym is ∙ also)

value_or : {A E : Type 0} → A → Result A E → A
value_or other (Ok x) = x
value_or other (Err e) = other

pub same_ok : {A E : Type 0} (x y : A) (r : Result A E) → r ≡ Ok x → r ≡ Ok y → x ≡ y
unfolding value_or
same_ok x y r is also = ap (value_or x) (sym is ∙ also)

pub not_both : {A E P : Type 0} (x : A) (e : E) (r : Result A E) → r ≡ Ok x → r ≡ Err e → P
not_both x e r is other = absurd (let both : Ok x ≡ Err e = sym is ∙ other in cc)

-- the same value in front of bytes that begin with the first byte of the rest
pub keeps_on : {A : Type 0} (r : Reader A) (front : List ℕ) (v : A) (rest next : List ℕ) → Keeps r front v rest → (b : ℕ) (bs more : List ℕ) → rest ≡ next ++ b ∷ bs → r (front ++ (next ++ b ∷ more)) ≡ Ok (v, next ++ b ∷ more)
keeps_on r front v rest [] keeps b bs more is = keeps b bs more is
keeps_on r front v rest (c ∷ cs) keeps b bs more is = keeps c (cs ++ b ∷ bs) (cs ++ b ∷ more) is

-- the value that was read behind it, in front of the same
pub complete_as : {A : Type 0} (r : Reader A) (Is : List ℕ → A → Type 0) (Stops : List ℕ → Type 0) (Like : List ℕ → A → Type 0) → Reads r Is Stops → ((t : List ℕ) (v : A) → Is t v → Like t v) → ((t : List ℕ) (v : A) → Like t v → Is t v) → Reads r Like Stops
complete_as r Is Stops Like reads to from = record {
  some = record { text = reads.some.text; value = reads.some.value; is = to _ _ reads.some.is };
  sound = λ text rest v e. let one = reads.sound text rest v e in record { front = one.front; parted = one.parted; is = to _ _ one.is; keeps = one.keeps };
  breaks = λ text left e. let one = reads.breaks text left e in record { front = one.front; bad = one.bad; parted = one.parted; many = one.many; more = one.more; value = one.value; goes_on = to _ _ one.goes_on; fails = one.fails };
  complete = λ front rest v is stops. reads.complete front rest v (from _ _ is) stops;
}

-- one part behind another

abbrev pub joined : {A B : Type 0} → Reader A → (A → Reader B) → Reader B
joined r s text = r text >>= (λ x. s x.0 x.1)

pub record Joined {A B : Type 0} (First : List ℕ → A → Type 0) (Second : A → List ℕ → B → Type 0) (text : List ℕ) (w : B) : Type 0 where
  pub front : List ℕ
  pub rest : List ℕ
  pub value : A
  pub parted : text ≡ front ++ rest
  pub first : First front value
  pub second : Second value rest w

module _ {A B : Type 0} (r : Reader A) (s : A → Reader B) (First : List ℕ → A → Type 0) (Second : A → List ℕ → B → Type 0) (Stops Ends : List ℕ → Type 0) (first : Reads r First Stops) (second : (t : List ℕ) (v : A) → First t v → Reads (s v) (Second v) Ends) where
  joined_keeps : (front rest next : List ℕ) (v : A) (w : B) (last : List ℕ) → Keeps r front v rest → rest ≡ next ++ last → Keeps (s v) next w last → Keeps (joined r s) (front ++ next) w last
  joined_keeps front rest next v w last one parted two b bs more is =
      ap (joined r s) (append_assoc front next (b ∷ more))
      ∙ bind _ _ (λ x. s x.0 x.1) (keeps_on r front v rest next one b bs more (parted ∙ ap (λ t. next ++ t) is))
      ∙ two b bs more is

  joined_sound : (text last : List ℕ) (w : B) → joined r s text ≡ Ok (w, last) → IsRead (joined r s) (Joined First Second) text last w
  joined_sound text last w e =
      by_result (r text)
      (λ x at.
      let one = first.sound text x.1 x.0 at in
      let two = (second one.front x.0 one.is).sound x.1 last w (sym (bind _ _ (λ y. s y.0 y.1) at) ∙ e) in
      record {
        front = one.front ++ two.front;
        parted = one.parted ∙ ap (λ t. one.front ++ t) two.parted ∙ sym (append_assoc one.front two.front last);
        is = record { front = one.front; rest = two.front; value = x.0; parted = refl; first = one.is; second = two.is };
        keeps = joined_keeps one.front x.1 two.front x.0 w last one.keeps two.parted two.keeps;
      })
      (λ left at. not_both (w, last) left (joined r s text) e (bind_err _ _ (λ y. s y.0 y.1) at))

  joined_breaks : (text : List ℕ) (left : ℕ) → joined r s text ≡ Err left → Breaks (joined r s) (Joined First Second) text left
  joined_breaks text left e =
      by_result (r text)
      (λ x at.
      let one = first.sound text x.1 x.0 at in
      let two = (second one.front x.0 one.is).breaks x.1 left (sym (bind _ _ (λ y. s y.0 y.1) at) ∙ e) in
      record {
        front = one.front ++ two.front;
        bad = two.bad;
        parted = one.parted ∙ ap (λ t. one.front ++ t) two.parted ∙ sym (append_assoc one.front two.front two.bad);
        many = two.many;
        more = two.more;
        value = two.value;
        goes_on = record { front = one.front; rest = two.front ++ two.more; value = x.0; parted = append_assoc one.front two.front two.more; first = one.is; second = two.goes_on };
        fails = λ b bs other is.
            ap (joined r s) (append_assoc one.front two.front (b ∷ other))
            ∙ bind _ _ (λ y. s y.0 y.1) (keeps_on r one.front x.0 x.1 two.front one.keeps b bs other (two.parted ∙ ap (λ t. two.front ++ t) is))
            ∙ two.fails b bs other is;
      })
      (λ gone at.
      let one = first.breaks text gone at in
      let next = (second (one.front ++ one.more) one.value one.goes_on).some in
      let same : gone ≡ left = same_err gone left (joined r s text) (bind_err _ _ (λ y. s y.0 y.1) at) e in
      record {
        front = one.front;
        bad = one.bad;
        parted = one.parted;
        many = one.many ∙ same;
        more = one.more ++ next.text;
        value = next.value;
        goes_on = record { front = one.front ++ one.more; rest = next.text; value = one.value; parted = sym (append_assoc one.front one.more next.text); first = one.goes_on; second = next.is };
        fails = λ b bs other is. bind_err _ _ (λ y. s y.0 y.1) (one.fails b bs other is);
      })

  joined_some : Some (Joined First Second)
  joined_some =
      let one = first.some in
      let two = (second one.text one.value one.is).some in
      record { text = one.text ++ two.text; value = two.value; is = record { front = one.text; rest = two.text; value = one.value; parted = refl; first = one.is; second = two.is } }

  pub joined_reads : ((v : A) (t : List ℕ) (w : B) (rest : List ℕ) → Second v t w → Ends rest → Stops (t ++ rest)) → Reads (joined r s) (Joined First Second) Ends
  joined_reads stops = record {
    some = joined_some;
    sound = joined_sound;
    breaks = joined_breaks;
    complete = λ text rest w is ends.
        ap (λ t. joined r s (t ++ rest)) is.parted
        ∙ ap (joined r s) (append_assoc is.front is.rest rest)
        ∙ bind _ _ (λ x. s x.0 x.1) (first.complete is.front (is.rest ++ rest) is.value is.first (stops is.value is.rest w rest is.second ends))
        ∙ (second is.front is.value is.first).complete is.rest rest w is.second ends;
  }

-- a byte in front

pub record Behind {A : Type 0} (c : ℕ) (Is : List ℕ → A → Type 0) (text : List ℕ) (v : A) : Type 0 where
  pub rest : List ℕ
  pub parted : text ≡ c ∷ rest
  pub is : Is rest v

abbrev pub behind : {A : Type 0} → ℕ → Reader A → Reader A
behind c r text = byte_from c text >>= r

no_byte : (c : ℕ) → byte_from c [] ≡ Err 0
unfolding byte_from
no_byte c = refl

other_byte : (c b : ℕ) (bs : List ℕ) → (b == c) ≡ false → byte_from c (b ∷ bs) ≡ Err (length (b ∷ bs))
unfolding byte_from
other_byte c b bs other = rw other refl

pub by_test : {P : Type 0} (t : Bool) → (t ≡ true → P) → (t ≡ false → P) → P
by_test true yes_is no_is = yes_is refl
by_test false yes_is no_is = no_is refl

-- a text is empty, begins with the byte, or with another
pub by_byte : {P : Type 0} (c : ℕ) (text : List ℕ) → (text ≡ [] → P) → ((bs : List ℕ) → text ≡ c ∷ bs → P) → ((b : ℕ) (bs : List ℕ) → text ≡ b ∷ bs → (b == c) ≡ false → P) → P
by_byte c [] none same other = none refl
by_byte c (b ∷ bs) none same other = by_test (b == c) (λ e. let is : b ≡ c = grind (arith, nat_tests, e) in same bs (ap (λ x. x ∷ bs) is)) (λ e. other b bs refl e)

module _ {A : Type 0} (c : ℕ) (r : Reader A) (Is : List ℕ → A → Type 0) (Stops : List ℕ → Type 0) (reads : Reads r Is Stops) where
  behind_is : (bs : List ℕ) → behind c r (c ∷ bs) ≡ r bs
  behind_is bs = bind _ _ r (byte_read c bs)

  behind_sound : (text rest : List ℕ) (v : A) → behind c r text ≡ Ok (v, rest) → IsRead (behind c r) (Behind c Is) text rest v
  behind_sound text rest v e =
      by_byte c text
      (λ none. not_both (v, rest) 0 (behind c r text) e (ap (behind c r) none ∙ bind_err _ _ r (no_byte c)))
      (λ bs is.
      let one = reads.sound bs rest v (sym (behind_is bs) ∙ sym (ap (behind c r) is) ∙ e) in
      record {
        front = c ∷ one.front;
        parted = is ∙ ap (λ t. c ∷ t) one.parted;
        is = record { rest = one.front; parted = refl; is = one.is };
        keeps = λ b bs2 more at. behind_is (one.front ++ b ∷ more) ∙ one.keeps b bs2 more at;
      })
      (λ b bs is other. not_both (v, rest) (length (b ∷ bs)) (behind c r text) e (ap (behind c r) is ∙ bind_err _ _ r (other_byte c b bs other)))

  behind_goes_on : Behind c Is (c ∷ reads.some.text) reads.some.value
  behind_goes_on = record { rest = reads.some.text; parted = refl; is = reads.some.is }

  behind_breaks : (text : List ℕ) (left : ℕ) → behind c r text ≡ Err left → Breaks (behind c r) (Behind c Is) text left
  behind_breaks text left e =
      by_byte c text
      (λ none. record {
        front = [];
        bad = [];
        parted = none;
        many = same_err 0 left (behind c r text) (ap (behind c r) none ∙ bind_err _ _ r (no_byte c)) e;
        more = c ∷ reads.some.text;
        value = reads.some.value;
        goes_on = behind_goes_on;
        fails = λ b bs other is. absurd cc;
      })
      (λ bs is.
      let one = reads.breaks bs left (sym (behind_is bs) ∙ sym (ap (behind c r) is) ∙ e) in
      record {
        front = c ∷ one.front;
        bad = one.bad;
        parted = is ∙ ap (λ t. c ∷ t) one.parted;
        many = one.many;
        more = one.more;
        value = one.value;
        goes_on = record { rest = one.front ++ one.more; parted = refl; is = one.goes_on };
        fails = λ b bs2 other at. behind_is (one.front ++ b ∷ other) ∙ one.fails b bs2 other at;
      })
      (λ b bs is other. record {
        front = [];
        bad = text;
        parted = refl;
        many = ap length is ∙ same_err (length (b ∷ bs)) left (behind c r text) (ap (behind c r) is ∙ bind_err _ _ r (other_byte c b bs other)) e;
        more = c ∷ reads.some.text;
        value = reads.some.value;
        goes_on = behind_goes_on;
        fails = λ b2 bs2 behind_it at.
            let same : b ≡ b2 = cc in
            bind_err _ _ r (other_byte c b2 behind_it (ap (λ x. x == c) (sym same) ∙ other));
      })

  pub behind_reads : Reads (behind c r) (Behind c Is) Stops
  behind_reads = record {
    some = record { text = c ∷ reads.some.text; value = reads.some.value; is = behind_goes_on };
    sound = behind_sound;
    breaks = behind_breaks;
    complete = λ text rest v is stops.
        ap (λ t. behind c r (t ++ rest)) is.parted ∙ behind_is (is.rest ++ rest) ∙ reads.complete is.rest rest v is.is stops;
  }

-- nothing more to read

pub record IsGiven {A : Type 0} (value : A) (text : List ℕ) (v : A) : Type 0 where
  pub none : text ≡ []
  pub same : v ≡ value

pub given_reads : {A : Type 0} (value : A) (Stops : List ℕ → Type 0) → Reads (λ text. Ok (value, text)) (IsGiven value) Stops
given_reads value Stops = record {
  some = record { text = []; value = value; is = record { none = refl; same = refl } };
  sound = λ text rest v e.
      let same : (value, text) ≡ (v, rest) = same_ok (value, text) (v, rest) (Ok (value, text)) refl e in
      record { front = []; parted = ap (λ p. p.1) same; is = record { none = refl; same = sym (ap (λ p. p.0) same) }; keeps = λ b bs more at. ap (λ x. Ok (x, b ∷ more)) (ap (λ p. p.0) same) };
  breaks = λ text left e. not_both (value, text) left (Ok (value, text)) refl e;
  complete = λ front rest v is stops. ap (λ t. Ok (value, t ++ rest)) is.none ∙ ap (λ x. Ok (x, rest)) (sym is.same);
}
