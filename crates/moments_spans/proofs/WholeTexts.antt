-- A reader of whole texts reads just the texts of its grammar, and fails at the first place that breaks it.
use Rattle.std.proofs.Common.{◌≡◌, ℕ, ◌+◌, ◌-◌, ◌<◌, List, [], ◌∷◌, ◌++◌, length, take, Result, Ok, Err, refl, sym, ap, subst, ◌∙◌, arith, append_assoc, append-nil, length-append}
use Rattle.std.proofs.Math.Seq.{take-append_seam, take-append-add}
use Rattle.name_parts.specs.Grammar.{IsFirstBadPlace}
use Rattle.moments_spans.specs.MomentReading.{◌>>=◌}
use Rattle.moments_spans.proofs.DigitLaws.{bind}
use Rattle.moments_spans.proofs.ReaderLaws.{Reader, Reads, Anything, by_result, bind_err, same_ok, same_err, not_both}

pub assoc : {A B C : Type 0} (m : Result A ℕ) (f : A → Result B ℕ) (g : B → Result C ℕ) → ((m >>= f) >>= g) ≡ (m >>= (λ x. f x >>= g))
assoc (Ok x) f g = refl
assoc (Err e) f g = refl

pub same_behind : {A B : Type 0} (m : Result A ℕ) (f g : A → Result B ℕ) → ((x : A) → f x ≡ g x) → (m >>= f) ≡ (m >>= g)
same_behind (Ok x) f g same = same x
same_behind (Err e) f g same = refl

-- where a text breaks
record Stuck (Is : List ℕ → Type 0) (text : List ℕ) (left : ℕ) : Type 0 where
  front : List ℕ
  bad : List ℕ
  parted : text ≡ front ++ bad
  many : length bad ≡ left
  more : List ℕ
  goes_on : Is (front ++ more)
  fails : (b : ℕ) (bs other : List ℕ) → bad ≡ b ∷ bs → ¬ Is (front ++ b ∷ other)
  itself : ¬ Is text

no_more : (b : ℕ) (bs : List ℕ) → b ∷ bs ≡ [] → ⊥
no_more b bs none = absurd cc

first_byte : (bad : List ℕ) → 0 < length bad → (b : ℕ) × ((bs : List ℕ) × (bad ≡ b ∷ bs))
first_byte [] some = absurd (omega (arith, some))
first_byte (b ∷ bs) some = (b, (bs, refl))

place_of_bad : (Is : List ℕ → Type 0) (text : List ℕ) (left : ℕ) → Stuck Is text left → IsFirstBadPlace Is text (length text - left)
place_of_bad Is text left s =
    let long : length text ≡ length s.front + length s.bad = ap length s.parted ∙ length-append s.front s.bad in
    let place : length text - left ≡ length s.front = omega (arith, long, s.many) in
    rw place (record {
      within = omega (arith, long);
      before = record { rest = s.more; whole = subst (λ t. Is (t ++ s.more)) (sym (ap (take (length s.front)) s.parted ∙ take-append_seam s.front s.bad)) s.goes_on };
      here = λ within on.
          let first = first_byte s.bad (omega (arith, within, long)) in
          let b = first.0 in
          let bs = first.1.0 in
          let is : s.bad ≡ b ∷ bs = first.1.1 in
          let begins : take (length s.front + 1) text ≡ s.front ++ b ∷ [] =
          ap (take (length s.front + 1)) (s.parted ∙ ap (λ t. s.front ++ t) is) ∙ take-append-add s.front (b ∷ bs) 1 in
          s.fails b bs on.rest is (subst Is (ap (λ t. t ++ on.rest) begins ∙ append_assoc s.front (b ∷ []) on.rest) on.whole);
      itself = s.itself;
    })

module _ {A : Type 0} (r : Reader A) (Is : List ℕ → A → Type 0) (reads : Reads r Is Anything) (ends : A → List ℕ → Result A ℕ) (nothing : (v : A) → ends v [] ≡ Ok v) (more : (v : A) (b : ℕ) (bs : List ℕ) → ends v (b ∷ bs) ≡ Err (length (b ∷ bs))) (Said : List ℕ → Type 0) (say : (t : List ℕ) (v : A) → Is t v → Said t) (said : (t : List ℕ) → Said t → (v : A) × Is t v) where
  abbrev whole : List ℕ → Result A ℕ
  whole text = r text >>= (λ x. ends x.0 x.1)

  read_all : (text : List ℕ) (v : A) → Is text v → r text ≡ Ok (v, [])
  read_all text v is = ap r (sym (append-nil text)) ∙ reads.complete text [] v is tt

  pub whole_complete : (text : List ℕ) (v : A) → Is text v → whole text ≡ Ok v
  whole_complete text v is = bind _ _ (λ x. ends x.0 x.1) (read_all text v is) ∙ nothing v

  ended : (text rest : List ℕ) (v w : A) → r text ≡ Ok (v, rest) → ends v rest ≡ Ok w → Is text w
  ended text [] v w at e =
      let same : v ≡ w = same_ok v w (ends v []) (nothing v) e in
      let one = reads.sound text [] v at in
      subst (λ t. Is t w) (sym (one.parted ∙ append-nil one.front)) (subst (λ x. Is one.front x) same one.is)
  ended text (b ∷ bs) v w at e = not_both w (length (b ∷ bs)) (ends v (b ∷ bs)) e (more v b bs)

  pub whole_sound : (text : List ℕ) (v : A) → whole text ≡ Ok v → Is text v
  whole_sound text v e =
      by_result (r text)
      (λ x at. ended text x.1 x.0 v at (sym (bind _ _ (λ y. ends y.0 y.1) at) ∙ e))
      (λ left at. not_both v left (whole text) e (bind_err _ _ (λ y. ends y.0 y.1) at))

  not_said : (text rest : List ℕ) (v : A) (b : ℕ) → r text ≡ Ok (v, b ∷ rest) → ¬ Said text
  not_said text rest v b at on =
      let is = said text on in
      no_more b rest (ap (λ p. p.1) (same_ok (v, b ∷ rest) (is.0, []) (r text) at (read_all text is.0 is.1)))

  refused : (text : List ℕ) (left : ℕ) → r text ≡ Err left → ¬ Said text
  refused text left at on = let is = said text on in not_both (is.0, []) left (r text) (read_all text is.0 is.1) at

  left_over : (text rest : List ℕ) (v : A) (left : ℕ) → r text ≡ Ok (v, rest) → ends v rest ≡ Err left → Stuck Said text left
  left_over text [] v left at e = not_both v left (ends v []) (nothing v) e
  left_over text (b ∷ bs) v left at e =
      let one = reads.sound text (b ∷ bs) v at in
      record {
        front = one.front;
        bad = b ∷ bs;
        parted = one.parted;
        many = same_err (length (b ∷ bs)) left (ends v (b ∷ bs)) (more v b bs) e;
        more = [];
        goes_on = say (one.front ++ []) v (subst (λ t. Is t v) (sym (append-nil one.front)) one.is);
        fails = λ c cs other is. not_said (one.front ++ c ∷ other) other v c (one.keeps c cs other is);
        itself = not_said text bs v b at;
      }

  broken : (text : List ℕ) (left : ℕ) → r text ≡ Err left → Stuck Said text left
  broken text left at =
      let one = reads.breaks text left at in
      record {
        front = one.front;
        bad = one.bad;
        parted = one.parted;
        many = one.many;
        more = one.more;
        goes_on = say (one.front ++ one.more) one.value one.goes_on;
        fails = λ b bs other is. refused (one.front ++ b ∷ other) (length (b ∷ other)) (one.fails b bs other is);
        itself = refused text left at;
      }

  pub whole_breaks : (text : List ℕ) (left : ℕ) → whole text ≡ Err left → IsFirstBadPlace Said text (length text - left)
  whole_breaks text left e =
      place_of_bad Said text left
      (by_result (r text)
      (λ x at. left_over text x.1 x.0 left at (sym (bind _ _ (λ y. ends y.0 y.1) at) ∙ e))
      (λ gone at. subst (Stuck Said text) (same_err gone left (whole text) (bind_err _ _ (λ y. ends y.0 y.1) at) e) (broken text gone at)))
