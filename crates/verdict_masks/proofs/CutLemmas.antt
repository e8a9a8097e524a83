-- Cuts of a text, and what is seen where it is cut.
use Rattle.std.proofs.Common.{◌≡◌, ◌<◌, ◌≤◌, ℕ, zero, suc, Bool, true, false, List, [], ◌∷◌, length, take, Option, Some, None, if◌then◌else◌, ℤ, inl, inr, refl, sym, ap, ◌∙◌, subst, arith}
use Rattle.std.proofs.lemmas.Bool.{cases_Bool, cases_lt, true≢false}
use Rattle.std.proofs.lemmas.List.{length-take}
use Rattle.names_realms.specs.declared.states.Status.{Status}
use Rattle.test_results.specs.declared.result.TestResult.{TestResult}
use Rattle.verdict_masks.specs.declared.shown.ShownResult.{ShownResult}
use Rattle.verdict_masks.specs.Cuts.{IsCut, is_inside}
use Rattle.verdict_masks.specs.Masks.{DifferHidden, IsMasked, Seen, hidden_of, seen}
use Rattle.verdict_masks.specs.Laws.{HasCut, HiddenUnseen, OneCut}

take_all : {X : Type 0} (xs : List X) → xs ≡ take (length xs) xs
take_all [] = refl
take_all (x ∷ xs) = ap (λ l. x ∷ l) (take_all xs)

-- past the end of a text nothing goes on
past_end : (text : List ℕ) (place : ℕ) → length text ≤ place → is_inside text place ≡ false
past_end text place h = grind arith

pub whole_cut : (text : List ℕ) → length text ≤ 140 → IsCut text text
whole_cut text few = record {
  front = take_all text;
  few = few;
  boundary = (omega arith, past_end text (length text) (omega arith));
  longest = λ place most boundary. boundary.0;
}

pub cut_at : (text : List ℕ) (end_ : ℕ) → end_ ≤ 140 → 140 < length text → is_inside text end_ ≡ false
    → ((place : ℕ) → end_ < place → place ≤ 140 → is_inside text place ≡ true) → IsCut text (take end_ text)
cut_at text end_ few long boundary behind =
    let len : length (take end_ text) ≡ end_ = omega (arith, length-take end_ text) in
    record {
      front = ap (λ n. take n text) (sym len);
      few = omega (arith, len);
      boundary = (omega (arith, len), subst (λ n. is_inside text n ≡ false) (sym len) boundary);
      longest = λ place most at. elim (cases_lt end_ place) [
        | inl lt ↦ absurd (true≢false (sym (behind place lt most) ∙ at.1))
        | inr ge ↦ omega (arith, len, ge)
      ];
    }

cut_below : (text : List ℕ) (end_ : ℕ) → end_ ≤ 140 → 140 < length text
    → ((place : ℕ) → end_ < place → place ≤ 140 → is_inside text place ≡ true) → (cut : List ℕ) × IsCut text cut
cut_below text zero few long behind = (take 0 text, cut_at text 0 few long refl behind)
cut_below text (suc n) few long behind = elim (cases_Bool (is_inside text (suc n))) [
  | inl inside ↦ cut_below text n (omega arith) long (λ place lt most. elim (cases_lt (suc n) place) [
    | inl above ↦ behind place above most
    | inr ge ↦ let same : suc n ≡ place = omega arith in subst (λ m. is_inside text m ≡ true) same inside
  ])
  | inr out ↦ (take (suc n) text, cut_at text (suc n) few long out behind)
]

pub has_cut_is : HasCut
has_cut_is text = elim (cases_lt 140 (length text)) [
  | inl long ↦ cut_below text 140 (omega arith) long (λ place lt most. absurd (omega arith))
  | inr short ↦ (text, whole_cut text short)
]

pub one_cut_is : OneCut
one_cut_is text one other a b =
    let up : length one ≤ length other = b.longest (length one) a.few a.boundary in
    let down : length other ≤ length one = a.longest (length other) b.few b.boundary in
    let same : length one ≡ length other = omega arith in
    a.front ∙ ap (λ n. take n text) same ∙ sym b.front

abbrev masked_seen : TestResult → List ℕ → List ℕ → Seen
masked_seen row label message = record {
  holder = row.holder;
  test = row.test;
  result = row.result;
  expected = row.expected;
  status = row.status;
  start = row.start;
  duration = row.duration;
  label = label;
  message = message;
  masked = true;
  hidden = None;
}

alike : (one other : TestResult) (l m t u : List ℕ) → DifferHidden one other → l ≡ m → t ≡ u
    → masked_seen one l t ≡ masked_seen other m u
alike one other l m t u differ labels messages =
    let with_holder : ℕ → Seen = λ x. record { holder = x; test = one.test; result = one.result; expected = one.expected; status = one.status; start = one.start; duration = one.duration; label = l; message = t; masked = true; hidden = None } in
    let with_test : List ℕ → Seen = λ x. record { holder = other.holder; test = x; result = one.result; expected = one.expected; status = one.status; start = one.start; duration = one.duration; label = l; message = t; masked = true; hidden = None } in
    let with_result : List ℕ → Seen = λ x. record { holder = other.holder; test = other.test; result = x; expected = one.expected; status = one.status; start = one.start; duration = one.duration; label = l; message = t; masked = true; hidden = None } in
    let with_expected : Bool → Seen = λ x. record { holder = other.holder; test = other.test; result = other.result; expected = x; status = one.status; start = one.start; duration = one.duration; label = l; message = t; masked = true; hidden = None } in
    let with_status : Status → Seen = λ x. record { holder = other.holder; test = other.test; result = other.result; expected = other.expected; status = x; start = one.start; duration = one.duration; label = l; message = t; masked = true; hidden = None } in
    let with_start : Option ℤ → Seen = λ x. record { holder = other.holder; test = other.test; result = other.result; expected = other.expected; status = other.status; start = x; duration = one.duration; label = l; message = t; masked = true; hidden = None } in
    let with_duration : Option ℕ → Seen = λ x. record { holder = other.holder; test = other.test; result = other.result; expected = other.expected; status = other.status; start = other.start; duration = x; label = l; message = t; masked = true; hidden = None } in
    let with_label : List ℕ → Seen = λ x. record { holder = other.holder; test = other.test; result = other.result; expected = other.expected; status = other.status; start = other.start; duration = other.duration; label = x; message = t; masked = true; hidden = None } in
    let with_message : List ℕ → Seen = λ x. record { holder = other.holder; test = other.test; result = other.result; expected = other.expected; status = other.status; start = other.start; duration = other.duration; label = m; message = x; masked = true; hidden = None } in
    ap with_holder differ.holder ∙ ap with_test differ.test ∙ ap with_result differ.result ∙ ap with_expected differ.expected ∙ ap with_status differ.status ∙ ap with_start differ.start ∙ ap with_duration differ.duration ∙ ap with_label labels ∙ ap with_message messages

seen_masked : (row : TestResult) (shown : ShownResult) → IsMasked row shown
    → seen shown ≡ masked_seen row shown.label shown.message.now
seen_masked row shown h =
    let with_row : TestResult → Seen = λ r. record { holder = r.holder; test = r.test; result = r.result; expected = r.expected; status = r.status; start = r.start; duration = r.duration; label = shown.label; message = shown.message.now; masked = shown.masked; hidden = if shown.masked then None else Some (hidden_of r) } in
    let with_mask : Bool → Seen = λ m. record { holder = row.holder; test = row.test; result = row.result; expected = row.expected; status = row.status; start = row.start; duration = row.duration; label = shown.label; message = shown.message.now; masked = m; hidden = if m then None else Some (hidden_of row) } in
    ap with_row h.same ∙ ap with_mask h.masked

pub hidden_unseen_is : HiddenUnseen
hidden_unseen_is one other shown also differ a b =
    let labels : shown.label ≡ also.label = a.label ∙ differ.label ∙ sym b.label in
    let messages : shown.message.now ≡ also.message.now =
    one_cut_is one.message shown.message.now differ.cut a.message differ.cut_of_one ∙ one_cut_is other.message differ.cut also.message.now differ.cut_of_other b.message in
    seen_masked one shown a ∙ alike one other shown.label also.label shown.message.now also.message.now differ labels messages ∙ sym (seen_masked other also b)
