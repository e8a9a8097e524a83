-- What stands before the first place of a mark, and what is enclosed so.
use Rattle.std.proofs.Common.{◌≡◌, ◌<◌, ◌≤◌, ℕ, suc, true, false, nat_eq, List, [], ◌∷◌, ◌++◌, length, drop, Some, refl, sym, ap, subst, ◌∙◌, arith}
use Rattle.std.specs.List.{starts_with}
use Rattle.std.proofs.lemmas.Bool.Decides.{Decides-eqb}
use Rattle.std.proofs.lemmas.Slice.Eq.{starts_is}
use Rattle.std.proofs.Math.Seq.{drop-append_seam}
use Rattle.junit_parts.specs.Bytes.{parted_at}
use Rattle.junit_parts.specs.Grammar.{IsEnclosed}
use Rattle.junit_parts.proofs.GrammarLemmas.{bind_some, same_some}
use Rattle.junit_parts.proofs.RunLemmas.{by_bool, if_false, if_true}

pub starts : (bytes mark : List ℕ) → starts_with nat_eq bytes mark ≡ true → bytes ≡ mark ++ drop (length mark) bytes
starts bytes mark is = (starts_is Decides-eqb bytes mark (starts_with nat_eq bytes mark) refl).0 is

pub started : (bytes mark rest : List ℕ) → bytes ≡ mark ++ rest → starts_with nat_eq bytes mark ≡ true
started bytes mark rest is = (starts_is Decides-eqb bytes mark (starts_with nat_eq bytes mark) refl).1 rest is

-- the mark stands nowhere before the text ends
abbrev pub IsFirst : List ℕ → List ℕ → List ℕ → Type 0
IsFirst text mark rest = (front behind : List ℕ) → text ++ (mark ++ rest) ≡ front ++ (mark ++ behind) → length text ≤ length front

pub record IsParted (mark bytes text rest : List ℕ) : Type 0 where
  pub spelled : bytes ≡ text ++ (mark ++ rest)
  pub first : IsFirst text mark rest

abbrev tail_of : List ℕ → List ℕ
tail_of [] = []
tail_of (b ∷ bs) = bs

later_first : (b : ℕ) (mark bs text rest : List ℕ) → bs ≡ text ++ (mark ++ rest) → IsFirst text mark rest → starts_with nat_eq (b ∷ bs) mark ≡ false → IsFirst (b ∷ text) mark rest
later_first b mark bs text rest spelled first later [] behind is = absurd (let here : true ≡ false = sym (started (b ∷ bs) mark behind (ap (λ (x : List ℕ). b ∷ x) spelled ∙ is)) ∙ later in cc)
later_first b mark bs text rest spelled first later (f ∷ front) behind is =
    let same : text ++ (mark ++ rest) ≡ front ++ (mark ++ behind) = ap tail_of is in
    omega (arith, first front behind same)

pub parted_read : (mark bytes : List ℕ) (r : List ℕ × List ℕ) → parted_at mark bytes ≡ Some r → IsParted mark bytes r.0 r.1
unfolding parted_at
parted_read mark [] r e = absurd cc
parted_read mark (b ∷ bs) r e =
    let P : List ℕ × List ℕ → Type 0 = λ x. IsParted mark (b ∷ bs) x.0 x.1 in
    by_bool (starts_with nat_eq (b ∷ bs) mark)
    (λ here.
    let found : ([], drop (length mark) (b ∷ bs)) ≡ r = same_some _ r (sym (if_true (starts_with nat_eq (b ∷ bs) mark) _ _ here) ∙ e) in
    subst P found (record { spelled = starts (b ∷ bs) mark here; first = λ front behind is. omega arith }))
    (λ later.
    let parts = bind_some (parted_at mark bs) (λ p. Some (b ∷ p.0, p.1)) r (sym (if_false (starts_with nat_eq (b ∷ bs) mark) _ _ later) ∙ e) in
    let found : (b ∷ parts.0.0, parts.0.1) ≡ r = same_some _ r parts.2 in
    let is = parted_read mark bs parts.0 parts.1 in
    subst P found (record { spelled = ap (λ (x : List ℕ). b ∷ x) is.spelled; first = later_first b mark bs parts.0.0 parts.0.1 is.spelled is.first later }))

less : (a b : ℕ) → suc a ≤ suc b → a ≤ b
less a b e = omega (arith, e)

pub parted_met : (mark text rest : List ℕ) → 0 < length mark → IsFirst text mark rest → parted_at mark (text ++ (mark ++ rest)) ≡ Some (text, rest)
unfolding parted_at
parted_met [] text rest some first = absurd (omega arith)
parted_met (m ∷ mark) [] rest some first =
    if_true (starts_with nat_eq ((m ∷ mark) ++ rest) (m ∷ mark)) _ _ (started ((m ∷ mark) ++ rest) (m ∷ mark) rest refl)
    ∙ ap (λ (x : List ℕ). let none : List ℕ = [] in Some (none, x)) (drop-append_seam (m ∷ mark) rest)
parted_met (m ∷ mark) (t ∷ text) rest some first =
    let all : List ℕ = text ++ ((m ∷ mark) ++ rest) in
    let inner : IsFirst text (m ∷ mark) rest = λ front behind is. less (length text) (length front) (first (t ∷ front) behind (ap (λ (x : List ℕ). t ∷ x) is)) in
    let others : parted_at (m ∷ mark) all ≡ Some (text, rest) = parted_met (m ∷ mark) text rest some inner in
    if_false (starts_with nat_eq (t ∷ all) (m ∷ mark)) _ _
    (by_bool (starts_with nat_eq (t ∷ all) (m ∷ mark))
    (λ here. absurd (let none = first [] (drop (length (m ∷ mark)) (t ∷ all)) (starts (t ∷ all) (m ∷ mark) here) in omega (arith, none))) (λ later. later))
    ∙ rw others refl

pub enclosed_of : (opening mark bytes inner : List ℕ) (parts : List ℕ × List ℕ) → bytes ≡ opening ++ inner → parted_at mark inner ≡ Some parts → IsEnclosed opening parts.0 mark bytes parts.1
enclosed_of opening mark bytes inner parts is e =
    let parted = parted_read mark inner parts e in
    record { spelled = is ∙ ap (λ (x : List ℕ). opening ++ x) parted.spelled; first = parted.first }
