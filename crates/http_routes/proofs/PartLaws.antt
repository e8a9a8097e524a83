-- The parts of a call: bytes without a slash, and where the first slash stands.
use Rattle.std.proofs.Common.{◌≡◌, ◌≢◌, ℕ, Bool, true, false, cond, List, [], ◌∷◌, ◌++◌, codes, refl, sym, ap, ◌∙◌, arith, ◌==◌, ◌⊎◌, inl, inr}
use Rattle.std.proofs.lemmas.Bool.Decides.{nat_tests}
use Rattle.std.specs.List.{AllByRecursion}
use Rattle.matchit.specs.Seek.{has_slash}
use Rattle.http_routes.specs.Calls.{IsPart, IsCall}

-- a part, as the router's search sees it
abbrev pub IsPlain : List ℕ → Type 0
IsPlain part = (part ≢ []) × (has_slash part ≡ false)

pub slash_or : (b : ℕ) (p : List ℕ) → has_slash (b ∷ p) ≡ false → ((b == 47) ≡ false) × (has_slash p ≡ false)
slash_or b p h = by (b == 47) refl
  where
    by : (v : Bool) → (b == 47) ≡ v → ((b == 47) ≡ false) × (has_slash p ≡ false)
    by true e = absurd (let f = rw e at h in cc)
    by false e = (e, rw e at h)

no_slash : (p : List ℕ) → has_slash p ≡ false → AllByRecursion (λ b. b ≢ 47) p
no_slash [] h = tt
no_slash (b ∷ p) h =
    let two = slash_or b p h in
    let other : b ≢ 47 = differs b two.0 in
    (other, no_slash p two.1)
  where
    differs : (b : ℕ) → (b == 47) ≡ false → b ≢ 47
    differs b e is = grind (arith, nat_tests)

has_none : (p : List ℕ) → AllByRecursion (λ b. b ≢ 47) p → has_slash p ≡ false
has_none [] all = refl
has_none (b ∷ p) all =
    let e : (b == 47) ≡ false = other b all.0 in
    rw e (has_none p all.1)
  where
    other : (b : ℕ) → b ≢ 47 → (b == 47) ≡ false
    other b n = grind (arith, nat_tests)

pub plain_part : (p : List ℕ) → IsPlain p → IsPart p
plain_part p x = record { some = x.0; no_slash = no_slash p x.1 }

pub part_plain : (p : List ℕ) → IsPart p → IsPlain p
part_plain p x = (x.some, has_none p x.no_slash)

-- ---- the first slash

pub record Cut (p : List ℕ) : Type 0 where
  pub part : List ℕ
  pub rest : List ℕ
  pub is : p ≡ part ++ 47 ∷ rest
  pub plain : has_slash part ≡ false

pub cut : (p : List ℕ) → (has_slash p ≡ false) ⊎ Cut p
cut [] = inl refl
cut (b ∷ p) = by (b == 47) refl (cut p)
  where
    by : (v : Bool) → (b == 47) ≡ v → (has_slash p ≡ false) ⊎ Cut p → (has_slash (b ∷ p) ≡ false) ⊎ Cut (b ∷ p)
    by true e more = let same : b ≡ 47 = grind (arith, nat_tests) in inr (record { part = []; rest = p; is = rw same refl; plain = refl })
    by false e (inl none) = inl (rw e none)
    by false e (inr c) = inr (record { part = b ∷ c.part; rest = c.rest; is = ap (λ q. b ∷ q) c.is; plain = rw e c.plain })

-- bytes behind a first slash are cut in one way
pub cut_once : (a b c d : List ℕ) → a ++ 47 ∷ b ≡ c ++ 47 ∷ d → has_slash a ≡ false → has_slash c ≡ false → (a ≡ c) × (b ≡ d)
cut_once [] b [] d e p q = (refl, cc)
cut_once [] b (y ∷ c) d e p q =
    let two = slash_or y c q in
    let slash : y ≡ 47 = cc in
    absurd (let f = two.0 in grind (arith, nat_tests))
cut_once (x ∷ a) b [] d e p q =
    let two = slash_or x a p in
    let slash : x ≡ 47 = cc in
    absurd (let f = two.0 in grind (arith, nat_tests))
cut_once (x ∷ a) b (y ∷ c) d e p q =
    let head : x ≡ y = cc in
    let rest : a ++ 47 ∷ b ≡ c ++ 47 ∷ d = cc in
    let more = cut_once a b c d rest (slash_or x a p).1 (slash_or y c q).1 in
    (ap (λ z. z ∷ a) head ∙ ap (λ z. y ∷ z) more.0, more.1)

-- ---- calls

behind : (front a b : List ℕ) → front ++ a ≡ front ++ b → a ≡ b
behind [] a b e = e
behind (x ∷ front) a b e = let rest : front ++ a ≡ front ++ b = cc in behind front a b rest

pub one_call : (target a b c d : List ℕ) → IsCall target a b → IsCall target c d → (a ≡ c) × (b ≡ d)
one_call target a b c d x y =
    cut_once a b c d (behind (codes "/prpc/") (a ++ 47 ∷ b) (c ++ 47 ∷ d) (sym x.text ∙ y.text)) (part_plain a x.service_part).1 (part_plain c y.service_part).1

-- what stands behind a front, or that it stands in front of nothing
strip : (front bytes : List ℕ) → ((rest : List ℕ) × (bytes ≡ front ++ rest)) ⊎ ((rest : List ℕ) → bytes ≢ front ++ rest)
strip [] bytes = inl (bytes, refl)
strip (x ∷ front) [] = inr (λ rest (e : [] ≡ x ∷ (front ++ rest)). absurd cc)
strip (x ∷ front) (b ∷ bytes) = by (b == x) refl (strip front bytes)
  where
    by : (v : Bool) → (b == x) ≡ v → ((rest : List ℕ) × (bytes ≡ front ++ rest)) ⊎ ((rest : List ℕ) → bytes ≢ front ++ rest)
        → ((rest : List ℕ) × (b ∷ bytes ≡ x ∷ (front ++ rest))) ⊎ ((rest : List ℕ) → b ∷ bytes ≢ x ∷ (front ++ rest))
    by true e (inl found) = let same : b ≡ x = grind (arith, nat_tests) in inl (found.0, ap (λ z. z ∷ bytes) same ∙ ap (λ z. x ∷ z) found.1)
    by true e (inr none) = inr (λ rest is. none rest cc)
    by false e found = inr (λ rest is. let same : b ≡ x = cc in grind (arith, nat_tests))

-- whether a target names a call
abbrev pub CallOrNot : List ℕ → Type 0
CallOrNot target =
    ((service : List ℕ) × (method : List ℕ) × IsCall target service method) ⊎ ((service method : List ℕ) → ¬ (IsCall target service method))

has_two : (target rest service method : List ℕ) → target ≡ codes "/prpc/" ++ rest → IsCall target service method → rest ≡ service ++ 47 ∷ method
has_two target rest service method is x = behind (codes "/prpc/") rest (service ++ 47 ∷ method) (sym is ∙ x.text)

no_cut : (s m : List ℕ) → has_slash (s ++ 47 ∷ m) ≡ true
no_cut [] m = refl
no_cut (b ∷ s) m =
    elim (b == 47) as (λ v. cond v true (has_slash (s ++ 47 ∷ m)) ≡ true) [
      | true ↦ refl
      | false ↦ no_cut s m
    ]

by_parts : (target rest s m : List ℕ) → target ≡ codes "/prpc/" ++ rest → rest ≡ s ++ 47 ∷ m → has_slash s ≡ false → CallOrNot target
by_parts target rest [] m is parts plain =
    inr (λ service method x. x.service_part.some (sym (cut_once [] m service method (sym parts ∙ has_two target rest service method is x) refl (part_plain service x.service_part).1).0))
by_parts target rest (y ∷ s) m is parts plain = by m (has_slash m) refl parts
  where
    by : (m : List ℕ) (v : Bool) → has_slash m ≡ v → rest ≡ (y ∷ s) ++ 47 ∷ m → CallOrNot target
    by m true e parts =
        inr (λ service method x.
        let same = cut_once (y ∷ s) m service method (sym parts ∙ has_two target rest service method is x) plain (part_plain service x.service_part).1 in
        let none : has_slash m ≡ false = ap has_slash same.1 ∙ (part_plain method x.method_part).1 in
        absurd cc)
    by [] false e parts =
        inr (λ service method x.
        x.method_part.some (sym (cut_once (y ∷ s) [] service method (sym parts ∙ has_two target rest service method is x) plain (part_plain service x.service_part).1).1))
    by (z ∷ m) false e parts =
        inl (
          y ∷ s,
          z ∷ m,
          record {
            text = is ∙ ap (λ q. codes "/prpc/" ++ q) parts;
            service_part = plain_part (y ∷ s) ((λ (q : y ∷ s ≡ []). absurd cc), plain);
            method_part = plain_part (z ∷ m) ((λ (q : z ∷ m ≡ []). absurd cc), e);
          },
        )

pub call_or_not : (target : List ℕ) → CallOrNot target
call_or_not target = by (strip (codes "/prpc/") target)
  where
    with_rest : (rest : List ℕ) → target ≡ codes "/prpc/" ++ rest → (has_slash rest ≡ false) ⊎ Cut rest → CallOrNot target
    with_rest rest is (inl none) =
        inr (λ service method x. let slash : has_slash rest ≡ true = ap has_slash (has_two target rest service method is x) ∙ no_cut service method in absurd cc)
    with_rest rest is (inr c) = by_parts target rest c.part c.rest is c.is c.plain

    by : ((rest : List ℕ) × (target ≡ codes "/prpc/" ++ rest)) ⊎ ((rest : List ℕ) → target ≢ codes "/prpc/" ++ rest) → CallOrNot target
    by (inl found) = with_rest found.0 found.1 (cut found.0)
    by (inr none) = inr (λ service method x. none (service ++ 47 ∷ method) x.text)
