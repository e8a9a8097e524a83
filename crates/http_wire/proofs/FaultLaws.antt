-- Which fault comes first.
use Rattle.std.proofs.Common.{◌≡◌, ◌⊎◌, inl, inr, ℕ, ◌≤◌, Bool, true, false, List, [], ◌∷◌, ◌++◌, Option, Some, None, refl, sym, ◌∙◌, subst}
use Rattle.std.specs.Prelude.{if◌then◌else◌}
use Rattle.std.specs.List.{AllByRecursion}
use Rattle.std.proofs.lemmas.Bool.{ltb-false}
use Rattle.httparse.specs.Grammar.{RequestHead}
use Rattle.http_wire.specs.Form.{body_length, body_limit}
use Rattle.http_wire.specs.Faults.{Sign, sign, first_there, header_limit, head_signs}
use Rattle.http_wire.specs.declared.message.WireFault.{WireFault}
use Rattle.http_wire.specs.declared.message.WireFault.TheVariants.{CutShort, ReadFault, Memory}

-- ---- the first of two lists

pub first-append : (xs ys : List Sign) → first_there xs ≡ None → first_there (xs ++ ys) ≡ first_there ys
first-append [] ys none = refl
first-append (s ∷ xs) ys none = by s.is_there (first-append xs ys) none
  where
    by : (b : Bool) → (first_there xs ≡ None → first_there (xs ++ ys) ≡ first_there ys) → (if b then Some s.fault else first_there xs) ≡ None
        → (if b then Some s.fault else first_there (xs ++ ys)) ≡ first_there ys
    by true others none = absurd cc
    by false others none = others none

pub first-front : (xs ys : List Sign) (fault : WireFault) → first_there xs ≡ Some fault → first_there (xs ++ ys) ≡ Some fault
first-front [] ys fault some = absurd cc
first-front (s ∷ xs) ys fault some = by s.is_there (first-front xs ys fault) some
  where
    by : (b : Bool) → (first_there xs ≡ Some fault → first_there (xs ++ ys) ≡ Some fault) → (if b then Some s.fault else first_there xs) ≡ Some fault
        → (if b then Some s.fault else first_there (xs ++ ys)) ≡ Some fault
    by true others some = some
    by false others some = others some

pub first_either : (xs ys : List Sign) (fault : WireFault) → first_there (xs ++ ys) ≡ Some fault
    → (first_there xs ≡ Some fault) ⊎ ((first_there xs ≡ None) × (first_there ys ≡ Some fault))
first_either xs ys fault some = by (first_there xs) refl
  where
    by : (o : Option WireFault) → first_there xs ≡ o → (first_there xs ≡ Some fault) ⊎ ((first_there xs ≡ None) × (first_there ys ≡ Some fault))
    by None e = inr (e, sym (first-append xs ys e) ∙ some)
    by (Some other) e = inl (e ∙ sym (first-front xs ys other e) ∙ some)

-- what holds of each fault holds of the first
pub of_first : (P : WireFault → Type 0) (xs : List Sign) (fault : WireFault) → AllByRecursion (λ s. P s.fault) xs → first_there xs ≡ Some fault → P fault
of_first P [] fault all some = absurd cc
of_first P (s ∷ xs) fault all some = by s.is_there (of_first P xs fault all.1) some
  where
    by : (b : Bool) → (first_there xs ≡ Some fault → P fault) → (if b then Some s.fault else first_there xs) ≡ Some fault → P fault
    by true others some = let same : s.fault ≡ fault = cc in subst P same all.0
    by false others some = others some

-- ---- which faults can come

-- a fault of a whole head
abbrev pub IsOfHead : WireFault → Type 0
IsOfHead (CutShort have) = ⊥
IsOfHead ReadFault = ⊥
IsOfHead Memory = ⊥
IsOfHead fault = Unit {0}

pub head_fault : (end lines : ℕ) (read : Option RequestHead) (fault : WireFault) → first_there (head_signs end lines read) ≡ Some fault → IsOfHead fault
head_fault end lines None fault first = of_first IsOfHead (head_signs end lines None) fault (tt, (tt, tt)) first
head_fault end lines (Some h) fault first = of_first IsOfHead (head_signs end lines (Some h)) fault (tt, (tt, (tt, (tt, (tt, (tt, tt)))))) first

-- a fault that stays, whatever follows
abbrev pub IsNoCut : WireFault → Type 0
IsNoCut (CutShort have) = ⊥
IsNoCut fault = Unit {0}

pub not_cut : (have : ℕ) (there : Bool) (fault : WireFault) → first_there (sign (CutShort have) there ∷ []) ≡ Some fault → IsNoCut fault → ⊥
not_cut have true fault first stays = let same : CutShort have ≡ fault = cc in subst (λ (f : WireFault). IsNoCut f) (sym same) stays
not_cut have false fault first stays = absurd cc

-- ---- no fault

pub none_there : (xs : List Sign) → first_there xs ≡ None → AllByRecursion (λ s. s.is_there ≡ false) xs
none_there [] none = tt
none_there (s ∷ xs) none = by s.is_there refl (none_there xs) none
  where
    by : (b : Bool) → s.is_there ≡ b → (first_there xs ≡ None → AllByRecursion (λ t. t.is_there ≡ false) xs)
        → (if b then Some s.fault else first_there xs) ≡ None → (s.is_there ≡ false) × AllByRecursion (λ t. t.is_there ≡ false) xs
    by true e others none = absurd cc
    by false e others none = (e, others none)

-- a head without a fault has few lines
pub few_lines : (end lines : ℕ) (h : RequestHead) → first_there (head_signs end lines (Some h)) ≡ None → lines ≤ header_limit
few_lines end lines h sound = ltb-false header_limit lines (none_there (head_signs end lines (Some h)) sound).0

-- the body behind it is within the limit
pub short_body : (end lines : ℕ) (h : RequestHead) → first_there (head_signs end lines (Some h)) ≡ None → body_length h ≤ body_limit
short_body end lines h sound = ltb-false body_limit (body_length h) (none_there (head_signs end lines (Some h)) sound).1.1.1.1.1.0
