-- Lists that begin alike, but maybe for one place, and a write to such a list.
use Rattle.std.proofs.Common.{◌≡◌, ◌≢◌, ℕ, zero, suc, ◌+◌, ◌<◌, ◌≤◌, List, [], ◌∷◌, ◌++◌, length, get_or, drop, refl, sym, ◌∙◌, ap, arith, append_assoc, length-append}
use Rattle.std.proofs.lemmas.List.{take_at, drop_at}
use Rattle.disks.specs.Parts.{written_over}
use Rattle.result_journal.specs.Steps.{BeginsBut}

-- A list is these bytes and more.
pub record Begins (list front : List ℕ) : Type 0 where
  pub rest : List ℕ
  pub form : list ≡ front ++ rest

pub begins : (list front : List ℕ) → length front ≤ length list →
    ((k : ℕ) → k < length front → get_or list k 0 ≡ get_or front k 0) → Begins list front
begins list [] long same = record { rest = list; form = refl }
begins [] (f ∷ front) long same = absurd (omega arith)
begins (b ∷ list) (f ∷ front) long same =
    let more = begins list front (omega arith) (λ k below. same (suc k) (omega arith)) in
    let first : b ≡ f = same 0 (omega arith) in
    let others : list ≡ front ++ more.rest = more.form in
    record { rest = more.rest; form = cc }

pub begins_but : (list front back : List ℕ) (h : ℕ) → length (front ++ h ∷ back) ≤ length list →
    ((k : ℕ) → k < length (front ++ h ∷ back) → k ≢ length front →
    get_or list k 0 ≡ get_or (front ++ h ∷ back) k 0) → BeginsBut list front back
begins_but [] [] back h long same = absurd (omega arith)
begins_but (b ∷ list) [] back h long same =
    let more = begins list back (omega arith) (λ k below. same (suc k) (omega arith) (omega arith)) in
    let others : list ≡ back ++ more.rest = more.form in
    record { there = b; rest = more.rest; form = cc }
begins_but [] (f ∷ front) back h long same = absurd (omega arith)
begins_but (b ∷ list) (f ∷ front) back h long same =
    let more = begins_but list front back h (omega arith) (λ k below apart. same (suc k) (omega arith) (omega arith)) in
    let first : b ≡ f = same 0 (omega arith) (omega arith) in
    let others : list ≡ front ++ more.there ∷ (back ++ more.rest) = more.form in
    record { there = more.there; rest = more.rest; form = cc }

-- The byte of such a list at another place.
pub get_front : (front rest : List ℕ) (k : ℕ) → k < length front → get_or (front ++ rest) k 0 ≡ get_or front k 0
get_front [] rest k below = absurd (omega arith)
get_front (f ∷ front) rest zero below = refl
get_front (f ∷ front) rest (suc k) below = get_front front rest k (omega arith)

pub get_but : (front back rest : List ℕ) (g h k : ℕ) → k < length (front ++ h ∷ back) → k ≢ length front →
    get_or (front ++ g ∷ (back ++ rest)) k 0 ≡ get_or (front ++ h ∷ back) k 0
get_but [] back rest g h zero below apart = absurd (omega arith)
get_but [] back rest g h (suc k) below apart = get_front back rest k (omega arith)
get_but (f ∷ front) back rest g h zero below apart = refl
get_but (f ∷ front) back rest g h (suc k) below apart = get_but front back rest g h k (omega arith) (omega arith)

-- A write right behind a front, and one over a single byte.
pub written_behind : (front rest piece : List ℕ) (at : ℕ) → at ≡ length front →
    Begins (written_over (front ++ rest) at piece) (front ++ piece)
written_behind front rest piece at is = record {
  rest = drop (at + length piece) (front ++ rest);
  form = ap (λ (l : List ℕ). l ++ piece ++ drop (at + length piece) (front ++ rest))
      (take_at front rest at (sym is));
}

pub written_byte : (front rest : List ℕ) (g b : ℕ) (at : ℕ) → at ≡ length front →
    written_over (front ++ g ∷ rest) at (b ∷ []) ≡ front ++ b ∷ rest
written_byte front rest g b at is =
    let long : length (front ++ g ∷ []) ≡ at + 1 = omega (arith, length-append front (g ∷ [])) in
    ap (λ (l : List ℕ). l ++ (b ∷ []) ++ drop (at + 1) (front ++ g ∷ rest)) (take_at front (g ∷ rest) at (sym is))
    ∙ ap (λ (l : List ℕ). front ++ (b ∷ []) ++ drop (at + 1) l) (sym (append_assoc front (g ∷ []) rest))
    ∙ ap (λ (l : List ℕ). front ++ (b ∷ []) ++ l) (drop_at (front ++ g ∷ []) rest (at + 1) long)
    ∙ append_assoc front (b ∷ []) rest
