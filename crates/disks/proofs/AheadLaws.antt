-- Reads of what was read ahead.
use Rattle.std.proofs.Common.{◌≡◌, inl, inr, ℕ, ◌+◌, ◌-◌, ◌<◌, ◌≤◌, List, length, take, drop, ◌∙◌, ap, arith}
use Rattle.std.proofs.lemmas.Bool.{cases_lt}
use Rattle.std.proofs.lemmas.List.{drop-take, drop-drop, length-take-le, take-take}
use Rattle.disks.specs.Calls.{Gives}
use Rattle.disks.specs.Aheads.{HoldsOf}
use Rattle.disks.specs.declared.ahead.ReadAhead.{ReadAhead}

-- The first n bytes of what is held from a place on.
part_of_held : (bytes items : List ℕ) (from count k n : ℕ) → take count items ≡ take count (drop from bytes) →
    k ≤ count → n ≤ count - k → take n (drop k (take count items)) ≡ take n (drop (from + k) bytes)
part_of_held bytes items from count k n held inside few =
    let sum : count ≡ k + (count - k) = omega arith in
    ap (λ (l : List ℕ). take n (drop k l)) held
    ∙ ap (λ (c : ℕ). take n (drop k (take c (drop from bytes)))) sum
    ∙ ap (λ (l : List ℕ). take n l) (drop-take k (count - k) (drop from bytes))
    ∙ take-take n (count - k) (drop k (drop from bytes)) few
    ∙ ap (λ (l : List ℕ). take n l) (drop-drop k from bytes)

-- What is given of held bytes is what the part gives.
pub given_held : (bytes : List ℕ) (ahead : ReadAhead) (at : ℕ) (room : List ℕ) (n : ℕ) → HoldsOf bytes ahead →
    ahead.count ≤ length ahead.room.items → ahead.from ≤ at → at < ahead.from + ahead.count →
    Gives (take ahead.count ahead.room.items) (at - ahead.from) room n → Gives bytes at room n
given_held bytes ahead at room n held within low high gives =
    let size : length (take ahead.count ahead.room.items) ≡ ahead.count =
    length-take-le ahead.count ahead.room.items within in
    let k = at - ahead.from in
    let there : ahead.from + k ≡ at = omega arith in
    let few : n ≤ ahead.count - k = elim (cases_lt 0 n) [
      | inl some ↦ let e = gives.inside some in omega arith
      | inr none ↦ omega arith
    ] in
    record {
      inside = λ some. let e = held.inside (omega arith) in let i = gives.inside some in omega arith;
      given = gives.given ∙ part_of_held bytes ahead.room.items ahead.from ahead.count k n held.given (omega arith) few
          ∙ ap (λ (p : ℕ). take n (drop p bytes)) there;
      none = λ none room_there. let e = gives.none none room_there in absurd (omega arith);
    }
