-- What several calls together took or gave.
use Rattle.std.proofs.Common.{◌≡◌, refl, sym, ◌∙◌, ap, ℕ, List, [], ◌++◌, Option, Some, None, append_assoc, append-nil}
use Rattle.outside.specs.Bytes.{Took, Gave}
use Rattle.outside.specs.Whole.{TookFront}

pub took_nothing : (written : Option (List ℕ)) → Took written [] written
took_nothing None = tt
took_nothing (Some bytes) = ap Some (sym (append-nil bytes))

pub took_both : (before : Option (List ℕ)) (first second : List ℕ) (between now : Option (List ℕ)) → Took before first between
    → Took between second now → Took before (first ++ second) now
took_both None first second between now p q = tt
took_both (Some b) first second None now p q = cc
took_both (Some b) first second (Some m) now p q =
    let middle : m ≡ b ++ first = cc in
    q ∙ ap (λ x. Some (x ++ second)) middle ∙ ap Some (append_assoc b first second)

-- A front of the first bytes alone.
pub front_of_first : (before : Option (List ℕ)) (first second : List ℕ) (now : Option (List ℕ)) → TookFront before first now
    → TookFront before (first ++ second) now
front_of_first before first second now p = record {
  front = p.front;
  rest = p.rest ++ second;
  parts = ap (λ x. x ++ second) p.parts ∙ append_assoc p.front p.rest second;
  took = p.took;
}

-- All of the first bytes, and a front of the second.
pub front_of_second : (before : Option (List ℕ)) (first second : List ℕ) (between now : Option (List ℕ))
    → Took before first between → TookFront between second now → TookFront before (first ++ second) now
front_of_second before first second between now p q = record {
  front = first ++ q.front;
  rest = q.rest;
  parts = ap (λ x. first ++ x) q.parts ∙ sym (append_assoc first q.front q.rest);
  took = took_both before first q.front between now p q.took;
}

pub gave_nothing : (left : Option (List ℕ)) → Gave left [] left
gave_nothing None = tt
gave_nothing (Some bytes) = (bytes, refl, refl)

pub gave_both : (before : Option (List ℕ)) (first second : List ℕ) (between now : Option (List ℕ)) → Gave before first between
    → Gave between second now → Gave before (first ++ second) now
gave_both None first second between now p q = tt
gave_both (Some b) first second None now p q = cc
gave_both (Some b) first second (Some m) now p q =
    let middle : p.0 ≡ m = cc in
    (q.0, q.1, p.2 ∙ (ap (λ x. first ++ x) (middle ∙ q.2) ∙ sym (append_assoc first second q.0)))
