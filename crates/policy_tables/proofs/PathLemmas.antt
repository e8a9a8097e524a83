-- Paths that grow and shrink, and their order from where they differ.
use Rattle.std.proofs.Common.{◌≡◌, ℕ, zero, suc, ◌+◌, ◌<◌, ◌≤◌, min, List, [], ◌∷◌, ◌++◌, length, length-append, get_or, take, drop, nat_cmp, Equal, refl, sym, ap, ◌∙◌, arith, Option, Some, None}
use Rattle.std.proofs.lemmas.List.{take-append-le, take-take, take_more_same, length-take}
use Rattle.std.proofs.lemmas.Cmp.{nat_cmp_total}
use Rattle.std.proofs.Math.Seq.{take-append_seam}
use Rattle.std.specs.Cmp.{tied_itself}
use Rattle.std.specs.Cmp.Lexicographic.{slice_cmp}
use Rattle.policy_tables.specs.declared.findings.Finding.{Finding}
use Rattle.policy_tables.specs.Findings.{joined}
use Rattle.policy_tables.specs.Notes.{HaveFront, IsShared}

-- the front of a path that went on is the path before
pub front_of_joined : (path key : List ℕ) → take (length path) (joined path key) ≡ path
front_of_joined [] key = refl
front_of_joined (b ∷ bs) key = take-append_seam (b ∷ bs) (46 ∷ key)

-- what is in common at the fronts stays so when the path grows, and when it shrinks
pub shared_longer : (path more : List ℕ) (least : Option Finding) (n : ℕ) → IsShared path least n → IsShared (path ++ more) least n
shared_longer path more None n h = h
shared_longer path more (Some f) n h = record {
  left = omega (arith, h.left, length-append path more);
  right = h.right;
  same = take-append-le n path more h.left ∙ h.same;
}

pub shared_shorter : (path : List ℕ) (least : Option Finding) (n m : ℕ) → IsShared path least n → IsShared (take m path) least (min n m)
shared_shorter path None n m h = omega (arith, h)
shared_shorter path (Some f) n m h = record {
  left = omega (arith, h.left, length-take m path);
  right = omega (arith, h.right);
  same =
      let under : min n m ≤ n = omega arith in
      take-take (min n m) m path (omega arith) ∙ sym (take-take (min n m) n path under) ∙ ap (take (min n m)) h.same ∙ take-take (min n m) n f.path under;
}

-- a byte more that is the same
pub front_more : (path other : List ℕ) (n x y : ℕ) → HaveFront path other n → n < length path → n < length other
    → get_or path n x ≡ get_or other n x → HaveFront path other (n + 1)
front_more path other n x y h left right same = record {
  left = omega (arith, left);
  right = omega (arith, right);
  same = take_more_same path other n x left right h.same same;
}

-- paths are in the order of what stands behind a common front
pub order_behind : (n : ℕ) (path other : List ℕ) → n ≤ length path → n ≤ length other → take n path ≡ take n other
    → slice_cmp nat_cmp (drop n path) (drop n other) ≡ slice_cmp nat_cmp path other
order_behind zero path other left right same = refl
order_behind (suc n) [] other left right same = absurd (omega (arith, left))
order_behind (suc n) (x ∷ xs) [] left right same = absurd (omega (arith, right))
order_behind (suc n) (x ∷ xs) (y ∷ ys) left right same =
    let here : x ≡ y = cc in
    let rest : take n xs ≡ take n ys = cc in
    let behind : slice_cmp nat_cmp (drop n xs) (drop n ys) ≡ slice_cmp nat_cmp xs ys = order_behind n xs ys (omega (arith, left)) (omega (arith, right)) rest in
    let tied : nat_cmp x y ≡ Equal = ap (nat_cmp x) (sym here) ∙ tied_itself nat_cmp_total x in
    rw tied behind
