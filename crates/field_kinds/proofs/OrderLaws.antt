-- The members of an object rise by name, so that no key stands twice.
use Rattle.std.proofs.Common.{◌≡◌, ◌≢◌, ℕ, zero, suc, ◌<◌, List, [], ◌∷◌, length, take, get_or, Some, Less, Equal, string_cmp, nat_cmp, refl, sym, subst, ◌∙◌, arith}
use Rattle.std.specs.List.{slice_get, Contains}
use Rattle.std.specs.List.Sorted.{IsStrictlySortedBy}
use Rattle.std.specs.Map.{keys_of}
use Rattle.std.specs.Cmp.Lexicographic.{slice_cmp}
use Rattle.std.proofs.lemmas.Cmp.{nat_list_cmp_total, tied_itself}
use Rattle.std.proofs.lemmas.List.Sorted.{Contains-permutation, IsPermutation-sym}
use Rattle.std.proofs.lemmas.Option.{slice_get_within, get_or_from_slice_get}
use Rattle.serde_json.proofs.Views.{Entry}
use Rattle.serde_json.specs.View.{members_view}
use Rattle.json_fields.specs.NamesRealms.declared.pairs.Pair.{Pair}
use Rattle.json_fields.specs.NamesRealms.Variants.{IsBefore, IsAscending, IsFirstRepeat}
use Rattle.json_fields.specs.NameParts.declared.faults.NameFault.{NameFault}
use Rattle.json_fields.specs.NameParts.declared.faults.NameFault.TheVariants.{Empty, TooLong, BadByte, NotCanonical, OutOfRange, Memory}
use Rattle.field_kinds.specs.Variants.{pairs_of}

pub ascending_members : (es : List Entry) → IsStrictlySortedBy string_cmp (keys_of es) → IsAscending (pairs_of (members_view es))
unfolding IsStrictlySortedBy
ascending_members [] rises = tt
ascending_members (e ∷ []) rises = tt
ascending_members (e ∷ f ∷ es) rises = (rises.0.0, ascending_members (f ∷ es) rises.1)

behind : (p : Pair) (ps : List Pair) → IsAscending (p ∷ ps) → IsAscending ps
behind p [] rises = tt
behind p (q ∷ ps) rises = rises.1

first_of : (p r : Pair) → Some p ≡ Some r → p ≡ r
first_of p r e = cc

-- a later pair has a later key
later : (p : Pair) (ps : List Pair) → IsAscending (p ∷ ps) → (i : ℕ) (r : Pair) → slice_get ps i ≡ Some r → IsBefore p r
later p [] rises i r e = absurd cc
later p (q ∷ ps) rises zero r e = subst (λ (x : Pair). IsBefore p x) (first_of q r e) rises.0
later p (q ∷ ps) rises (suc i) r e = nat_list_cmp_total.trans p.key q.key r.key rises.0 (later q ps rises.1 i r e)

before : (ps : List Pair) (at : ℕ) (r d : Pair) → IsAscending ps → slice_get ps at ≡ Some r → (k : ℕ) → k < length (take at ps) → IsBefore (get_or (take at ps) k d) r
before [] at r d rises e k h = absurd cc
before (p ∷ ps) zero r d rises e k h = absurd (omega arith)
before (p ∷ ps) (suc at) r d rises e zero h = later p ps rises at r e
before (p ∷ ps) (suc at) r d rises e (suc k) h = before ps at r d (behind p ps rises) e k (omega arith)

apart : (a b : List ℕ) → slice_cmp nat_cmp a b ≡ Less → a ≡ b → ⊥
apart a b less same =
    let tied : slice_cmp nat_cmp a b ≡ Equal = subst (λ (x : List ℕ). slice_cmp nat_cmp a x ≡ Equal) same (tied_itself nat_list_cmp_total a) in
    let no : Less ≡ Equal = sym less ∙ tied in
    cc no

pub no_repeat : (pairs : List Pair) (at : ℕ) → IsAscending pairs → IsFirstRepeat pairs at → ⊥
no_repeat pairs at rises repeat =
    let sorted = repeat.0 in
    let same = repeat.1 in
    let repeated = repeat.3 in
    let here = repeat.4 in
    let place = repeat.5 in
    let earlier = repeat.6 in
    let there = repeat.7 in
    let key = repeat.8 in
    let among : Contains sorted earlier = (place, slice_get_within sorted place earlier there, get_or_from_slice_get sorted place earlier earlier there) in
    let front = Contains-permutation sorted (take at pairs) earlier (IsPermutation-sym (take at pairs) sorted same) among in
    apart earlier.key repeated.key (subst (λ (x : Pair). IsBefore x repeated) front.2 (before pairs at repeated earlier rises here front.0 front.1)) key

-- pairs that rise are refused for want of memory alone
pub only_memory : (pairs : List Pair) (f : NameFault) → IsAscending pairs
    → (f ≢ Memory → (at : ℕ) × (f ≡ NotCanonical at) × IsFirstRepeat pairs at) → f ≡ Memory
only_memory pairs Empty rises h = let r = h (λ e. cc) in absurd (no_repeat pairs r.0 rises r.2)
only_memory pairs (TooLong n) rises h = let r = h (λ e. cc) in absurd (no_repeat pairs r.0 rises r.2)
only_memory pairs (BadByte n) rises h = let r = h (λ e. cc) in absurd (no_repeat pairs r.0 rises r.2)
only_memory pairs (NotCanonical n) rises h = let r = h (λ e. cc) in absurd (no_repeat pairs r.0 rises r.2)
only_memory pairs OutOfRange rises h = let r = h (λ e. cc) in absurd (no_repeat pairs r.0 rises r.2)
only_memory pairs Memory rises h = refl
