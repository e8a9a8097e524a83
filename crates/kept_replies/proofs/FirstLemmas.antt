-- The place of the first reply for a number of a caller.
use Rattle.std.proofs.Common.{◌≡◌, ℕ, suc, zero, true, false, List, [], ◌∷◌, Option, Some, None, option_map, Vec, Global, inl, inr, refl, sym, ap, subst, ◌∙◌}
use Rattle.std.specs.Prelude.{slice_get, Bool, ◌&&◌, Contains}
use Rattle.std.specs.Map.{lookup}
use Rattle.std.specs.Str.{bytes_eq}
use Rattle.std.specs.Cmp.Lexicographic.{bytes_decides}
use Rattle.std.proofs.lemmas.Bool.{cases_Bool, cond-false, cond-true, false≢true}
use Rattle.std.proofs.lemmas.List.Elements.{All-cons, All-contains, All-head, All-nil, All-tail}
use Rattle.kept_replies.specs.declared.reply.KeptReply.{KeptReply}
use Rattle.kept_replies.specs.Kept.{IsAlone, IsFor, IsFree, IsWord, is_for, place_for}
use Rattle.kept_replies.specs.Places.{key_of}
use Rattle.kept_replies.proofs.KeptLemmas.{Keeps, contained, found_for, free_for, reply_there}

both_true : (a b : Bool) → a ≡ true → b ≡ true → (a && b) ≡ true
both_true true true ea eb = refl
both_true false b ea eb = let no : false ≡ true = ea in absurd cc
both_true true false ea eb = let no : false ≡ true = eb in absurd cc

true_both : (a b : Bool) → (a && b) ≡ true → (a ≡ true) × (b ≡ true)
true_both true true e = (refl, refl)
true_both true false e = let no : false ≡ true = e in absurd cc
true_both false b e = let no : false ≡ true = e in absurd cc

pub for_is : (caller number : List ℕ) (reply : KeptReply) → IsFor caller number reply → is_for caller number reply ≡ true
for_is caller number reply is =
    both_true (bytes_eq reply.caller caller) (bytes_eq reply.number number) ((bytes_decides reply.caller caller).1 is.0)
    ((bytes_decides reply.number number).1 is.1)

pub is_for_it : (caller number : List ℕ) (reply : KeptReply) → is_for caller number reply ≡ true → IsFor caller number reply
is_for_it caller number reply e =
    let both = true_both (bytes_eq reply.caller caller) (bytes_eq reply.number number) e in
    ((bytes_decides reply.caller caller).0 both.0, (bytes_decides reply.number number).0 both.1)

-- where nothing is kept for it, it has no place, and the other way round
pub free_has_none : (caller number : List ℕ) (kept : List KeptReply) → IsFree kept caller number → place_for caller number kept ≡ None
free_has_none caller number [] free = refl
free_has_none caller number (reply ∷ kept) free =
    elim (cases_Bool (is_for caller number reply)) [
      | inl is ↦ absurd (All-head (λ (r : KeptReply). ¬ IsFor caller number r) reply kept free (is_for_it caller number reply is))
      | inr not ↦
          cond-false (is_for caller number reply) (Some 0) (option_map suc (place_for caller number kept)) not
          ∙ ap (option_map suc) (free_has_none caller number kept (All-tail (λ (r : KeptReply). ¬ IsFor caller number r) reply kept free))
    ]

one_behind : (o : Option ℕ) → option_map suc o ≡ None → o ≡ None
one_behind None e = refl
one_behind (Some p) e = let no : Some (suc p) ≡ None = e in absurd cc

pub none_is_free : (caller number : List ℕ) (kept : List KeptReply) → place_for caller number kept ≡ None → IsFree kept caller number
none_is_free caller number [] e = All-nil (λ (r : KeptReply). ¬ IsFor caller number r)
none_is_free caller number (reply ∷ kept) e =
    elim (cases_Bool (is_for caller number reply)) [
      | inl is ↦
          let no : Some 0 ≡ None =
          sym (cond-true (is_for caller number reply) (Some 0) (option_map suc (place_for caller number kept)) is) ∙ e in absurd cc
      | inr not ↦
          let rest = one_behind (place_for caller number kept)
          (sym (cond-false (is_for caller number reply) (Some 0) (option_map suc (place_for caller number kept)) not) ∙ e) in
          All-cons (λ (r : KeptReply). ¬ IsFor caller number r) reply kept
          (λ is. false≢true (sym not ∙ for_is caller number reply is)) (none_is_free caller number kept rest)
    ]

-- what stands at its place is for it
abbrev pub StandsFor : List ℕ → List ℕ → List KeptReply → ℕ → Type 0
StandsFor caller number kept place = (reply : KeptReply) × (slice_get kept place ≡ Some reply) × IsFor caller number reply

behind : (caller number : List ℕ) (reply : KeptReply) (kept : List KeptReply) (o : Option ℕ) (place : ℕ)
    → ((p : ℕ) → o ≡ Some p → StandsFor caller number kept p) → option_map suc o ≡ Some place
    → StandsFor caller number (reply ∷ kept) place
behind caller number reply kept None place holds e = let no : None ≡ Some place = e in absurd cc
behind caller number reply kept (Some p) zero holds e = let no : Some (suc p) ≡ Some zero = e in absurd cc
behind caller number reply kept (Some p) (suc q) holds e =
    let same : Some (suc p) ≡ Some (suc q) = e in
    let is : p ≡ q = cc in
    let there = holds p refl in
    (there.0, subst (λ (k : ℕ). slice_get kept k ≡ Some there.0) is there.1, there.2)

pub place_holds_for : (caller number : List ℕ) (kept : List KeptReply) (place : ℕ) → place_for caller number kept ≡ Some place
    → StandsFor caller number kept place
place_holds_for caller number [] place e = let no : None ≡ Some place = e in absurd cc
place_holds_for caller number (reply ∷ kept) place e =
    elim (cases_Bool (is_for caller number reply)) [
      | inl is ↦
          let first : Some 0 ≡ Some place =
          sym (cond-true (is_for caller number reply) (Some 0) (option_map suc (place_for caller number kept)) is) ∙ e in
          let at : 0 ≡ place = cc in
          (reply, subst (λ (k : ℕ). slice_get (reply ∷ kept) k ≡ Some reply) at refl, is_for_it caller number reply is)
      | inr not ↦
          behind caller number reply kept (place_for caller number kept) place (place_holds_for caller number kept)
          (sym (cond-false (is_for caller number reply) (Some 0) (option_map suc (place_for caller number kept)) not) ∙ e)
    ]

-- and where no other reply is for it, its place is the first
found_at : (caller number : List ℕ) (kept : List KeptReply) (place : ℕ) (reply : KeptReply) (o : Option ℕ)
    → place_for caller number kept ≡ o → IsAlone kept → slice_get kept place ≡ Some reply → IsFor caller number reply
    → Contains kept reply → o ≡ Some place
found_at caller number kept place reply None e alone at is within =
    absurd (All-contains (λ (r : KeptReply). ¬ IsFor caller number r) kept reply (none_is_free caller number kept e) within is)
found_at caller number kept place reply (Some first) e alone at is within =
    let there = place_holds_for caller number kept first e in
    ap (λ (p : ℕ). Some p)
    (alone place first reply there.0 at there.1 (there.2.0 ∙ sym is.0, there.2.1 ∙ sym is.1))

pub place_is : (caller number : List ℕ) (kept : List KeptReply) (place : ℕ) (reply : KeptReply) → IsAlone kept
    → slice_get kept place ≡ Some reply → IsFor caller number reply → place_for caller number kept ≡ Some place
place_is caller number kept place reply alone at is =
    found_at caller number kept place reply (place_for caller number kept) refl alone at is (contained kept place reply at)

-- what the key is looked up to is the place
pub place_found : (places : List (Vec ℕ Global × ℕ)) (kept : List KeptReply) (key : Vec ℕ Global) (caller number : List ℕ) (found : Option ℕ)
    → Keeps places kept → IsWord number → key.items ≡ key_of caller number
    → lookup (λ k. bytes_eq key.items k.items) places ≡ found → found ≡ place_for caller number kept
place_found places kept key caller number None (placed, words, alone) word key_is e =
    sym (free_has_none caller number kept (free_for places kept key caller number placed key_is e))
place_found places kept key caller number (Some place) (placed, words, alone) word key_is e =
    let at = (placed key place).0 e in
    let there = reply_there kept place key.items at in
    sym (place_is caller number kept place there.0 alone there.1
    (found_for kept place caller number key.items there.0 words word key_is at there.1))
