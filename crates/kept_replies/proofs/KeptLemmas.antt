-- Replies by their keys.
use Rattle.std.proofs.Common.{◌≡◌, ◌≢◌, ◌<◌, ℕ, suc, zero, true, false, cond, min, List, [], ◌∷◌, ◌++◌, length, get_or, Option, Some, None, option_map, Result, Ok, Err, Vec, Global, refl, sym, ap, subst, ◌∙◌, inl, inr, arith}
use Rattle.std.specs.Prelude.{◌⊎◌, slice_get, Contains, is_ok}
use Rattle.std.specs.List.{All}
use Rattle.std.specs.Map.{lookup}
use Rattle.std.specs.Result.{OnOk}
use Rattle.std.specs.Str.{bytes_eq}
use Rattle.std.specs.Cmp.Lexicographic.{bytes_decides}
use Rattle.std.proofs.Math.Nat.{min-le_left, min-le_right}
use Rattle.std.proofs.lemmas.Bool.{cases_Bool, cond-false, cond-true}
use Rattle.std.proofs.lemmas.List.{map_push, length-map}
use Rattle.std.proofs.lemmas.List.Elements.{All-append, All-cons, All-contains, All-head, All-nil, All-tail}
use Rattle.std.proofs.lemmas.Option.{get_or_from_slice_get, same_Some, slice_get-get_or, slice_get-map, slice_get_within}
use Rattle.kept_replies.specs.declared.reply.KeptReply.{KeptReply}
use Rattle.kept_replies.specs.Kept.{IsAlone, IsFor, IsFree, IsWord}
use Rattle.kept_replies.specs.Places.{IsPlaced, key_of, keys_of}

-- ---- a key parts into a name and a number in one way

blankless : (xs ys zs : List ℕ) → IsWord zs → xs ++ 32 ∷ ys ≡ zs → ⊥
blankless [] ys [] word e = let no : 32 ∷ ys ≡ [] = e in absurd cc
blankless [] ys (z ∷ zs) word e =
    let is : 32 ∷ ys ≡ z ∷ zs = e in
    let blank : z ≡ 32 = cc in
    All-head (λ byte. byte ≢ 32) z zs word blank
blankless (x ∷ xs) ys [] word e = let no : x ∷ (xs ++ 32 ∷ ys) ≡ [] = e in absurd cc
blankless (x ∷ xs) ys (z ∷ zs) word e =
    let is : x ∷ (xs ++ 32 ∷ ys) ≡ z ∷ zs = e in
    let rest : xs ++ 32 ∷ ys ≡ zs = cc in
    blankless xs ys zs (All-tail (λ byte. byte ≢ 32) z zs word) rest

pub parted : (a b c d : List ℕ) → IsWord c → IsWord d → key_of a c ≡ key_of b d → (a ≡ b) × (c ≡ d)
parted [] [] c d wc wd e =
    let is : 32 ∷ c ≡ 32 ∷ d = e in
    let rest : c ≡ d = cc in (refl, rest)
parted [] (y ∷ b) c d wc wd e =
    let is : 32 ∷ c ≡ y ∷ (b ++ 32 ∷ d) = e in
    let rest : b ++ 32 ∷ d ≡ c = cc in
    absurd (blankless b d c wc rest)
parted (x ∷ a) [] c d wc wd e =
    let is : x ∷ (a ++ 32 ∷ c) ≡ 32 ∷ d = e in
    let rest : a ++ 32 ∷ c ≡ d = cc in
    absurd (blankless a c d wd rest)
parted (x ∷ a) (y ∷ b) c d wc wd e =
    let is : x ∷ (a ++ 32 ∷ c) ≡ y ∷ (b ++ 32 ∷ d) = e in
    let first : x ≡ y = cc in
    let rest : a ++ 32 ∷ c ≡ b ++ 32 ∷ d = cc in
    let both = parted a b c d wc wd rest in
    (ap (λ (z : ℕ). z ∷ a) first ∙ ap (λ (zs : List ℕ). y ∷ zs) both.0, both.1)

-- ---- keys at their places

abbrev key_at : KeptReply → List ℕ
key_at reply = key_of reply.caller reply.number

pub key_there : (kept : List KeptReply) (place : ℕ) (reply : KeptReply) → slice_get kept place ≡ Some reply
    → slice_get (keys_of kept) place ≡ Some (key_of reply.caller reply.number)
key_there kept place reply e = slice_get-map key_at kept place ∙ ap (option_map key_at) e

reply_behind : (o : Option KeptReply) (key : List ℕ) → option_map key_at o ≡ Some key
    → (reply : KeptReply) × (o ≡ Some reply) × (key_of reply.caller reply.number ≡ key)
reply_behind None key e = let no : None ≡ Some key = e in absurd cc
reply_behind (Some reply) key e = (reply, refl, same_Some (key_at reply) key e)

pub reply_there : (kept : List KeptReply) (place : ℕ) (key : List ℕ) → slice_get (keys_of kept) place ≡ Some key
    → (reply : KeptReply) × (slice_get kept place ≡ Some reply) × (key_of reply.caller reply.number ≡ key)
reply_there kept place key e = reply_behind (slice_get kept place) key (sym (slice_get-map key_at kept place) ∙ e)

pub key_within : (kept : List KeptReply) (place : ℕ) (key : List ℕ) → slice_get (keys_of kept) place ≡ Some key → place < length kept
key_within kept place key e =
    subst (λ (n : ℕ). place < n) (length-map kept key_at) (slice_get_within (keys_of kept) place key e)

pub contained : (kept : List KeptReply) (place : ℕ) (reply : KeptReply) → slice_get kept place ≡ Some reply → Contains kept reply
contained kept place reply e = (place, slice_get_within kept place reply e, get_or_from_slice_get kept place reply reply e)

word_of : (kept : List KeptReply) (place : ℕ) (reply : KeptReply) → All (λ r. IsWord r.number) kept → slice_get kept place ≡ Some reply
    → IsWord reply.number
word_of kept place reply words e = All-contains (λ (r : KeptReply). IsWord r.number) kept reply words (contained kept place reply e)

-- what stands at the place of a key is for it
pub found_for : (kept : List KeptReply) (place : ℕ) (caller number key : List ℕ) (reply : KeptReply) → All (λ r. IsWord r.number) kept
    → IsWord number → key ≡ key_of caller number → slice_get (keys_of kept) place ≡ Some key → slice_get kept place ≡ Some reply
    → IsFor caller number reply
found_for kept place caller number key reply words word key_is e at =
    let there = reply_there kept place key e in
    let same : there.0 ≡ reply = same_Some there.0 reply (sym there.1 ∙ at) in
    let keys : key_of reply.caller reply.number ≡ key_of caller number =
    ap key_at (sym same) ∙ (there.2 ∙ key_is) in
    parted reply.caller caller reply.number number (word_of kept place reply words at) word keys

-- where the key has no place, nothing is kept for it
pub free_for : (places : List (Vec ℕ Global × ℕ)) (kept : List KeptReply) (key : Vec ℕ Global) (caller number : List ℕ) → IsPlaced places kept
    → key.items ≡ key_of caller number → lookup (λ k. bytes_eq key.items k.items) places ≡ None → IsFree kept caller number
free_for places kept key caller number placed key_is none =
    λ k d within is.
    let reply = get_or kept k d in
    let at : slice_get kept k ≡ Some reply = slice_get-get_or kept k d within in
    let keys : key_of reply.caller reply.number ≡ key.items =
    ap (λ (c : List ℕ). key_of c reply.number) is.0 ∙ (ap (key_of caller) is.1 ∙ sym key_is) in
    let there = (placed key k).1 (key_there kept k reply at ∙ ap (λ (t : List ℕ). Some t) keys) in
    let no : None ≡ Some k = sym none ∙ there in absurd cc

-- and where nothing is kept for it, the key has no place
pub unplaced : (places : List (Vec ℕ Global × ℕ)) (kept : List KeptReply) (key : Vec ℕ Global) (caller number : List ℕ) (found : Option ℕ)
    → IsPlaced places kept → All (λ r. IsWord r.number) kept → IsWord number → key.items ≡ key_of caller number → IsFree kept caller number
    → lookup (λ k. bytes_eq key.items k.items) places ≡ found → lookup (λ k. bytes_eq key.items k.items) places ≡ None
unplaced places kept key caller number None placed words word key_is free e = e
unplaced places kept key caller number (Some place) placed words word key_is free e =
    let at = (placed key place).0 e in
    let there = reply_there kept place key.items at in
    absurd (All-contains (λ (r : KeptReply). ¬ IsFor caller number r) kept there.0 free (contained kept place there.0 there.1)
    (found_for kept place caller number key.items there.0 words word key_is at there.1))

-- ---- a reply more

at_push : {X : Type 0} (xs : List X) (x y : X) (i : ℕ) → slice_get (xs ++ x ∷ []) i ≡ Some y → (slice_get xs i ≡ Some y) ⊎ ((i ≡ length xs) × (x ≡ y))
at_push [] x y zero e = inr (refl, same_Some x y e)
at_push [] x y (suc i) e = let no : None ≡ Some y = e in absurd cc
at_push (z ∷ zs) x y zero e = inl e
at_push (z ∷ zs) x y (suc i) e = elim (at_push zs x y i e) [ inl old ↦ inl old | inr new ↦ inr (ap suc new.0, new.1) ]

at_front : {X : Type 0} (xs : List X) (x y : X) (i : ℕ) → slice_get xs i ≡ Some y → slice_get (xs ++ x ∷ []) i ≡ Some y
at_front [] x y i e = let no : None ≡ Some y = e in absurd cc
at_front (z ∷ zs) x y zero e = e
at_front (z ∷ zs) x y (suc i) e = at_front zs x y i e

at_end : {X : Type 0} (xs : List X) (x : X) → slice_get (xs ++ x ∷ []) (length xs) ≡ Some x
at_end [] x = refl
at_end (z ∷ zs) x = at_end zs x

pub placed_more : (places after : List (Vec ℕ Global × ℕ)) (kept : List KeptReply) (reply : KeptReply) (key : Vec ℕ Global) (place : ℕ)
    → IsPlaced places kept → key.items ≡ key_of reply.caller reply.number → place ≡ length kept
    → lookup (λ k. bytes_eq key.items k.items) places ≡ None
    → ((q : Vec ℕ Global) → lookup (λ k. bytes_eq q.items k.items) after
    ≡ cond (bytes_eq key.items q.items) (Some place) (lookup (λ k. bytes_eq q.items k.items) places))
    → IsPlaced after (kept ++ reply ∷ [])
placed_more places after kept reply key place placed key_is place_is none updates q at =
    let old = keys_of kept in
    let keys : keys_of (kept ++ reply ∷ []) ≡ old ++ key.items ∷ [] =
    map_push key_at kept reply ∙ ap (λ (t : List ℕ). old ++ t ∷ []) (sym key_is) in
    let count : length old ≡ length kept = length-map kept key_at in
    let end : slice_get (old ++ key.items ∷ []) place ≡ Some key.items =
    subst (λ (n : ℕ). slice_get (old ++ key.items ∷ []) n ≡ Some key.items) (count ∙ sym place_is) (at_end old key.items) in
    elim (cases_Bool (bytes_eq key.items q.items)) [
      | inl yes_ ↦
          let same : key.items ≡ q.items = (bytes_decides key.items q.items).0 yes_ in
          let here : lookup (λ k. bytes_eq q.items k.items) after ≡ Some place =
          updates q ∙ cond-true (bytes_eq key.items q.items) (Some place) (lookup (λ k. bytes_eq q.items k.items) places) yes_ in (
            λ e.
                let is : place ≡ at = same_Some place at (sym here ∙ e) in
                ap (λ (ts : List (List ℕ)). slice_get ts at) keys
                ∙ (subst (λ (n : ℕ). slice_get (old ++ key.items ∷ []) n ≡ Some key.items) is end ∙ ap (λ (t : List ℕ). Some t) same),
            λ e. elim (at_push old key.items q.items at (sym (ap (λ (ts : List (List ℕ)). slice_get ts at) keys) ∙ e)) [
              | inl before ↦
                  let there = (placed key at).1 (before ∙ ap (λ (t : List ℕ). Some t) (sym same)) in
                  let no : None ≡ Some at = sym none ∙ there in absurd cc
              | inr new ↦ here ∙ ap (λ (n : ℕ). Some n) (place_is ∙ (sym count ∙ sym new.0))
            ],
          )
      | inr no_ ↦
          let here : lookup (λ k. bytes_eq q.items k.items) after ≡ lookup (λ k. bytes_eq q.items k.items) places =
          updates q ∙ cond-false (bytes_eq key.items q.items) (Some place) (lookup (λ k. bytes_eq q.items k.items) places) no_ in (
            λ e.
                ap (λ (ts : List (List ℕ)). slice_get ts at) keys
                ∙ at_front old key.items q.items at ((placed q at).0 (sym here ∙ e)),
            λ e. elim (at_push old key.items q.items at (sym (ap (λ (ts : List (List ℕ)). slice_get ts at) keys) ∙ e)) [
              | inl before ↦ here ∙ (placed q at).1 before
              | inr new ↦
                  let yes_ : bytes_eq key.items q.items ≡ true = (bytes_decides key.items q.items).1 new.1 in
                  let no : true ≡ false = sym yes_ ∙ no_ in absurd cc
            ],
          )
    ]

pub alone_more : (kept : List KeptReply) (reply : KeptReply) → IsAlone kept → IsFree kept reply.caller reply.number
    → IsAlone (kept ++ reply ∷ [])
alone_more kept reply alone free place other one again at there is =
    elim (at_push kept reply one place at) [
      | inl before ↦ elim (at_push kept reply again other there) [
        | inl too ↦ alone place other one again before too is
        | inr new ↦
            let same : IsFor reply.caller reply.number one =
            (sym is.0 ∙ ap (λ (r : KeptReply). r.caller) (sym new.1), sym is.1 ∙ ap (λ (r : KeptReply). r.number) (sym new.1)) in
            absurd (All-contains (λ (r : KeptReply). ¬ IsFor reply.caller reply.number r) kept one free (contained kept place one before) same)
      ]
      | inr new ↦ elim (at_push kept reply again other there) [
        | inl before ↦
            let same : IsFor reply.caller reply.number again =
            (is.0 ∙ ap (λ (r : KeptReply). r.caller) (sym new.1), is.1 ∙ ap (λ (r : KeptReply). r.number) (sym new.1)) in
            absurd (All-contains (λ (r : KeptReply). ¬ IsFor reply.caller reply.number r) kept again free (contained kept other again before) same)
        | inr too ↦ too.0 ∙ sym new.0
      ]
    ]

-- ---- room

pub both_rooms : (a b room : ℕ) → min a b ≡ room → 0 < room → (0 < a) × (0 < b)
both_rooms a b room e some = (omega (arith, min-le_left a b, e, some), omega (arith, min-le_right a b, e, some))

pub done : {T E : Type 0} (result : Result T E) (P : Type 0) → is_ok result ≡ true → OnOk result P → P
done (Ok x) P e p = p
done (Err x) P e p = let no : false ≡ true = e in absurd cc

-- ---- what the table keeps of itself

abbrev pub Keeps : List (Vec ℕ Global × ℕ) → List KeptReply → Type 0
Keeps places kept = IsPlaced places kept × All (λ r. IsWord r.number) kept × IsAlone kept

pub invariant_same : (places after : List (Vec ℕ Global × ℕ)) (kept new : List KeptReply) → Keeps places kept → new ≡ kept
    → ((q : Vec ℕ Global) → lookup (λ k. bytes_eq q.items k.items) after ≡ lookup (λ k. bytes_eq q.items k.items) places) → Keeps after new
invariant_same places after kept new (placed, words, alone) same found =
    subst (Keeps after) (sym same)
    (λ q place. (λ e. (placed q place).0 (sym (found q) ∙ e), λ e. found q ∙ (placed q place).1 e), words, alone)

pub invariant_more : (places after : List (Vec ℕ Global × ℕ)) (kept new : List KeptReply) (reply : KeptReply) (key : Vec ℕ Global) (place : ℕ)
    → Keeps places kept → key.items ≡ key_of reply.caller reply.number → IsWord reply.number → IsFree kept reply.caller reply.number
    → place ≡ length kept → new ≡ kept ++ reply ∷ []
    → ((q : Vec ℕ Global) → lookup (λ k. bytes_eq q.items k.items) after
    ≡ cond (bytes_eq key.items q.items) (Some place) (lookup (λ k. bytes_eq q.items k.items) places))
    → Keeps after new
invariant_more places after kept new reply key place (placed, words, alone) key_is word free place_is same updates =
    let none = unplaced places kept key reply.caller reply.number (lookup (λ k. bytes_eq key.items k.items) places) placed words word key_is free refl in
    subst (Keeps after) (sym same) (
      placed_more places after kept reply key place placed key_is place_is none updates,
      All-append (λ (r : KeptReply). IsWord r.number) kept (reply ∷ []) words
          (All-cons (λ (r : KeptReply). IsWord r.number) reply [] word (All-nil (λ (r : KeptReply). IsWord r.number))),
      alone_more kept reply alone free,
    )
