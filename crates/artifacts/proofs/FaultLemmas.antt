-- Of each batch one thing is said: a fault, or that it can come in.
use Rattle.std.proofs.Common.{◌≡◌, ◌≢◌, ◌⊎◌, ◌<◌, ◌≤◌, ◌+◌, ℕ, zero, suc, List, length, Option, Some, None, Ordering, Less, Equal, Greater, true, false, refl, sym, ap, ◌∙◌, subst, inl, inr, arith}
use Rattle.std.specs.Str.{bytes_eq}
use Rattle.std.specs.List.{slice_get}
use Rattle.std.specs.Cmp.Lexicographic.{bytes_decides}
use Rattle.std.proofs.lemmas.Bool.{cases_Bool, cases_eq, cases_lt}
use Rattle.std.proofs.lemmas.Cmp.{tied_itself}
use Rattle.std.proofs.lemmas.List.{length-map}
use Rattle.std.proofs.lemmas.Option.{none-some, same_Some, slice_get-get_or, slice_get_within}
use Rattle.sha2.specs.Sha256.{sha256}
use Rattle.artifacts.specs.declared.artifact.Artifact.{Artifact}
use Rattle.artifacts.specs.declared.faults.ArtifactFault.{ArtifactFault}
use Rattle.artifacts.specs.declared.faults.ArtifactFault.TheVariants.{TooMany, Repeated, SizeWrong, HashWrong, Taken, Full, Memory}
use Rattle.artifacts.specs.declared.new_artifact.Said.{Said}
use Rattle.artifacts.specs.Artifacts.{Key, HasKey, key_of, keys_of, places_in}
use Rattle.artifacts.specs.Batches.{AreFree, AreOnce, CanCome, IsBatchFault, IsRepeat, IsTaken}
use Rattle.artifacts.specs.Laws.{FaultOrCanCome, OneBatchFault}
use Rattle.artifacts.specs.Orders.{key_at, key_order, no_key}
use Rattle.artifacts.specs.Requests.{AreHashesRight, AreSizesRight, DigestedState, HasHash, HasSize, IsHashWrong, IsSaidRight, IsSizeWrong, SaysHash, SaysSize}
use Rattle.artifacts.proofs.KeyLemmas.{key_order_total, same_key}
use Rattle.artifacts.proofs.TableLemmas.{has_key}

-- ---- one fault at most

-- what stands at a place of a batch is within it
place_within : (batch : List Artifact) (at : ℕ) (key : Key) → slice_get (keys_of batch) at ≡ Some key → at < length batch
place_within batch at key e = omega (arith, slice_get_within (keys_of batch) at key e, length-map batch key_of)

same_at : (batch : List Artifact) (at other : ℕ) (a b : Key) → at ≡ other → slice_get (keys_of batch) at ≡ Some a
    → slice_get (keys_of batch) other ≡ Some b → a ≡ b
same_at batch at other a b same e f = same_Some a b (sym e ∙ (ap (slice_get (keys_of batch)) same ∙ f))

not_once : (batch : List Artifact) (first second count : ℕ) → IsRepeat batch first second → second < count → AreOnce batch count → ⊥
not_once batch first second count r low once =
    let same = once r.key first second (omega (arith, r.earlier, low)) low r.there r.again in
    omega (arith, same, r.earlier)

not_all_once : (batch : List Artifact) (first second : ℕ) → IsRepeat batch first second → AreOnce batch (length batch) → ⊥
not_all_once batch first second r once = not_once batch first second (length batch) r (place_within batch second r.key r.again) once

one_second : (batch : List Artifact) (a b c d : ℕ) → IsRepeat batch a b → IsRepeat batch c d → b ≡ d
one_second batch a b c d this that =
    elim (cases_lt b d) [
      | inl low ↦ absurd (not_once batch a b d this low that.once)
      | inr ge ↦ elim (cases_lt d b) [
        | inl low ↦ absurd (not_once batch c d b that low this.once)
        | inr le ↦ omega (arith, ge, le)
      ]
    ]

one_first : (batch : List Artifact) (a b c d : ℕ) → IsRepeat batch a b → IsRepeat batch c d → b ≡ d → a ≡ c
one_first batch a b c d this that same =
    let keys : this.key ≡ that.key = same_at batch b d this.key that.key same this.again that.again in
    this.once that.key a c this.earlier (omega (arith, that.earlier, same)) (subst (λ (k : Key). slice_get (keys_of batch) a ≡ Some k) keys this.there)
    that.there

not_free : (rows batch : List Artifact) (at count : ℕ) → IsTaken rows batch at → at < count → AreFree rows batch count → ⊥
not_free rows batch at count t low free = free t.key at low t.there t.held

not_all_free : (rows batch : List Artifact) (at : ℕ) → IsTaken rows batch at → AreFree rows batch (length batch) → ⊥
not_all_free rows batch at t free = not_free rows batch at (length batch) t (place_within batch at t.key t.there) free

one_taken : (rows batch : List Artifact) (at other : ℕ) → IsTaken rows batch at → IsTaken rows batch other → at ≡ other
one_taken rows batch at other this that =
    elim (cases_lt at other) [
      | inl low ↦ absurd (not_free rows batch at other this low that.free)
      | inr ge ↦ elim (cases_lt other at) [
        | inl low ↦ absurd (not_free rows batch other at that low this.free)
        | inr le ↦ omega (arith, ge, le)
      ]
    ]

-- what is said of one place is one, and so is what it has
one_said_size : (asked : DigestedState) (at a b : ℕ) → SaysSize asked at a → SaysSize asked at b → a ≡ b
one_said_size asked at a b this that =
    let same : this.0 ≡ that.0 = same_Some this.0 that.0 (sym this.1 ∙ that.1) in
    same_Some a b (sym this.2 ∙ (ap (λ (s : Said). s.size) same ∙ that.2))

one_said_hash : (asked : DigestedState) (at : ℕ) (a b : List ℕ) → SaysHash asked at a → SaysHash asked at b → a ≡ b
one_said_hash asked at a b this that =
    let same : this.0 ≡ that.0 = same_Some this.0 that.0 (sym this.1 ∙ that.1) in
    same_Some a b (sym this.2 ∙ (ap (λ (s : Said). s.hash) same ∙ that.2))

one_size : (asked : DigestedState) (at a b : ℕ) → HasSize asked at a → HasSize asked at b → a ≡ b
one_size asked at a b this that =
    let same : this.0 ≡ that.0 = same_Some this.0 that.0 (sym this.1 ∙ that.1) in
    this.2 ∙ (ap (λ (r : Artifact). length r.contents) same ∙ sym that.2)

one_hash : (asked : DigestedState) (at : ℕ) (a b : List ℕ) → HasHash asked at a → HasHash asked at b → a ≡ b
one_hash asked at a b this that =
    let same : this.0 ≡ that.0 = same_Some this.0 that.0 (sym this.1 ∙ that.1) in
    this.2 ∙ (ap (λ (r : Artifact). sha256 r.contents) same ∙ sym that.2)

-- a wrong size is wrong before no other one
not_sizes : (asked : DigestedState) (at said found count : ℕ) → IsSizeWrong asked at said found → at < count → AreSizesRight asked count → ⊥
not_sizes asked at said found count wrong low right = wrong.other (right at said found low wrong.says wrong.has)

not_hashes : (asked : DigestedState) (at : ℕ) (said found : List ℕ) (count : ℕ) → IsHashWrong asked at said found → at < count
    → AreHashesRight asked count → ⊥
not_hashes asked at said found count wrong low right = wrong.other (right at said found low wrong.says wrong.has)

size_within : (asked : DigestedState) (at said found : ℕ) → IsSizeWrong asked at said found → at < length asked.rows
size_within asked at said found wrong = slice_get_within asked.rows at wrong.has.0 wrong.has.1

hash_within : (asked : DigestedState) (at : ℕ) (said found : List ℕ) → IsHashWrong asked at said found → at < length asked.rows
hash_within asked at said found wrong = slice_get_within asked.rows at wrong.has.0 wrong.has.1

not_all_sizes : (asked : DigestedState) (at said found : ℕ) → IsSizeWrong asked at said found → AreSizesRight asked (length asked.rows) → ⊥
not_all_sizes asked at said found wrong right =
    not_sizes asked at said found (length asked.rows) wrong (size_within asked at said found wrong) right

not_all_hashes : (asked : DigestedState) (at : ℕ) (said found : List ℕ) → IsHashWrong asked at said found
    → AreHashesRight asked (length asked.rows) → ⊥
not_all_hashes asked at said found wrong right =
    not_hashes asked at said found (length asked.rows) wrong (hash_within asked at said found wrong) right

one_wrong_size : (asked : DigestedState) (a s f b t g : ℕ) → IsSizeWrong asked a s f → IsSizeWrong asked b t g → SizeWrong a s f ≡ SizeWrong b t g
one_wrong_size asked a s f b t g this that =
    elim (cases_lt a b) [
      | inl low ↦ absurd (not_sizes asked a s f b this low that.right)
      | inr ge ↦ elim (cases_lt b a) [
        | inl low ↦ absurd (not_sizes asked b t g a that low this.right)
        | inr le ↦
            let same : a ≡ b = omega (arith, ge, le) in
            let says : s ≡ t = one_said_size asked b s t (subst (λ (n : ℕ). SaysSize asked n s) same this.says) that.says in
            let has : f ≡ g = one_size asked b f g (subst (λ (n : ℕ). HasSize asked n f) same this.has) that.has in
            ap (λ (n : ℕ). SizeWrong n s f) same ∙ (ap (λ (n : ℕ). SizeWrong b n f) says ∙ ap (SizeWrong b t) has)
      ]
    ]

one_wrong_hash : (asked : DigestedState) (a : ℕ) (s f : List ℕ) (b : ℕ) (t g : List ℕ) → IsHashWrong asked a s f → IsHashWrong asked b t g
    → HashWrong a s f ≡ HashWrong b t g
one_wrong_hash asked a s f b t g this that =
    elim (cases_lt a b) [
      | inl low ↦ absurd (not_hashes asked a s f b this low that.right)
      | inr ge ↦ elim (cases_lt b a) [
        | inl low ↦ absurd (not_hashes asked b t g a that low this.right)
        | inr le ↦
            let same : a ≡ b = omega (arith, ge, le) in
            let says : s ≡ t = one_said_hash asked b s t (subst (λ (n : ℕ). SaysHash asked n s) same this.says) that.says in
            let has : f ≡ g = one_hash asked b f g (subst (λ (n : ℕ). HasHash asked n f) same this.has) that.has in
            ap (λ (n : ℕ). HashWrong n s f) same ∙ (ap (λ (h : List ℕ). HashWrong b h f) says ∙ ap (HashWrong b t) has)
      ]
    ]

pub one_fault : OneBatchFault
one_fault rows holder batch (TooMany n) (TooMany n_) this that = ap TooMany (this.1 ∙ sym that.1)
one_fault rows holder batch (TooMany n) (Repeated a_ b_) this that = absurd (omega (arith, this.0, that.0))
one_fault rows holder batch (TooMany n) (SizeWrong a_ s_ f_) this that = absurd (omega (arith, this.0, that.0))
one_fault rows holder batch (TooMany n) (HashWrong a_ s_ f_) this that = absurd (omega (arith, this.0, that.0))
one_fault rows holder batch (TooMany n) (Taken a_) this that = absurd (omega (arith, this.0, that.0))
one_fault rows holder batch (TooMany n) (Full n_) this that = absurd (omega (arith, this.0, that.0))
one_fault rows holder batch (TooMany n) Memory this that = absurd (omega (arith, this.0, that.can.size))
one_fault rows holder batch (Repeated a b) (TooMany n_) this that = absurd (omega (arith, that.0, this.0))
one_fault rows holder batch (Repeated a b) (Repeated a_ b_) this that =
    let seconds = one_second batch.rows a b a_ b_ this.1 that.1 in
    ap (λ (k : ℕ). Repeated k b) (one_first batch.rows a b a_ b_ this.1 that.1 seconds) ∙ ap (Repeated a_) seconds
one_fault rows holder batch (Repeated a b) (SizeWrong a_ s_ f_) this that = absurd (not_all_once batch.rows a b this.1 that.1.0)
one_fault rows holder batch (Repeated a b) (HashWrong a_ s_ f_) this that = absurd (not_all_once batch.rows a b this.1 that.1.0)
one_fault rows holder batch (Repeated a b) (Taken a_) this that = absurd (not_all_once batch.rows a b this.1 that.1.0)
one_fault rows holder batch (Repeated a b) (Full n_) this that = absurd (not_all_once batch.rows a b this.1 that.1.once)
one_fault rows holder batch (Repeated a b) Memory this that = absurd (not_all_once batch.rows a b this.1 that.can.once)
one_fault rows holder batch (SizeWrong a s f) (TooMany n_) this that = absurd (omega (arith, that.0, this.0))
one_fault rows holder batch (SizeWrong a s f) (Repeated a_ b_) this that = absurd (not_all_once batch.rows a_ b_ that.1 this.1.0)
one_fault rows holder batch (SizeWrong a s f) (SizeWrong a_ s_ f_) this that = one_wrong_size batch a s f a_ s_ f_ this.1.1 that.1.1
one_fault rows holder batch (SizeWrong a s f) (HashWrong a_ s_ f_) this that = absurd (not_all_sizes batch a s f this.1.1 that.1.1)
one_fault rows holder batch (SizeWrong a s f) (Taken a_) this that = absurd (not_all_sizes batch a s f this.1.1 that.1.1.sizes)
one_fault rows holder batch (SizeWrong a s f) (Full n_) this that = absurd (not_all_sizes batch a s f this.1.1 that.1.said.sizes)
one_fault rows holder batch (SizeWrong a s f) Memory this that = absurd (not_all_sizes batch a s f this.1.1 that.said.sizes)
one_fault rows holder batch (HashWrong a s f) (TooMany n_) this that = absurd (omega (arith, that.0, this.0))
one_fault rows holder batch (HashWrong a s f) (Repeated a_ b_) this that = absurd (not_all_once batch.rows a_ b_ that.1 this.1.0)
one_fault rows holder batch (HashWrong a s f) (SizeWrong a_ s_ f_) this that = absurd (not_all_sizes batch a_ s_ f_ that.1.1 this.1.1)
one_fault rows holder batch (HashWrong a s f) (HashWrong a_ s_ f_) this that = one_wrong_hash batch a s f a_ s_ f_ this.1.2 that.1.2
one_fault rows holder batch (HashWrong a s f) (Taken a_) this that = absurd (not_all_hashes batch a s f this.1.2 that.1.1.hashes)
one_fault rows holder batch (HashWrong a s f) (Full n_) this that = absurd (not_all_hashes batch a s f this.1.2 that.1.said.hashes)
one_fault rows holder batch (HashWrong a s f) Memory this that = absurd (not_all_hashes batch a s f this.1.2 that.said.hashes)
one_fault rows holder batch (Taken a) (TooMany n_) this that = absurd (omega (arith, that.0, this.0))
one_fault rows holder batch (Taken a) (Repeated a_ b_) this that = absurd (not_all_once batch.rows a_ b_ that.1 this.1.0)
one_fault rows holder batch (Taken a) (SizeWrong a_ s_ f_) this that = absurd (not_all_sizes batch a_ s_ f_ that.1.1 this.1.1.sizes)
one_fault rows holder batch (Taken a) (HashWrong a_ s_ f_) this that = absurd (not_all_hashes batch a_ s_ f_ that.1.2 this.1.1.hashes)
one_fault rows holder batch (Taken a) (Taken a_) this that = ap Taken (one_taken rows batch.rows a a_ this.1.2 that.1.2)
one_fault rows holder batch (Taken a) (Full n_) this that = absurd (not_all_free rows batch.rows a this.1.2 that.1.free)
one_fault rows holder batch (Taken a) Memory this that = absurd (not_all_free rows batch.rows a this.1.2 that.can.free)
one_fault rows holder batch (Full n) (TooMany n_) this that = absurd (omega (arith, that.0, this.0))
one_fault rows holder batch (Full n) (Repeated a_ b_) this that = absurd (not_all_once batch.rows a_ b_ that.1 this.1.once)
one_fault rows holder batch (Full n) (SizeWrong a_ s_ f_) this that = absurd (not_all_sizes batch a_ s_ f_ that.1.1 this.1.said.sizes)
one_fault rows holder batch (Full n) (HashWrong a_ s_ f_) this that = absurd (not_all_hashes batch a_ s_ f_ that.1.2 this.1.said.hashes)
one_fault rows holder batch (Full n) (Taken a_) this that = absurd (not_all_free rows batch.rows a_ that.1.2 this.1.free)
one_fault rows holder batch (Full n) (Full n_) this that = ap Full (this.3 ∙ sym that.3)
one_fault rows holder batch (Full n) Memory this that = absurd (omega (arith, this.2, that.can.few))
one_fault rows holder batch Memory (TooMany n_) this that = absurd (omega (arith, that.0, this.can.size))
one_fault rows holder batch Memory (Repeated a_ b_) this that = absurd (not_all_once batch.rows a_ b_ that.1 this.can.once)
one_fault rows holder batch Memory (SizeWrong a_ s_ f_) this that = absurd (not_all_sizes batch a_ s_ f_ that.1.1 this.said.sizes)
one_fault rows holder batch Memory (HashWrong a_ s_ f_) this that = absurd (not_all_hashes batch a_ s_ f_ that.1.2 this.said.hashes)
one_fault rows holder batch Memory (Taken a_) this that = absurd (not_all_free rows batch.rows a_ that.1.2 this.can.free)
one_fault rows holder batch Memory (Full n_) this that = absurd (omega (arith, that.2, this.can.few))
one_fault rows holder batch Memory Memory this that = refl

-- ---- a fault, or none

by_order : (o : Ordering) (a b : Key) → key_order a b ≡ o → (a ≡ b) ⊎ (a ≢ b)
by_order Less a b e =
    inr (λ same. let no : Less ≡ Equal = sym e ∙ (ap (key_order a) (sym same) ∙ tied_itself key_order_total a) in cc)
by_order Equal a b e = inl (same_key a b e)
by_order Greater a b e =
    inr (λ same. let no : Greater ≡ Equal = sym e ∙ (ap (key_order a) (sym same) ∙ tied_itself key_order_total a) in cc)

stands_or_not : (o : Option Key) (key : Key) → (o ≡ Some key) ⊎ (o ≢ Some key)
stands_or_not None key = inr (λ e. let no : None ≡ Some key = e in cc)
stands_or_not (Some k) key =
    elim (by_order (key_order k key) k key refl) [
      | inl same ↦ inl (ap (λ (x : Key). Some x) same)
      | inr other ↦ inr (λ e. other (same_Some k key e))
    ]

-- a key stands at one of so many first places, or at none
abbrev Stands : List Key → Key → ℕ → Type 0
Stands keys key n = (at : ℕ) × (at < n) × (slice_get keys at ≡ Some key)

abbrev IsNowhere : List Key → Key → ℕ → Type 0
IsNowhere keys key n = (at : ℕ) → at < n → slice_get keys at ≡ Some key → ⊥

nowhere_more : (keys : List Key) (key : Key) (n : ℕ) → IsNowhere keys key n → slice_get keys n ≢ Some key → IsNowhere keys key (suc n)
nowhere_more keys key n none not at low e =
    elim (cases_lt at n) [
      | inl less ↦ none at less e
      | inr ge ↦ let here : at ≡ n = omega (arith, ge, low) in not (ap (slice_get keys) (sym here) ∙ e)
    ]

seen_or_not : (keys : List Key) (key : Key) (n : ℕ) → Stands keys key n ⊎ IsNowhere keys key n
seen_or_not keys key zero = inr (λ at low e. omega (arith, low))
seen_or_not keys key (suc n) =
    elim (stands_or_not (slice_get keys n) key) [
      | inl here ↦ inl (n, omega arith, here)
      | inr not ↦ elim (seen_or_not keys key n) [
        | inl there ↦ inl (there.0, omega (arith, there.1), there.2)
        | inr none ↦ inr (nowhere_more keys key n none not)
      ]
    ]

held_or_free : (rows : List Artifact) (key : Key) → HasKey rows key ⊎ (HasKey rows key → ⊥)
held_or_free rows key =
    elim (seen_or_not (keys_of rows) key (length (keys_of rows))) [
      | inl there ↦ inl (has_key (keys_of rows) there.0 key there.2)
      | inr none ↦ inr (λ h. none h.0 h.1 (slice_get-get_or (keys_of rows) h.0 key h.1 ∙ ap (λ (k : Key). Some k) h.2))
    ]

-- the key at a place of a batch
key_here : (batch : List Artifact) (n : ℕ) → n < length batch → slice_get (keys_of batch) n ≡ Some (key_at (keys_of batch) n)
key_here batch n low =
    let within : n < length (keys_of batch) = omega (arith, low, length-map batch key_of) in slice_get-get_or (keys_of batch) n no_key within

once_grown : (batch : List Artifact) (n : ℕ) (key : Key) → AreOnce batch n → slice_get (keys_of batch) n ≡ Some key
    → IsNowhere (keys_of batch) key n → AreOnce batch (suc n)
once_grown batch n key once here none k i j li lj ei ej =
    elim (cases_lt i n) [
      | inl a ↦ elim (cases_lt j n) [
        | inl b ↦ once k i j a b ei ej
        | inr b ↦
            let at : j ≡ n = omega (arith, b, lj) in
            let same : k ≡ key = same_at batch j n k key at ej here in
            absurd (none i a (ei ∙ ap (λ (x : Key). Some x) same))
      ]
      | inr a ↦
          let first : i ≡ n = omega (arith, a, li) in
          let same : k ≡ key = same_at batch i n k key first ei here in
          elim (cases_lt j n) [
            | inl b ↦ absurd (none j b (ej ∙ ap (λ (x : Key). Some x) same))
            | inr b ↦ omega (arith, first, b, lj)
          ]
    ]

abbrev Repeats : List Artifact → Type 0
Repeats batch = (first : ℕ) × (second : ℕ) × IsRepeat batch first second

once_or_repeat : (batch : List Artifact) (n : ℕ) → n ≤ length batch → AreOnce batch n ⊎ Repeats batch
once_or_repeat batch zero le = inl (λ key i j li lj ei ej. absurd (omega (arith, li)))
once_or_repeat batch (suc n) le =
    let here = key_here batch n (omega arith) in
    let key : Key = key_at (keys_of batch) n in
    elim (once_or_repeat batch n (omega arith)) [
      | inr found ↦ inr found
      | inl once ↦ elim (seen_or_not (keys_of batch) key n) [
        | inl there ↦ inr (there.0, n, record { earlier = there.1; key = key; there = there.2; again = here; once = once })
        | inr none ↦ inl (once_grown batch n key once here none)
      ]
    ]

free_grown : (rows batch : List Artifact) (n : ℕ) (key : Key) → AreFree rows batch n → slice_get (keys_of batch) n ≡ Some key
    → (HasKey rows key → ⊥) → AreFree rows batch (suc n)
free_grown rows batch n key free here not k at low e held =
    elim (cases_lt at n) [
      | inl less ↦ free k at less e held
      | inr ge ↦
          let same : k ≡ key = same_at batch at n k key (omega (arith, ge, low)) e here in
          not (subst (HasKey rows) same held)
    ]

free_or_taken : (rows batch : List Artifact) (n : ℕ) → n ≤ length batch → AreFree rows batch n ⊎ ((at : ℕ) × IsTaken rows batch at)
free_or_taken rows batch zero le = inl (λ key at low e held. omega (arith, low))
free_or_taken rows batch (suc n) le =
    let here = key_here batch n (omega arith) in
    let key : Key = key_at (keys_of batch) n in
    elim (free_or_taken rows batch n (omega arith)) [
      | inr found ↦ inr found
      | inl free ↦ elim (held_or_free rows key) [
        | inl held ↦ inr (n, record { key = key; there = here; held = held; free = free })
        | inr not ↦ inl (free_grown rows batch n key free here not)
      ]
    ]

-- ---- what is said of sizes and hashes

-- the size that is said at a place is right, or it is wrong
abbrev SizeTold : DigestedState → ℕ → Type 0
SizeTold asked n =
    ((said found : ℕ) → SaysSize asked n said → HasSize asked n found → said ≡ found)
    ⊎ ((said : ℕ) × (found : ℕ) × SaysSize asked n said × HasSize asked n found × (said ≢ found))

abbrev HashTold : DigestedState → ℕ → Type 0
HashTold asked n =
    ((said found : List ℕ) → SaysHash asked n said → HasHash asked n found → said ≡ found)
    ⊎ ((said : List ℕ) × (found : List ℕ) × SaysHash asked n said × HasHash asked n found × (said ≢ found))

unsaid_size : (asked : DigestedState) (n : ℕ) (s : Said) → slice_get asked.said n ≡ Some s → s.size ≡ None → SizeTold asked n
unsaid_size asked n s e none =
    inl (λ said found says has.
    absurd (none-some said (sym none ∙ (ap (λ (x : Said). x.size) (same_Some s says.0 (sym e ∙ says.1)) ∙ says.2))))

unsaid_hash : (asked : DigestedState) (n : ℕ) (s : Said) → slice_get asked.said n ≡ Some s → s.hash ≡ None → HashTold asked n
unsaid_hash asked n s e none =
    inl (λ said found says has.
    absurd (none-some said (sym none ∙ (ap (λ (x : Said). x.hash) (same_Some s says.0 (sym e ∙ says.1)) ∙ says.2))))

said_size : (asked : DigestedState) (n : ℕ) (s : Said) (row : Artifact) (size : ℕ) → slice_get asked.said n ≡ Some s
    → slice_get asked.rows n ≡ Some row → s.size ≡ Some size → SizeTold asked n
said_size asked n s row size e r is =
    elim (cases_eq size (length row.contents)) [
      | inl same ↦ inl (λ said found says has.
          one_said_size asked n said size says (s, e, is) ∙ (same ∙ one_size asked n (length row.contents) found (row, r, refl) has))
      | inr other ↦ inr (size, length row.contents, (s, e, is), (row, r, refl), other)
    ]

bytes_or : (a b : List ℕ) → (a ≡ b) ⊎ (a ≢ b)
bytes_or a b =
    elim (cases_Bool (bytes_eq a b)) [
      | inl is ↦ inl ((bytes_decides a b).0 is)
      | inr not ↦ inr (λ same. let yes_ : bytes_eq a b ≡ true = (bytes_decides a b).1 same in let no : true ≡ false = sym yes_ ∙ not in cc)
    ]

said_hash : (asked : DigestedState) (n : ℕ) (s : Said) (row : Artifact) (hash : List ℕ) → slice_get asked.said n ≡ Some s
    → slice_get asked.rows n ≡ Some row → s.hash ≡ Some hash → HashTold asked n
said_hash asked n s row hash e r is =
    elim (bytes_or hash (sha256 row.contents)) [
      | inl same ↦ inl (λ said found says has.
          one_said_hash asked n said hash says (s, e, is) ∙ (same ∙ one_hash asked n (sha256 row.contents) found (row, r, refl) has))
      | inr other ↦ inr (hash, sha256 row.contents, (s, e, is), (row, r, refl), other)
    ]

size_by : (asked : DigestedState) (n : ℕ) (said : Option Said) (row : Option Artifact) → slice_get asked.said n ≡ said
    → slice_get asked.rows n ≡ row → SizeTold asked n
size_by asked n None row e r = inl (λ said found says has. absurd (none-some says.0 (sym e ∙ says.1)))
size_by asked n (Some s) None e r = inl (λ said found says has. absurd (none-some has.0 (sym r ∙ has.1)))
size_by asked n (Some s) (Some row) e r = at s.size refl
  where
    at : (o : Option ℕ) → s.size ≡ o → SizeTold asked n
    at None none = unsaid_size asked n s e none
    at (Some size) is = said_size asked n s row size e r is

hash_by : (asked : DigestedState) (n : ℕ) (said : Option Said) (row : Option Artifact) → slice_get asked.said n ≡ said
    → slice_get asked.rows n ≡ row → HashTold asked n
hash_by asked n None row e r = inl (λ said found says has. absurd (none-some says.0 (sym e ∙ says.1)))
hash_by asked n (Some s) None e r = inl (λ said found says has. absurd (none-some has.0 (sym r ∙ has.1)))
hash_by asked n (Some s) (Some row) e r = at s.hash refl
  where
    at : (o : Option (List ℕ)) → s.hash ≡ o → HashTold asked n
    at None none = unsaid_hash asked n s e none
    at (Some hash) is = said_hash asked n s row hash e r is

abbrev SizeIsWrong : DigestedState → Type 0
SizeIsWrong asked = (at : ℕ) × (said : ℕ) × (found : ℕ) × IsSizeWrong asked at said found

abbrev HashIsWrong : DigestedState → Type 0
HashIsWrong asked = (at : ℕ) × (said : List ℕ) × (found : List ℕ) × IsHashWrong asked at said found

-- of so many first artifacts all sizes are right, or one is wrong
sizes_or_wrong : (asked : DigestedState) (n : ℕ) → AreSizesRight asked n ⊎ SizeIsWrong asked
sizes_or_wrong asked zero = inl (λ at said found low says has. absurd (omega (arith, low)))
sizes_or_wrong asked (suc n) =
    elim (sizes_or_wrong asked n) [
      | inr wrong ↦ inr wrong
      | inl right ↦ elim (size_by asked n (slice_get asked.said n) (slice_get asked.rows n) refl refl) [
        | inr w ↦ inr (n, w.0, w.1, record { says = w.2; has = w.3; other = w.4; right = right })
        | inl here ↦ inl (λ at said found low says has.
            elim (cases_lt at n) [
              | inl less ↦ right at said found less says has
              | inr ge ↦
                  let same : at ≡ n = omega (arith, ge, low) in
                  here said found (subst (λ (k : ℕ). SaysSize asked k said) same says) (subst (λ (k : ℕ). HasSize asked k found) same has)
            ])
      ]
    ]

hashes_or_wrong : (asked : DigestedState) (n : ℕ) → AreHashesRight asked n ⊎ HashIsWrong asked
hashes_or_wrong asked zero = inl (λ at said found low says has. absurd (omega (arith, low)))
hashes_or_wrong asked (suc n) =
    elim (hashes_or_wrong asked n) [
      | inr wrong ↦ inr wrong
      | inl right ↦ elim (hash_by asked n (slice_get asked.said n) (slice_get asked.rows n) refl refl) [
        | inr w ↦ inr (n, w.0, w.1, record { says = w.2; has = w.3; other = w.4; right = right })
        | inl here ↦ inl (λ at said found low says has.
            elim (cases_lt at n) [
              | inl less ↦ right at said found less says has
              | inr ge ↦
                  let same : at ≡ n = omega (arith, ge, low) in
                  here said found (subst (λ (k : ℕ). SaysHash asked k said) same says) (subst (λ (k : ℕ). HasHash asked k found) same has)
            ])
      ]
    ]

-- some fault that isn't want of memory
abbrev Faulty : (ArtifactFault → Type 0) → Type 0
Faulty Is = (fault : ArtifactFault) × (fault ≢ Memory) × Is fault

many_or_few : (count held : ℕ) → (held + count ≤ 100_000) ⊎ (100_000 < held + count)
many_or_few count held = elim (cases_lt 100_000 (held + count)) [ inl many ↦ inr many | inr few ↦ inl few ]

by_count : (rows : List Artifact) (holder : ℕ) (batch : DigestedState) → length batch.rows ≤ 500 → AreOnce batch.rows (length batch.rows)
    → IsSaidRight batch (length batch.rows) → AreFree rows batch.rows (length batch.rows)
    → CanCome rows holder batch ⊎ Faulty (IsBatchFault rows holder batch)
by_count rows holder batch size once said free =
    elim (many_or_few (length batch.rows) (length (places_in rows holder))) [
      | inl few ↦ inl (record { said = said; can = record { size = size; once = once; free = free; few = few } })
      | inr many ↦ inr (
        Full (length (places_in rows holder)),
        (λ e. let no : Full (length (places_in rows holder)) ≡ Memory = e in cc),
        (size, record { once = once; said = said; free = free }, many, refl),
      )
    ]

by_table : (rows : List Artifact) (holder : ℕ) (batch : DigestedState) → length batch.rows ≤ 500 → AreOnce batch.rows (length batch.rows)
    → IsSaidRight batch (length batch.rows) → CanCome rows holder batch ⊎ Faulty (IsBatchFault rows holder batch)
by_table rows holder batch size once said =
    elim (free_or_taken rows batch.rows (length batch.rows) (omega arith)) [
      | inr t ↦ inr (Taken t.0, (λ e. let no : Taken t.0 ≡ Memory = e in cc), (size, (once, said, t.1)))
      | inl free ↦ by_count rows holder batch size once said free
    ]

by_said : (rows : List Artifact) (holder : ℕ) (batch : DigestedState) → length batch.rows ≤ 500 → AreOnce batch.rows (length batch.rows)
    → CanCome rows holder batch ⊎ Faulty (IsBatchFault rows holder batch)
by_said rows holder batch size once =
    elim (sizes_or_wrong batch (length batch.rows)) [
      | inr w ↦ inr (SizeWrong w.0 w.1 w.2, (λ e. let no : SizeWrong w.0 w.1 w.2 ≡ Memory = e in cc), (size, (once, w.3)))
      | inl sizes ↦ elim (hashes_or_wrong batch (length batch.rows)) [
        | inr w ↦ inr (HashWrong w.0 w.1 w.2, (λ e. let no : HashWrong w.0 w.1 w.2 ≡ Memory = e in cc), (size, (once, sizes, w.3)))
        | inl hashes ↦ by_table rows holder batch size once (record { sizes = sizes; hashes = hashes })
      ]
    ]

by_keys : (rows : List Artifact) (holder : ℕ) (batch : DigestedState) → length batch.rows ≤ 500
    → CanCome rows holder batch ⊎ Faulty (IsBatchFault rows holder batch)
by_keys rows holder batch size =
    elim (once_or_repeat batch.rows (length batch.rows) (omega arith)) [
      | inr r ↦ inr (Repeated r.0 r.1, (λ e. let no : Repeated r.0 r.1 ≡ Memory = e in cc), (size, r.2))
      | inl once ↦ by_said rows holder batch size once
    ]

pub fault_or_can_come : FaultOrCanCome
fault_or_can_come rows holder batch =
    elim (cases_lt 500 (length batch.rows)) [
      | inl many ↦ inr (TooMany (length batch.rows), (λ e. let no : TooMany (length batch.rows) ≡ Memory = e in cc), (many, refl))
      | inr few ↦ by_keys rows holder batch few
    ]
