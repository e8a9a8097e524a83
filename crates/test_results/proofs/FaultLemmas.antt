-- Of each batch one thing is said: a fault, or that it can come in.
use Rattle.std.proofs.Common.{◌≡◌, ◌≢◌, ◌⊎◌, ◌<◌, ◌≤◌, ◌+◌, ℕ, zero, suc, List, length, Option, Some, None, Ordering, Less, Equal, Greater, refl, sym, ap, ◌∙◌, subst, inl, inr, arith}
use Rattle.std.specs.List.{slice_get}
use Rattle.std.proofs.lemmas.Bool.{cases_lt}
use Rattle.std.proofs.lemmas.Cmp.{tied_itself}
use Rattle.std.proofs.lemmas.List.{length-map}
use Rattle.std.proofs.lemmas.Option.{same_Some, slice_get-get_or, slice_get_within}
use Rattle.test_results.specs.declared.exoneration.TestExoneration.{TestExoneration}
use Rattle.test_results.specs.declared.faults.BatchFault.{BatchFault}
use Rattle.test_results.specs.declared.faults.BatchFault.TheVariants.{TooMany, Repeated, Taken, Full, Memory}
use Rattle.test_results.specs.declared.result.TestResult.{TestResult}
use Rattle.test_results.specs.Batches.{AreFree, AreOnce, CanAdd, IsBatchFault, IsRepeat, IsTaken}
use Rattle.test_results.specs.Exonerations as exonerations
use Rattle.test_results.specs.Laws.{FaultOrCanAdd, OneBatchFault}
use Rattle.test_results.specs.Orders.{key_at, key_order, no_key}
use Rattle.test_results.specs.Results.{Key, HasKey, key_of, keys_of, places_in}
use Rattle.test_results.proofs.KeyLemmas.{key_order_total, same_key}
use Rattle.test_results.proofs.TableLemmas.{has_key}

-- ---- one fault at most

-- what stands at a place of a batch is within it
place_within : (batch : List TestResult) (at : ℕ) (key : Key) → slice_get (keys_of batch) at ≡ Some key → at < length batch
place_within batch at key e = omega (arith, slice_get_within (keys_of batch) at key e, length-map batch key_of)

same_at : (batch : List TestResult) (at other : ℕ) (a b : Key) → at ≡ other → slice_get (keys_of batch) at ≡ Some a
    → slice_get (keys_of batch) other ≡ Some b → a ≡ b
same_at batch at other a b same e f = same_Some a b (sym e ∙ (ap (slice_get (keys_of batch)) same ∙ f))

not_once : (batch : List TestResult) (first second count : ℕ) → IsRepeat batch first second → second < count → AreOnce batch count → ⊥
not_once batch first second count r low once =
    let same = once r.key first second (omega (arith, r.earlier, low)) low r.there r.again in
    omega (arith, same, r.earlier)

not_all_once : (batch : List TestResult) (first second : ℕ) → IsRepeat batch first second → AreOnce batch (length batch) → ⊥
not_all_once batch first second r once = not_once batch first second (length batch) r (place_within batch second r.key r.again) once

one_second : (batch : List TestResult) (a b c d : ℕ) → IsRepeat batch a b → IsRepeat batch c d → b ≡ d
one_second batch a b c d this that =
    elim (cases_lt b d) [
      | inl low ↦ absurd (not_once batch a b d this low that.once)
      | inr ge ↦ elim (cases_lt d b) [
        | inl low ↦ absurd (not_once batch c d b that low this.once)
        | inr le ↦ omega (arith, ge, le)
      ]
    ]

one_first : (batch : List TestResult) (a b c d : ℕ) → IsRepeat batch a b → IsRepeat batch c d → b ≡ d → a ≡ c
one_first batch a b c d this that same =
    let keys : this.key ≡ that.key = same_at batch b d this.key that.key same this.again that.again in
    this.once that.key a c this.earlier (omega (arith, that.earlier, same)) (subst (λ (k : Key). slice_get (keys_of batch) a ≡ Some k) keys this.there)
    that.there

not_free : (rows batch : List TestResult) (at count : ℕ) → IsTaken rows batch at → at < count → AreFree rows batch count → ⊥
not_free rows batch at count t low free = free t.key at low t.there t.held

not_all_free : (rows batch : List TestResult) (at : ℕ) → IsTaken rows batch at → AreFree rows batch (length batch) → ⊥
not_all_free rows batch at t free = not_free rows batch at (length batch) t (place_within batch at t.key t.there) free

one_taken : (rows batch : List TestResult) (at other : ℕ) → IsTaken rows batch at → IsTaken rows batch other → at ≡ other
one_taken rows batch at other this that =
    elim (cases_lt at other) [
      | inl low ↦ absurd (not_free rows batch at other this low that.free)
      | inr ge ↦ elim (cases_lt other at) [
        | inl low ↦ absurd (not_free rows batch other at that low this.free)
        | inr le ↦ omega (arith, ge, le)
      ]
    ]

one_result_fault : (rows : List TestResult) (holder : ℕ) (batch : List TestResult) (fault other : BatchFault)
    → IsBatchFault rows holder batch fault → IsBatchFault rows holder batch other → fault ≡ other
one_result_fault rows holder batch (TooMany n) (TooMany m) this that = ap TooMany (this.1 ∙ sym that.1)
one_result_fault rows holder batch (TooMany n) (Repeated c d) this that = absurd (omega (arith, this.0, that.0))
one_result_fault rows holder batch (TooMany n) (Taken m) this that = absurd (omega (arith, this.0, that.0))
one_result_fault rows holder batch (TooMany n) (Full m) this that = absurd (omega (arith, this.0, that.0))
one_result_fault rows holder batch (TooMany n) Memory this that = absurd (omega (arith, this.0, that.size))
one_result_fault rows holder batch (Repeated a b) (TooMany m) this that = absurd (omega (arith, this.0, that.0))
one_result_fault rows holder batch (Repeated a b) (Repeated c d) this that =
    let seconds = one_second batch a b c d this.1 that.1 in
    ap (λ (n : ℕ). Repeated n b) (one_first batch a b c d this.1 that.1 seconds) ∙ ap (Repeated c) seconds
one_result_fault rows holder batch (Repeated a b) (Taken m) this that = absurd (not_all_once batch a b this.1 that.1)
one_result_fault rows holder batch (Repeated a b) (Full m) this that = absurd (not_all_once batch a b this.1 that.1)
one_result_fault rows holder batch (Repeated a b) Memory this that = absurd (not_all_once batch a b this.1 that.once)
one_result_fault rows holder batch (Taken n) (TooMany m) this that = absurd (omega (arith, this.0, that.0))
one_result_fault rows holder batch (Taken n) (Repeated c d) this that = absurd (not_all_once batch c d that.1 this.1)
one_result_fault rows holder batch (Taken n) (Taken m) this that = ap Taken (one_taken rows batch n m this.2 that.2)
one_result_fault rows holder batch (Taken n) (Full m) this that = absurd (not_all_free rows batch n this.2 that.2)
one_result_fault rows holder batch (Taken n) Memory this that = absurd (not_all_free rows batch n this.2 that.free)
one_result_fault rows holder batch (Full n) (TooMany m) this that = absurd (omega (arith, this.0, that.0))
one_result_fault rows holder batch (Full n) (Repeated c d) this that = absurd (not_all_once batch c d that.1 this.1)
one_result_fault rows holder batch (Full n) (Taken m) this that = absurd (not_all_free rows batch m that.2 this.2)
one_result_fault rows holder batch (Full n) (Full m) this that = ap Full (this.4 ∙ sym that.4)
one_result_fault rows holder batch (Full n) Memory this that = absurd (omega (arith, this.3, that.few))
one_result_fault rows holder batch Memory (TooMany m) this that = absurd (omega (arith, this.size, that.0))
one_result_fault rows holder batch Memory (Repeated c d) this that = absurd (not_all_once batch c d that.1 this.once)
one_result_fault rows holder batch Memory (Taken m) this that = absurd (not_all_free rows batch m that.2 this.free)
one_result_fault rows holder batch Memory (Full m) this that = absurd (omega (arith, this.few, that.3))
one_result_fault rows holder batch Memory Memory this that = refl

one_exoneration_fault : (rows : List TestExoneration) (holder count : ℕ) (fault other : BatchFault)
    → exonerations.IsBatchFault rows holder count fault → exonerations.IsBatchFault rows holder count other → fault ≡ other
one_exoneration_fault rows holder count (Repeated a b) other this that = absurd this
one_exoneration_fault rows holder count (Taken n) other this that = absurd this
one_exoneration_fault rows holder count (TooMany n) (TooMany m) this that = ap TooMany (this.1 ∙ sym that.1)
one_exoneration_fault rows holder count (TooMany n) (Repeated c d) this that = absurd that
one_exoneration_fault rows holder count (TooMany n) (Taken m) this that = absurd that
one_exoneration_fault rows holder count (TooMany n) (Full m) this that = absurd (omega (arith, this.0, that.0))
one_exoneration_fault rows holder count (TooMany n) Memory this that = absurd (omega (arith, this.0, that.size))
one_exoneration_fault rows holder count (Full n) (TooMany m) this that = absurd (omega (arith, this.0, that.0))
one_exoneration_fault rows holder count (Full n) (Repeated c d) this that = absurd that
one_exoneration_fault rows holder count (Full n) (Taken m) this that = absurd that
one_exoneration_fault rows holder count (Full n) (Full m) this that = ap Full (this.2 ∙ sym that.2)
one_exoneration_fault rows holder count (Full n) Memory this that = absurd (omega (arith, this.1, that.few))
one_exoneration_fault rows holder count Memory (TooMany m) this that = absurd (omega (arith, this.size, that.0))
one_exoneration_fault rows holder count Memory (Repeated c d) this that = absurd that
one_exoneration_fault rows holder count Memory (Taken m) this that = absurd that
one_exoneration_fault rows holder count Memory (Full m) this that = absurd (omega (arith, this.few, that.1))
one_exoneration_fault rows holder count Memory Memory this that = refl

pub one_fault : OneBatchFault
one_fault = (one_result_fault, one_exoneration_fault)

-- ---- a fault, or none

by_order : (o : Ordering) (a b : Key) → key_order a b ≡ o → (a ≡ b) ⊎ (a ≢ b)
by_order Less a b e =
    inr (λ same. let no : Less ≡ Equal = sym e ∙ (ap (key_order a) (sym same) ∙ tied_itself key_order_total a) in cc)
by_order Equal a b e = inl (same_key a b e)
by_order Greater a b e =
    inr (λ same. let no : Greater ≡ Equal = sym e ∙ (ap (key_order a) (sym same) ∙ tied_itself key_order_total a) in cc)

stands_or_not : (o : Option Key) (key : Key) → (o ≡ Some key) ⊎ (o ≢ Some key)
stands_or_not None key = inr (λ e. let no : None ≡ Some key = e in cc)
stands_or_not (Some k) key =
    elim (by_order (key_order k key) k key refl) [
      | inl same ↦ inl (ap (λ (x : Key). Some x) same)
      | inr other ↦ inr (λ e. other (same_Some k key e))
    ]

-- a key stands at one of so many first places, or at none
abbrev Stands : List Key → Key → ℕ → Type 0
Stands keys key n = (at : ℕ) × (at < n) × (slice_get keys at ≡ Some key)

abbrev IsNowhere : List Key → Key → ℕ → Type 0
IsNowhere keys key n = (at : ℕ) → at < n → slice_get keys at ≡ Some key → ⊥

nowhere_more : (keys : List Key) (key : Key) (n : ℕ) → IsNowhere keys key n → slice_get keys n ≢ Some key → IsNowhere keys key (suc n)
nowhere_more keys key n none not at low e =
    elim (cases_lt at n) [
      | inl less ↦ none at less e
      | inr ge ↦ let here : at ≡ n = omega (arith, ge, low) in not (ap (slice_get keys) (sym here) ∙ e)
    ]

seen_or_not : (keys : List Key) (key : Key) (n : ℕ) → Stands keys key n ⊎ IsNowhere keys key n
seen_or_not keys key zero = inr (λ at low e. omega (arith, low))
seen_or_not keys key (suc n) =
    elim (stands_or_not (slice_get keys n) key) [
      | inl here ↦ inl (n, omega arith, here)
      | inr not ↦ elim (seen_or_not keys key n) [
        | inl there ↦ inl (there.0, omega (arith, there.1), there.2)
        | inr none ↦ inr (nowhere_more keys key n none not)
      ]
    ]

held_or_free : (rows : List TestResult) (key : Key) → HasKey rows key ⊎ (HasKey rows key → ⊥)
held_or_free rows key =
    elim (seen_or_not (keys_of rows) key (length (keys_of rows))) [
      | inl there ↦ inl (has_key (keys_of rows) there.0 key there.2)
      | inr none ↦ inr (λ h. none h.0 h.1 (slice_get-get_or (keys_of rows) h.0 key h.1 ∙ ap (λ (k : Key). Some k) h.2))
    ]

-- the key at a place of a batch
key_here : (batch : List TestResult) (n : ℕ) → n < length batch → slice_get (keys_of batch) n ≡ Some (key_at (keys_of batch) n)
key_here batch n low =
    let within : n < length (keys_of batch) = omega (arith, low, length-map batch key_of) in slice_get-get_or (keys_of batch) n no_key within

once_grown : (batch : List TestResult) (n : ℕ) (key : Key) → AreOnce batch n → slice_get (keys_of batch) n ≡ Some key
    → IsNowhere (keys_of batch) key n → AreOnce batch (suc n)
once_grown batch n key once here none k i j li lj ei ej =
    elim (cases_lt i n) [
      | inl a ↦ elim (cases_lt j n) [
        | inl b ↦ once k i j a b ei ej
        | inr b ↦
            let at : j ≡ n = omega (arith, b, lj) in
            let same : k ≡ key = same_at batch j n k key at ej here in
            absurd (none i a (ei ∙ ap (λ (x : Key). Some x) same))
      ]
      | inr a ↦
          let first : i ≡ n = omega (arith, a, li) in
          let same : k ≡ key = same_at batch i n k key first ei here in
          elim (cases_lt j n) [
            | inl b ↦ absurd (none j b (ej ∙ ap (λ (x : Key). Some x) same))
            | inr b ↦ omega (arith, first, b, lj)
          ]
    ]

abbrev Repeats : List TestResult → Type 0
Repeats batch = (first : ℕ) × (second : ℕ) × IsRepeat batch first second

once_or_repeat : (batch : List TestResult) (n : ℕ) → n ≤ length batch → AreOnce batch n ⊎ Repeats batch
once_or_repeat batch zero le = inl (λ key i j li lj ei ej. absurd (omega (arith, li)))
once_or_repeat batch (suc n) le =
    let here = key_here batch n (omega arith) in
    let key : Key = key_at (keys_of batch) n in
    elim (once_or_repeat batch n (omega arith)) [
      | inr found ↦ inr found
      | inl once ↦ elim (seen_or_not (keys_of batch) key n) [
        | inl there ↦ inr (there.0, n, record { earlier = there.1; key = key; there = there.2; again = here; once = once })
        | inr none ↦ inl (once_grown batch n key once here none)
      ]
    ]

free_grown : (rows batch : List TestResult) (n : ℕ) (key : Key) → AreFree rows batch n → slice_get (keys_of batch) n ≡ Some key
    → (HasKey rows key → ⊥) → AreFree rows batch (suc n)
free_grown rows batch n key free here not k at low e held =
    elim (cases_lt at n) [
      | inl less ↦ free k at less e held
      | inr ge ↦
          let same : k ≡ key = same_at batch at n k key (omega (arith, ge, low)) e here in
          not (subst (HasKey rows) same held)
    ]

free_or_taken : (rows batch : List TestResult) (n : ℕ) → n ≤ length batch → AreFree rows batch n ⊎ ((at : ℕ) × IsTaken rows batch at)
free_or_taken rows batch zero le = inl (λ key at low e held. omega (arith, low))
free_or_taken rows batch (suc n) le =
    let here = key_here batch n (omega arith) in
    let key : Key = key_at (keys_of batch) n in
    elim (free_or_taken rows batch n (omega arith)) [
      | inr found ↦ inr found
      | inl free ↦ elim (held_or_free rows key) [
        | inl held ↦ inr (n, record { key = key; there = here; held = held; free = free })
        | inr not ↦ inl (free_grown rows batch n key free here not)
      ]
    ]

-- some fault that isn't want of memory
abbrev Faulty : (BatchFault → Type 0) → Type 0
Faulty Is = (fault : BatchFault) × (fault ≢ Memory) × Is fault

many_or_few : (count held : ℕ) → (held + count ≤ 100_000) ⊎ (100_000 < held + count)
many_or_few count held = elim (cases_lt 100_000 (held + count)) [ inl many ↦ inr many | inr few ↦ inl few ]

by_size : (rows : List TestResult) (holder : ℕ) (batch : List TestResult) → length batch ≤ 500 → AreOnce batch (length batch)
    → AreFree rows batch (length batch) → CanAdd rows holder batch ⊎ Faulty (IsBatchFault rows holder batch)
by_size rows holder batch size once free =
    elim (many_or_few (length batch) (length (places_in rows holder))) [
      | inl few ↦ inl (record { size = size; once = once; free = free; few = few })
      | inr many ↦ inr (
        Full (length (places_in rows holder)),
        (λ e. let no : Full (length (places_in rows holder)) ≡ Memory = e in cc),
        (size, once, free, many, refl),
      )
    ]

by_keys : (rows : List TestResult) (holder : ℕ) (batch : List TestResult) → length batch ≤ 500
    → CanAdd rows holder batch ⊎ Faulty (IsBatchFault rows holder batch)
by_keys rows holder batch size =
    elim (once_or_repeat batch (length batch) (omega arith)) [
      | inr r ↦ inr (Repeated r.0 r.1, (λ e. let no : Repeated r.0 r.1 ≡ Memory = e in cc), (size, r.2))
      | inl once ↦ elim (free_or_taken rows batch (length batch) (omega arith)) [
        | inr t ↦ inr (Taken t.0, (λ e. let no : Taken t.0 ≡ Memory = e in cc), (size, once, t.1))
        | inl free ↦ by_size rows holder batch size once free
      ]
    ]

result_fault_or_not : (rows : List TestResult) (holder : ℕ) (batch : List TestResult)
    → CanAdd rows holder batch ⊎ Faulty (IsBatchFault rows holder batch)
result_fault_or_not rows holder batch =
    elim (cases_lt 500 (length batch)) [
      | inl many ↦ inr (TooMany (length batch), (λ e. let no : TooMany (length batch) ≡ Memory = e in cc), (many, refl))
      | inr few ↦ by_keys rows holder batch few
    ]

exoneration_fault_or_not : (rows : List TestExoneration) (holder count : ℕ)
    → exonerations.CanAdd rows holder count ⊎ Faulty (exonerations.IsBatchFault rows holder count)
exoneration_fault_or_not rows holder count =
    elim (cases_lt 500 count) [
      | inl many ↦ inr (TooMany count, (λ e. let no : TooMany count ≡ Memory = e in cc), (many, refl))
      | inr size ↦ elim (many_or_few count (length (exonerations.places_in rows holder))) [
        | inl few ↦ inl (record { size = size; few = few })
        | inr many ↦ inr (
          Full (length (exonerations.places_in rows holder)),
          (λ e. let no : Full (length (exonerations.places_in rows holder)) ≡ Memory = e in cc),
          (size, many, refl),
        )
      ]
    ]

pub fault_or_not : FaultOrCanAdd
fault_or_not = (result_fault_or_not, exoneration_fault_or_not)
