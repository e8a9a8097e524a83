-- What the router's search finds: the route, just where a target is a call.
use Rattle.std.proofs.Common.{◌≡◌, ◌≢◌, ℕ, zero, suc, ◌+◌, ◌-◌, ◌<◌, List, [], ◌∷◌, ◌++◌, length, drop, get_or, Option, Some, None, Bool, true, false, cond, refl, sym, ap, subst, ◌∙◌, arith, nat_eq, ◌==◌, codes, ltb, ◌&&◌, ◌⊎◌, inl, inr, length-append, append_assoc}
use Rattle.std.specs.Cmp.Lexicographic.{pointwise}
use Rattle.std.proofs.lemmas.Bool.Decides.{nat_tests}
use Rattle.matchit.specs.Rows.{RowsOf, param_token, catch_all_token}
use Rattle.matchit.specs.Seek.{step, or_else, seek, first, param_step, has_slash, segment, cuts}
use Rattle.http_routes.specs.Calls.{IsCall}
use Rattle.http_routes.proofs.PartLaws.{IsPlain, Cut, cut, slash_or, plain_part, part_plain}

module _ {K : Type 0} where
  pub no_step : (p : List ℕ) → (param_step {K = K} [] p).1 ≡ []
  unfolding param_step
  no_step p =
      elim (has_slash p) as (λ v. (cond {A = ℕ × RowsOf K} v (0, []) (length p, [])).1 ≡ []) [
        | true ↦ refl
        | false ↦ refl
      ]

  pub seek_none : (n : ℕ) (p : List ℕ) → seek {K = K} n [] p ≡ None
  unfolding seek
  seek_none n [] = refl
  seek_none (suc n) (b ∷ p) = seek_none n p
  seek_none zero (b ∷ p) = simp (seek_none 0 p, no_step (b ∷ p), seek_none ((param_step {K = K} [] (b ∷ p)).0 - 1) p)

  pub or_none : (a : Option K) → or_else a None ≡ a
  or_none None = refl
  or_none (Some k) = refl

  pub step_miss : (b x : ℕ) (t : List ℕ) (k : K) → x ≢ b → step b ((x ∷ t, k) ∷ []) ≡ []
  step_miss b x t k n = let e : (x == b) ≡ false = grind (arith, nat_tests) in rw e refl

  pub step_hit : (b : ℕ) (t : List ℕ) (k : K) → step b ((b ∷ t, k) ∷ []) ≡ (t, k) ∷ []
  step_hit b t k = let e : (b == b) ≡ true = grind (arith, nat_tests) in rw e refl

  pub seek_byte : (x b : ℕ) (t : List ℕ) (k : K) (p : List ℕ) → x < 256 → seek 0 ((x ∷ t, k) ∷ []) (b ∷ p) ≡ seek 0 (step b ((x ∷ t, k) ∷ [])) p
  unfolding seek
  seek_byte x b t k p low =
      let n1 : x ≢ param_token = λ e. omega arith in
      let n2 : x ≢ catch_all_token = λ e. omega arith in
      simp (step_miss param_token x t k n1, step_miss catch_all_token x t k n2, no_step (b ∷ p), seek_none ((param_step {K = K} [] (b ∷ p)).0 - 1) p, or_none)

  -- a byte of the route
  pub same_byte : (x : ℕ) (t : List ℕ) (k : K) (p : List ℕ) → x < 256 → first ((x ∷ t, k) ∷ []) (x ∷ p) ≡ first ((t, k) ∷ []) p
  same_byte x t k p low = seek_byte x x t k p low ∙ ap (λ rs. seek 0 rs p) (step_hit x t k)

  pub needs_byte : (x : ℕ) (t : List ℕ) (k r : K) (path : List ℕ) → x < 256 → first ((x ∷ t, k) ∷ []) path ≡ Some r → (p : List ℕ) × (path ≡ x ∷ p) × (first ((t, k) ∷ []) p ≡ Some r)
  unfolding seek
  needs_byte x t k r [] low found = absurd (let e : None ≡ Some r = found in cc)
  needs_byte x t k r (b ∷ p) low found = by (x == b) refl
    where
      by : (v : Bool) → (x == b) ≡ v → (q : List ℕ) × (b ∷ p ≡ x ∷ q) × (first ((t, k) ∷ []) q ≡ Some r)
      by true e =
          let same : x ≡ b = grind (arith, nat_tests) in
          (p, rw same refl, sym (same_byte x t k p low) ∙ rw (← same) at found)
      by false e =
          let n : x ≢ b = λ q. grind (arith, nat_tests) in
          let none : seek 0 ((x ∷ t, k) ∷ []) (b ∷ p) ≡ None = seek_byte x b t k p low ∙ ap (λ rs. seek 0 rs p) (step_miss b x t k n) ∙ seek_none 0 p in
          absurd (let e = rw none at found in cc)

-- a path's bytes
abbrev pub AreBytes : List ℕ → Type 0
AreBytes p = (i : ℕ) → get_or p i 0 < 256

pub bytes_after : (s p : List ℕ) → AreBytes (s ++ p) → AreBytes p
bytes_after [] p h = h
bytes_after (x ∷ s) p h = bytes_after s p (λ i. h (suc i))

-- ---- where a segment ends

pub segment_whole : (p : List ℕ) → has_slash p ≡ false → segment p ≡ p
segment_whole [] h = refl
segment_whole (b ∷ p) h = let two = slash_or b p h in rw (two.0) (ap (λ q. b ∷ q) (segment_whole p two.1))

pub segment_cut : (s p : List ℕ) → has_slash s ≡ false → segment (s ++ 47 ∷ p) ≡ s ++ 47 ∷ []
segment_cut [] p h = refl
segment_cut (b ∷ s) p h = let two = slash_or b s h in rw (two.0) (ap (λ q. b ∷ q) (segment_cut s p two.1))

pub has_cut : (s p : List ℕ) → has_slash (s ++ 47 ∷ p) ≡ true
has_cut [] p = refl
has_cut (b ∷ s) p =
    elim (b == 47) as (λ v. cond v true (has_slash (s ++ 47 ∷ p)) ≡ true) [
      | true ↦ refl
      | false ↦ has_cut s p
    ]

-- ---- whether a segment ends with a slash behind a byte

no_end : (n : ℕ) (p : List ℕ) → has_slash p ≡ false → pointwise nat_eq (47 ∷ []) (drop n p) ≡ false
no_end zero [] h = refl
no_end zero (b ∷ p) h =
    let two = slash_or b p h in
    let e : nat_eq 47 b ≡ false = grind (arith, nat_tests, two.0) in
    rw e refl
no_end (suc n) [] h = refl
no_end (suc n) (b ∷ p) h = no_end n p (slash_or b p h).1

pub cuts_no : (p : List ℕ) → has_slash p ≡ false → cuts p (47 ∷ []) ≡ false
cuts_no p h =
    let e = no_end (length p - 1) p h in
    elim (ltb 1 (length p)) as (λ v. (v && pointwise nat_eq (47 ∷ []) (drop (length p - 1) p)) ≡ false) [
      | true ↦ e
      | false ↦ refl
    ]

pub drop_past : (s p : List ℕ) → drop (length s) (s ++ p) ≡ p
drop_past [] p = refl
drop_past (x ∷ s) p = drop_past s p

pub cuts_yes : (x : ℕ) (s : List ℕ) → cuts (x ∷ s ++ 47 ∷ []) (47 ∷ []) ≡ true
cuts_yes x s =
    let all = x ∷ s ++ 47 ∷ [] in
    let at : length (x ∷ s ++ 47 ∷ []) - 1 ≡ suc (length s) = omega (arith, length-append s (47 ∷ [])) in
    let long : ltb 1 (length (x ∷ s ++ 47 ∷ [])) ≡ true = grind (arith, nat_tests, length-append s (47 ∷ [])) in
    ap (λ v. v && pointwise nat_eq (47 ∷ []) (drop (length all - 1) all)) long ∙ ap (λ n. pointwise nat_eq (47 ∷ []) (drop n all)) at ∙ ap (pointwise nat_eq (47 ∷ [])) (drop_past s (47 ∷ []))

-- ---- the two parameters

module _ {K : Type 0} where
  seek_drop : (n : ℕ) (rs : RowsOf K) (p : List ℕ) → seek n rs p ≡ seek 0 rs (drop n p)
  unfolding seek
  seek_drop zero rs p = refl
  seek_drop (suc n) rs [] = refl
  seek_drop (suc n) rs (b ∷ p) = seek_drop n rs p

  seek_param : (b : ℕ) (t : List ℕ) (k : K) (p : List ℕ) → b < 256
      → seek 0 ((param_token ∷ t, k) ∷ []) (b ∷ p) ≡ seek ((param_step ((t, k) ∷ []) (b ∷ p)).0 - 1) (param_step ((t, k) ∷ []) (b ∷ p)).1 p
  unfolding seek
  seek_param b t k p low =
      let n : param_token ≢ b = λ e. omega arith in
      simp (step_miss b param_token t k n, seek_none {K = K} 0 p, or_none)

  step_whole : (t : List ℕ) (k : K) (p : List ℕ) → has_slash p ≡ false → param_step ((47 ∷ t, k) ∷ []) p ≡ (length p, (47 ∷ t, k) ∷ [])
  unfolding param_step
  step_whole t k p h = rw (segment_whole p h, cuts_no p h, h) refl

  step_empty : (t : List ℕ) (k : K) (p : List ℕ) → (param_step ((47 ∷ t, k) ∷ []) (47 ∷ p)).1 ≡ []
  unfolding param_step
  step_empty t k p = refl

  step_cut : (x : ℕ) (s t p : List ℕ) (k : K) → has_slash (x ∷ s) ≡ false → param_step ((47 ∷ t, k) ∷ []) (x ∷ s ++ 47 ∷ p) ≡ (length s + 1, (47 ∷ t, k) ∷ [])
  unfolding param_step
  step_cut x s t p k h =
      let len : length (x ∷ s ++ 47 ∷ []) - 1 ≡ length s + 1 = omega (arith, length-append s (47 ∷ [])) in
      rw (segment_cut (x ∷ s) p h, cuts_yes x s) (ap (λ n. (n, (47 ∷ t, k) ∷ [])) len)

  step_last : (k : K) (p : List ℕ) → param_step (([], k) ∷ []) p ≡ cond (has_slash p) (0, []) (length p, ([], k) ∷ [])
  unfolding param_step
  step_last k p = refl

  pub first_part : (x : ℕ) (s t p : List ℕ) (k : K) → x < 256 → has_slash (x ∷ s) ≡ false → first ((param_token ∷ 47 ∷ t, k) ∷ []) (x ∷ s ++ 47 ∷ p) ≡ first ((t, k) ∷ []) p
  first_part x s t p k low h =
      seek_param x (47 ∷ t) k (s ++ 47 ∷ p) low ∙ ap (λ (st : ℕ × RowsOf K). seek (st.0 - 1) st.1 (s ++ 47 ∷ p)) (step_cut x s t p k h)
      ∙ ap (λ n. seek n ((47 ∷ t, k) ∷ []) (s ++ 47 ∷ p)) (omega arith) ∙ seek_drop (length s) ((47 ∷ t, k) ∷ []) (s ++ 47 ∷ p)
      ∙ ap (λ q. seek 0 ((47 ∷ t, k) ∷ []) q) (drop_past s (47 ∷ p)) ∙ same_byte 47 t k p (omega arith)

  pub last_part : (b : ℕ) (p : List ℕ) (k : K) → b < 256 → has_slash (b ∷ p) ≡ false → first ((param_token ∷ [], k) ∷ []) (b ∷ p) ≡ Some k
  unfolding seek
  last_part b p k low h =
      let stepped : param_step (([], k) ∷ []) (b ∷ p) ≡ (length (b ∷ p), ([], k) ∷ []) = step_last k (b ∷ p) ∙ ap (λ v. cond {A = ℕ × RowsOf K} v (0, []) (length (b ∷ p), ([], k) ∷ [])) h in
      seek_param b [] k p low ∙ ap (λ (st : ℕ × RowsOf K). seek (st.0 - 1) st.1 p) stepped ∙ ap (λ n. seek n (([], k) ∷ []) p) (omega arith) ∙ seek_drop (length p) (([], k) ∷ []) p ∙ over p k
    where
      over : (p : List ℕ) (k : K) → seek 0 (([], k) ∷ []) (drop (length p) p) ≡ Some k
      over [] k = refl
      over (x ∷ p) k = over p k

  part_by : (t : List ℕ) (k r : K) (b : ℕ) (p : List ℕ) → b < 256 → first ((param_token ∷ 47 ∷ t, k) ∷ []) (b ∷ p) ≡ Some r → (has_slash (b ∷ p) ≡ false) ⊎ Cut (b ∷ p)
      → (s q : List ℕ) × (b ∷ p ≡ s ++ 47 ∷ q) × IsPlain s × (first ((t, k) ∷ []) q ≡ Some r)
  unfolding seek
  part_by t k r b p low found (inl none) =
      let stepped = step_whole t k (b ∷ p) none in
      let gone : first ((param_token ∷ 47 ∷ t, k) ∷ []) (b ∷ p) ≡ None =
      seek_param b (47 ∷ t) k p low ∙ ap (λ (st : ℕ × RowsOf K). seek (st.0 - 1) st.1 p) stepped ∙ ap (λ n. seek n ((47 ∷ t, k) ∷ []) p) (omega arith) ∙ seek_drop (length p) ((47 ∷ t, k) ∷ []) p ∙ over p in
      absurd (let e : None ≡ Some r = sym gone ∙ found in cc)
    where
      over : (p : List ℕ) → seek 0 ((47 ∷ t, k) ∷ []) (drop (length p) p) ≡ None
      over [] = refl
      over (x ∷ p) = over p
  part_by t k r b p low found (inr c) = by c.part c.is c.plain
    where
      by : (s : List ℕ) → b ∷ p ≡ s ++ 47 ∷ c.rest → has_slash s ≡ false → (s q : List ℕ) × (b ∷ p ≡ s ++ 47 ∷ q) × IsPlain s × (first ((t, k) ∷ []) q ≡ Some r)
      by [] is plain =
          let slash : b ≡ 47 = cc in
          let rest : p ≡ c.rest = cc in
          let gone : first ((param_token ∷ 47 ∷ t, k) ∷ []) (b ∷ p) ≡ None =
          seek_param b (47 ∷ t) k p low ∙ ap (λ rs. seek ((param_step ((47 ∷ t, k) ∷ []) (b ∷ p)).0 - 1) rs p) (rw slash (step_empty t k p)) ∙ seek_none ((param_step ((47 ∷ t, k) ∷ []) (b ∷ p)).0 - 1) p in
          absurd (let e : None ≡ Some r = sym gone ∙ found in cc)
      by (x ∷ s) is plain =
          let same : x ≡ b = cc in
          let some : (x ∷ s) ≢ [] = λ e. absurd cc in
          (x ∷ s, c.rest, is, (some, plain), sym (first_part x s t c.rest k (omega (arith, same)) plain) ∙ ap (λ q. first ((param_token ∷ 47 ∷ t, k) ∷ []) q) (sym is) ∙ found)

  pub needs_part : (t : List ℕ) (k r : K) (path : List ℕ) → AreBytes path → first ((param_token ∷ 47 ∷ t, k) ∷ []) path ≡ Some r
      → (s q : List ℕ) × (path ≡ s ++ 47 ∷ q) × IsPlain s × (first ((t, k) ∷ []) q ≡ Some r)
  unfolding seek
  needs_part t k r [] bytes found = absurd (let e : None ≡ Some r = found in cc)
  needs_part t k r (b ∷ p) bytes found = part_by t k r b p (bytes 0) found (cut (b ∷ p))

  pub needs_last : (k r : K) (path : List ℕ) → AreBytes path → first ((param_token ∷ [], k) ∷ []) path ≡ Some r → IsPlain path × (r ≡ k)
  unfolding seek
  needs_last k r [] bytes found = absurd (let e : None ≡ Some r = found in cc)
  needs_last k r (b ∷ p) bytes found = by (has_slash (b ∷ p)) refl
    where
      by : (v : Bool) → has_slash (b ∷ p) ≡ v → IsPlain (b ∷ p) × (r ≡ k)
      by true e =
          let stepped : (param_step (([], k) ∷ []) (b ∷ p)).1 ≡ [] = ap (λ (st : ℕ × RowsOf K). st.1) (step_last k (b ∷ p) ∙ ap (λ v. cond {A = ℕ × RowsOf K} v (0, []) (length (b ∷ p), ([], k) ∷ [])) e) in
          let gone : first ((param_token ∷ [], k) ∷ []) (b ∷ p) ≡ None =
          seek_param b [] k p (bytes 0) ∙ ap (λ rs. seek ((param_step (([], k) ∷ []) (b ∷ p)).0 - 1) rs p) stepped ∙ seek_none ((param_step (([], k) ∷ []) (b ∷ p)).0 - 1) p in
          absurd (let e : None ≡ Some r = sym gone ∙ found in cc)
      by false e =
          let same : Some k ≡ Some r = sym (last_part b p k (bytes 0) e) ∙ found in
          ((λ q. absurd cc, e), cc)

-- ---- the whole route

abbrev prpc : List ℕ
prpc = codes "/prpc/"

module _ {K : Type 0} (k : K) where
  abbrev rows : List ℕ → RowsOf K
  rows t = (t, k) ∷ []

  pub finds : (path : List ℕ) (r : K) → AreBytes path → first ((codes "/prpc/" ++ param_token ∷ 47 ∷ param_token ∷ [], k) ∷ []) path ≡ Some r → (s m : List ℕ) × IsCall path s m × (r ≡ k)
  finds path r bytes found =
      let a = needs_byte 47 _ k r path (omega arith) found in
      let b = needs_byte 112 _ k r a.0 (omega arith) a.2 in
      let c = needs_byte 114 _ k r b.0 (omega arith) b.2 in
      let d = needs_byte 112 _ k r c.0 (omega arith) c.2 in
      let e = needs_byte 99 _ k r d.0 (omega arith) d.2 in
      let f = needs_byte 47 _ k r e.0 (omega arith) e.2 in
      let whole : path ≡ prpc ++ f.0 = a.1 ∙ ap (λ q. 47 ∷ q) (b.1 ∙ ap (λ q. 112 ∷ q) (c.1 ∙ ap (λ q. 114 ∷ q) (d.1 ∙ ap (λ q. 112 ∷ q) (e.1 ∙ ap (λ q. 99 ∷ q) f.1)))) in
      let g = needs_part (param_token ∷ []) k r f.0 (bytes_after prpc f.0 (subst AreBytes whole bytes)) f.2 in
      let left : path ≡ (prpc ++ g.0 ++ 47 ∷ []) ++ g.1 = whole ∙ ap (λ q. prpc ++ q) (g.2 ∙ sym (append_assoc g.0 (47 ∷ []) g.1)) in
      let h = needs_last k r g.1 (bytes_after (prpc ++ g.0 ++ 47 ∷ []) g.1 (subst AreBytes left bytes)) g.4 in
      (g.0, g.1, record { text = whole ∙ ap (λ q. prpc ++ q) g.2; service_part = plain_part g.0 g.3; method_part = plain_part g.1 h.0 }, h.1)

  pub is_found : (path s m : List ℕ) → AreBytes path → IsCall path s m → first ((codes "/prpc/" ++ param_token ∷ 47 ∷ param_token ∷ [], k) ∷ []) path ≡ Some k
  is_found path [] m bytes call = absurd (call.service_part.some refl)
  is_found path (x ∷ s) [] bytes call = absurd (call.method_part.some refl)
  is_found path (x ∷ s) (y ∷ m) bytes call =
      let all : AreBytes (prpc ++ x ∷ s ++ 47 ∷ y ∷ m) = subst AreBytes call.text bytes in
      let low = bytes_after prpc (x ∷ s ++ 47 ∷ y ∷ m) all in
      let last = bytes_after (x ∷ s ++ 47 ∷ []) (y ∷ m) (subst AreBytes (sym (append_assoc (x ∷ s) (47 ∷ []) (y ∷ m))) low) in
      ap (λ q. first (rows (prpc ++ param_token ∷ 47 ∷ param_token ∷ [])) q) call.text
      ∙ same_byte 47 _ k _ (omega arith) ∙ same_byte 112 _ k _ (omega arith) ∙ same_byte 114 _ k _ (omega arith) ∙ same_byte 112 _ k _ (omega arith)
      ∙ same_byte 99 _ k _ (omega arith) ∙ same_byte 47 _ k _ (omega arith)
      ∙ first_part x s (param_token ∷ []) (y ∷ m) k (low 0) (part_plain (x ∷ s) call.service_part).1 ∙ last_part y m k (last 0) (part_plain (y ∷ m) call.method_part).1
