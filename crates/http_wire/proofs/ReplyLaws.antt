-- Phrases of statuses, and writes of two pieces.
use Rattle.std.proofs.Common.{◌≡◌, ℕ, zero, suc, ◌<◌, ◌≤◌, ◌⊎◌, inl, inr, Bool, true, false, ◌&&◌, nat_le, nat_eq, List, [], length, codes, Option, None, refl, sym, ap, ◌∙◌, subst, arith, append_assoc}
use Rattle.std.proofs.lemmas.Bool.{ne_eqb, leb-true, cases_lt}
use Rattle.std.proofs.Math.Dec.{lit<, lit≤}
use Rattle.std.specs.Prelude.{unwrap_or, decimal, ◌++◌, Result, Ok, Err}
use Rattle.outside.specs.Bytes.{Took}
use Rattle.outside.specs.Ends.{Outgoing}
use Rattle.outside.specs.Whole.{IsWritten, CountsFault, CountsEnd, WritesWhole}
use Rattle.outside.specs.declared.whole.WriteEnd.{WriteEnd}
use Rattle.outside.proofs.Taken.{took_both, front_of_first, front_of_second}
use Rattle.std.proofs.lemmas.Bool.Decides.{Decides-below_and}
use Rattle.http.specs.StatusCode.{reason_phrase, IsStatusCode}
use Rattle.call_forms.specs.ReplyBytes.{head_text, line, line_end, content_type, token_line, close_line}

abbrev is_short : List ℕ → Bool
is_short text = nat_le (length text) 31

abbrev short_below : ℕ → Bool
short_below zero = true
short_below (suc n) = is_short (unwrap_or (reason_phrase n) []) && short_below n

pub phrase_short : (n : ℕ) → n < 1000 → length (unwrap_or (reason_phrase n) []) ≤ 31
phrase_short n h =
    let test = λ (k : ℕ). is_short (unwrap_or (reason_phrase k) []) in
    leb-true _ _ ((Decides-below_and test (λ k. test k ≡ true) short_below (λ k. (λ x. x, λ x. x)) refl (λ _. refl) 1000).0 refl n h)

-- a number that isn't three digits has no phrase
pub phrase_none : (n : ℕ) → (n < 100) ⊎ (999 < n) → reason_phrase n ≡ None
phrase_none n h = rw (other 100 (lit≤ tt) (lit< tt), other 101 (lit≤ tt) (lit< tt), other 102 (lit≤ tt) (lit< tt), other 103 (lit≤ tt) (lit< tt), other 200 (lit≤ tt) (lit< tt), other 201 (lit≤ tt) (lit< tt), other 202 (lit≤ tt) (lit< tt), other 203 (lit≤ tt) (lit< tt), other 204 (lit≤ tt) (lit< tt), other 205 (lit≤ tt) (lit< tt), other 206 (lit≤ tt) (lit< tt), other 207 (lit≤ tt) (lit< tt), other 208 (lit≤ tt) (lit< tt), other 226 (lit≤ tt) (lit< tt), other 300 (lit≤ tt) (lit< tt), other 301 (lit≤ tt) (lit< tt), other 302 (lit≤ tt) (lit< tt), other 303 (lit≤ tt) (lit< tt), other 304 (lit≤ tt) (lit< tt), other 305 (lit≤ tt) (lit< tt), other 307 (lit≤ tt) (lit< tt), other 308 (lit≤ tt) (lit< tt), other 400 (lit≤ tt) (lit< tt), other 401 (lit≤ tt) (lit< tt), other 402 (lit≤ tt) (lit< tt), other 403 (lit≤ tt) (lit< tt), other 404 (lit≤ tt) (lit< tt), other 405 (lit≤ tt) (lit< tt), other 406 (lit≤ tt) (lit< tt), other 407 (lit≤ tt) (lit< tt), other 408 (lit≤ tt) (lit< tt), other 409 (lit≤ tt) (lit< tt), other 410 (lit≤ tt) (lit< tt), other 411 (lit≤ tt) (lit< tt), other 412 (lit≤ tt) (lit< tt), other 413 (lit≤ tt) (lit< tt), other 414 (lit≤ tt) (lit< tt), other 415 (lit≤ tt) (lit< tt), other 416 (lit≤ tt) (lit< tt), other 417 (lit≤ tt) (lit< tt), other 418 (lit≤ tt) (lit< tt), other 421 (lit≤ tt) (lit< tt), other 422 (lit≤ tt) (lit< tt), other 423 (lit≤ tt) (lit< tt), other 424 (lit≤ tt) (lit< tt), other 425 (lit≤ tt) (lit< tt), other 426 (lit≤ tt) (lit< tt), other 428 (lit≤ tt) (lit< tt), other 429 (lit≤ tt) (lit< tt), other 431 (lit≤ tt) (lit< tt), other 451 (lit≤ tt) (lit< tt), other 500 (lit≤ tt) (lit< tt), other 501 (lit≤ tt) (lit< tt), other 502 (lit≤ tt) (lit< tt), other 503 (lit≤ tt) (lit< tt), other 504 (lit≤ tt) (lit< tt), other 505 (lit≤ tt) (lit< tt), other 506 (lit≤ tt) (lit< tt), other 507 (lit≤ tt) (lit< tt), other 508 (lit≤ tt) (lit< tt), other 510 (lit≤ tt) (lit< tt), other 511 (lit≤ tt) (lit< tt))
  where
    other : (k : ℕ) → 100 ≤ k → k < 1000 → nat_eq n k ≡ false
    other k low high = ne_eqb n k (λ e. omega arith)

short_where : (n : ℕ) → (n < 1000) ⊎ (999 < n) → length (unwrap_or (reason_phrase n) []) ≤ 31
short_where n (inl h) = phrase_short n h
short_where n (inr h) =
    let none : length (unwrap_or (reason_phrase n) []) ≡ 0 = ap (λ o. length (unwrap_or {T = List ℕ} o [])) (phrase_none n (inr h)) in
    omega (arith, none)

pub not_code : (n : ℕ) → ¬ (IsStatusCode n) → (n < 100) ⊎ (999 < n)
not_code n hno =
    elim (cases_lt n 100) [
      | inl low ↦ inl low
      | inr high ↦ elim (cases_lt n 1000) [ inl below ↦ absurd (hno (high, below)) | inr above ↦ inr above ]
    ]

pub phrase_any : (n : ℕ) → length (unwrap_or (reason_phrase n) []) ≤ 31
phrase_any n = short_where n (cases_lt n 1000)

pub written_err : {T : Type 0} (before now : Outgoing) (first second : List ℕ) (e : WriteEnd) (r : Result T WriteEnd)
    → WritesWhole {T = T} before first (Err e) now → r ≡ Err e → WritesWhole before (first ++ second) r now
written_err {T} before now first second e r x is =
    subst (λ z. WritesWhole before (first ++ second) z now) (sym is) (record {
      written = front_of_first before.written first second now.written x.written;
      faults = x.faults;
      stalls = x.stalls;
    })

after_both : {T : Type 0} (before : Option (List ℕ)) (first second : List ℕ) (between : Option (List ℕ)) (r : Result T WriteEnd) (now : Option (List ℕ))
    → Took before first between → IsWritten between second r now → IsWritten before (first ++ second) r now
after_both before first second between (Ok x) now p q = took_both before first second between now p q
after_both before first second between (Err e) now p q = front_of_second before first second between now p q

pub written_both : {T U : Type 0} (before between now : Outgoing) (first second : List ℕ) (done : T) (r : Result U WriteEnd)
    → WritesWhole before first (Ok done) between → WritesWhole between second r now → WritesWhole before (first ++ second) r now
written_both {T} {U} before between now first second done r x y = record {
  written = after_both before.written first second between.written r now.written x.written y.written;
  faults = let P : ℕ → Type 0 = λ n. CountsFault n r now.faults in subst P x.faults y.faults;
  stalls = let P : ℕ → Type 0 = λ n. CountsEnd n r now.stalls in subst P x.stalls y.stalls;
}

regroup : (a b c d e f g : List ℕ) → ((((((a ++ b) ++ c) ++ d) ++ e) ++ f) ++ g) ≡ a ++ (b ++ (c ++ (d ++ (e ++ (f ++ g)))))
regroup a b c d e f g = simp append_assoc

-- line by line the head of a reply
pub head_by_lines : (status code : ℕ) (token : Option (List ℕ)) (close : Bool) (len : ℕ) (h0 h1 h2 h3 h4 h5 h6 h7 : List ℕ)
    → h0 ≡ []
    → h1 ≡ h0 ++ line (codes "HTTP/1.1 " ++ (decimal status ++ (codes " " ++ unwrap_or (reason_phrase status) [])))
    → h2 ≡ h1 ++ line (codes "Content-Type: " ++ content_type status)
    → h3 ≡ h2 ++ line (codes "X-Prpc-Grpc-Code: " ++ decimal code)
    → h4 ≡ h3 ++ token_line token
    → h5 ≡ h4 ++ close_line close
    → h6 ≡ h5 ++ line (codes "Content-Length: " ++ decimal len)
    → h7 ≡ h6 ++ line_end
    → h7 ≡ head_text status code token close len
unfolding head_text
head_by_lines status code token close len h0 h1 h2 h3 h4 h5 h6 h7 e0 e1 e2 e3 e4 e5 e6 e7 =
    e7 ∙ ap (λ h. h ++ line_end) (e6 ∙ ap (λ h. h ++ line (codes "Content-Length: " ++ decimal len))
    (e5 ∙ ap (λ h. h ++ close_line close) (e4 ∙ ap (λ h. h ++ token_line token)
    (e3 ∙ ap (λ h. h ++ line (codes "X-Prpc-Grpc-Code: " ++ decimal code)) (e2 ∙ ap (λ h. h ++ line (codes "Content-Type: " ++ content_type status))
    (e1 ∙ ap (λ h. h ++ line (codes "HTTP/1.1 " ++ (decimal status ++ (codes " " ++ unwrap_or (reason_phrase status) [])))) e0))))))
    ∙ regroup (line (codes "HTTP/1.1 " ++ (decimal status ++ (codes " " ++ unwrap_or (reason_phrase status) [])))) (line (codes "Content-Type: " ++ content_type status))
    (line (codes "X-Prpc-Grpc-Code: " ++ decimal code)) (token_line token) (close_line close) (line (codes "Content-Length: " ++ decimal len)) line_end
