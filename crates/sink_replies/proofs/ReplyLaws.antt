-- Which bytes begin a reply.
use Rattle.std.proofs.Common.{◌≡◌, ℕ, ◌+◌, ◌<◌, ◌≤◌, List, [], ◌∷◌, ◌++◌, length, take, drop, map, codes, sym, ap, ◌∙◌, subst, arith, append_assoc, append-nil, length-append, length-drop, length-take, Bool, is_some, Option, Some, None, Result, Err, MatchBool, MatchOption}
use Rattle.std.proofs.lemmas.List.{take-append-drop, take-append-le, drop_all, length-map}
use Rattle.std.proofs.Math.Seq.{take-append_seam, take-length}
use Rattle.std.specs.Prelude.{All}
use Rattle.std.proofs.lemmas.List.Elements.{All-weaker}
use Rattle.httparse.specs.Grammar.{ResponseHead, ReadsResponse, HasNoResponse, print_response}
use Rattle.httparse.specs.Spans.{IsHeaderWithin, ResponseOverflows, IsResponseAt, IsResponseOf, AreFieldsAt, FindsResponse, header_bytes, name_and_value}
use Rattle.httparse.specs.declared.spans.HeaderSpan.{HeaderSpan}
use Rattle.httparse.specs.declared.spans.ResponseSpans.{ResponseSpans}
use Rattle.httparse.specs.Outcome.{IsCompleteAnd}
use Rattle.httparse.specs.declared.Error.{Error}
use Rattle.httparse.specs.declared.Status.{Status}
use Rattle.httparse.proofs.GrammarLemmas.{response_prefix_free, response_unique}
use Rattle.sink_replies.specs.Ends.{IsHeadAlone}
use Rattle.http_wire.specs.Form.{values_of}
use Rattle.sink_replies.specs.Replies.{IsOneLength, IsReplyHead, HasReply, MayBecomeHead, BeginsNoReply, lengths_in}

-- the head of a reply that stands in front
pub record HasHead (bytes : List ℕ) : Type 0 where
  pub h : ResponseHead
  pub len : ℕ
  pub is_head : IsReplyHead h len
  pub rest : List ℕ
  pub parts : bytes ≡ print_response h ++ rest

pub head_of : (bytes rest : List ℕ) (status : ℕ) → HasReply bytes status rest → HasHead bytes
head_of bytes rest status x = record {
  h = x.is_reply.h;
  len = length x.is_reply.body;
  is_head = x.is_reply.head;
  rest = x.is_reply.body ++ rest;
  parts = x.parts ∙ ap (λ z. z ++ rest) x.is_reply.parts
      ∙ append_assoc (print_response x.is_reply.h) x.is_reply.body rest;
}

pub none_by_heads : (bytes : List ℕ) → ((more : List ℕ) → ¬ (HasHead (bytes ++ more))) → BeginsNoReply bytes
none_by_heads bytes none more rest status x = none more (head_of (bytes ++ more) rest status x)

pub whole_begins_none : (bytes : List ℕ) → BeginsNoReply bytes → (length bytes ≤ length bytes) × BeginsNoReply (take (length bytes) bytes)
whole_begins_none bytes x = (omega arith, subst (λ z. BeginsNoReply z) (sym (take-length bytes)) x)

-- whatever follows, a head in front has too many headers
pub overflown : (bytes : List ℕ) → ResponseOverflows 64 bytes → BeginsNoReply bytes
overflown bytes over =
    none_by_heads bytes (λ more x.
    let many : 64 < length x.h.fields = over more x.h x.rest (x.is_head.head, x.parts) in
    let few : length x.h.fields ≤ 64 = x.is_head.few in
    absurd (omega (arith, many, few)))

front_is : (bytes more front rest : List ℕ) → bytes ++ more ≡ front ++ rest → length front ≤ length bytes → bytes ≡ front ++ drop (length front) bytes
front_is bytes more front rest e fits =
    sym (take-append-drop (length front) bytes)
    ∙ ap (λ z. z ++ drop (length front) bytes)
    (sym (take-append-le (length front) bytes more fits) ∙ ap (take (length front)) e ∙ take-append_seam front rest)

-- as many bytes as a head has at most, and no head in front
pub too_long : (bytes : List ℕ) → HasNoResponse bytes → 16384 ≤ length bytes → BeginsNoReply bytes
too_long bytes none full =
    none_by_heads bytes (λ more x.
    let short : length (print_response x.h) ≤ 16384 = x.is_head.short in
    let fits : length (print_response x.h) ≤ length bytes = omega (arith, short, full) in
    none x.h (drop (length (print_response x.h)) bytes) (x.is_head.head, front_is bytes more (print_response x.h) x.rest x.parts fits))

-- a whole head that is none of a reply
pub other_head : (bytes : List ℕ) (h : ResponseHead) (rest : List ℕ) (len : ℕ) → ReadsResponse bytes h rest
    → len ≡ length (print_response h) → ((n : ℕ) → ¬ (IsOneLength (lengths_in h) n))
    → (len ≤ length bytes) × BeginsNoReply (take len bytes)
other_head bytes h rest len reads is none =
    let total : length bytes ≡ length (print_response h) + length rest = ap length reads.1 ∙ length-append (print_response h) rest in
    let front : take len bytes ≡ print_response h = ap (λ n. take n bytes) is ∙ ap (take (length (print_response h))) reads.1 ∙ take-append_seam (print_response h) rest in (
      omega (arith, total, is),
      none_by_heads (take len bytes) (λ more x.
          let same = response_prefix_free (take len bytes) more h x.h [] x.rest (reads.0, front ∙ sym (append-nil (print_response h))) (x.is_head.head, x.parts) in
          none x.len (subst (λ k. IsOneLength (lengths_in k) x.len) (sym same.0) x.is_head.announced)),
    )

pub headers_within : (len : ℕ) (bytes : List ℕ) (headers : List HeaderSpan) → len ≤ length bytes → All (IsHeaderWithin len) headers
    → All (IsHeaderWithin (length bytes)) headers
headers_within len bytes headers fits all =
    All-weaker (IsHeaderWithin len) (IsHeaderWithin (length bytes)) (λ h w. ((w.0.0, omega (arith, w.0.1, fits)), (w.1.0, omega (arith, w.1.1, fits)))) headers all

-- the values that were found are those of the head
pub same_lengths : (bytes : List ℕ) (headers : List HeaderSpan) (spans : ResponseSpans) (h : ResponseHead) → IsResponseAt bytes headers spans h
    → values_of (codes "content-length") (map (header_bytes bytes) (take spans.headers headers)) ≡ lengths_in h
same_lengths bytes headers spans h at = ap (values_of (codes "content-length")) at.fields

-- ---- bytes that are a head alone

-- the one head that they are
alone_is : (bytes : List ℕ) (headers : List HeaderSpan) (spans : ResponseSpans) (at : IsResponseOf bytes headers spans) (a : IsHeadAlone bytes)
    → (at.0 ≡ a.h) × (drop spans.len bytes ≡ [])
alone_is bytes headers spans at a =
    response_unique bytes at.0 a.h (drop spans.len bytes) [] at.1.reads (a.is_head.head, a.parts ∙ sym (append-nil (print_response a.h)))

pub not_alone : (bytes : List ℕ) (headers : List HeaderSpan) (spans : ResponseSpans) → IsResponseOf bytes headers spans → spans.len < length bytes
    → ¬ (IsHeadAlone bytes)
not_alone bytes headers spans at less a =
    let n = ap length (alone_is bytes headers spans at a).1 in
    let m = length-drop spans.len bytes in
    omega (arith, n, m, less)

few_fields : (bytes : List ℕ) (headers : List HeaderSpan) (count : ℕ) (h : ResponseHead) → AreFieldsAt bytes headers count h.fields → length headers ≤ 64
    → length h.fields ≤ 64
few_fields bytes headers count h are few =
    let a = ap length are in
    let b = length-map (take count headers) (header_bytes bytes) in
    let c = length-map h.fields name_and_value in
    let d = length-take count headers in
    omega (arith, a, b, c, d, few)

pub alone_by_length : (bytes : List ℕ) (headers : List HeaderSpan) (spans : ResponseSpans) (found : Option ℕ) (is : Bool) → is ≡ is_some found
    → MatchOption found
    ((n : ℕ) → ¬ (IsOneLength (values_of (codes "content-length") (map (header_bytes bytes) (take spans.headers headers))) n))
    (IsOneLength (values_of (codes "content-length") (map (header_bytes bytes) (take spans.headers headers))))
    → IsResponseOf bytes headers spans → length bytes ≤ spans.len → length bytes ≤ 16384 → length headers ≤ 64
    → MatchBool is (IsHeadAlone bytes) (¬ (IsHeadAlone bytes))
alone_by_length bytes headers spans found is is_so one at whole short few =
    subst (λ b. MatchBool b (IsHeadAlone bytes) (¬ (IsHeadAlone bytes))) (sym is_so) (by_found found one)
  where
    same : values_of (codes "content-length") (map (header_bytes bytes) (take spans.headers headers)) ≡ lengths_in at.0
    same = same_lengths bytes headers spans at.0 at.1

    all : bytes ≡ print_response at.0
    all = at.1.reads.1 ∙ ap (λ z. print_response at.0 ++ z) (drop_all spans.len bytes whole) ∙ append-nil (print_response at.0)

    by_found : (o : Option ℕ)
        → MatchOption o
        ((n : ℕ) → ¬ (IsOneLength (values_of (codes "content-length") (map (header_bytes bytes) (take spans.headers headers))) n))
        (IsOneLength (values_of (codes "content-length") (map (header_bytes bytes) (take spans.headers headers))))
        → MatchBool (is_some o) (IsHeadAlone bytes) (¬ (IsHeadAlone bytes))
    by_found None none =
        λ a. none a.len (subst (λ vs. IsOneLength vs a.len) (ap lengths_in (sym (alone_is bytes headers spans at a).0) ∙ sym same) a.is_head.announced)
    by_found (Some n) announced =
        record {
          h = at.0;
          len = n;
          is_head = record {
            head = at.1.reads.0;
            short = (let m = ap length all in omega (arith, m, short));
            few = few_fields bytes headers spans.headers at.0 at.1.fields few;
            announced = subst (λ vs. IsOneLength vs n) same announced;
          };
          parts = all;
        }

pub no_head_alone : (bytes : List ℕ) → HasNoResponse bytes → ¬ (IsHeadAlone bytes)
no_head_alone bytes none a = none a.h [] (a.is_head.head, a.parts ∙ sym (append-nil (print_response a.h)))

-- a head of few headers is read
pub not_read : (bytes : List ℕ) (headers : List HeaderSpan) (e : Error) (r : Result (Status ResponseSpans) Error) → r ≡ Err e
    → FindsResponse bytes 64 headers r → ¬ (IsHeadAlone bytes)
not_read bytes headers e r is finds a =
    subst (λ z. IsCompleteAnd z (λ s. IsResponseAt bytes headers s a.h)) is
    (finds a.h [] (a.is_head.head, a.parts ∙ sym (append-nil (print_response a.h))) a.is_head.few)

-- ---- bytes that may become one

pub becomes : (bytes more : List ℕ) → IsHeadAlone (bytes ++ more) → MayBecomeHead bytes
becomes bytes more a = (more, a.h, a.len, a.is_head, a.parts)

-- they are fewer than a head may have
pub begun_short : (bytes : List ℕ) → MayBecomeHead bytes → HasNoResponse bytes → length bytes < 16384
begun_short bytes may none = by_more may.0 may.1 may.2 may.3 may.4
  where
    by_more : (more : List ℕ) (h : ResponseHead) (len : ℕ) → IsReplyHead h len → bytes ++ more ≡ print_response h → length bytes < 16384
    by_more [] h len is e = absurd (none h [] (is.head, sym (append-nil bytes) ∙ e ∙ sym (append-nil (print_response h))))
    by_more (c ∷ more) h len is e =
        let a = ap length e in let b = length-append bytes (c ∷ more) in let d = is.short in omega (arith, a, b, d)

pub too_long_alone : (bytes : List ℕ) → 16384 < length bytes → ¬ (IsHeadAlone bytes)
too_long_alone bytes long a = let n = ap length a.parts in let m = a.is_head.short in omega (arith, n, m, long)

pub becomes_by_rest : (bytes text : List ℕ) → (k : ℕ) × IsHeadAlone (bytes ++ drop k text) → MayBecomeHead bytes
becomes_by_rest bytes text x = becomes bytes (drop x.0 text) x.1
