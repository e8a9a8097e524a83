-- From what httparse reads in a head to what the head says.
use Rattle.std.proofs.Common.{◌≡◌, ℕ, ◌<◌, ◌≤◌, List, [], length, take, map, codes, Option, Some, None, Bool, sym, ap, ◌∙◌, subst, arith, append-nil}
use Rattle.std.specs.Prelude.{◌||◌, ◌==◌, not}
use Rattle.std.specs.List.{list_any}
use Rattle.std.specs.Option.{option_map}
use Rattle.std.specs.Str.{bytes_eq}
use Rattle.std.proofs.lemmas.Bool.{lt-ltb, le-ltb}
use Rattle.httparse.specs.declared.spans.HeaderSpan.{HeaderSpan}
use Rattle.httparse.specs.declared.spans.RequestSpans.{RequestSpans}
use Rattle.httparse.specs.Grammar.{RequestHead, print_request, ReadsRequest}
use Rattle.httparse.specs.Spans.{IsRequestAt, header_bytes, span_bytes}
use Rattle.http_wire.specs.Form.{values_of, fields_of, has_close, length_of, is_post}
use Rattle.http_wire.specs.Faults.{Sign, first_there, length_signs, field_signs, head_signs, header_limit}
use Rattle.http_wire.specs.Says.{IsTheText, IsAlone, IsBearer}
use Rattle.http_wire.specs.Stream.{IsRead}
use Rattle.http_wire.specs.declared.message.WireFault.{WireFault}
use Rattle.http_wire.specs.declared.message.WireFault.TheVariants.{TooManyHeaders}
use Rattle.http_wire.specs.declared.request.Request.{Request}
use Rattle.http_wire.specs.Announced.{IsRequest, IsFaulty}
use Rattle.http_wire.specs.Scan.{head_end}
use Rattle.http_wire.proofs.RequestLaws.{request_ends}

pub read_lines : (head : List ℕ) (n lines : ℕ) (h : RequestHead) → head_end head ≡ Some (n, lines) → ReadsRequest head h [] → lines ≡ length h.fields
read_lines head n lines h e x =
    let both : ◌≡◌ {A = Option (ℕ × ℕ)} (Some (n, lines)) (Some (length (print_request h), length h.fields)) = sym e ∙ request_ends head h [] x in
    let pair : ◌≡◌ {A = ℕ × ℕ} (n, lines) (length (print_request h), length h.fields) = cc in
    ap (λ (p : ℕ × ℕ). p.1) pair

-- ---- faults

pub too_many : (head : List ℕ) (lines : ℕ) → header_limit < lines → IsFaulty head lines TooManyHeaders
too_many head lines many = record {
  read = None;
  is_read = λ few. absurd (omega (arith, few, many));
  first = rw (lt-ltb header_limit lines many);
}

-- the fields that were found, and those of the head
abbrev pub found_in : List ℕ → List HeaderSpan → RequestSpans → List (List ℕ × List ℕ)
found_in head headers r = map (header_bytes head) (take r.headers headers)

abbrev signs_at : Bool → ℕ → List (List ℕ × List ℕ) → List Sign
signs_at post end fields = length_signs post end (values_of (codes "content-length") fields) (values_of (codes "transfer-encoding") fields)

behind_lines : (end lines : ℕ) (h : RequestHead) → lines ≤ header_limit → first_there (field_signs end h) ≡ first_there (head_signs end lines (Some h))
behind_lines end lines h few = rw (le-ltb header_limit lines few)

signs_same : (head : List ℕ) (headers : List HeaderSpan) (r : RequestSpans) (h : RequestHead) (lines : ℕ) (post : Bool) → IsRequestAt head headers r h
    → lines ≤ header_limit → post ≡ bytes_eq (span_bytes head r.method) (codes "POST")
    → first_there (signs_at post (length head) (found_in head headers r)) ≡ first_there (head_signs (length head) lines (Some h))
signs_same head headers r h lines post at few is =
    ap (λ b. first_there (signs_at b (length head) (found_in head headers r))) (is ∙ ap (λ m. bytes_eq m (codes "POST")) at.method)
    ∙ ap (λ fs. first_there (signs_at (is_post h) (length head) fs)) at.fields
    ∙ behind_lines (length head) lines h few

pub read_of : (head : List ℕ) (lines : ℕ) (h : RequestHead) → lines ≤ header_limit → ReadsRequest head h [] → IsRead head lines (Some h)
read_of head lines h few x = (few, x.0, x.1 ∙ append-nil (print_request h))

-- the fields have this fault
pub faulty_fields : (head : List ℕ) (headers : List HeaderSpan) (r : RequestSpans) (h : RequestHead) (lines : ℕ) (post : Bool) (fault : WireFault)
    → IsRequestAt head headers r h → ReadsRequest head h [] → lines ≤ header_limit → post ≡ bytes_eq (span_bytes head r.method) (codes "POST")
    → first_there (signs_at post (length head) (found_in head headers r)) ≡ Some fault → IsFaulty head lines fault
faulty_fields head headers r h lines post fault at x few is first = record {
  read = Some h;
  is_read = read_of head lines h few x;
  first = sym (signs_same head headers r h lines post at few is) ∙ first;
}

-- ---- what is said

closes_same : (head : List ℕ) (headers : List HeaderSpan) (r : RequestSpans) (h : RequestHead) (post close : Bool) → IsRequestAt head headers r h
    → post ≡ bytes_eq (span_bytes head r.method) (codes "POST") → close ≡ list_any has_close (values_of (codes "connection") (found_in head headers r))
    → (not post || r.version == 0 || close) ≡ (not (is_post h) || h.minor == 0 || list_any has_close (values_of (codes "connection") (fields_of h)))
closes_same head headers r h post close at is found =
    ap (λ b. not b || r.version == 0 || close) (is ∙ ap (λ m. bytes_eq m (codes "POST")) at.method)
    ∙ ap (λ (v : ℕ). not (is_post h) || v == 0 || close) at.version
    ∙ ap (λ b. not (is_post h) || h.minor == 0 || b) (found ∙ ap (λ fs. list_any has_close (values_of (codes "connection") fs)) at.fields)

-- what stands under the names says what the head says
pub request_by : (head : List ℕ) (headers : List HeaderSpan) (r : RequestSpans) (h : RequestHead) (lines : ℕ) (s : Request) (close : Bool) → IsRequestAt head headers r h
    → ReadsRequest head h [] → lines ≤ header_limit → s.is_post ≡ bytes_eq (span_bytes head r.method) (codes "POST")
    → close ≡ list_any has_close (values_of (codes "connection") (found_in head headers r)) → s.close ≡ (not s.is_post || r.version == 0 || close)
    → (first_there (signs_at s.is_post (length head) (found_in head headers r)) ≡ None) × (s.len ≡ length_of (values_of (codes "content-length") (found_in head headers r)))
    → s.target.now ≡ span_bytes head r.path
    → IsTheText (IsBearer (values_of (codes "authorization") (found_in head headers r))) (option_map (λ t. t.now) s.bearer)
    → IsTheText (IsAlone (values_of (codes "update-token") (found_in head headers r))) (option_map (λ t. t.now) s.update_token)
    → IsRequest head lines s
request_by head headers r h lines s close at x few post found closes announced target bearer token = record {
  h = h;
  read = read_of head lines h few x;
  sound = sym (signs_same head headers r h lines s.is_post at few post) ∙ announced.0;
  len = announced.1 ∙ ap (λ fs. length_of (values_of (codes "content-length") fs)) at.fields;
  said = record {
    target = target ∙ at.path;
    bearer = subst (λ fs. IsTheText (IsBearer (values_of (codes "authorization") fs)) (option_map (λ t. t.now) s.bearer)) at.fields bearer;
    update_token = subst (λ fs. IsTheText (IsAlone (values_of (codes "update-token") fs)) (option_map (λ t. t.now) s.update_token)) at.fields token;
    post = post ∙ ap (λ m. bytes_eq m (codes "POST")) at.method;
    close = closes ∙ closes_same head headers r h s.is_post close at post found;
  };
}
