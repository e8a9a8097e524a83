-- A head of the grammar is the text of a head, with a line for each field.
use Rattle.std.proofs.Common.{inl, inr, Some, ◌≡◌, ◌≢◌, ℕ, ◌+◌, ◌<◌, Bool, true, false, List, [], ◌∷◌, ◌++◌, length, map, refl, sym, ap, ◌∙◌, arith, append_assoc, append-nil}
use Rattle.std.proofs.lemmas.List.{length-map}
use Rattle.std.proofs.lemmas.List.Elements.{recursion_from_All}
use Rattle.std.specs.List.{flat_map, AllByRecursion}
use Rattle.std.specs.Prelude.{IsTrue}
use Rattle.httparse.specs.Grammar.{LineEnd, crlf, lf, print_end, print_blank, print_version, Field, print_field, IsField, print_section, RequestHead, print_request, IsRequestHead, ReadsRequest, IsToken, AllPass, is_token_byte, is_uri_byte, is_value_byte}
use Rattle.httparse.proofs.GrammarLemmas.{print_request-append, cons-append}
use Rattle.http_wire.specs.Head.{line_bytes, lines_bytes, IsEmptyText, IsFilledText, IsHeadText}
use Rattle.http_wire.proofs.ScanLaws.{filled_one, end_of_head}
use Rattle.http_wire.specs.Scan.{head_end}

abbrev NoFeed : List ℕ → Type 0
NoFeed text = AllByRecursion (λ b. b ≢ 10) text

no_feed-append : (xs ys : List ℕ) → NoFeed xs → NoFeed ys → NoFeed (xs ++ ys)
no_feed-append [] ys a b = b
no_feed-append (x ∷ xs) ys a b = (a.0, no_feed-append xs ys a.1 b)

-- bytes that pass a test which this one fails are others
other_byte : (test : ℕ → Bool) (b c : ℕ) → test c ≡ false → IsTrue (test b) → b ≢ c
other_byte test b c fail pass = λ (e : b ≡ c). let bad : true ≡ false = sym pass ∙ ap test e ∙ fail in cc

passing : (test : ℕ → Bool) → test 10 ≡ false → (bs : List ℕ) → AllByRecursion (λ b. IsTrue (test b)) bs → NoFeed bs
passing test fail [] all = tt
passing test fail (b ∷ bs) all = (other_byte test b 10 fail all.0, passing test fail bs all.1)

no_feed_from : (test : ℕ → Bool) → test 10 ≡ false → (bs : List ℕ) → AllPass test bs → NoFeed bs
no_feed_from test fail bs all = passing test fail bs (recursion_from_All (λ b. IsTrue (test b)) bs all)

token_feed : is_token_byte 10 ≡ false
unfolding is_token_byte
token_feed = refl

token_return : is_token_byte 13 ≡ false
unfolding is_token_byte
token_return = refl

-- a line that begins with a token
token_filled : (token rest : List ℕ) → 0 < length token → AllByRecursion (λ b. IsTrue (is_token_byte b)) token → NoFeed rest → IsFilledText (token ++ rest)
token_filled [] rest some all ok = absurd (omega arith)
token_filled (b ∷ bs) rest some all ok =
    filled_one b (bs ++ rest) (other_byte is_token_byte b 10 token_feed all.0) (other_byte is_token_byte b 13 token_return all.0)
    (no_feed-append bs rest (passing is_token_byte token_feed bs all.1) ok)

starts_filled : (token rest : List ℕ) → IsToken token → NoFeed rest → IsFilledText (token ++ rest)
starts_filled token rest is ok = token_filled token rest is.0 (recursion_from_All (λ b. IsTrue (is_token_byte b)) token is.1) ok

-- what a line's end has before its LF
abbrev end_text : LineEnd → List ℕ
end_text crlf = 13 ∷ []
end_text lf = []

end_empty : (end : LineEnd) → IsEmptyText (end_text end)
end_empty crlf = inr refl
end_empty lf = inl refl

end_no_feed : (end : LineEnd) → NoFeed (end_text end)
end_no_feed crlf = ((λ (e : 13 ≡ 10). omega arith), tt)
end_no_feed lf = tt

end_bytes : (end : LineEnd) (rest : List ℕ) → end_text end ++ 10 ∷ rest ≡ print_end end ++ rest
end_bytes crlf rest = refl
end_bytes lf rest = refl

end_line : (end : LineEnd) → line_bytes (end_text end) ≡ print_end end
end_line crlf = refl
end_line lf = refl

blank_bytes : (ends : List LineEnd) → lines_bytes (map end_text ends) ≡ print_blank ends
blank_bytes [] = refl
blank_bytes (end ∷ ends) = ap (λ x. x ++ lines_bytes (map end_text ends)) (end_line end) ∙ ap (λ x. print_end end ++ x) (blank_bytes ends)

blank_empty : (ends : List LineEnd) → AllByRecursion IsEmptyText (map end_text ends)
blank_empty [] = tt
blank_empty (end ∷ ends) = (end_empty end, blank_empty ends)

-- ---- fields

abbrev field_text : Field → List ℕ
field_text f = f.name ++ 58 ∷ (f.raw ++ end_text f.end)

field_regroup : (n r e : List ℕ) → (n ++ 58 ∷ (r ++ e)) ++ 10 ∷ [] ≡ (n ++ 58 ∷ r) ++ (e ++ 10 ∷ [])
field_regroup n r e = simp (append_assoc, cons-append)

field_bytes : (f : Field) → line_bytes (field_text f) ≡ print_field f
field_bytes f = field_regroup f.name f.raw (end_text f.end) ∙ ap (λ x. (f.name ++ 58 ∷ f.raw) ++ x) (end_line f.end)

fields_bytes : (fs : List Field) → lines_bytes (map field_text fs) ≡ flat_map print_field fs
fields_bytes [] = refl
fields_bytes (f ∷ fs) = ap (λ x. x ++ lines_bytes (map field_text fs)) (field_bytes f) ∙ ap (λ x. print_field f ++ x) (fields_bytes fs)

field_filled : (f : Field) → IsField f → IsFilledText (field_text f)
field_filled f is =
    starts_filled f.name (58 ∷ (f.raw ++ end_text f.end)) is.name
    ((λ (e : 58 ≡ 10). omega arith), no_feed-append f.raw (end_text f.end) (no_feed_from is_value_byte refl f.raw is.raw) (end_no_feed f.end))

fields_filled : (fs : List Field) → AllByRecursion IsField fs → AllByRecursion IsFilledText (map field_text fs)
fields_filled [] all = tt
fields_filled (f ∷ fs) all = (field_filled f all.0, fields_filled fs all.1)

-- ---- the first line

abbrev first_text : RequestHead → List ℕ
first_text h = h.method ++ 32 ∷ (h.target ++ 32 ∷ (print_version h.minor ++ end_text h.line_end))

version_no_feed : (minor : ℕ) → NoFeed (print_version minor)
version_no_feed minor = (
  (λ (e : 72 ≡ 10). omega arith),
  (
    (λ (e : 84 ≡ 10). omega arith),
    (
      (λ (e : 84 ≡ 10). omega arith),
      (
        (λ (e : 80 ≡ 10). omega arith),
        (
          (λ (e : 47 ≡ 10). omega arith),
          (
            (λ (e : 49 ≡ 10). omega arith),
            (
              (λ (e : 46 ≡ 10). omega arith),
              ((λ (e : 48 + minor ≡ 10). omega arith), tt),
            ),
          ),
        ),
      ),
    ),
  ),
)

first_filled : (h : RequestHead) → IsRequestHead h → IsFilledText (first_text h)
first_filled h is =
    let version = no_feed-append (print_version h.minor) (end_text h.line_end) (version_no_feed h.minor) (end_no_feed h.line_end) in
    let target = no_feed-append h.target (32 ∷ (print_version h.minor ++ end_text h.line_end))
    (no_feed_from is_uri_byte refl h.target is.target.1) ((λ (e : 32 ≡ 10). omega arith), version) in
    starts_filled h.method (32 ∷ (h.target ++ 32 ∷ (print_version h.minor ++ end_text h.line_end))) is.method ((λ (e : 32 ≡ 10). omega arith), target)

first_regroup : (m t v e r : List ℕ) → ((m ++ 32 ∷ (t ++ 32 ∷ (v ++ e))) ++ 10 ∷ []) ++ r ≡ m ++ 32 ∷ (t ++ 32 ∷ (v ++ (e ++ 10 ∷ r)))
first_regroup m t v e r = simp (append_assoc, cons-append)

first_bytes : (h : RequestHead) (rest : List ℕ) → line_bytes (first_text h) ++ rest
    ≡ h.method ++ 32 ∷ (h.target ++ 32 ∷ (print_version h.minor ++ (print_end h.line_end ++ rest)))
first_bytes h rest =
    first_regroup h.method h.target (print_version h.minor) (end_text h.line_end) rest
    ∙ ap (λ x. h.method ++ 32 ∷ (h.target ++ 32 ∷ (print_version h.minor ++ x))) (end_bytes h.line_end rest)

-- ---- the head

request_bytes : (h : RequestHead) → print_request h
    ≡ lines_bytes (map end_text h.blank) ++ (line_bytes (first_text h) ++ (lines_bytes (map field_text h.fields) ++ line_bytes (end_text h.last)))
request_bytes h =
    sym (append-nil (print_request h)) ∙ print_request-append h []
    ∙ ap (λ x. print_blank h.blank ++ (h.method ++ 32 ∷ (h.target ++ 32 ∷ (print_version h.minor ++ (print_end h.line_end ++ x)))))
    (append-nil (print_section h.fields h.last)
    ∙ ap (λ x. x ++ print_end h.last) (sym (fields_bytes h.fields)) ∙ ap (λ x. lines_bytes (map field_text h.fields) ++ x) (sym (end_line h.last)))
    ∙ ap (λ x. print_blank h.blank ++ x) (sym (first_bytes h (lines_bytes (map field_text h.fields) ++ line_bytes (end_text h.last))))
    ∙ ap (λ x. x ++ (line_bytes (first_text h) ++ (lines_bytes (map field_text h.fields) ++ line_bytes (end_text h.last)))) (sym (blank_bytes h.blank))

pub request_is_head : (h : RequestHead) → IsRequestHead h → IsHeadText (print_request h) (length h.fields)
request_is_head h is = record {
  before = map end_text h.blank;
  first = first_text h;
  headers = map field_text h.fields;
  last = end_text h.last;
  lines = request_bytes h;
  before_empty = blank_empty h.blank;
  first_filled = first_filled h is;
  headers_filled = fields_filled h.fields (recursion_from_All IsField h.fields is.fields);
  last_empty = end_empty h.last;
  counted = sym (length-map h.fields field_text);
}

-- Where a head of the grammar stands in front, it is where the search ends.
pub request_ends : (buf : List ℕ) (h : RequestHead) (rest : List ℕ) → ReadsRequest buf h rest → head_end buf ≡ Some (length (print_request h), length h.fields)
request_ends buf h rest x = ap head_end x.1 ∙ end_of_head (print_request h) rest (length h.fields) (request_is_head h x.0)
