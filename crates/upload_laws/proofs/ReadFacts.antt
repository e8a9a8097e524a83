-- Values that are written of texts are values that a text of JSON is read to.
use Rattle.std.proofs.Common.{◌≡◌, ◌≤◌, ◌<◌, ℕ, zero, suc, Bool, true, false, List, [], ◌∷◌, ◌++◌, Option, Some, None, option_map, option_and_then, refl, sym, ap, subst, ◌∙◌, arith, IsUtf8}
use Rattle.std.specs.Prelude.{⊤, All, if◌then◌else◌}
use Rattle.std.specs.Char.{is_ascii_digit}
use Rattle.std.specs.List.{list_all}
use Rattle.std.specs.Option.{ForSome}
use Rattle.std.specs.Ordering.{nat_cmp, match_ordering, ordering_reverse}
use Rattle.std.specs.Str.{IsAscii, is_utf8}
use Rattle.std.specs.Cmp.Lexicographic.{slice_cmp}
use Rattle.std.specs.declared.cmp.Ordering.{Ordering}
use Rattle.std.specs.declared.cmp.Ordering.TheVariants.{Less, Equal, Greater}
use Rattle.std.proofs.lemmas.Bool.{and_parts}
use Rattle.std.proofs.lemmas.Bool.Decides.{nat_tests}
use Rattle.std.proofs.lemmas.Cmp.{nat_list_cmp_total}
use Rattle.std.proofs.lemmas.List.Elements.{All-head, All-tail}
use Rattle.std.proofs.lemmas.Str.{IsUtf8-append, IsUtf8-from_ascii, IsUtf8-from_is_utf8, IsUtf8-nil}
use Rattle.json.proofs.Printed.Utf8.{IsUtf8-are_ascii}
use Rattle.serde_json.specs.Data.{Data, string, Members, no_members, member, put}
use Rattle.serde_json.specs.Read.{read}
use Rattle.moments_spans.specs.MomentGrammar.{IsDecimals, none, some}
use Rattle.moments_spans.specs.Spans.{most_span, span_text}
use Rattle.moments_spans.proofs.SpanLaws.{printed_span_is_read}
use Rattle.moments_spans.proofs.SpanTexts.{said_of_text}
use Rattle.names_realms.specs.declared.states.Status.{Status}
use Rattle.names_realms.specs.declared.states.Status.TheVariants.{Pass, Fail, Crash, Abort, Skip}
use Rattle.json_fields.specs.Names.{NameForm}
use Rattle.json_fields.specs.Writing.{list_data}
use Rattle.json_fields.specs.declared.faults.FieldFault.{FieldFault}
use Rattle.text_kinds.specs.Statuses.{status_name}
use Rattle.field_kinds.specs.Properties.{a_properties, empty_object}
use Rattle.field_kinds.proofs.ReadLaws.{value_of_text}
use Rattle.field_kinds.proofs.ReadValues.{AreReadMembers, IsBelow, IsReadValue}
use Rattle.form_fields.specs.Members.{object_of, put_all, put_some}
use Rattle.result_forms.specs.Names as name
use Rattle.result_forms.specs.Shown.{as_text, flag_shown, properties_shown, reason_of, reason_shown, right_object, span_data, text_shown, unless_empty, unless_faulty}

-- ---- objects and lists

below_put : (l k : List ℕ) (d : Data) (ms : Members) → slice_cmp nat_cmp l k ≡ Less → IsBelow l ms → IsBelow l (put k d ms)
below_put l k d no_members less below = less
below_put l k d (member j e ms) less below = at_order (slice_cmp nat_cmp k j)
  where
    at_order : (o : Ordering) → IsBelow l (match_ordering o (member k d (member j e ms)) (member j d ms) (member j e (put k d ms)))
    at_order Less = less
    at_order Equal = below
    at_order Greater = below

above : (k j : List ℕ) → slice_cmp nat_cmp k j ≡ Greater → slice_cmp nat_cmp j k ≡ Less
above k j e = nat_list_cmp_total.antisymm j k ∙ ap ordering_reverse e

put_at : (k : List ℕ) (d : Data) (j : List ℕ) (e : Data) (ms : Members) (o : Ordering) → slice_cmp nat_cmp k j ≡ o → IsUtf8 k → IsReadValue d
    → AreReadMembers (member j e ms) → AreReadMembers (put k d ms)
    → AreReadMembers (match_ordering o (member k d (member j e ms)) (member j d ms) (member j e (put k d ms)))
put_at k d j e ms Less same u is all later = (u, is, same, all)
put_at k d j e ms Equal same u is all later = (all.0, is, all.2, all.3)
put_at k d j e ms Greater same u is all later = (all.0, all.1, below_put j k d ms (above k j same) all.2, later)

put_read : (k : List ℕ) (d : Data) (ms : Members) → IsUtf8 k → IsReadValue d → AreReadMembers ms → AreReadMembers (put k d ms)
put_read k d no_members u is all = (u, is, tt, tt)
put_read k d (member j e ms) u is all = put_at k d j e ms (slice_cmp nat_cmp k j) refl u is all (put_read k d ms u is all.3)

-- a member that may be left out, and such members
abbrev pub MayBeRead : NameForm → Option Data → Type 0
MayBeRead n None = ⊤
MayBeRead n (Some d) = IsUtf8 n.camel × IsReadValue d

abbrev pub AreRead : List (NameForm × Option Data) → Type 0
AreRead [] = ⊤
AreRead (m ∷ rest) = MayBeRead m.0 m.1 × AreRead rest

some_read : (n : NameForm) (o : Option Data) (ms : Members) → MayBeRead n o → AreReadMembers ms → AreReadMembers (put_some n o ms)
some_read n None ms may all = all
some_read n (Some d) ms may all = put_read n.camel d ms may.0 may.1 all

all_read : (members : List (NameForm × Option Data)) → AreRead members → AreReadMembers (put_all members no_members)
all_read [] each = tt
all_read (m ∷ rest) each = some_read m.0 m.1 (put_all rest no_members) each.0 (all_read rest each.1)

pub object_read : (members : List (NameForm × Option Data)) → AreRead members → IsReadValue (object_of members)
object_read members each = all_read members each

pub list_read : {A : Type 0} (json : A → Data) (xs : List A) → All (λ x. IsReadValue (json x)) xs → IsReadValue (list_data json xs)
list_read json [] all = tt
list_read {A} json (x ∷ xs) all =
    (All-head (λ (y : A). IsReadValue (json y)) x xs all, list_read json xs (All-tail (λ (y : A). IsReadValue (json y)) x xs all))

-- ---- texts

as_text_utf8 : (bytes : List ℕ) → IsUtf8 (as_text bytes)
as_text_utf8 bytes =
    elim (is_utf8 bytes) as (λ t. is_utf8 bytes ≡ t → IsUtf8 (if t then bytes else [])) [
      | true ↦ λ e. IsUtf8-from_is_utf8 bytes e
      | false ↦ λ e. IsUtf8-nil
    ] refl

filled_read : (n : NameForm) (text : List ℕ) → IsUtf8 n.camel → IsUtf8 text → MayBeRead n (unless_empty text)
filled_read n [] u is = tt
filled_read n (b ∷ bs) u is = (u, is)

pub text_read : (n : NameForm) (text : List ℕ) → IsUtf8 n.camel → MayBeRead n (text_shown text)
text_read n text u = filled_read n (as_text text) u (as_text_utf8 text)

reason_part : (o : Option Data) → MayBeRead name.primary_error_message o → MayBeRead name.failure_reason (option_map reason_of o)
reason_part None may = tt
reason_part (Some d) may =
    (IsUtf8-are_ascii name.failure_reason.camel refl, object_read ((name.primary_error_message, Some d) ∷ []) (may, tt))

pub reason_read : (text : List ℕ) → MayBeRead name.failure_reason (reason_shown text)
reason_read text =
    reason_part (text_shown text) (text_read name.primary_error_message text (IsUtf8-are_ascii name.primary_error_message.camel refl))

pub flag_read : (n : NameForm) (on : Bool) → IsUtf8 n.camel → MayBeRead n (flag_shown on)
flag_read n true u = (u, tt)
flag_read n false u = tt

pub status_read : (s : Status) → MayBeRead name.status (Some (string (status_name s)))
status_read Pass = (IsUtf8-are_ascii name.status.camel refl, IsUtf8-are_ascii (status_name Pass) refl)
status_read Fail = (IsUtf8-are_ascii name.status.camel refl, IsUtf8-are_ascii (status_name Fail) refl)
status_read Crash = (IsUtf8-are_ascii name.status.camel refl, IsUtf8-are_ascii (status_name Crash) refl)
status_read Abort = (IsUtf8-are_ascii name.status.camel refl, IsUtf8-are_ascii (status_name Abort) refl)
status_read Skip = (IsUtf8-are_ascii name.status.camel refl, IsUtf8-are_ascii (status_name Skip) refl)

-- ---- spans

one_ascii : (x : ℕ) → x < 128 → IsAscii (x ∷ [])
one_ascii x small zero = small
one_ascii x small (suc i) = omega arith

ascii_then : (x : ℕ) (xs : List ℕ) → x < 128 → IsUtf8 xs → IsUtf8 (x ∷ xs)
ascii_then x xs small u = IsUtf8-append (x ∷ []) xs (IsUtf8-from_ascii (x ∷ []) (one_ascii x small)) u

digit_low : (b : ℕ) → is_ascii_digit b ≡ true → b < 128
digit_low b e = grind (arith, nat_tests)

digits_utf8 : (digits rest : List ℕ) → list_all is_ascii_digit digits ≡ true → IsUtf8 rest → IsUtf8 (digits ++ rest)
digits_utf8 [] rest all u = u
digits_utf8 (b ∷ bs) rest all u =
    let parts = and_parts (is_ascii_digit b) (list_all is_ascii_digit bs) all in
    ascii_then b (bs ++ rest) (digit_low b parts.0) (digits_utf8 bs rest parts.1 u)

decimals_utf8 : (text rest : List ℕ) (micros : ℕ) → IsDecimals text micros → IsUtf8 rest → IsUtf8 (text ++ rest)
decimals_utf8 text rest micros (none is _) u = subst (λ (t : List ℕ). IsUtf8 (t ++ rest)) (sym is) u
decimals_utf8 text rest micros (some digits all count is _) u =
    subst (λ (t : List ℕ). IsUtf8 (t ++ rest)) (sym is) (ascii_then 46 (digits ++ rest) (omega arith) (digits_utf8 digits rest all u))

span_utf8 : (span : ℕ) → span ≤ most_span → IsUtf8 (span_text span)
span_utf8 span few =
    let said = said_of_text (span_text span) span (printed_span_is_read span few) in
    subst IsUtf8 (sym said.spelled)
    (digits_utf8 said.digits (said.decimals_text ++ 115 ∷ []) said.are_digits
    (decimals_utf8 said.decimals_text (115 ∷ []) said.fraction said.decimals (IsUtf8-are_ascii (115 ∷ []) refl)))

pub span_read : (o : Option ℕ) → ForSome o (λ span. span ≤ most_span) → MayBeRead name.duration (option_map span_data o)
span_read None few = tt
span_read (Some span) few = (IsUtf8-are_ascii name.duration.camel refl, span_utf8 span (few span refl))

-- ---- properties

kept_read : (d : Data) (t : Bool) → IsReadValue d → MayBeRead name.properties (if t then None else Some d)
kept_read d true is = tt
kept_read d false is = (IsUtf8-are_ascii name.properties.camel refl, is)

unfaulty_read : (d : Data) (o : Option FieldFault) → IsReadValue d → MayBeRead name.properties (unless_faulty o d)
unfaulty_read d None is = kept_read d (empty_object d) is
unfaulty_read d (Some f) is = tt

object_part : (o : Option Data) → ((d : Data) → o ≡ Some d → IsReadValue d) → MayBeRead name.properties (option_and_then right_object o)
object_part None is = tt
object_part (Some d) is = unfaulty_read d (a_properties d) (is d refl)

pub properties_read : (text : List ℕ) → MayBeRead name.properties (properties_shown text)
properties_read text =
    object_part (read (as_text text)) (λ d e. value_of_text (as_text text) d (as_text_utf8 text) e)
