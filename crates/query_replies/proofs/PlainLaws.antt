-- What is shown has no float and nests little.
use Rattle.std.proofs.Common.{◌≡◌, ◌≤◌, ◌+◌, ℕ, Bool, true, false, List, [], ◌∷◌, Option, Some, None, refl, arith}
use Rattle.std.specs.Prelude.{is_none, option_and_then}
use Rattle.serde_json.specs.Data.{Data}
use Rattle.serde_json.specs.Written.{has_float}
use Rattle.names_realms.specs.declared.pairs.Pair.{Pair}
use Rattle.names_realms.specs.declared.states.Status.TheVariants.{Pass}
use Rattle.json_fields.proofs.PlainLaws.{IsPlain, plain_text}
use Rattle.json_fields.specs.Names.{NameForm}
use Rattle.result_forms.proofs.FieldKinds.RequestLaws.{plain_within}
use Rattle.result_forms.specs.Shown.{flag_shown, properties_shown, tags_shown, text_shown, variant_shown}
use Rattle.form_fields.specs.Laws.{EachPlain, MayBePlain}
use Rattle.form_fields.proofs.MemberLaws.{object_plain}
use Rattle.result_forms.proofs.PlainLaws.{list_plain}
use Rattle.result_forms.proofs.RowLaws.{result_plain}
use Rattle.test_results.specs.declared.result.TestResult.{TestResult}
use Rattle.query_pages.specs.VerdictMasks.Masks.{Hidden, Seen}
use Rattle.query_pages.specs.Seen.{SeenHeld, SeenVerdict, seen_held, seen_verdict}
use Rattle.query_pages.specs.declared.pages.HeldResult.{HeldResult}
use Rattle.query_pages.specs.declared.pages.ShownVerdict.{ShownVerdict}
use Rattle.result_forms.specs.Names as field
use Rattle.result_forms.specs.Results.{result_members}
use Rattle.query_replies.specs.Names as name
use Rattle.query_replies.specs.Laws.{ShowsPlain}
use Rattle.query_replies.specs.Pages.{page_data}
use Rattle.query_replies.specs.Results.{name_of_seen, seen_data, seen_members}
use Rattle.query_replies.specs.Verdicts.{exoneration_data, list_shown, outcome_data, verdict_data, verdict_members, verdict_status}

-- a row with what is always seen
abbrev row_of : Seen → TestResult
row_of s = record {
  holder = s.holder;
  test = s.test;
  result = s.result;
  variant = [];
  expected = s.expected;
  status = s.status;
  summary = [];
  start = s.start;
  duration = s.duration;
  tags = [];
  message = s.message;
  properties = [];
}

perhaps : (f : Hidden → Option Data) (o : Option Hidden) → ((h : Hidden) → MayBePlain 64 (f h)) → MayBePlain 64 (option_and_then f o)
perhaps f None law = tt
perhaps f (Some h) law = law h

-- each kind of value, whatever its texts are
abbrev some_row : List Pair → List ℕ → List Pair → List ℕ → TestResult
some_row pairs summary tags properties = record {
  holder = 0;
  test = [];
  result = [];
  variant = pairs;
  expected = false;
  status = Pass;
  summary = summary;
  start = None;
  duration = None;
  tags = tags;
  message = [];
  properties = properties;
}

any_pairs : (pairs : List Pair) → MayBePlain 64 (variant_shown pairs)
any_pairs pairs = (result_plain (some_row pairs [] [] [])).1.1.0

any_text : (bytes : List ℕ) → MayBePlain 64 (text_shown bytes)
any_text bytes = (result_plain (some_row [] bytes [] [])).1.1.1.1.1.0

any_tags : (tags : List Pair) → MayBePlain 64 (tags_shown tags)
any_tags tags = (result_plain (some_row [] [] tags [])).1.1.1.1.1.1.1.1.0

any_properties : (text : List ℕ) → MayBePlain 64 (properties_shown text)
any_properties text = (result_plain (some_row [] [] [] text)).1.1.1.1.1.1.1.1.1.1.0

flag_plain : (on : Bool) → MayBePlain 64 (flag_shown on)
flag_plain true = record { no_float = refl; deep = omega arith }
flag_plain false = tt

pub seen_plain : (held : SeenHeld) → IsPlain 65 (seen_data held)
seen_plain held =
    let s : Seen = held.result in
    let all : EachPlain 64 (result_members (row_of s)) = result_plain (row_of s) in
    object_plain 64 (seen_members held) (
      plain_text 64 (name_of_seen held),
      (
        any_text s.label,
        (
          all.0,
          (
            all.1.0,
            (
              perhaps (λ h. variant_shown h.pairs) s.hidden (λ h. any_pairs h.pairs),
              (
                all.1.1.1.0,
                (
                  all.1.1.1.1.0,
                  (
                    perhaps (λ h. text_shown h.summary) s.hidden (λ h. any_text h.summary),
                    (
                      all.1.1.1.1.1.1.0,
                      (
                        all.1.1.1.1.1.1.1.0,
                        (
                          perhaps (λ h. tags_shown h.tags) s.hidden (λ h. any_tags h.tags),
                          (
                            all.1.1.1.1.1.1.1.1.1.0,
                            (perhaps (λ h. properties_shown h.properties) s.hidden (λ h. any_properties h.properties), (flag_plain s.masked, tt)),
                          ),
                        ),
                      ),
                    ),
                  ),
                ),
              ),
            ),
          ),
        ),
      ),
    )

-- ---- verdicts

raised : (n : ℕ) (o : Option Data) → 64 ≤ n → MayBePlain 64 o → MayBePlain n o
raised n None few h = tt
raised n (Some d) few h = plain_within 64 n d few h

listed_plain : {A : Type 0} (n : ℕ) (json : A → Data) (xs : List A) → ((a : A) → IsPlain n (json a)) → MayBePlain (n + 1) (list_shown json xs)
listed_plain n json [] h = tt
listed_plain n json (x ∷ xs) h = list_plain n json (x ∷ xs) h

told_plain : (o : Option (List ℕ)) → MayBePlain 64 (option_and_then text_shown o)
told_plain None = tt
told_plain (Some text) = any_text text

paired_plain : (o : Option (List Pair)) → MayBePlain 64 (option_and_then variant_shown o)
paired_plain None = tt
paired_plain (Some pairs) = any_pairs pairs

outcome_plain : (held : SeenHeld) → IsPlain 66 (outcome_data held)
outcome_plain held = object_plain 65 ((name.outcome, Some (seen_data held)) ∷ []) (seen_plain held, tt)

exoneration_plain : (o : Option (List ℕ)) → IsPlain 66 (exoneration_data o)
exoneration_plain o = plain_within 65 66 (exoneration_data o) (omega arith) (object_plain 64 ((field.explanation_html, option_and_then text_shown o) ∷ []) (told_plain o, tt))

pub verdict_plain : (verdict : SeenVerdict) → IsPlain 68 (verdict_data verdict)
verdict_plain verdict =
    object_plain 67 (verdict_members verdict) (
      plain_text 67 verdict.test,
      (
        raised 67 (option_and_then variant_shown verdict.variant) (omega arith) (paired_plain verdict.variant),
        (
          raised 67 (text_shown verdict.label) (omega arith) (any_text verdict.label),
          (
            plain_text 67 (verdict_status verdict.status),
            (
              raised 67 _ (omega arith) (flag_plain (is_none verdict.variant)),
              (
                listed_plain 66 outcome_data verdict.results outcome_plain,
                (listed_plain 66 exoneration_data verdict.exonerations exoneration_plain, tt),
              ),
            ),
          ),
        ),
      ),
    )

-- ---- pages

page_plain : {A : Type 0} (n : ℕ) (rows : NameForm) (shown : A → Data) (xs : List A) (next : Option (List ℕ)) → 64 ≤ n → ((a : A) → IsPlain n (shown a))
    → IsPlain (n + 1 + 1) (page_data rows shown xs next)
page_plain n rows shown xs next few law =
    object_plain (n + 1) ((rows, list_shown shown xs) ∷ (name.next_page_token, option_and_then text_shown next) ∷ [])
    (listed_plain n shown xs law, (raised (n + 1) (option_and_then text_shown next) (omega arith) (told_plain next), tt))

pub pages_plain : ShowsPlain
pages_plain = (
  λ held. let p = seen_plain held in (p.no_float, p.deep),
  λ page. let p = page_plain 65 name.test_results seen_data page.rows page.next (omega arith) seen_plain in (p.no_float, p.deep),
  λ page. let p = page_plain 68 name.test_variants verdict_data page.verdicts page.next (omega arith) verdict_plain in (p.no_float, p.deep),
)

pub seen_no_float : (held : HeldResult) → has_float (seen_data (seen_held held)) ≡ false
seen_no_float held = (seen_plain (seen_held held)).no_float

pub verdict_no_float : (verdict : ShownVerdict) → has_float (verdict_data (seen_verdict verdict)) ≡ false
verdict_no_float verdict = (verdict_plain (seen_verdict verdict)).no_float
