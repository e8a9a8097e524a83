-- The tokens of the values of rows, and that none of these is a float.
use Rattle.std.proofs.Common.{◌≡◌, ◌==◌, ℕ, false, List, [], ◌∷◌, length, codes, Option, Some, None, option_map, refl, sym, ap, subst, ◌∙◌}
use Rattle.json.specs.Token.{key, begin_object, end_object}
use Rattle.json.specs.Token as token
use Rattle.serde_json.specs.Data.{Data, string}
use Rattle.serde_json.specs.Written.{has_float}
use Rattle.json_fields.specs.NamesRealms.declared.pairs.Pair.{Pair}
use Rattle.test_results.specs.declared.result.TestResult.{TestResult}
use Rattle.test_results.specs.declared.exoneration.TestExoneration.{TestExoneration}
use Rattle.result_forms.specs.Shown.{as_text, unless_empty, text_shown, reason_of, reason_shown, properties_shown, variant_shown}
use Rattle.json_fields.specs.NamesRealms.declared.states.Status.TheVariants.{Pass}
use Rattle.form_fields.specs.Laws.{MayBePlain}
use Rattle.result_forms.proofs.RowLaws.{exoneration_plain, result_plain}
use Rattle.token_texts.specs.Shown.{filled}
use Rattle.token_texts.specs.Tokens.{member_tokens}
use Rattle.token_texts.proofs.MemberLaws.{filled_some}

pub filled_is : (text : List ℕ) → filled text ≡ unless_empty text
filled_is [] = refl
filled_is (b ∷ bs) = refl

-- the reason of a failure
reason_is : (o : Option Data) (name text : List ℕ) → o ≡ Some (string text)
    → key name ∷ begin_object ∷ key (codes "primaryErrorMessage") ∷ token.string text ∷ end_object ∷ [] ≡ member_tokens name (option_map reason_of o)
reason_is o name text e = rw e refl

pub reason_tokens : (name message text : List ℕ) → text ≡ as_text message → (length text == 0) ≡ false
    → key name ∷ begin_object ∷ key (codes "primaryErrorMessage") ∷ token.string text ∷ end_object ∷ [] ≡ member_tokens name (reason_shown message)
reason_tokens name message text is some = reason_is (text_shown message) name text (ap unless_empty (sym is) ∙ sym (filled_is text) ∙ filled_some text some)

-- what is written has no float, whatever the texts are
pub properties_plain : (text : List ℕ) (d : Data) → Some d ≡ properties_shown text → has_float d ≡ false
properties_plain text d is =
    let r : TestResult = record {
      holder = 0;
      test = [];
      result = [];
      variant = [];
      expected = false;
      status = Pass;
      summary = [];
      start = None;
      duration = None;
      tags = [];
      message = [];
      properties = text;
    } in
    (subst (MayBePlain 64) (sym is) ((result_plain r).1.1.1.1.1.1.1.1.1.1.0)).no_float

pub variant_plain : (pairs : List Pair) (d : Data) → Some d ≡ variant_shown pairs → has_float d ≡ false
variant_plain pairs d is =
    let x : TestExoneration = record { holder = 0; place = 0; test = []; variant = pairs; explanation = [] } in
    (subst (MayBePlain 64) (sym is) ((exoneration_plain x).1.0)).no_float
