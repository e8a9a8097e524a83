-- The names of a query: they name one list of invocations at most, and one where they have no
-- fault; and what is written of it is read again.
use Rattle.std.proofs.Common.{◌≡◌, ◌≢◌, ◌≤◌, ◌+◌, ◌<◌, ℕ, false, List, [], ◌∷◌, ◌++◌, length, map, take, get_or, Option, Some, None, refl, sym, ap, ◌∙◌, arith}
use Rattle.std.specs.Prelude.{All}
use Rattle.std.proofs.lemmas.List.{take_more, map-append}
use Rattle.serde_json.specs.Data.{Data, null, boolean, number, string, array, object}
use Rattle.serde_json.specs.View.{items_of}
use Rattle.names_realms.specs.Names.{IsInvocationId, invocation_name}
use Rattle.json_fields.specs.Fields.{filled_at, list_of, Holds, Pairs}
use Rattle.json_fields.specs.Kinds.{a_list, empty_list, IsEach}
use Rattle.json_fields.specs.Writing.{is_bare, list_data}
use Rattle.json_fields.proofs.MeaningLaws.{first_left, first_right}
use Rattle.field_kinds.specs.Lists.{a_limited_list, most_names, too_many}
use Rattle.field_kinds.proofs.ListLaws.{limit_kept, limited_written}
use Rattle.form_fields.specs.Fields.{Fields, Kind, list_kind, required_field}
use Rattle.form_fields.specs.Kinds.{invocation_kind}
use Rattle.form_fields.specs.Laws.{AreLawful, IsLawfulKind}
use Rattle.form_fields.proofs.FieldLaws.{each_told, list_lawful, required_lawful}
use Rattle.form_fields.proofs.KindLaws.{invocation_lawful}
use Rattle.invocation_forms.specs.Named.{an_invocation_name, IsNameOf, name_data}
use Rattle.page_tokens.specs.Tokens.{query_hash}
use Rattle.query_forms.specs.Names as name
use Rattle.query_forms.specs.Lists.{AreNamed, text_of, names_in, names_at, AreOfForm}
use Rattle.query_forms.specs.Tokens.{query_in}

-- ---- the names of a query as a kind of values

abbrev pub names_kind : Kind (List (List ℕ))
names_kind = record {
  fault = a_limited_list most_names an_invocation_name;
  means = IsEach IsNameOf;
  empty = empty_list;
  blank = is_bare;
  OfForm = λ ids. (length ids ≤ most_names) × All IsInvocationId ids;
  json = list_data name_data;
  levels = 1;
}

each_lawful : IsLawfulKind (list_kind invocation_kind)
each_lawful = list_lawful invocation_kind invocation_lawful

pub names_lawful : IsLawfulKind names_kind
names_lawful = record {
  one = each_lawful.one;
  there = λ d is none. each_lawful.there d is (first_right (too_many most_names d) (a_list an_invocation_name d) none);
  formed = λ d ids none is. (
    limit_kept IsNameOf most_names d ids None refl (sym (first_left (too_many most_names d) (a_list an_invocation_name d) none)) is,
    each_lawful.formed d ids (first_right (too_many most_names d) (a_list an_invocation_name d) none) is,
  );
  told = λ d ids none is. each_told IsNameOf d ids is;
  again = λ ids is. limited_written most_names an_invocation_name IsNameOf name_data ids ids refl (each_lawful.again ids is.1) is.0;
  plain = each_lawful.plain;
}

abbrev pub names_field : Fields (List (List ℕ))
names_field = required_field name.invocations names_kind

pub names_are : AreLawful names_field
names_are = required_lawful name.invocations names_kind names_lawful

some_ids : (ids : List (List ℕ)) → ids ≢ [] → is_bare ids ≡ false
some_ids [] some = absurd (some refl)
some_ids (id ∷ ids) some = grind arith

not_bare : (ids : List (List ℕ)) → is_bare ids ≡ false → ids ≢ []
not_bare [] some e = absurd cc
not_bare (id ∷ ids) some e = cc

-- the form of the names, in the words of the field and of a query
pub names_in_form : (ids : List (List ℕ)) → AreOfForm ids → names_field.OfForm ids
names_in_form ids of = ((of.few, of.grammar), some_ids ids of.some)

pub names_of_form : (ids : List (List ℕ)) → names_field.OfForm ids → AreOfForm ids
names_of_form ids of = record { some = not_bare ids of.1; few = of.0.0; grammar = of.0.1 }

-- ---- the names as they are written

one_text : (d : Data) (id : List ℕ) → IsNameOf d id → text_of d ≡ invocation_name id
one_text null id is = absurd is
one_text (boolean b) id is = absurd is
one_text (number n) id is = absurd is
one_text (string s) id is = is.0
one_text (array ds) id is = absurd is
one_text (object ms) id is = absurd is

each_text : (ds : List Data) (ids : List (List ℕ)) → Pairs IsNameOf ds ids → map text_of ds ≡ map invocation_name ids
each_text [] [] h = refl
each_text [] (id ∷ ids) h = absurd h
each_text (d ∷ ds) [] h = absurd h
each_text (d ∷ ds) (id ∷ ids) h =
    ap (λ (text : List ℕ). text ∷ map text_of ds) (one_text d id h.0) ∙ ap (λ (texts : List (List ℕ)). invocation_name id ∷ texts) (each_text ds ids h.1)

list_texts : (d : Data) (ids : List (List ℕ)) → IsEach IsNameOf d ids → names_in d ≡ map invocation_name ids
list_texts null ids h = absurd h
list_texts (boolean b) ids h = absurd h
list_texts (number n) ids h = absurd h
list_texts (string s) ids h = absurd h
list_texts (array ds) ids h = each_text (list_of ds) ids h
list_texts (object ms) ids h = absurd h

held_texts : (o : Option Data) (ids : List (List ℕ)) → Holds (IsEach IsNameOf) o ids → names_at o ≡ map invocation_name ids
held_texts None ids h = absurd h
held_texts (Some d) ids h = list_texts d ids h

pub asked_as_written : (method : List ℕ) (d : Data) (ids : List (List ℕ)) → AreNamed d ids → query_in method d ≡ query_hash method (map invocation_name ids)
asked_as_written method d ids is = ap (query_hash method) (held_texts (filled_at name.invocations empty_list d) ids is)

list_names : (ids : List (List ℕ)) → map text_of (list_of (items_of (map name_data ids))) ≡ map invocation_name ids
list_names [] = refl
list_names (id ∷ ids) = ap (λ (texts : List (List ℕ)). invocation_name id ∷ texts) (list_names ids)

pub query_of_names : (method : List ℕ) (ids : List (List ℕ)) → query_hash method (names_in (list_data name_data ids)) ≡ query_hash method (map invocation_name ids)
query_of_names method ids = ap (query_hash method) (list_names ids)

-- one more element in a list that is made
pub data_more : {A B : Type 0} (f : A → B) (xs : List A) (i : ℕ) (x : A) → i < length xs
    → map f (take (i + 1) xs) ≡ map f (take i xs) ++ f (get_or xs i x) ∷ []
data_more f xs i x h = rw (take_more xs i x h) (map-append f (take i xs) (get_or xs i x ∷ []))
