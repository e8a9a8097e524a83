-- What a text of JSON is read to: its texts are UTF-8, its whole numbers are those of 64 bits, and
-- the members of an object rise by their names.
use Rattle.std.proofs.Common.{◌≡◌, ℕ, zero, suc, ◌^◌, ◌≤◌, Bool, true, false, ◌&&◌, ◌==◌, slice_index, drop, nat_lt, nat_le, ltb-true, List, [], ◌∷◌, ◌++◌, Option, Some, None, option_map, option_and_then, refl, ap, subst, ◌∙◌, arith, IsUtf8}
use Rattle.std.specs.Prelude.{⊤, if◌then◌else◌}
use Rattle.std.specs.Ordering.{nat_cmp, match_ordering, ordering_reverse}
use Rattle.std.specs.Cmp.Lexicographic.{slice_cmp}
use Rattle.std.specs.Float.{binary64, float_is_finite}
use Rattle.std.specs.declared.cmp.Ordering.{Ordering}
use Rattle.std.specs.declared.cmp.Ordering.TheVariants.{Less, Equal, Greater}
use Rattle.std.proofs.lemmas.Bool.{leb-true}
use Rattle.std.proofs.lemmas.Cmp.{nat_list_cmp_total}
use Rattle.fast_float.specs.Text.{Parts, scan, digits_of, nearest, with_sign, minus}
use Rattle.json.specs.Token.{Token}
use Rattle.json.specs.Lex.{tokens}
use Rattle.json.specs.Json as json
use Rattle.json.specs.Tree as tree
use Rattle.json.proofs.Unique.Spelling.{value-json_tokens_back}
use Rattle.serde_json.specs.Data.{Num, unsigned, negative, float, Data, number, array, object, item, Members, no_members, member, put}
use Rattle.serde_json.specs.Read.{number_of, number_from, float_of, is_integer, of_json, of_items, of_members, max_depth, read}
use Rattle.field_kinds.proofs.ReadValues.{IsBelow, IsOf64Bits, IsReadValue, AreReadItems, AreReadMembers}
use Rattle.field_kinds.proofs.TokenLaws.{HaveTexts, tokens_texts}

-- ---- the texts of what the grammar finds

abbrev mutual
  HasTexts : json.Json → Type 0
  HasTexts json.null = ⊤
  HasTexts (json.boolean b) = ⊤
  HasTexts (json.number s) = ⊤
  HasTexts (json.string s) = IsUtf8 s
  HasTexts (json.array js) = ItemsHaveTexts js
  HasTexts (json.object ms) = MembersHaveTexts ms

  ItemsHaveTexts : json.Items → Type 0
  ItemsHaveTexts json.no_items = ⊤
  ItemsHaveTexts (json.item j js) = HasTexts j × ItemsHaveTexts js

  MembersHaveTexts : json.Members → Type 0
  MembersHaveTexts json.no_members = ⊤
  MembersHaveTexts (json.member k j ms) = IsUtf8 k × HasTexts j × MembersHaveTexts ms

parted : (ts us : List Token) → HaveTexts (ts ++ us) → HaveTexts ts × HaveTexts us
parted [] us h = (tt, h)
parted (t ∷ ts) us h = let rest = parted ts us h.1 in ((h.0, rest.0), rest.1)

mutual
  found_texts : (j : json.Json) → HaveTexts (tree.json_tokens j) → HasTexts j
  found_texts json.null h = tt
  found_texts (json.boolean b) h = tt
  found_texts (json.number s) h = tt
  found_texts (json.string s) h = h.0
  found_texts (json.array js) h = found_items js h.1
  found_texts (json.object ms) h = found_members ms h.1

  found_items : (js : json.Items) → HaveTexts (tree.items_tokens js) → ItemsHaveTexts js
  found_items json.no_items h = tt
  found_items (json.item j js) h = let p = parted (tree.json_tokens j) (tree.items_tokens js) h in (found_texts j p.0, found_items js p.1)

  found_members : (ms : json.Members) → HaveTexts (tree.members_tokens ms) → MembersHaveTexts ms
  found_members json.no_members h = tt
  found_members (json.member k j ms) h =
      let p = parted (tree.json_tokens j) (tree.members_tokens ms) h.1 in
      (h.0, found_texts j p.0, found_members ms p.1)

-- ---- the values

abbrev Every : {A : Type 0} → (A → Type 0) → Option A → Type 0
Every P None = ⊤
Every P (Some a) = P a

mapped : {A B : Type 0} (P : A → Type 0) (Q : B → Type 0) (f : A → B) → ((a : A) → P a → Q (f a)) → (o : Option A) → Every P o → Every Q (option_map f o)
mapped P Q f h None x = tt
mapped P Q f h (Some a) x = h a x

bound : {A B : Type 0} (P : A → Type 0) (Q : B → Type 0) (f : A → Option B) → ((a : A) → P a → Every Q (f a)) → (o : Option A) → Every P o → Every Q (option_and_then f o)
bound P Q f h None x = tt
bound P Q f h (Some a) x = h a x

float_wide : (b : Bool) (x : _) → Every IsOf64Bits (if b then Some (float x) else None)
float_wide true x = tt
float_wide false x = tt

unsigned_wide : (a b : Bool) (n : ℕ) (o : Option Num) → nat_lt n (2 ^ 64) ≡ b → Every IsOf64Bits o → Every IsOf64Bits (if a && b then Some (unsigned n) else o)
unsigned_wide true true n o e h = ltb-true n (2 ^ 64) e
unsigned_wide true false n o e h = h
unsigned_wide false b n o e h = h

negative_wide : (a b c : Bool) (n : ℕ) (o : Option Num) → nat_lt 0 n ≡ b → nat_le n (2 ^ 63) ≡ c → Every IsOf64Bits o
    → Every IsOf64Bits (if a && b && c then Some (negative (with_sign true n)) else o)
negative_wide true true true zero o some few h = absurd cc
negative_wide true true true (suc n) o some few h = let le : suc n ≤ 2 ^ 63 = leb-true (suc n) (2 ^ 63) few in omega (arith, le)
negative_wide true true false n o some few h = h
negative_wide true false c n o some few h = h
negative_wide false b c n o some few h = h

number_wide : (sign : Bool) (p : Parts) → Every IsOf64Bits (number_from sign p)
number_wide false p = unsigned_wide (is_integer p) _ (digits_of p) (float_of false p) refl (float_wide (float_is_finite (nearest binary64 false p)) _)
number_wide true p = negative_wide (is_integer p) _ _ (digits_of p) (float_of true p) refl refl (float_wide (float_is_finite (nearest binary64 true p)) _)

either_wide : (b : Bool) (p q : Parts) → Every IsOf64Bits (if b then number_from true p else number_from false q)
either_wide true p q = number_wide true p
either_wide false p q = number_wide false q

numbers_wide : (s : List ℕ) → Every IsOf64Bits (number_of s)
unfolding number_of
numbers_wide s = either_wide (slice_index s 0 == minus) (scan (drop 1 s)) (scan s)

-- a member that goes in among others that rise
below_put : (l k : List ℕ) (d : Data) (ms : Members) → slice_cmp nat_cmp l k ≡ Less → IsBelow l ms → IsBelow l (put k d ms)
below_put l k d no_members less below = less
below_put l k d (member j e ms) less below = at_order (slice_cmp nat_cmp k j)
  where
    at_order : (o : Ordering) → IsBelow l (match_ordering o (member k d (member j e ms)) (member j d ms) (member j e (put k d ms)))
    at_order Less = less
    at_order Equal = below
    at_order Greater = below

-- a name that is above another is so the other way round
above : (k j : List ℕ) → slice_cmp nat_cmp k j ≡ Greater → slice_cmp nat_cmp j k ≡ Less
above k j e = nat_list_cmp_total.antisymm j k ∙ ap ordering_reverse e

put_at : (k : List ℕ) (d : Data) (j : List ℕ) (e : Data) (ms : Members) (o : Ordering) → slice_cmp nat_cmp k j ≡ o → IsUtf8 k → IsReadValue d
    → AreReadMembers (member j e ms) → AreReadMembers (put k d ms)
    → AreReadMembers (match_ordering o (member k d (member j e ms)) (member j d ms) (member j e (put k d ms)))
put_at k d j e ms Less same u is all later = (u, is, same, all)
put_at k d j e ms Equal same u is all later = (all.0, is, all.2, all.3)
put_at k d j e ms Greater same u is all later = (all.0, all.1, below_put j k d ms (above k j same) all.2, later)

put_read : (k : List ℕ) (d : Data) (ms : Members) → IsUtf8 k → IsReadValue d → AreReadMembers ms → AreReadMembers (put k d ms)
put_read k d no_members u is all = (u, is, tt, tt)
put_read k d (member j e ms) u is all = put_at k d j e ms (slice_cmp nat_cmp k j) refl u is all (put_read k d ms u is all.3)

mutual
  value_read : (j : json.Json) → HasTexts j → Every IsReadValue (of_json j)
  value_read json.null h = tt
  value_read (json.boolean b) h = tt
  value_read (json.number s) h = mapped IsOf64Bits IsReadValue number (λ n is. is) (number_of s) (numbers_wide s)
  value_read (json.string s) h = h
  value_read (json.array js) h = mapped AreReadItems IsReadValue array (λ ds is. is) (of_items js) (items_read js h)
  value_read (json.object ms) h = mapped AreReadMembers IsReadValue object (λ ns is. is) (of_members ms no_members) (members_read ms no_members h tt)

  items_read : (js : json.Items) → ItemsHaveTexts js → Every AreReadItems (of_items js)
  items_read json.no_items h = tt
  items_read (json.item j js) h =
      bound IsReadValue AreReadItems _ (λ d is. mapped AreReadItems AreReadItems (item d) (λ ds all. (is, all)) (of_items js) (items_read js h.1)) (of_json j) (value_read j h.0)

  members_read : (ms : json.Members) (found : Members) → MembersHaveTexts ms → AreReadMembers found → Every AreReadMembers (of_members ms found)
  members_read json.no_members found h all = all
  members_read (json.member k j ms) found h all =
      bound IsReadValue AreReadMembers _ (λ d is. members_read ms (put k d found) h.2 (put_read k d found h.0 is all)) (of_json j) (value_read j h.1)

last_texts : (ts : List Token) (o : Option (json.Json × List Token)) → HaveTexts ts → ((j : json.Json) (r : List Token) → o ≡ Some (j, r) → ts ≡ tree.json_tokens j ++ r)
    → Every HasTexts (option_and_then (λ p. json.if_last p.0 p.1) o)
last_texts ts None h spelled = tt
last_texts ts (Some (j, [])) h spelled = found_texts j (parted (tree.json_tokens j) [] (subst HaveTexts (spelled j [] refl) h)).0
last_texts ts (Some (j, t ∷ r)) h spelled = tt

pub value_of_text : (text : List ℕ) (d : Data) → IsUtf8 text → read text ≡ Some d → IsReadValue d
value_of_text text d u e =
    subst (Every IsReadValue) e
    (bound HasTexts IsReadValue of_json value_read _
    (last_texts (tokens text) (json.value max_depth (tokens text)) (tokens_texts text u) (λ j r same. value-json_tokens_back max_depth (tokens text) r j same)))
