-- The compact text of a value that was read, without a float, is UTF-8 and is read as the value.
use Rattle.std.proofs.Common.{◌≡◌, ℕ, suc, ◌≤◌, max, pos, negsuc, Bool, true, false, List, [], ◌∷◌, ◌++◌, Option, Some, option_map, option_and_then, refl, sym, ap, ap₂, ◌∙◌, arith, append-nil, decimal, IsUtf8}
use Rattle.std.specs.Prelude.{⊤}
use Rattle.std.specs.Ordering.{nat_cmp, ordering_reverse}
use Rattle.std.specs.Cmp.Lexicographic.{slice_cmp}
use Rattle.std.specs.declared.cmp.Ordering.TheVariants.{Less, Greater}
use Rattle.std.proofs.lemmas.Bool.{or_parts}
use Rattle.std.proofs.lemmas.Cmp.{nat_list_cmp_total}
use Rattle.std.proofs.lemmas.Fmt.{IsAscii-decimal}
use Rattle.std.proofs.lemmas.Str.{IsUtf8-append, IsUtf8-from_ascii}
use Rattle.json.specs.Token.{Token}
use Rattle.json.specs.Lex.{tokens}
use Rattle.json.specs.Print.{quoted, IsNumber}
use Rattle.json.specs.Json as json
use Rattle.json.specs.Tree as tree
use Rattle.json.proofs.Printed.Decimals.{IsNumber-decimal, IsNumber-signed_decimal}
use Rattle.json.proofs.Printed.Tokens.{tokens-print}
use Rattle.json.proofs.Printed.Trees.{ArePrintable-json_tokens, value-json_tokens}
use Rattle.json.proofs.Printed.Utf8.{IsUtf8-are_ascii, IsUtf8-quoted, IsUtf8-boolean}
use Rattle.serde_json.specs.Data.{Num, unsigned, negative, float, Data, null, boolean, number, string, array, object, Items, no_items, item, Members, no_members, member, put, depth, items_depth, members_depth}
use Rattle.serde_json.specs.Find.{is_float}
use Rattle.serde_json.specs.Read.{number_of, of_json, of_items, of_members, max_depth, read}
use Rattle.serde_json.specs.Written.{number_text, outline, items_outline, members_outline, has_float, items_have_float, members_have_float, comma_if, compact_text, items_text, members_text}
use Rattle.serde_json.proofs.Numbers.{number_of-decimal, number_of-negative}
use Rattle.serde_json.proofs.Texts.{print-outline}
use Rattle.field_kinds.proofs.ReadValues.{IsBelow, IsOf64Bits, IsReadValue, AreReadItems, AreReadMembers}
use Rattle.field_kinds.proofs.TextLaws.{ascii_then}

-- ---- its outline has numbers, nests as it does, and stands for it

number_right : (n : Num) → IsOf64Bits n → is_float n ≡ false → IsNumber (number_text n)
number_right (unsigned n) is whole = IsNumber-decimal n is
number_right (negative (pos n)) is whole = absurd is
number_right (negative (negsuc n)) is whole = IsNumber-signed_decimal (negsuc n) is
number_right (float x) is whole = absurd cc

mutual
  numbers : (d : Data) → IsReadValue d → has_float d ≡ false → tree.HasNumbers (outline d)
  numbers null is whole = tt
  numbers (boolean b) is whole = tt
  numbers (number n) is whole = number_right n is whole
  numbers (string s) is whole = tt
  numbers (array ds) is whole = items_numbers ds is whole
  numbers (object ms) is whole = members_numbers ms is whole

  items_numbers : (ds : Items) → AreReadItems ds → items_have_float ds ≡ false → tree.ItemsHaveNumbers (items_outline ds)
  items_numbers no_items is whole = tt
  items_numbers (item d ds) is whole = let p = or_parts (has_float d) (items_have_float ds) whole in (numbers d is.0 p.0, items_numbers ds is.1 p.1)

  members_numbers : (ms : Members) → AreReadMembers ms → members_have_float ms ≡ false → tree.MembersHaveNumbers (members_outline ms)
  members_numbers no_members is whole = tt
  members_numbers (member k d ms) is whole = let p = or_parts (has_float d) (members_have_float ms) whole in (numbers d is.1 p.0, members_numbers ms is.3 p.1)

mutual
  same_depth : (d : Data) → tree.depth (outline d) ≡ depth d
  same_depth null = refl
  same_depth (boolean b) = refl
  same_depth (number n) = refl
  same_depth (string s) = refl
  same_depth (array ds) = ap suc (same_items ds)
  same_depth (object ms) = ap suc (same_members ms)

  same_items : (ds : Items) → tree.items_depth (items_outline ds) ≡ items_depth ds
  same_items no_items = refl
  same_items (item d ds) = ap₂ max (same_depth d) (same_items ds)

  same_members : (ms : Members) → tree.members_depth (members_outline ms) ≡ members_depth ms
  same_members no_members = refl
  same_members (member k d ms) = ap₂ max (same_depth d) (same_members ms)

-- members behind others
abbrev joined : Members → Members → Members
joined no_members ms = ms
joined (member k d found) ms = member k d (joined found ms)

join_none : (found : Members) → joined found no_members ≡ found
join_none no_members = refl
join_none (member k d found) = ap (member k d) (join_none found)

join_more : (found : Members) (k : List ℕ) (d : Data) (ms : Members) → joined (joined found (member k d no_members)) ms ≡ joined found (member k d ms)
join_more no_members k d ms = refl
join_more (member l e found) k d ms = ap (member l e) (join_more found k d ms)

-- each name of these members stands before the name
abbrev AllBefore : Members → List ℕ → Type 0
AllBefore no_members k = ⊤
AllBefore (member l e found) k = (slice_cmp nat_cmp l k ≡ Less) × AllBefore found k

last_put : (found : Members) (k : List ℕ) (d : Data) → AllBefore found k → put k d found ≡ joined found (member k d no_members)
last_put no_members k d before = refl
last_put (member l e found) k d before =
    let above : slice_cmp nat_cmp k l ≡ Greater = nat_list_cmp_total.antisymm k l ∙ ap ordering_reverse before.0 in
    rw above (ap (member l e) (last_put found k d before.1))

all_before : (found : Members) (j k : List ℕ) → AllBefore found j → slice_cmp nat_cmp j k ≡ Less → AllBefore found k
all_before no_members j k before less = tt
all_before (member l e found) j k before less = (nat_list_cmp_total.trans l j k before.0 less, all_before found j k before.1 less)

one_more : (found : Members) (j k : List ℕ) (d : Data) → AllBefore found k → slice_cmp nat_cmp j k ≡ Less → AllBefore found j → AllBefore (joined found (member j d no_members)) k
one_more no_members j k d before less also = (less, tt)
one_more (member l e found) j k d before less also = (before.0, one_more found j k d before.1 less also.1)

-- the members that follow are above those before them
abbrev FirstAbove : Members → Members → Type 0
FirstAbove found no_members = ⊤
FirstAbove found (member k d ms) = AllBefore found k

first_none : (ms : Members) → FirstAbove no_members ms
first_none no_members = tt
first_none (member k d ms) = tt

next_above : (found : Members) (k : List ℕ) (d : Data) (ms : Members) → AllBefore found k → IsBelow k ms → FirstAbove (joined found (member k d no_members)) ms
next_above found k d no_members before below = tt
next_above found k d (member l e ms) before below = one_more found k l d (all_before found k l before below) below before

number_back : (n : Num) → IsOf64Bits n → is_float n ≡ false → number_of (number_text n) ≡ Some n
number_back (unsigned n) is whole = number_of-decimal n is
number_back (negative (pos n)) is whole = absurd is
number_back (negative (negsuc n)) is whole = number_of-negative n is
number_back (float x) is whole = absurd cc

mutual
  back : (d : Data) → IsReadValue d → has_float d ≡ false → of_json (outline d) ≡ Some d
  back null is whole = refl
  back (boolean b) is whole = refl
  back (number n) is whole = ap (option_map number) (number_back n is whole)
  back (string s) is whole = refl
  back (array ds) is whole = ap (option_map array) (items_back ds is whole)
  back (object ms) is whole = ap (option_map object) (members_back ms no_members is (first_none ms) whole)

  items_back : (ds : Items) → AreReadItems ds → items_have_float ds ≡ false → of_items (items_outline ds) ≡ Some ds
  items_back no_items is whole = refl
  items_back (item d ds) is whole =
      let p = or_parts (has_float d) (items_have_float ds) whole in
      rw (back d is.0 p.0, items_back ds is.1 p.1) refl

  members_back : (ms : Members) (found : Members) → AreReadMembers ms → FirstAbove found ms → members_have_float ms ≡ false
      → of_members (members_outline ms) found ≡ Some (joined found ms)
  members_back no_members found is above whole = ap Some (sym (join_none found))
  members_back (member k d ms) found is above whole =
      let p = or_parts (has_float d) (members_have_float ms) whole in
      ap (option_and_then (λ e. of_members (members_outline ms) (put k e found))) (back d is.1 p.0)
      ∙ ap (of_members (members_outline ms)) (last_put found k d above)
      ∙ members_back ms (joined found (member k d no_members)) is.3 (next_above found k d ms above is.2) p.1
      ∙ ap Some (join_more found k d ms)

pub compact_read : (d : Data) → IsReadValue d → has_float d ≡ false → depth d ≤ max_depth → read (compact_text d) ≡ Some d
compact_read d is whole shallow =
    let ts : List Token = tree.json_tokens (outline d) in
    let printed : tokens (compact_text d) ≡ ts = ap tokens (sym (print-outline d)) ∙ tokens-print ts (ArePrintable-json_tokens (outline d) (numbers d is whole)) in
    ap (λ (us : List Token). option_and_then of_json (option_and_then (λ p. json.if_last p.0 p.1) (json.value max_depth us))) (printed ∙ sym (append-nil ts))
    ∙ ap (λ (o : Option (json.Json × List Token)). option_and_then of_json (option_and_then (λ p. json.if_last p.0 p.1) o))
    (value-json_tokens (outline d) max_depth [] (omega (arith, shallow, same_depth d)))
    ∙ back d is whole

-- ---- it is UTF-8

number_utf8 : (n : Num) → IsOf64Bits n → is_float n ≡ false → IsUtf8 (number_text n)
number_utf8 (unsigned n) is whole = IsUtf8-from_ascii (decimal n) (IsAscii-decimal n is)
number_utf8 (negative (pos n)) is whole = absurd is
number_utf8 (negative (negsuc n)) is whole = ascii_then 45 (decimal (suc n)) (omega arith) (IsUtf8-from_ascii (decimal (suc n)) (IsAscii-decimal (suc n) (omega (arith, is))))
number_utf8 (float x) is whole = absurd cc

comma_utf8 : (later : Bool) (xs : List ℕ) → IsUtf8 xs → IsUtf8 (comma_if later ++ xs)
comma_utf8 true xs u = ascii_then 44 xs (omega arith) u
comma_utf8 false xs u = u

mutual
  pub compact_utf8 : (d : Data) → IsReadValue d → has_float d ≡ false → IsUtf8 (compact_text d)
  compact_utf8 null is whole = IsUtf8-are_ascii _ refl
  compact_utf8 (boolean b) is whole = IsUtf8-boolean b
  compact_utf8 (number n) is whole = number_utf8 n is whole
  compact_utf8 (string s) is whole = IsUtf8-quoted s is
  compact_utf8 (array ds) is whole = ascii_then 91 _ (omega arith) (items_utf8 false ds is whole)
  compact_utf8 (object ms) is whole = ascii_then 123 _ (omega arith) (members_utf8 false ms is whole)

  items_utf8 : (later : Bool) (ds : Items) → AreReadItems ds → items_have_float ds ≡ false → IsUtf8 (items_text later ds)
  items_utf8 later no_items is whole = IsUtf8-are_ascii (93 ∷ []) refl
  items_utf8 later (item d ds) is whole =
      let p = or_parts (has_float d) (items_have_float ds) whole in
      comma_utf8 later _ (IsUtf8-append (compact_text d) (items_text true ds) (compact_utf8 d is.0 p.0) (items_utf8 true ds is.1 p.1))

  members_utf8 : (later : Bool) (ms : Members) → AreReadMembers ms → members_have_float ms ≡ false → IsUtf8 (members_text later ms)
  members_utf8 later no_members is whole = IsUtf8-are_ascii (125 ∷ []) refl
  members_utf8 later (member k d ms) is whole =
      let p = or_parts (has_float d) (members_have_float ms) whole in
      comma_utf8 later _
      (IsUtf8-append (quoted k) (58 ∷ (compact_text d ++ members_text true ms)) (IsUtf8-quoted k is.0)
      (ascii_then 58 _ (omega arith) (IsUtf8-append (compact_text d) (members_text true ms) (compact_utf8 d is.1 p.0) (members_utf8 true ms is.3 p.1))))
