-- The texts of pages, piece by piece.
use Rattle.std.proofs.Common.{◌≡◌, ◌+◌, ◌<◌, ◌≤◌, ℕ, Bool, true, false, List, [], ◌∷◌, ◌++◌, length, map, take, drop, get_or, Option, Some, None, Result, IfOk, option_map, refl, sym, ap, ◌∙◌, append_assoc, drop-cons, add-one}
use Rattle.std.specs.Prelude.{IfSome, is_some, option_and_then}
use Rattle.std.specs.Ordering.{nat_cmp}
use Rattle.std.specs.Cmp.Lexicographic.{slice_cmp}
use Rattle.std.specs.declared.cmp.Ordering.TheVariants.{Greater}
use Rattle.std.proofs.lemmas.Result.{IfOk-weaker}
use Rattle.std.proofs.lemmas.List.{drop_all, take_more, map-append}
use Rattle.json.specs.Print.{quoted}
use Rattle.serde_json.specs.Data.{Data, array, no_members, object, string}
use Rattle.serde_json.specs.View.{items_of, view}
use Rattle.serde_json.specs.Written.{comma_if, compact_text, has_float, items_text, members_text}
use Rattle.serde_json.specs.declared.value.Value.{Value}
use Rattle.json_fields.specs.Names.{NameForm}
use Rattle.form_fields.specs.Members.{put_all, put_some}
use Rattle.result_forms.specs.Shown.{text_shown, unless_empty, as_text}
use Rattle.query_replies.specs.Names as name
use Rattle.query_replies.specs.Pages.{page_data, reply_of}
use Rattle.query_replies.specs.Pieces.{member_piece, name_piece}
use Rattle.query_replies.specs.Verdicts.{list_shown}

-- a value behind a name
pub behind_name : (later : Bool) (n : NameForm) (a text : List ℕ) → a ++ name_piece later n [] ++ text ≡ a ++ name_piece later n text
behind_name later n a text =
    append_assoc a (name_piece later n []) text ∙ ap (λ (bs : List ℕ). a ++ bs) (append_assoc (comma_if later) (quoted n.camel ++ 58 ∷ []) text ∙ ap (λ (bs : List ℕ). comma_if later ++ bs) (append_assoc (quoted n.camel) (58 ∷ []) text))

-- two members, of which the one whose name stands first is written first
one_member : (n : NameForm) (d : Data) → members_text false (put_some n (Some d) no_members) ≡ member_piece false n (Some d) ++ 125 ∷ []
one_member n d = sym (append_assoc (quoted n.camel) (58 ∷ compact_text d) (125 ∷ []))

two_members : (n : NameForm) (a b : Option Data) → slice_cmp nat_cmp n.camel name.next_page_token.camel ≡ Greater
    → members_text false (put_all ((n, a) ∷ (name.next_page_token, b) ∷ []) no_members)
    ≡ member_piece false name.next_page_token b ++ (member_piece (is_some b) n a ++ 125 ∷ [])
two_members n None None above = refl
two_members n None (Some e) above = one_member name.next_page_token e
two_members n (Some d) None above = one_member n d
two_members n (Some d) (Some e) above =
    let k : List ℕ = quoted name.next_page_token.camel in
    let inner = append_assoc (quoted n.camel) (58 ∷ compact_text d) (125 ∷ []) in
    rw above
    (ap (λ (r : List ℕ). k ++ 58 ∷ (compact_text e ++ 44 ∷ r)) (sym inner)
    ∙ sym (append_assoc k (58 ∷ compact_text e) (44 ∷ ((quoted n.camel ++ 58 ∷ compact_text d) ++ 125 ∷ []))))

pub page_written : {A : Type 0} (n : NameForm) (shown : A → Data) (xs : List A) (next : Option (List ℕ)) → slice_cmp nat_cmp n.camel name.next_page_token.camel ≡ Greater
    → compact_text (page_data n shown xs next)
    ≡ 123 ∷ (member_piece false name.next_page_token (option_and_then text_shown next) ++ (member_piece (is_some (option_and_then text_shown next)) n (list_shown shown xs) ++ 125 ∷ []))
page_written n shown xs next above = ap (λ (bs : List ℕ). 123 ∷ bs) (two_members n (list_shown shown xs) (option_and_then text_shown next) above)

-- a list of what is seen
seen_each : {A B : Type 0} (f : B → Data) (g : A → B) (xs : List A) → map f (map g xs) ≡ map (λ x. f (g x)) xs
seen_each f g [] = refl
seen_each f g (x ∷ xs) = ap (λ (ds : List Data). f (g x) ∷ ds) (seen_each f g xs)

pub seen_list : {A B : Type 0} (f : B → Data) (g : A → B) (xs : List A) → list_shown f (map g xs) ≡ list_shown (λ x. f (g x)) xs
seen_list f g [] = refl
seen_list f g (x ∷ xs) = ap (λ (ds : List Data). Some (array (items_of (f (g x) ∷ ds)))) (seen_each f g xs)

pub seen_page : {A B : Type 0} (n : NameForm) (f : B → Data) (g : A → B) (xs : List A) (next : Option (List ℕ))
    → page_data n (λ x. f (g x)) xs next ≡ page_data n f (map g xs) next
seen_page n f g xs next =
    ap (λ (o : Option Data). object (put_all ((n, o) ∷ (name.next_page_token, option_and_then text_shown next) ∷ []) no_members)) (sym (seen_list f g xs))

pub page_seen : {A B E : Type 0} (r : Result (List ℕ) E) (n m : NameForm) (f : B → Data) (g : A → B) (xs ys : List A) (next : Option (List ℕ)) → n ≡ m → xs ≡ ys
    → IfOk r (λ text. text ≡ reply_of (page_data n (λ x. f (g x)) xs next)) → IfOk r (λ text. text ≡ reply_of (page_data m f (map g ys) next))
page_seen r n m f g xs ys next names rows told =
    let named : page_data n (λ x. f (g x)) xs next ≡ page_data m (λ x. f (g x)) xs next = ap (λ (k : NameForm). page_data k (λ x. f (g x)) xs next) names in
    let listed : page_data m (λ x. f (g x)) xs next ≡ page_data m (λ x. f (g x)) ys next = ap (λ zs. page_data m (λ x. f (g x)) zs next) rows in
    IfOk-weaker r _ _ (λ text h. h ∙ ap reply_of (named ∙ listed ∙ seen_page m f g ys next)) told

-- one more element in a list that is made
pub seen_more : {A B : Type 0} (f : B → Data) (g : A → B) (xs : List A) (i : ℕ) (x : A) → i < length xs
    → map f (map g (take (i + 1) xs)) ≡ map f (map g (take i xs)) ++ f (g (get_or xs i x)) ∷ []
seen_more f g xs i x h =
    rw (take_more xs i x h, map-append g (take i xs) (get_or xs i x ∷ [])) (map-append f (map g (take i xs)) (g (get_or xs i x) ∷ []))

-- one more row behind those that are written
next_row : {A : Type 0} (f : A → Data) (xs : List A) (i : ℕ) (x : A) (later : Bool) → i < length xs
    → items_text later (items_of (map f (drop i xs))) ≡ comma_if later ++ (compact_text (f (get_or xs i x)) ++ items_text true (items_of (map f (drop (i + 1) xs))))
next_row f xs i x later h =
    ap (λ (ys : List _). items_text later (items_of (map f ys))) (drop-cons xs i x h ∙ ap (λ (n : ℕ). get_or xs i x ∷ drop n xs) (sym (add-one i)))

pub row_more : {A : Type 0} (f : A → Data) (xs : List A) (i : ℕ) (x : A) (later : Bool) (old new whole : List ℕ) → i < length xs
    → old ++ items_text later (items_of (map f (drop i xs))) ≡ whole → new ≡ old ++ (comma_if later ++ compact_text (f x)) → x ≡ get_or xs i x
    → new ++ items_text true (items_of (map f (drop (i + 1) xs))) ≡ whole
row_more f xs i x later old new whole h so added is =
    let tail : List ℕ = items_text true (items_of (map f (drop (i + 1) xs))) in
    ap (λ (bs : List ℕ). bs ++ tail) added
    ∙ append_assoc old (comma_if later ++ compact_text (f x)) tail
    ∙ ap (λ (bs : List ℕ). old ++ bs) (append_assoc (comma_if later) (compact_text (f x)) tail)
    ∙ ap (λ y. old ++ (comma_if later ++ (compact_text (f y) ++ tail))) is
    ∙ ap (λ (bs : List ℕ). old ++ bs) (sym (next_row f xs i x later h))
    ∙ so

pub rows_end : {A : Type 0} (f : A → Data) (xs : List A) (i : ℕ) (later : Bool) (old new whole : List ℕ) → length xs ≤ i
    → old ++ items_text later (items_of (map f (drop i xs))) ≡ whole → new ≡ old ++ 93 ∷ [] → new ≡ whole
rows_end f xs i later old new whole h so added =
    added ∙ ap (λ (ys : List _). old ++ items_text later (items_of (map f ys))) (sym (drop_all i xs h)) ∙ so

-- a token is a text
string_plain : (o : Option Value) (text : List ℕ) → option_map view o ≡ unless_empty text → IfSome o (λ v. has_float (view v) ≡ false)
string_plain None text e = tt
string_plain (Some v) [] e = absurd cc
string_plain (Some v) (b ∷ bs) e = let same : view v ≡ string (b ∷ bs) = cc in ap has_float same

pub token_plain : (o : Option Value) (bytes : List ℕ) → option_map view o ≡ text_shown bytes → IfSome o (λ v. has_float (view v) ≡ false)
token_plain o bytes e = string_plain o (as_text bytes) e
