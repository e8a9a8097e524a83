-- The tokens of the pairs of a variant, which rise by their keys.
use Rattle.std.proofs.Common.{◌≡◌, ◌≢◌, ℕ, true, List, [], ◌∷◌, ◌++◌, codes, refl, sym, ap, subst, ◌∙◌}
use Rattle.std.specs.Prelude.{⊤, fold}
use Rattle.std.specs.List.{flat_map}
use Rattle.std.specs.Ordering.{nat_cmp, ordering_reverse}
use Rattle.std.specs.Cmp.Lexicographic.{slice_cmp}
use Rattle.std.specs.Str.{is_utf8}
use Rattle.std.specs.declared.cmp.Ordering.TheVariants.{Less, Greater}
use Rattle.std.proofs.lemmas.Bool.{and_parts}
use Rattle.std.proofs.lemmas.Cmp.{nat_list_cmp_total}
use Rattle.std.proofs.lemmas.Str.{IsUtf8-from_is_utf8}
use Rattle.json.specs.Token.{Token, key, begin_object, end_object}
use Rattle.json.specs.Tree.{members_tokens}
use Rattle.serde_json.specs.Data.{Data, string, Members, no_members, member}
use Rattle.serde_json.specs.Written.{members_outline}
use Rattle.json_fields.specs.NamesRealms.Variants.{IsAscending}
use Rattle.json_fields.specs.NamesRealms.declared.pairs.Pair.{Pair}
use Rattle.result_forms.specs.Shown.{as_text, put_pair, variant_shown}
use Rattle.result_forms.proofs.ShownLaws.{as_text-utf8}
use Rattle.result_texts.specs.Pairs.{pair_tokens, have_text_keys}
use Rattle.token_texts.specs.Tokens.{member_tokens}

-- the pairs as members, in their order
abbrev pairs_members : List Pair → Members
pairs_members [] = no_members
pairs_members (p ∷ ps) = member (as_text p.key) (string (as_text p.value)) (pairs_members ps)

abbrev AllAfter : List ℕ → List Pair → Type 0
AllAfter k [] = ⊤
AllAfter k (p ∷ ps) = (slice_cmp nat_cmp (as_text p.key) k ≡ Greater) × AllAfter k ps

first_stays : (k : List ℕ) (d : Data) (ms : Members) (ps : List Pair) → AllAfter k ps → fold put_pair (member k d ms) ps ≡ member k d (fold put_pair ms ps)
first_stays k d ms [] after = refl
first_stays k d ms (p ∷ ps) after = rw after.0 (first_stays k d (put_pair ms p) ps after.1)

key_is : (p : Pair) (ps : List Pair) → have_text_keys (p ∷ ps) ≡ true → as_text p.key ≡ p.key
key_is p ps texts = as_text-utf8 p.key (IsUtf8-from_is_utf8 p.key ((and_parts (is_utf8 p.key) (have_text_keys ps) texts).0))

others : (p : Pair) (ps : List Pair) → have_text_keys (p ∷ ps) ≡ true → have_text_keys ps ≡ true
others p ps texts = (and_parts (is_utf8 p.key) (have_text_keys ps) texts).1

behind : (p : Pair) (ps : List Pair) → IsAscending (p ∷ ps) → IsAscending ps
behind p [] rises = tt
behind p (q ∷ ps) rises = rises.1

greater : (k l : List ℕ) → slice_cmp nat_cmp k l ≡ Less → slice_cmp nat_cmp l k ≡ Greater
greater k l less = nat_list_cmp_total.antisymm l k ∙ ap ordering_reverse less

all_after : (k : List ℕ) (q : Pair) (qs : List Pair) → slice_cmp nat_cmp k q.key ≡ Less → IsAscending (q ∷ qs) → have_text_keys (q ∷ qs) ≡ true → AllAfter k (q ∷ qs)
all_after k q [] less rises texts = (rw (key_is q [] texts) (greater k q.key less), tt)
all_after k q (r ∷ rs) less rises texts = (
  rw (key_is q (r ∷ rs) texts) (greater k q.key less),
  all_after k r rs (nat_list_cmp_total.trans k q.key r.key less rises.0) rises.1 (others q (r ∷ rs) texts),
)

later : (p : Pair) (ps : List Pair) → IsAscending (p ∷ ps) → have_text_keys (p ∷ ps) ≡ true → AllAfter (as_text p.key) ps
later p [] rises texts = tt
later p (q ∷ qs) rises texts =
    subst (λ (k : List ℕ). AllAfter k (q ∷ qs)) (sym (key_is p (q ∷ qs) texts)) (all_after p.key q qs rises.0 rises.1 (others p (q ∷ qs) texts))

in_order : (ps : List Pair) → IsAscending ps → have_text_keys ps ≡ true → fold put_pair no_members ps ≡ pairs_members ps
in_order [] rises texts = refl
in_order (p ∷ ps) rises texts =
    first_stays (as_text p.key) (string (as_text p.value)) no_members ps (later p ps rises texts)
    ∙ ap (member (as_text p.key) (string (as_text p.value))) (in_order ps (behind p ps rises) (others p ps texts))

members : (ps : List Pair) → members_tokens (members_outline (pairs_members ps)) ≡ flat_map pair_tokens ps ++ end_object ∷ []
members [] = refl
members (p ∷ ps) = ap (λ (ts : List Token). pair_tokens p ++ ts) (members ps)

pub variant_tokens : (name : List ℕ) (ps : List Pair) → IsAscending ps → have_text_keys ps ≡ true → ps ≢ []
    → key name ∷ begin_object ∷ key (codes "def") ∷ begin_object ∷ (flat_map pair_tokens ps ++ end_object ∷ [] ++ end_object ∷ []) ≡ member_tokens name (variant_shown ps)
variant_tokens name [] rises texts some = absurd (some refl)
variant_tokens name (p ∷ ps) rises texts some =
    let all : members_tokens (members_outline (fold put_pair no_members (p ∷ ps))) ≡ flat_map pair_tokens (p ∷ ps) ++ end_object ∷ [] =
    ap (λ (ms : Members). members_tokens (members_outline ms)) (in_order (p ∷ ps) rises texts) ∙ members (p ∷ ps) in
    ap (λ (ts : List Token). key name ∷ begin_object ∷ key (codes "def") ∷ begin_object ∷ (ts ++ end_object ∷ [])) (sym all)
