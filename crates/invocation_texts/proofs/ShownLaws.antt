-- The tokens of an invocation, member by member in byte order of the names.
use Rattle.std.proofs.Common.{◌≡◌, ◌==◌, ℕ, false, List, [], ◌∷◌, ◌++◌, length, codes, map, Some, option_map, refl, sym, ap, ◌∙◌, arith}
use Rattle.std.specs.List.{flat_map}
use Rattle.json.specs.Token.{Token, key, begin_object, end_object, begin_array, end_array}
use Rattle.serde_json.specs.Data.{Data, string, object, Members, no_members}
use Rattle.invocation_forms.specs.Names as name
use Rattle.invocation_forms.specs.Named.{name_data}
use Rattle.invocation_forms.specs.Replies.{state_text, moment_data, user_text, invocation_members, invocation_data}
use Rattle.invocation_forms.specs.Shown.{InvocationShown, pair_data}
use Rattle.token_texts.specs.Tokens.{tokens_of, member_tokens, list_shown}
use Rattle.token_texts.proofs.ListLaws.{list_member}
use Rattle.token_texts.proofs.ObjectLaws.{Listed, put_all, optional_is, list_is, object_tokens}

-- a member that lists what is seen of each, where there is any
seen : {A B : Type 0} (f : B → List Token) (g : A → B) (xs : List A) → flat_map (λ (x : A). f (g x)) xs ≡ flat_map f (map g xs)
seen f g [] = refl
seen f g (x ∷ xs) = ap (λ (ts : List Token). f (g x) ++ ts) (seen f g xs)

pub seen_member : {A B : Type 0} (json : B → Data) (g : A → B) (name : List ℕ) (xs : List A) → (length xs == 0) ≡ false
    → key name ∷ begin_array ∷ (flat_map (λ (x : A). tokens_of (json (g x))) xs ++ end_array ∷ []) ≡ member_tokens name (list_shown json (map g xs))
seen_member json g name [] some = absurd cc
seen_member {A} {B} json g name (x ∷ xs) some =
    let filled : (length (map g (x ∷ xs)) == 0) ≡ false = grind arith in
    ap (λ (ts : List Token). key name ∷ begin_array ∷ (ts ++ end_array ∷ [])) (seen (λ (y : B). tokens_of (json y)) g (x ∷ xs)) ∙ list_member json name (map g (x ∷ xs)) filled

-- the members, as the definition lists them
abbrev listed : InvocationShown → Listed
listed s =
    (name.create_time, Some (moment_data s.created)) ∷ (name.created_by, Some (string (user_text s.creator)))
    ∷ (name.deadline, Some (moment_data s.deadline)) ∷ (name.finalize_start_time, option_map moment_data s.started)
    ∷ (name.finalize_time, option_map moment_data s.finished) ∷ (name.included_invocations, list_shown name_data s.included)
    ∷ (name.name, Some (name_data s.id)) ∷ (name.realm, Some (string s.realm))
    ∷ (name.state, Some (string (state_text s.state))) ∷ (name.tags, list_shown pair_data s.tags) ∷ []

all_listed : (s : InvocationShown) → invocation_members s ≡ put_all (listed s) no_members
all_listed s =
    rw (
      optional_is name.finalize_start_time moment_data s.started,
      optional_is name.finalize_time moment_data s.finished,
      list_is name.included_invocations name_data s.included,
      list_is name.tags pair_data s.tags,
    ) refl

pub invocation_tokens : (s : InvocationShown) → begin_object ∷ (member_tokens (codes "createTime") (Some (moment_data s.created))
    ++ (member_tokens (codes "createdBy") (Some (string (user_text s.creator))) ++ (member_tokens (codes "deadline") (Some (moment_data s.deadline))
    ++ (member_tokens (codes "finalizeStartTime") (option_map moment_data s.started) ++ (member_tokens (codes "finalizeTime") (option_map moment_data s.finished)
    ++ (member_tokens (codes "includedInvocations") (list_shown name_data s.included) ++ (member_tokens (codes "name") (Some (name_data s.id))
    ++ (member_tokens (codes "realm") (Some (string s.realm)) ++ (member_tokens (codes "state") (Some (string (state_text s.state)))
    ++ (member_tokens (codes "tags") (list_shown pair_data s.tags) ++ end_object ∷ [])))))))))) ≡ tokens_of (invocation_data s)
invocation_tokens s = sym (ap (λ (ms : Members). tokens_of (object ms)) (all_listed s) ∙ object_tokens (listed s) refl)
