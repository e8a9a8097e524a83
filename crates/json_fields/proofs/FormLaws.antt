-- What a value without a fault means is of the grammar of its kind, and so is what a field or a list
-- of that kind holds.
use Rattle.std.proofs.Common.{◌≡◌, ℕ, ℤ, ◌+◌, ◌==◌, Bool, nat_lt, List, [], ◌∷◌, length, take, drop, Option, Some, None, refl, sym, subst}
use Rattle.std.specs.List.{All}
use Rattle.std.specs.Option.{ForSome, option_or}
use Rattle.std.proofs.lemmas.List.Elements.{All-cons, All-nil}
use Rattle.std.proofs.lemmas.Option.{none-some, same_Some}
use Rattle.serde_json.specs.Data.{Data, null, boolean, number, string, array, object}
use Rattle.names_realms.specs.NameParts.declared.faults.NameFault.{NameFault}
use Rattle.names_realms.specs.NameParts.declared.alphabets.Alphabet.TheVariants as alphabet
use Rattle.names_realms.specs.NameParts.declared.parts.PartForm.{PartForm}
use Rattle.names_realms.specs.NameParts.declared.parts.PartForm.TheVariants.{Letters}
use Rattle.names_realms.specs.NameParts.Parts.{IsPart, bad_place, limited_fault, most_bytes, part_fault, unempty_fault}
use Rattle.names_realms.proofs.NameParts.PartLemmas.{part_fault-None}
use Rattle.names_realms.specs.Realms.{IsRealm, bad_subrealm_place, colon_fault, project_len, realm_fault}
use Rattle.names_realms.proofs.RealmLemmas.{realm_fault-None}
use Rattle.names_realms.specs.MomentsSpans.Moments.{IsInYears}
use Rattle.names_realms.specs.MomentsSpans.MomentGrammar.{IsMomentText}
use Rattle.names_realms.proofs.MomentsSpans.SaidLaws.{one_moment_said}
use Rattle.json_fields.specs.declared.faults.FieldFault.{FieldFault}
use Rattle.json_fields.specs.declared.names.Step.TheVariants.{Member, Place}
use Rattle.json_fields.specs.Names.{NameForm}
use Rattle.json_fields.specs.Faults.{moved}
use Rattle.json_fields.specs.Fields.{fault_from, fault_optional, fault_required, filled_at, list_of, optional, required, set_at, Holds, HoldsMaybe, Pairs}
use Rattle.json_fields.specs.Kinds.{a_list, HoldsList, IsEach}
use Rattle.json_fields.specs.Texts.{a_text, moment_fault, refused, IsSame, IsText}
use Rattle.json_fields.proofs.MeaningLaws.{first_left, first_right, moved_none, unrefused}
use Rattle.json_fields.proofs.NameLaws.{limited_refused, part_refused, shifted_refused, unless_refused}
use Rattle.json_fields.proofs.TextLaws.{moment_of_text}

-- What a value of the kind means is of this form where the value has no fault.
abbrev pub GivesForm : {A : Type 0} → (Data → Option FieldFault) → (Data → A → Type 0) → (A → Type 0) → Type 0
GivesForm {A} fault means P = (d : Data) (a : A) → fault d ≡ None → means d a → P a

-- ---- texts

pub text_form : {A : Type 0} (fault : List ℕ → Option NameFault) (spells : List ℕ → A → Type 0) (P : A → Type 0)
    → ((s : List ℕ) (a : A) → refused (fault s) ≡ None → spells s a → P a) → GivesForm (a_text fault) (IsText spells) P
text_form fault spells P law null a none is = absurd is
text_form fault spells P law (boolean b) a none is = absurd is
text_form fault spells P law (number n) a none is = absurd is
text_form fault spells P law (string s) a none is = law s a none is
text_form fault spells P law (array ds) a none is = absurd is
text_form fault spells P law (object ms) a none is = absurd is

-- a text that is the value itself
same_form : (fault : List ℕ → Option NameFault) (P : List ℕ → Type 0) → ((s : List ℕ) → refused (fault s) ≡ None → P s)
    → GivesForm (a_text fault) (IsText IsSame) P
same_form fault P law = text_form fault IsSame P (λ s a none is. subst P (sym is) (law s none))

pub part_form : (form : PartForm) → GivesForm (a_text (part_fault form)) (IsText IsSame) (IsPart form)
part_form form = same_form (part_fault form) (IsPart form) (λ s none. part_fault-None form s (part_refused form s none))

either_refused : (o p : Option NameFault) → (refused o ≡ None → o ≡ None) → (refused p ≡ None → p ≡ None)
    → refused (option_or o p) ≡ None → option_or o p ≡ None
either_refused None p one two none = two none
either_refused (Some f) p one two none = absurd (none-some f (sym (one none)))

colon_refused : (place : ℕ) (text : List ℕ) → refused (colon_fault place text) ≡ None → colon_fault place text ≡ None
colon_refused place [] h = absurd cc
colon_refused place (b ∷ rest) h =
    let behind : Option NameFault = limited_fault 400 (length rest) (bad_subrealm_place rest) in
    let none : behind ≡ None =
    limited_refused (length rest) (nat_lt 400 (length rest)) (bad_subrealm_place rest) (shifted_refused (place + 1) behind h) in
    rw none refl

realm_refused : (text : List ℕ) → refused (realm_fault text) ≡ None → realm_fault text ≡ None
realm_refused text h =
    let project : List ℕ = take (project_len text) text in
    let colon : Option NameFault = colon_fault (project_len text) (drop (project_len text) text) in
    let rest = unless_refused (length text == 0) (option_or (unempty_fault (Letters alphabet.Project) project) colon) h in
    rw rest.0
    (either_refused (unempty_fault (Letters alphabet.Project) project) colon
    (limited_refused (length project) (nat_lt (most_bytes (Letters alphabet.Project)) (length project)) (bad_place (Letters alphabet.Project) project))
    (colon_refused (project_len text) (drop (project_len text) text)) rest.1)

pub realm_form : GivesForm (a_text realm_fault) (IsText IsSame) IsRealm
realm_form = same_form realm_fault IsRealm (λ s none. realm_fault-None s (realm_refused s none))

said_in_years : (s : List ℕ) (z : ℤ) → refused (moment_fault s) ≡ None → IsMomentText s z → IsInYears z
said_in_years s z none said =
    let there = moment_of_text s (unrefused s (moment_fault s) refl none) in
    subst IsInYears (one_moment_said s there.0 z there.1 said) there.2

pub moment_form : GivesForm (a_text moment_fault) (IsText IsMomentText) IsInYears
moment_form = text_form moment_fault IsMomentText IsInYears said_in_years

-- ---- fields and lists of a kind

required_of : {A : Type 0} (n : NameForm) (fault : Data → Option FieldFault) (means : Data → A → Type 0) (P : A → Type 0)
    → GivesForm fault means P → (o : Option Data) (a : A) → fault_required n fault o ≡ None → Holds means o a → P a
required_of n fault means P law None a none holds = absurd holds
required_of n fault means P law (Some d) a none holds = law d a (moved_none (Member n) (fault d) none) holds

pub required_form : {A : Type 0} (n : NameForm) (empty : Data → Bool) (fault : Data → Option FieldFault) (means : Data → A → Type 0)
    (P : A → Type 0) → GivesForm fault means P → (d : Data) (a : A) → required n empty fault d ≡ None
    → Holds means (filled_at n empty d) a → P a
unfolding required
required_form n empty fault means P law d a none holds = required_of n fault means P law (filled_at n empty d) a none holds

optional_of : {A : Type 0} (n : NameForm) (fault : Data → Option FieldFault) (means : Data → A → Type 0) (P : A → Type 0)
    → GivesForm fault means P → (o : Option Data) (a : Option A) → fault_optional n fault o ≡ None → HoldsMaybe means o a → ForSome a P
optional_of n fault means P law None None none holds b e = absurd (none-some b e)
optional_of n fault means P law None (Some a) none holds b e = absurd holds
optional_of n fault means P law (Some d) None none holds b e = absurd holds
optional_of n fault means P law (Some d) (Some a) none holds b e =
    subst P (same_Some a b e) (law d a (moved_none (Member n) (fault d) none) holds)

pub optional_form : {A : Type 0} (n : NameForm) (fault : Data → Option FieldFault) (means : Data → A → Type 0) (P : A → Type 0)
    → GivesForm fault means P → (d : Data) (a : Option A) → optional n fault d ≡ None → HoldsMaybe means (set_at n d) a → ForSome a P
unfolding optional
optional_form n fault means P law d a none holds = optional_of n fault means P law (set_at n d) a none holds

pairs_form : {A : Type 0} (fault : Data → Option FieldFault) (means : Data → A → Type 0) (P : A → Type 0) → GivesForm fault means P
    → (k : ℕ) (ds : List Data) (xs : List A) → fault_from k fault ds ≡ None → Pairs means ds xs → All P xs
unfolding fault_from
pairs_form fault means P law k [] [] none pairs = All-nil P
pairs_form fault means P law k [] (x ∷ xs) none pairs = absurd pairs
pairs_form fault means P law k (d ∷ ds) [] none pairs = absurd pairs
pairs_form fault means P law k (d ∷ ds) (x ∷ xs) none pairs =
    let this : Option FieldFault = moved (Place k) (fault d) in
    let others : Option FieldFault = fault_from (k + 1) fault ds in
    All-cons P x xs (law d x (moved_none (Place k) (fault d) (first_left this others none)) pairs.0)
    (pairs_form fault means P law (k + 1) ds xs (first_right this others none) pairs.1)

pub list_form : {A : Type 0} (fault : Data → Option FieldFault) (means : Data → A → Type 0) (P : A → Type 0) → GivesForm fault means P
    → GivesForm (a_list fault) (IsEach means) (All P)
list_form fault means P law null xs none each = absurd each
list_form fault means P law (boolean b) xs none each = absurd each
list_form fault means P law (number n) xs none each = absurd each
list_form fault means P law (string s) xs none each = absurd each
list_form fault means P law (array ds) xs none each = pairs_form fault means P law 0 (list_of ds) xs none each
list_form fault means P law (object ms) xs none each = absurd each

optional_list_of : {A : Type 0} (n : NameForm) (fault : Data → Option FieldFault) (means : Data → A → Type 0) (P : A → Type 0)
    → GivesForm fault means P → (o : Option Data) (xs : List A) → fault_optional n (a_list fault) o ≡ None → HoldsList means o xs
    → All P xs
optional_list_of n fault means P law None xs none holds = subst (All P) (sym holds) (All-nil P)
optional_list_of n fault means P law (Some d) xs none holds =
    list_form fault means P law d xs (moved_none (Member n) (a_list fault d) none) holds

pub optional_list_form : {A : Type 0} (n : NameForm) (fault : Data → Option FieldFault) (means : Data → A → Type 0) (P : A → Type 0)
    → GivesForm fault means P → (d : Data) (xs : List A) → optional n (a_list fault) d ≡ None → HoldsList means (set_at n d) xs
    → All P xs
unfolding optional
optional_list_form n fault means P law d xs none holds = optional_list_of n fault means P law (set_at n d) xs none holds
