-- What a value means: at most one value of the program, and some where it has no fault.
use Rattle.std.proofs.Common.{◌≡◌, ℕ, ℤ, ◌+◌, Bool, List, [], ◌∷◌, Option, Some, None, refl, sym, ap, ◌∙◌}
use Rattle.names_realms.specs.NameParts.declared.faults.NameFault.{NameFault}
use Rattle.names_realms.specs.NameParts.declared.faults.NameFault.TheVariants as name
use Rattle.names_realms.specs.MomentsSpans.MomentGrammar.{IsMomentText, IsMomentFault, empty as no_text, bad, outside}
use Rattle.names_realms.proofs.MomentsSpans.SaidLaws.{one_moment_said}
use Rattle.serde_json.specs.Data.{Data, null, boolean, number, string, array, object}
use Rattle.json_fields.specs.Names.{NameForm}
use Rattle.json_fields.specs.Faults.{first, moved}
use Rattle.json_fields.specs.Fields.{required, optional, or_empty, filled_at, set_at, text_at, fault_required, fault_optional, fault_from, list_of, Pairs, Holds, HoldsMaybe}
use Rattle.json_fields.specs.Kinds.{a_list, IsEach, HoldsList}
use Rattle.json_fields.specs.Texts.{a_text, refused, IsText, IsSame, moment_fault}
use Rattle.json_fields.specs.declared.faults.FieldFault.{FieldFault}
use Rattle.json_fields.specs.declared.names.Step.{Step}
use Rattle.json_fields.specs.declared.names.Step.TheVariants.{Member, Place}
use Rattle.json_fields.proofs.TextLaws.{moment_fault-is, moment_of_text}

-- no fault among two, and none of a part
pub first_left : (a b : Option FieldFault) → first a b ≡ None → a ≡ None
first_left None b h = refl
first_left (Some f) b h = absurd cc

pub first_right : (a b : Option FieldFault) → first a b ≡ None → b ≡ None
first_right None b h = h
first_right (Some f) b h = absurd cc

pub moved_none : (s : Step) (o : Option FieldFault) → moved s o ≡ None → o ≡ None
moved_none s None h = refl
moved_none s (Some f) h = absurd cc

some_same : {A : Type 0} (a b : A) → Some a ≡ Some b → a ≡ b
some_same a b h = cc

-- One value means one thing.
pub holds_one : {A : Type 0} (means : Data → A → Type 0) → ((d : Data) (a b : A) → means d a → means d b → a ≡ b)
    → (o : Option Data) (a b : A) → Holds means o a → Holds means o b → a ≡ b
holds_one means law None a b h k = absurd h
holds_one means law (Some d) a b h k = law d a b h k

pub maybe_one : {A : Type 0} (means : Data → A → Type 0) → ((d : Data) (a b : A) → means d a → means d b → a ≡ b)
    → (o : Option Data) (a b : Option A) → HoldsMaybe means o a → HoldsMaybe means o b → a ≡ b
maybe_one means law None None None h k = refl
maybe_one means law None None (Some b) h k = absurd k
maybe_one means law None (Some a) b h k = absurd h
maybe_one means law (Some d) None b h k = absurd h
maybe_one means law (Some d) (Some a) None h k = absurd k
maybe_one means law (Some d) (Some a) (Some b) h k = ap Some (law d a b h k)

pairs_one : {A : Type 0} (means : Data → A → Type 0) → ((d : Data) (a b : A) → means d a → means d b → a ≡ b)
    → (ds : List Data) (xs ys : List A) → Pairs means ds xs → Pairs means ds ys → xs ≡ ys
pairs_one means law [] [] [] h k = refl
pairs_one means law [] [] (y ∷ ys) h k = absurd k
pairs_one means law [] (x ∷ xs) ys h k = absurd h
pairs_one means law (d ∷ ds) [] ys h k = absurd h
pairs_one means law (d ∷ ds) (x ∷ xs) [] h k = absurd k
pairs_one means law (d ∷ ds) (x ∷ xs) (y ∷ ys) h k =
    let e = law d x y h.0 k.0 in
    let es = pairs_one means law ds xs ys h.1 k.1 in
    cc

pub each_one : {A : Type 0} (means : Data → A → Type 0) → ((d : Data) (a b : A) → means d a → means d b → a ≡ b)
    → (d : Data) (xs ys : List A) → IsEach means d xs → IsEach means d ys → xs ≡ ys
each_one means law null xs ys h k = absurd h
each_one means law (boolean b) xs ys h k = absurd h
each_one means law (number n) xs ys h k = absurd h
each_one means law (string s) xs ys h k = absurd h
each_one means law (array ds) xs ys h k = pairs_one means law (list_of ds) xs ys h k
each_one means law (object ms) xs ys h k = absurd h

pub list_one : {A : Type 0} (means : Data → A → Type 0) → ((d : Data) (a b : A) → means d a → means d b → a ≡ b)
    → (o : Option Data) (xs ys : List A) → HoldsList means o xs → HoldsList means o ys → xs ≡ ys
list_one means law None xs ys h k = h ∙ sym k
list_one means law (Some d) xs ys h k = each_one means law d xs ys h k

pub text_one : {A : Type 0} (spells : List ℕ → A → Type 0) → ((s : List ℕ) (a b : A) → spells s a → spells s b → a ≡ b)
    → (d : Data) (a b : A) → IsText spells d a → IsText spells d b → a ≡ b
text_one spells law null a b h k = absurd h
text_one spells law (boolean t) a b h k = absurd h
text_one spells law (number n) a b h k = absurd h
text_one spells law (string s) a b h k = law s a b h k
text_one spells law (array ds) a b h k = absurd h
text_one spells law (object ms) a b h k = absurd h

pub same_one : (d : Data) (a b : List ℕ) → IsText IsSame d a → IsText IsSame d b → a ≡ b
same_one d a b h k = text_one IsSame (λ s x y e f. e ∙ sym f) d a b h k

pub moment_one : (d : Data) (a b : ℤ) → IsText IsMomentText d a → IsText IsMomentText d b → a ≡ b
moment_one d a b h k = text_one IsMomentText one_moment_said d a b h k

-- A value without a fault means something.
pub text_there : {A : Type 0} (fault : List ℕ → Option NameFault) (spells : List ℕ → A → Type 0)
    → ((s : List ℕ) → refused (fault s) ≡ None → (a : A) × spells s a) → (d : Data) → a_text fault d ≡ None → (a : A) × IsText spells d a
text_there fault spells law null h = absurd cc
text_there fault spells law (boolean b) h = absurd cc
text_there fault spells law (number n) h = absurd cc
text_there fault spells law (string s) h = law s h
text_there fault spells law (array ds) h = absurd cc
text_there fault spells law (object ms) h = absurd cc

pub same_there : (fault : List ℕ → Option NameFault) (d : Data) → a_text fault d ≡ None → (a : List ℕ) × IsText IsSame d a
same_there fault d h = text_there fault IsSame (λ s none. (s, refl)) d h

-- a moment's text is never refused for want of memory
no_memory : (s : List ℕ) → IsMomentFault s name.Memory → ⊥
no_memory s (no_text e f) = absurd cc
no_memory s (bad some place first f) = absurd cc
no_memory s (outside micros said out f) = absurd cc

pub unrefused : (s : List ℕ) (o : Option NameFault) → moment_fault s ≡ o → refused o ≡ None → o ≡ None
unrefused s None e h = refl
unrefused s (Some name.Empty) e h = absurd cc
unrefused s (Some (name.TooLong n)) e h = absurd cc
unrefused s (Some (name.BadByte n)) e h = absurd cc
unrefused s (Some (name.NotCanonical n)) e h = absurd cc
unrefused s (Some name.OutOfRange) e h = absurd cc
unrefused s (Some name.Memory) e h = absurd (no_memory s (moment_fault-is s name.Memory e))

moment_spelled : (s : List ℕ) → refused (moment_fault s) ≡ None → (z : ℤ) × IsMomentText s z
moment_spelled s h = let there = moment_of_text s (unrefused s (moment_fault s) refl h) in (there.0, there.1)

pub moment_there : (d : Data) → a_text moment_fault d ≡ None → (z : ℤ) × IsText IsMomentText d z
moment_there d h = text_there moment_fault IsMomentText moment_spelled d h

required_of : {A : Type 0} (n : NameForm) (fault : Data → Option FieldFault) (means : Data → A → Type 0)
    → ((d : Data) → fault d ≡ None → (a : A) × means d a) → (o : Option Data) → fault_required n fault o ≡ None → (a : A) × Holds means o a
required_of n fault means law None h = absurd cc
required_of n fault means law (Some d) h = law d (moved_none (Member n) (fault d) h)

pub required_there : {A : Type 0} (n : NameForm) (empty : Data → Bool) (fault : Data → Option FieldFault) (means : Data → A → Type 0)
    → ((d : Data) → fault d ≡ None → (a : A) × means d a) → (d : Data) → required n empty fault d ≡ None → (a : A) × Holds means (filled_at n empty d) a
unfolding required
required_there n empty fault means law d h = required_of n fault means law (filled_at n empty d) h

optional_of : {A : Type 0} (n : NameForm) (fault : Data → Option FieldFault) (means : Data → A → Type 0)
    → ((d : Data) → fault d ≡ None → (a : A) × means d a) → (o : Option Data) → fault_optional n fault o ≡ None → (a : Option A) × HoldsMaybe means o a
optional_of n fault means law None h = (None, tt)
optional_of n fault means law (Some d) h = let there = law d (moved_none (Member n) (fault d) h) in (Some there.0, there.1)

pub optional_there : {A : Type 0} (n : NameForm) (fault : Data → Option FieldFault) (means : Data → A → Type 0)
    → ((d : Data) → fault d ≡ None → (a : A) × means d a) → (d : Data) → optional n fault d ≡ None → (a : Option A) × HoldsMaybe means (set_at n d) a
unfolding optional
optional_there n fault means law d h = optional_of n fault means law (set_at n d) h

pairs_there : {A : Type 0} (fault : Data → Option FieldFault) (means : Data → A → Type 0)
    → ((d : Data) → fault d ≡ None → (a : A) × means d a) → (k : ℕ) (ds : List Data) → fault_from k fault ds ≡ None → (xs : List A) × Pairs means ds xs
unfolding fault_from
pairs_there fault means law k [] h = ([], tt)
pairs_there fault means law k (d ∷ ds) h =
    let one = law d (moved_none (Place k) (fault d) (first_left (moved (Place k) (fault d)) (fault_from (k + 1) fault ds) h)) in
    let rest = pairs_there fault means law (k + 1) ds (first_right (moved (Place k) (fault d)) (fault_from (k + 1) fault ds) h) in
    (one.0 ∷ rest.0, (one.1, rest.1))

pub each_there : {A : Type 0} (fault : Data → Option FieldFault) (means : Data → A → Type 0)
    → ((d : Data) → fault d ≡ None → (a : A) × means d a) → (d : Data) → a_list fault d ≡ None → (xs : List A) × IsEach means d xs
each_there fault means law null h = absurd cc
each_there fault means law (boolean b) h = absurd cc
each_there fault means law (number n) h = absurd cc
each_there fault means law (string s) h = absurd cc
each_there fault means law (array ds) h = pairs_there fault means law 0 (list_of ds) h
each_there fault means law (object ms) h = absurd cc

list_of_maybe : {A : Type 0} (n : NameForm) (fault : Data → Option FieldFault) (means : Data → A → Type 0)
    → ((d : Data) → fault d ≡ None → (a : A) × means d a) → (o : Option Data) → fault_optional n (a_list fault) o ≡ None → (xs : List A) × HoldsList means o xs
list_of_maybe n fault means law None h = ([], refl)
list_of_maybe n fault means law (Some d) h = each_there fault means law d (moved_none (Member n) (a_list fault d) h)

pub list_there : {A : Type 0} (n : NameForm) (fault : Data → Option FieldFault) (means : Data → A → Type 0)
    → ((d : Data) → fault d ≡ None → (a : A) × means d a) → (d : Data) → optional n (a_list fault) d ≡ None → (xs : List A) × HoldsList means (set_at n d) xs
unfolding optional
list_there n fault means law d h = list_of_maybe n fault means law (set_at n d) h

pub or_empty_none : (n : NameForm) (fault : Data → Option FieldFault) (d : Data) → or_empty n fault d ≡ None → fault (text_at n d) ≡ None
unfolding or_empty
or_empty_none n fault d h = moved_none (Member n) (fault (text_at n d)) h
