-- What the laws ask of kinds, of fields, and of the requests that are made of them.
use Rattle.std.specs.Prelude.{◌≡◌, ◌&&◌, ℕ, Bool, true, List, [], ◌∷◌, Option, Some, None, ⊤}
use Rattle.serde_json.specs.Data.{Data}
use Rattle.json_fields.specs.Names.{NameForm}
use Rattle.json_fields.specs.Faults.{first}
use Rattle.json_fields.specs.Fields.{member}
use Rattle.json_fields.specs.Kinds.{an_object}
use Rattle.json_fields.specs.Writing.{IsWritten}
use Rattle.json_fields.proofs.FormLaws.{GivesForm}
use Rattle.json_fields.proofs.PlainLaws.{IsPlain}
use Rattle.json_fields.proofs.WriteLaws.{differ}
use Rattle.field_kinds.specs.Requests.{RequestForm}
use Rattle.field_kinds.proofs.ReadValues.{IsReadValue}
use Rattle.form_fields.specs.Fields.{Kind, Fields}
use Rattle.form_fields.specs.Members.{object_of}

-- each of the members is found in the value
abbrev pub AreAt : Data → List (NameForm × Option Data) → Type 0
AreAt d [] = ⊤
AreAt d (m ∷ rest) = (member m.0 d ≡ m.1) × AreAt d rest

abbrev pub names_of : List (NameForm × Option Data) → List NameForm
names_of [] = []
names_of (m ∷ rest) = m.0 ∷ names_of rest

-- no name is spelled as another one is written
abbrev pub two_apart : NameForm → NameForm → Bool
two_apart q n = differ q.camel n.camel && differ q.proto n.camel

abbrev pub apart_from : NameForm → List NameForm → Bool
apart_from q [] = true
apart_from q (n ∷ ns) = (two_apart q n && two_apart n q) && apart_from q ns

abbrev pub all_apart : List NameForm → Bool
all_apart [] = true
all_apart (n ∷ ns) = apart_from n ns && all_apart ns

-- values without a float that nest little, each of which may be left out
abbrev pub MayBePlain : ℕ → Option Data → Type 0
MayBePlain n None = ⊤
MayBePlain n (Some d) = IsPlain n d

abbrev pub EachPlain : ℕ → List (NameForm × Option Data) → Type 0
EachPlain n [] = ⊤
EachPlain n (m ∷ rest) = MayBePlain n m.1 × EachPlain n rest

-- A kind is lawful: a value means one thing at most, and one where it was read from a text and has
-- no fault; that is of its form, and blank just where the value is empty; and what is written of a
-- value of the form is read again, has no float, and nests little.
pub record IsLawfulKind {A : Type 0} (k : Kind A) : Type 0 where
  pub one : (d : Data) (a b : A) → k.means d a → k.means d b → a ≡ b
  pub there : (d : Data) → IsReadValue d → k.fault d ≡ None → (a : A) × k.means d a
  pub formed : GivesForm k.fault k.means k.OfForm
  pub told : (d : Data) (a : A) → k.fault d ≡ None → k.means d a → k.empty d ≡ k.blank a
  pub again : (a : A) → k.OfForm a → IsWritten k.fault k.means k.empty k.blank a (k.json a)
  pub plain : (a : A) → IsPlain k.levels (k.json a)

-- Fields are lawful in the same way: they are read again from each object that has their members.
pub record AreLawful {V : Type 0} (f : Fields V) : Type 0 where
  pub one : (d : Data) (a b : V) → f.means d a → f.means d b → a ≡ b
  pub there : (d : Data) → IsReadValue d → f.fault d ≡ None → (v : V) × f.means d v
  pub formed : GivesForm f.fault f.means f.OfForm
  pub named : (v : V) → names_of (f.members v) ≡ f.names
  pub again : (v : V) (d : Data) → f.OfForm v → AreAt d (f.members v)
      → (f.fault d ≡ None) × f.means d v
  pub plain : (v : V) → EachPlain f.levels (f.members v)

-- A request is made of the value of its fields and has that as its parts; its form says what the
-- fields say, by its own names for that; and no name of a field is spelled as another one is.
pub record IsMadeOf {Q V : Type 0} (r : RequestForm Q) (f : Fields V) : Type 0 where
  pub made : V → Q
  pub parts : Q → V
  pub held : (v : V) → parts (made v) ≡ v
  pub whole : (d : Data) (q : Q) → r.means d q → q ≡ made (parts q)
  pub faults : (d : Data) → r.fault d ≡ first (an_object d) (f.fault d)
  pub told : (d : Data) (q : Q) → r.means d q → f.means d (parts q)
  pub said : (d : Data) (q : Q) → r.OfForm q → f.means d (parts q) → r.means d q
  pub in_form : (q : Q) → r.OfForm q → f.OfForm (parts q)
  pub of_form : (v : V) → f.OfForm v → r.OfForm (made v)
  pub members : (q : Q) → r.json q ≡ object_of (f.members (parts q))
  pub apart : all_apart f.names ≡ true
