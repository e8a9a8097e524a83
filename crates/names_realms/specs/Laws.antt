-- Laws of names: one text names one value, and a text of the grammar has no fault, and so is read.
use Rattle.std.specs.Prelude.{◌≡◌, ℕ, List, Some, None}
use Rattle.name_parts.specs.declared.faults.NameFault.TheVariants.{BadByte}
use Rattle.name_parts.specs.declared.parts.PartForm.{PartForm}
use Rattle.name_parts.specs.Grammar.{IsFirstBadPlace}
use Rattle.name_parts.specs.Parts.{IsPart, part_fault}
use Rattle.names_realms.specs.declared.result_names.ResultName.{ResultName}
use Rattle.names_realms.specs.declared.parents.Parent.{Parent}
use Rattle.names_realms.specs.declared.artifact_names.ArtifactName.{ArtifactName}
use Rattle.names_realms.specs.Names.{IsInvocationName, invocation_name_fault}
use Rattle.names_realms.specs.ResultNames.{IsResultName, result_name_fault}
use Rattle.names_realms.specs.Parents.{IsParentName, parent_fault}
use Rattle.names_realms.specs.ArtifactNames.{IsArtifactName, artifact_name_fault}
use Rattle.names_realms.specs.Pairs.{IsPairKey, IsPairValue, pair_fault}
use Rattle.names_realms.specs.Realms.{IsRealm, realm_fault}

-- One text names at most one result. So a result's name is read as that result again, and two
-- results never share a name.
abbrev pub OneResultNamed : Type 0
OneResultNamed =
    (r s : ResultName) (text : List ℕ) → IsResultName r text → IsResultName s text → r ≡ s

-- One text names at most one invocation or result.
abbrev pub OneParentNamed : Type 0
OneParentNamed = (p q : Parent) (text : List ℕ) → IsParentName p text → IsParentName q text → p ≡ q

-- One text names at most one artifact.
abbrev pub OneArtifactNamed : Type 0
OneArtifactNamed =
    (a b : ArtifactName) (text : List ℕ) → IsArtifactName a text → IsArtifactName b text → a ≡ b

-- One text names at most one invocation by its id.
abbrev pub OneInvocationNamed : Type 0
OneInvocationNamed =
    (id other text : List ℕ) → IsInvocationName id text → IsInvocationName other text → id ≡ other

-- An id of an invocation, a test, a result or an artifact has no fault.
abbrev pub IdHasNoFault : Type 0
IdHasNoFault = (form : PartForm) (text : List ℕ) → IsPart form text → part_fault form text ≡ None

-- The name of an invocation has no fault.
abbrev pub InvocationNameHasNoFault : Type 0
InvocationNameHasNoFault =
    (id text : List ℕ) → IsInvocationName id text → invocation_name_fault text ≡ None

-- The name of a result has no fault.
abbrev pub ResultNameHasNoFault : Type 0
ResultNameHasNoFault =
    (r : ResultName) (text : List ℕ) → IsResultName r text → result_name_fault text ≡ None

-- The name of a parent has no fault.
abbrev pub ParentNameHasNoFault : Type 0
ParentNameHasNoFault = (p : Parent) (text : List ℕ) → IsParentName p text → parent_fault text ≡ None

-- The name of an artifact has no fault.
abbrev pub ArtifactNameHasNoFault : Type 0
ArtifactNameHasNoFault =
    (a : ArtifactName) (text : List ℕ) → IsArtifactName a text → artifact_name_fault text ≡ None

-- A realm has no fault.
abbrev pub RealmHasNoFault : Type 0
RealmHasNoFault = (text : List ℕ) → IsRealm text → realm_fault text ≡ None

-- A key and a value have no fault.
abbrev pub PairHasNoFault : Type 0
PairHasNoFault =
    (key value : List ℕ) → IsPairKey key → IsPairValue value → pair_fault key value ≡ None

-- The bad place of a realm is the first that breaks the grammar.
abbrev pub RealmBreaksFirst : Type 0
RealmBreaksFirst =
    (text : List ℕ) (place : ℕ) → realm_fault text ≡ Some (BadByte place)
    → IsFirstBadPlace IsRealm text place
