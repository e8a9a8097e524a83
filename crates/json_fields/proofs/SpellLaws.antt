-- A value's one text spells it, and so it is read again.
use Rattle.std.proofs.Common.{◌≡◌, ◌≤◌, ℕ, ℤ, List, None, refl}
use Rattle.names_realms.specs.NameParts.Parts.{IsPart, part_fault}
use Rattle.names_realms.specs.NameParts.declared.parts.PartForm.{PartForm}
use Rattle.names_realms.proofs.NameParts.PartLemmas.{IsPart-part_fault}
use Rattle.names_realms.specs.Realms.{IsRealm, realm_fault}
use Rattle.names_realms.specs.Names.{IsTestId, IsResultId, IsArtifactId, test_id_fault, result_id_fault, artifact_id_fault}
use Rattle.names_realms.specs.Parents.{IsParentName, parent_name, parent_fault}
use Rattle.names_realms.specs.ResultNames.{IsResultName, result_name, result_name_fault}
use Rattle.names_realms.specs.ArtifactNames.{IsArtifactName, artifact_name, artifact_name_fault}
use Rattle.names_realms.specs.declared.parents.Parent.{Parent}
use Rattle.names_realms.specs.declared.result_names.ResultName.{ResultName}
use Rattle.names_realms.specs.declared.artifact_names.ArtifactName.{ArtifactName}
use Rattle.names_realms.proofs.RealmLemmas.{IsRealm-realm_fault}
use Rattle.names_realms.proofs.ParentLemmas.{IsParentName-fault}
use Rattle.names_realms.proofs.ResultNameLemmas.{IsResultName-fault}
use Rattle.names_realms.proofs.ArtifactNameLemmas.{IsArtifactName-fault}
use Rattle.names_realms.specs.MomentsSpans.Moments.{IsInYears, moment_text}
use Rattle.names_realms.specs.MomentsSpans.MomentGrammar.{IsMomentText}
use Rattle.names_realms.specs.MomentsSpans.Spans.{most_span, span_text}
use Rattle.names_realms.specs.MomentsSpans.SpanGrammar.{IsSpanText}
use Rattle.names_realms.proofs.MomentsSpans.SaidLaws.{printed_moment_is_said, printed_span_is_said}
use Rattle.json_fields.specs.Texts.{IsSame, moment_fault, span_fault}
use Rattle.json_fields.specs.Writing.{IsSpelled}
use Rattle.json_fields.proofs.NameTextLaws.{result_name_utf8, parent_name_utf8, artifact_name_utf8}
use Rattle.json_fields.proofs.TextLaws.{moment_empty, moment_fault-None, span_empty, span_fault-None}
use Rattle.json_fields.proofs.WriteLaws.{spelled_out}

pub part_spelled : (form : PartForm) (text : List ℕ) → IsPart form text → IsSpelled (part_fault form) IsSame text text
part_spelled form text is = spelled_out (part_fault form) IsSame text text refl (IsPart-part_fault form text is) refl

-- ids of three kinds by the words in which the proofs above name them
pub test_id_spelled : (text : List ℕ) → IsTestId text → IsSpelled test_id_fault IsSame text text
test_id_spelled text is = part_spelled _ text is

pub result_id_spelled : (text : List ℕ) → IsResultId text → IsSpelled result_id_fault IsSame text text
result_id_spelled text is = part_spelled _ text is

pub artifact_id_spelled : (text : List ℕ) → IsArtifactId text → IsSpelled artifact_id_fault IsSame text text
artifact_id_spelled text is = part_spelled _ text is

pub realm_spelled : (text : List ℕ) → IsRealm text → IsSpelled realm_fault IsSame text text
realm_spelled text is = spelled_out realm_fault IsSame text text refl (IsRealm-realm_fault text is) refl

pub result_name_spelled : (r : ResultName) → IsResultName r (result_name r) → IsSpelled result_name_fault (λ text x. IsResultName x text) (result_name r) r
result_name_spelled r is = spelled_out result_name_fault (λ text x. IsResultName x text) (result_name r) r refl (IsResultName-fault r (result_name r) is) is

pub artifact_name_spelled : (a : ArtifactName) → IsArtifactName a (artifact_name a) → IsSpelled artifact_name_fault (λ text x. IsArtifactName x text) (artifact_name a) a
artifact_name_spelled a is = spelled_out artifact_name_fault (λ text x. IsArtifactName x text) (artifact_name a) a refl (IsArtifactName-fault a (artifact_name a) is) is

pub parent_spelled : (p : Parent) → IsParentName p (parent_name p) → IsSpelled parent_fault (λ text x. IsParentName x text) (parent_name p) p
parent_spelled p is = spelled_out parent_fault (λ text x. IsParentName x text) (parent_name p) p refl (IsParentName-fault p (parent_name p) is) is

pub moment_spelled : (z : ℤ) → IsInYears z → IsSpelled moment_fault IsMomentText (moment_text z) z
moment_spelled z range =
    let said = printed_moment_is_said z range in
    spelled_out moment_fault IsMomentText (moment_text z) z moment_empty (moment_fault-None (moment_text z) z said range) said

pub span_spelled : (n : ℕ) → n ≤ most_span → IsSpelled span_fault IsSpanText (span_text n) n
span_spelled n range =
    let said = printed_span_is_said n range in
    spelled_out span_fault IsSpanText (span_text n) n span_empty (span_fault-None (span_text n) n said range) said

-- that a text is read without a fault, and what is written of a value
pub ruleset spellings = (IsRealm-realm_fault, IsResultName-fault, IsArtifactName-fault, IsParentName-fault, moment_fault-None, span_fault-None, result_name_utf8, parent_name_utf8, artifact_name_utf8, IsPart-part_fault, part_spelled, realm_spelled, result_name_spelled, artifact_name_spelled, parent_spelled, moment_spelled, span_spelled)
