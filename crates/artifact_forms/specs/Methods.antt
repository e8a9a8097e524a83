-- The methods of artifacts.
use Rattle.field_kinds.specs.Requests.{RequestForm}
use Rattle.names_realms.specs.ArtifactNames.{artifact_name, IsArtifactName}
use Rattle.artifact_forms.specs.Batches.{a_batch, IsBatch, batch_data, IsBatchOfForm}
use Rattle.artifact_forms.specs.Named.{a_named, IsNamed, named_data}
use Rattle.artifact_forms.specs.Listed.{a_list_request, IsList, list_request_data, IsListOfForm}
use Rattle.artifact_forms.specs.declared.batches.BatchCreateArtifacts.{BatchCreateArtifacts}
use Rattle.artifact_forms.specs.declared.named.GetArtifact.{GetArtifact}
use Rattle.artifact_forms.specs.declared.listed.ListArtifacts.{ListArtifacts}

-- Requests that add artifacts, show one, or list those of a parent. Those that a body can ask for
-- are those of their form.
abbrev pub artifacts_form : RequestForm BatchCreateArtifacts
artifacts_form = record {
  fault = a_batch;
  means = IsBatch;
  json = batch_data;
  OfForm = IsBatchOfForm;
  CanBeAsked = IsBatchOfForm;
}

abbrev pub artifact_form : RequestForm GetArtifact
artifact_form = record {
  fault = a_named;
  means = λ d q. IsNamed d q.name;
  json = λ q. named_data q.name;
  OfForm = λ q. IsArtifactName q.name (artifact_name q.name);
  CanBeAsked = λ q. IsArtifactName q.name (artifact_name q.name);
}

abbrev pub list_form : RequestForm ListArtifacts
list_form = record {
  fault = a_list_request;
  means = IsList;
  json = list_request_data;
  OfForm = IsListOfForm;
  CanBeAsked = IsListOfForm;
}
