-- The texts of replies: JSON (RFC 8259) by the Proto3 mapping, without blanks, the members in byte
-- order of their names.
use Rattle.std.specs.Prelude.{ℕ, List, ◌++◌, codes}
use Rattle.serde_json.specs.Data.{Data, object, no_members}
use Rattle.serde_json.specs.Written.{compact_text}
use Rattle.artifact_replies.specs.Replies.{artifact_data, artifacts_data}
use Rattle.query_forms.specs.InvocationForms.Replies.{invocation_data}
use Rattle.message_forms.specs.Batches.{results_data, exonerations_data}
use Rattle.message_forms.specs.declared.replies.Reply.{Reply}
use Rattle.message_forms.specs.declared.replies.Reply.TheVariants.{Empty, Invocation, Results, Exonerations, Artifacts, Artifact}

abbrev pub reply_data : Reply → Data
reply_data Empty = object no_members
reply_data (Invocation s) = invocation_data s
reply_data (Results s) = results_data s
reply_data (Exonerations s) = exonerations_data s
reply_data (Artifacts s) = artifacts_data s
reply_data (Artifact row) = artifact_data row

-- what every pRPC reply in JSON begins with, so that no browser takes it for a script
abbrev pub reply_prefix : List ℕ
reply_prefix = codes ")]}'\n"

abbrev pub reply_text : Reply → List ℕ
reply_text reply = reply_prefix ++ compact_text (reply_data reply)
