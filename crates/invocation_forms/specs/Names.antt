-- The names of the members of messages, each in lowerCamelCase and as the proto spells it.
use Rattle.std.specs.Prelude.{codes}
use Rattle.json_fields.specs.Names.{NameForm, named, word}

abbrev pub request_id : NameForm
request_id = named (codes "requestId") (codes "request_id")

abbrev pub invocation_id : NameForm
invocation_id = named (codes "invocationId") (codes "invocation_id")

abbrev pub invocation : NameForm
invocation = word (codes "invocation")

abbrev pub realm : NameForm
realm = word (codes "realm")

abbrev pub deadline : NameForm
deadline = word (codes "deadline")

abbrev pub tags : NameForm
tags = word (codes "tags")

abbrev pub create_time : NameForm
create_time = named (codes "createTime") (codes "create_time")

abbrev pub created_by : NameForm
created_by = named (codes "createdBy") (codes "created_by")

abbrev pub finalize_start_time : NameForm
finalize_start_time = named (codes "finalizeStartTime") (codes "finalize_start_time")

abbrev pub finalize_time : NameForm
finalize_time = named (codes "finalizeTime") (codes "finalize_time")

abbrev pub included_invocations : NameForm
included_invocations = named (codes "includedInvocations") (codes "included_invocations")

abbrev pub name : NameForm
name = word (codes "name")

abbrev pub state : NameForm
state = word (codes "state")

abbrev pub update_mask : NameForm
update_mask = named (codes "updateMask") (codes "update_mask")

abbrev pub including_invocation : NameForm
including_invocation = named (codes "includingInvocation") (codes "including_invocation")

abbrev pub add_invocations : NameForm
add_invocations = named (codes "addInvocations") (codes "add_invocations")

abbrev pub remove_invocations : NameForm
remove_invocations = named (codes "removeInvocations") (codes "remove_invocations")
