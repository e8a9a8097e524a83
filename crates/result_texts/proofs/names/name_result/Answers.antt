use Rattle.std.specs.Prelude.{codes, string_bytes}
use Rattle.json_fields.specs.NamesRealms.ResultNames.{result_name}
use Rattle.result_texts.proofs.NameLaws.{name_done}
use Rattle.result_texts.proofs.names.name_result.Goals as goal

pub returns : goal.returns
unfolding result_name
returns c =
    name_done c.args.id.now c.args.row.now.test (codes "/results/") c.args.row.now.result (string_bytes c.begin_name.new.room.name) _ _ c.as_str.result.now
    c.in_ok-begin_name.ensures c.in_ok-push_str.ensures.bytes c.in_ok-push_str-2.ensures.bytes c.as_str.ensures.text
