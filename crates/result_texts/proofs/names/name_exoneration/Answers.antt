use Rattle.std.specs.Prelude.{codes, string_bytes}
use Rattle.result_forms.specs.Replies.{exoneration_id}
use Rattle.result_texts.proofs.NameLaws.{name_done}
use Rattle.result_texts.proofs.names.name_exoneration.Goals as goal

pub returns : goal.returns
returns c =
    name_done c.args.id.now c.args.row.now.test (codes "/exonerations/") (exoneration_id c.args.row.now) (string_bytes c.begin_name.new.room.name) _ _ c.args.own.now
    c.in_ok-begin_name.ensures c.in_ok-push_str.ensures.bytes c.in_ok-push_str-2.ensures.bytes c.requires
