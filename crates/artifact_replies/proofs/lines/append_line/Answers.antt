use Rattle.std.specs.Prelude.{string_bytes}
use Rattle.artifact_replies.proofs.LineLaws.{line_done}
use Rattle.artifact_replies.proofs.lines.append_line.Goals as goal

pub returns : goal.returns
returns c =
    line_done c.args.row.now (string_bytes c.args.out.now) _ _ _ _ _ c.as_slice.result.now c.len.result c.as_slice.ensures c.len.ensures
    c.in_ok-append_id.ensures c.in_ok-append_type.ensures c.in_ok-append_name.ensures c.in_ok-append_size.ensures c.in_ok-append.ensures
