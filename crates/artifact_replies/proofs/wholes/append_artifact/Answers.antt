use Rattle.std.specs.Prelude.{string_bytes}
use Rattle.artifact_replies.proofs.LineLaws.{artifact_done}
use Rattle.artifact_replies.proofs.wholes.append_artifact.Goals as goal

pub returns : goal.returns
returns c =
    artifact_done c.args.row.now (string_bytes c.args.out.now) _ _ _ _ _ _ _ c.as_slice.result.now c.as_slice-2.result.now c.len.result
    c.as_slice.ensures c.as_slice-2.ensures c.len.ensures c.in_ok-append_id.ensures c.in_ok-append_type.ensures c.in_ok-append_contents.ensures
    c.in_ok-append_hash.ensures c.in_ok-append_name.ensures c.in_ok-append_size.ensures c.in_ok-append.ensures
