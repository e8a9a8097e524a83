use Rattle.json_fields.proofs.NameTextLaws.{escaped_utf8}
use Rattle.result_texts.proofs.names.begin_name.Goals as goal

pub unreachable-requires : goal.unreachable-requires
unreachable-requires c =
    c.in-Err.ensures.cases.0
    (rw (c.as_slice-2.ensures.value, c.in_ok-append_escaped.ensures.ok, c.clear.ensures.items) (rw (c.as_slice.ensures.text) (escaped_utf8 c.args.test.now)))
