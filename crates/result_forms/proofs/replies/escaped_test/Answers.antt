use Rattle.json_fields.proofs.NameTextLaws.{escaped_utf8}
use Rattle.result_forms.proofs.replies.escaped_test.Goals as goal

pub owned_text-requires : goal.owned_text-requires
owned_text-requires c =
    rw (c.as_slice-2.ensures.value, c.in_ok-append_escaped.ensures.ok, c.new-out.ensures.items) (rw (c.as_slice.ensures.text) (escaped_utf8 c.args.test.now))
