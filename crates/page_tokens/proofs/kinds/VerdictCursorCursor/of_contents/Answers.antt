use Rattle.std.proofs.Common.{◌≡◌, [], length, sym, arith}
use Rattle.page_tokens.proofs.KindLemmas.{holds_verdict, one_byte}
use Rattle.page_tokens.proofs.kinds.VerdictCursorCursor.of_contents.Goals as goal

pub test_id-requires : goal.test_id-requires
test_id-requires c = (holds_verdict c.args.contents.now (record { ref_ptr = (0, 0); now = [] }) c.requires).test

pub label_of-requires : goal.label_of-requires
label_of-requires c = (holds_verdict c.args.contents.now (record { ref_ptr = (0, 0); now = [] }) c.requires).label

pub bounds-contents-3 : goal.bounds-contents-3
bounds-contents-3 c =
    let size : length c.args.contents.now ≡ 4 = (holds_verdict c.args.contents.now (record { ref_ptr = (0, 0); now = [] }) c.requires).size in
    omega (arith, size)

pub ordinal_of-requires : goal.ordinal_of-requires
ordinal_of-requires c = (holds_verdict c.args.contents.now (record { ref_ptr = (0, 0); now = [] }) c.requires).ordinal

pub returns : goal.returns
returns c =
    let holds = holds_verdict c.args.contents.now (record { ref_ptr = (0, 0); now = [] }) c.requires in
    let status = one_byte _ holds.status in
    rw (status, c.in_ok-test_id.ensures, c.label_of.ensures, c.ordinal_of.ensures) (sym holds.whole)
