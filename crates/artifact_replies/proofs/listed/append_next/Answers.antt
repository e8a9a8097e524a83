use Rattle.std.proofs.Common.{refl}
use Rattle.artifact_replies.proofs.listed.append_next.Goals as goal

pub returns-in_ok-append_text-in-Some : goal.returns-in_ok-append_text-in-Some
returns-in_ok-append_text-in-Some c = rw (c.in-Some.is, c.in_ok-append_text-in-Some.ensures, c.as_str.ensures.value) refl
