use Rattle.std.proofs.Common.{◌≡◌, ◌+◌, min, true, false, nat_lt, length, sym, ap, ◌∙◌, arith}
use Rattle.std.proofs.lemmas.Bool.Decides.{nat_tests}
use Rattle.junit_reader.proofs.FrontLemmas.{solid_grows, solid_stays}
use Rattle.junit_reader.proofs.own_text.OwnText.grow.Goals as goal

pub returns-then-solid-gt0 : goal.returns-then-solid-gt0
returns-then-solid-gt0 c = λ text is.
    let len = length c.as_slice-len.result.now in
    let some : nat_lt 0 c.solid_len-solid.result ≡ true = grind (arith, nat_tests, c.if-solid-gt0.true) in
    let next : c.min-self.result ≡ min 1025 (len + c.solid_len-solid.result) = omega (arith, c.min-self.ensures, c.saturating_add.ensures) in
    record {
      bytes = c.in_ok-push_front.ensures text is.bytes;
      solid = solid_grows text c.args.more.now len c.solid_len-solid.result c.min-self.result (ap length (c.as_slice-len.ensures.value ∙ is.bytes)) c.solid_len-solid.ensures.value some next;
    }

pub returns-else-solid-gt0 : goal.returns-else-solid-gt0
returns-else-solid-gt0 c = λ text is.
    let none : nat_lt 0 c.solid_len-solid.result ≡ false = grind (arith, nat_tests, c.if-solid-gt0.false) in
    record {
      bytes = c.in_ok-push_front.ensures text is.bytes;
      solid = is.solid ∙ ap (min 1025) (sym (solid_stays text c.args.more.now c.solid_len-solid.result c.solid_len-solid.ensures.value none));
    }
