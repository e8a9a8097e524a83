use Rattle.std.proofs.Common.{◌≡◌, ◌<◌, ◌^◌, Ok, sym, ap, ◌∙◌, arith, decimal}
use Rattle.std.proofs.lemmas.Fmt.{parse-decimal}
use Rattle.program_words.proofs.values.number_of.Goals.{then-number-least-via-then-number-least, then-number-least-via-else-number-least+then-number-most, then-number-least-via-else-number-least+else-number-most+then-not-is_written}
use Rattle.program_words.proofs.values.number_of.Goals as goal

pub returns-in_default-clause-none : goal.returns-in_default-clause-none
returns-in_default-clause-none c = λ n up is.
    let few : n < 2 ^ 64 = omega (arith, up.1) in
    let read : c.parse.result ≡ Ok n = parse-decimal 64 n c.args.text.now c.parse.result few few is c.parse.ensures.value.0 in
    c.in_default.not-Ok n read

pub returns-then-number-least-clause-none : goal.returns-then-number-least-clause-none
returns-then-number-least-clause-none c = λ n up is.
    let few : n < 2 ^ 64 = omega (arith, up.1) in
    let read : c.parse.result ≡ Ok n = parse-decimal 64 n c.args.text.now c.parse.result few few is c.parse.ensures.value.0 in
    let number : c.in-Ok.number ≡ n = let found = c.in-Ok.is in cc in
    elim c.then-number-least.branch [
      | then-number-least-via-then-number-least w ↦ let zero = w.if-number-least.true in omega (arith, number, up.0)
      | then-number-least-via-else-number-least+then-number-most w ↦ let more = w.if-number-most.true in omega (arith, number, up.1)
      | then-number-least-via-else-number-least+else-number-most+then-not-is_written w ↦
          let written = w.is_written.ensures.1 (is ∙ ap decimal (sym number)) in let no = w.if-not-is_written.true in cc
    ]
