use Rattle.std.proofs.Common.{length, sym, ap, arith}
use Rattle.name_parts.proofs.SpellingLemmas.{escaped-nil, length-escaped-more}
use Rattle.name_parts.proofs.escapes.escaped_len.Goals as goal
use Rattle.name_parts.proofs.escapes.escaped_len.Goals.{then-stands_as_itself, else-stands_as_itself}

pub loop-byte-init : goal.loop-byte-init
loop-byte-init c = (ap length (sym escaped-nil), omega arith)

pub loop-byte-preserved : goal.loop-byte-preserved
loop-byte-preserved c =
    let more = length-escaped-more c.args.bytes.now c.loop-byte.byte-index c.loop-byte-test.true in
    elim c.if-stands_as_itself.branch [
      | then-stands_as_itself w ↦ let is = sym w.if-stands_as_itself.ensures in (omega (arith, rw is at more, w.len-is, c.loop-byte.invariant.0), omega (arith, w.len-is, c.loop-byte.invariant.1))
      | else-stands_as_itself w ↦ let is = sym w.if-stands_as_itself.ensures in (omega (arith, rw is at more, w.len-is, c.loop-byte.invariant.0), omega (arith, w.len-is, c.loop-byte.invariant.1))
    ]
