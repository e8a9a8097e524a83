use Rattle.result_journal.proofs.BeginLaws.{judged}
use Rattle.std.proofs.Common.{◌≡◌, Bool, true, arith, rules, subst}
use Rattle.disks.specs.Parts.{part_of}
use Rattle.disks.specs.Whole.{FillsRoom}
use Rattle.result_journal.proofs.begin.check_head.Goals as goal

pub returns-clause-judged : goal.returns-clause-judged
returns-clause-judged g c = λ t is long.
    let whole : c.in_ok-whole.whole ≡ true = search rules in
    judged (part_of t.now c.args.part).bytes c.read_exact_at.new.room (omega arith)
    (subst (λ (b : Bool). FillsRoom (part_of t.now c.args.part).bytes 0 c.read_exact_at.new.room b) whole (c.in_ok-whole.ensures.fills t is))
    c.judge_head.result
    c.judge_head.ensures.judged
