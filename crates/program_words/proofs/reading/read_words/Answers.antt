use Rattle.std.proofs.Common.{codes, sym, ◌∙◌, arith}
use Rattle.program_words.proofs.ClapRows.{text_is}
use Rattle.program_words.proofs.WordLists.{one_word, first_word}
use Rattle.program_words.proofs.reading.read_words.Goals as goal

pub read_answer-requires : goal.read_answer-requires
read_answer-requires c =
    first_word c.args.words.now c.command-item.result (codes "answer") (omega arith) c.command-item.is
    (sym c.as_str.ensures.value ∙ text_is _ _ (sym c.eq.ensures ∙ c.if-eq.true))

pub read_check-requires : goal.read_check-requires
read_check-requires c =
    first_word c.args.words.now c.command-item-2.result (codes "check") (omega arith) c.command-item-2.is
    (sym c.as_str-2.ensures.value ∙ text_is _ _ (sym c.eq-2.ensures ∙ c.if-eq-2.true))

pub read_serve-requires : goal.read_serve-requires
read_serve-requires c =
    first_word c.args.words.now c.command-item-3.result (codes "serve") (omega arith) c.command-item-3.is
    (sym c.as_str-3.ensures.value ∙ text_is _ _ (sym c.eq-3.ensures ∙ c.if-eq-3.true))

pub read_sink-requires : goal.read_sink-requires
read_sink-requires c =
    first_word c.args.words.now c.command-item-4.result (codes "sink") (omega arith) c.command-item-4.is
    (sym c.as_str-4.ensures.value ∙ text_is _ _ (sym c.eq-4.ensures ∙ c.if-eq-4.true))

pub read_workload-requires : goal.read_workload-requires
read_workload-requires c =
    first_word c.args.words.now c.command-item-5.result (codes "workload") (omega arith) c.command-item-5.is
    (sym c.as_str-5.ensures.value ∙ text_is _ _ (sym c.eq-5.ensures ∙ c.if-eq-5.true))

pub returns-in-len1-clause-said : goal.returns-in-len1-clause-said
returns-in-len1-clause-said c =
    one_word c.args.words.now c.word-item.result (codes "--help") (omega arith) c.word-item.is
    (sym c.as_str-then-words-lt2.ensures.value ∙ text_is _ _ (sym c.eq-then-words-lt2.ensures ∙ c.if-eq-6.true))

pub returns-in-len1-2-clause-said : goal.returns-in-len1-2-clause-said
returns-in-len1-2-clause-said c =
    one_word c.args.words.now c.word-item-then-words-lt2.result (codes "--version") (omega arith) c.word-item-then-words-lt2.is
    (sym c.as_str-then-words-lt2-2.ensures.value ∙ text_is _ _ (sym c.eq-then-words-lt2-2.ensures ∙ c.if-eq-7.true))
