use Rattle.std.proofs.Common.{◌≡◌, ◌≢◌, sym, ◌∙◌, map, false, true, string_bytes, Global}
use Rattle.std.specs.List.{list_any}
use Rattle.clap.specs.Words.{kind_of}
use Rattle.clap.specs.declared.error.kind.ErrorKind.TheVariants.{OutOfMemory}
use Rattle.clap.proofs.WalkLemmas.{list_any-map}
use Rattle.program_words.specs.Clap.{is_stray}
use Rattle.program_words.proofs.Answering.{found_words, parse_taken, parse_value, parse_refused, words_taken}
use Rattle.program_words.proofs.reading.read_options.Goals as goal

pub returns-then-has_stray-clause-refused : goal.returns-then-has_stray-clause-refused
returns-then-has_stray-clause-refused c = λ name table givens plain app_is is a.
    let none = (words_taken name table _ givens plain a).0 in
    let some : list_any is_stray (map (string_bytes {Z = Global}) c.args.words.now) ≡ true =
    sym (list_any-map is_stray (string_bytes {Z = Global}) c.args.words.now) ∙ sym c.has_stray.ensures ∙ c.if-has_stray.true in
    let bad : false ≡ true = sym none ∙ some in
    cc

pub returns-in-Ok-clause-ok : goal.returns-in-Ok-clause-ok
returns-in-Ok-clause-ok c = λ name table rest plain app_is is.
    let parse = c.in-Ok.ensures in
    let none : list_any is_stray (map (string_bytes {Z = Global}) c.args.words.now) ≡ false =
    sym (list_any-map is_stray (string_bytes {Z = Global}) c.args.words.now) ∙ sym c.has_stray.ensures ∙ c.if-has_stray.false in
    found_words name table (map (string_bytes {Z = Global}) c.args.words.now) rest c.in-Ok.found plain is none
    (parse_taken _ _ _ app_is plain.free parse.kinds)
    (λ n. parse_value _ _ _ c.in-Ok.found n app_is plain.simple parse.matches)

pub returns-else-eq-clause-refused : goal.returns-else-eq-clause-refused
returns-else-eq-clause-refused c = λ name table givens plain app_is is a.
    let other : kind_of c.in-Err.error ≢ OutOfMemory =
    λ same. let kind = c.kind.ensures ∙ same in let tested = rw kind at c.eq.ensures in cc in
    parse_refused _ _ _ c.in-Err.error app_is plain.free c.in-Err.ensures.kinds other (words_taken name table _ givens plain a).1
