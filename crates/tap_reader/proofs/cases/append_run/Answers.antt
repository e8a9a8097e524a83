use Rattle.std.proofs.Common.{◌++◌, take, drop, ap, ◌∙◌}
use Rattle.std.proofs.lemmas.List.{take_rest}
use Rattle.tap_reader.specs.Cases.{unescaped}
use Rattle.tap_reader.specs.NameLengths.{after_run}
use Rattle.tap_reader.proofs.TextLemmas.{after_run_is, run_kept}
use Rattle.tap_reader.proofs.cases.append_run.Goals as goal

pub returns-clause-kept : goal.returns-clause-kept
returns-clause-kept c =
    let text = c.args.text.now in
    let out = c.args.out.now.items in
    ap (λ xs. xs ++ unescaped (after_run text)) (c.in_ok-append.ensures.ok ∙ ap (λ k. out ++ take k text) c.len_before-run.ensures.place)
    ∙ run_kept out text

pub returns-clause-rest : goal.returns-clause-rest
returns-clause-rest c =
    let text = c.args.text.now in
    take_rest text c.len_before-run.result ∙ ap (λ k. drop k text) c.len_before-run.ensures.place ∙ after_run_is text
