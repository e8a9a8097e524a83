use Rattle.std.proofs.Common.{rules, lit<, Some, subst, sym, ap, ◌∙◌, ◌++◌}
use Rattle.std.proofs.lemmas.Str.Pattern.{split_parts}
use Rattle.line_tables.specs.Rows.{PrintsRows}
use Rattle.line_tables.proofs.RowLemmas.{ToldSoFar, told_more, told_last, lacks_ends, lacks_none, not_empty}
use Rattle.line_tables.proofs.rows.tell_rows.Goals as goal

pub loop-line-preserved : goal.loop-line-preserved
loop-line-preserved g c =
    let parts = split_parts 10 c.loop-line.rest.now (Some (c.in-Some.line, c.in-Some.behind)) c.in-Some.ensures.cases (lit< tt) in
    let out = c.in_ok-extend_from_slice.ensures.items ∙ ap (λ xs. c.loop-line.out.items ++ xs) c.as_slice.ensures.value in (
      search rules,
      subst (λ xs. ToldSoFar (g.T.Teller.tells c.args.teller.now) c.args.text.now c.in-Some.behind.now xs) (sym out)
          (told_more _ _ _ _ _ _ _ c.loop-line.invariant.1 parts.0 (lacks_ends c.in-Some.line.now parts.1) c.in_ok-row.ensures),
    )

pub returns : goal.returns
returns g c =
    let lacks = lacks_none c.loop-line.rest.now c.split_once.result c.split_once.ensures.cases c.in_default.is in
    let some = not_empty c.loop-line.rest.now (sym c.is_empty.ensures ∙ c.if-is_empty.false) in
    let out = c.in_ok-extend_from_slice-2.ensures.items ∙ ap (λ xs. c.loop-line.out.items ++ xs) c.as_slice-2.ensures.value in
    subst (λ xs. PrintsRows (g.T.Teller.tells c.args.teller.now) c.args.text.now xs) (sym out)
    (told_last _ _ _ _ _ c.loop-line.invariant.1 some lacks c.in_ok-last.ensures)
