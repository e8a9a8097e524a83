use Rattle.std.proofs.Common.{◌≡◌, ℕ, List, IfOk, sym, subst, string_bytes}
use Rattle.report_ids.specs.TestNames.{or_unnamed, shown_name, test_id_text}
use Rattle.report_ids.proofs.NameLemmas.{shown_name-parts}
use Rattle.report_ids.proofs.test_names.id_text.Goals as goal

pub returns : goal.returns
unfolding test_id_text
returns c =
    let whole : string_bytes c.append_shown-2.new.out ≡ shown_name c.args.prefix.now c.args.name.now =
    rw (c.in_ok-append_shown.ensures.front, c.in_ok-left.ensures.front, c.in_ok-left.ensures.left, c.new-text.ensures.bytes, c.front_text.ensures) (sym (shown_name-parts c.args.prefix.now c.args.name.now c.utf8.prefix)) in
    subst (λ (bytes : List ℕ). IfOk c.or_unnamed.result (λ t. string_bytes t ≡ or_unnamed bytes)) whole c.or_unnamed.ensures
