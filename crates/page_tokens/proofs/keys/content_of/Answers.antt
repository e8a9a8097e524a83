use Rattle.std.proofs.Common.{◌≡◌, ℕ, None, take, sym, ap, ◌∙◌}
use Rattle.std.proofs.lemmas.List.{take_min}
use Rattle.std.proofs.lemmas.Result.{IfOk-weaker}
use Rattle.name_parts.specs.Parts.{bad_place}
use Rattle.page_tokens.proofs.PartLemmas.{is_text}
use Rattle.page_tokens.proofs.keys.content_of.Goals as goal

pub returns-clause-ok : goal.returns-clause-ok
returns-clause-ok c =
    let there : take c.min.result c.args.bytes.now ≡ take c.args.len c.args.bytes.now =
    ap (λ (n : ℕ). take n c.args.bytes.now) c.min.ensures ∙ take_min c.args.len c.args.bytes.now in
    let none : bad_place c.args.form (take c.args.len c.args.bytes.now) ≡ None =
    ap (bad_place c.args.form) (sym there) ∙ sym c.first_bad.ensures.place ∙ c.in_default.is in
    IfOk-weaker c.plain_of.result _ _
    (λ front h. (h.0, is_text c.args.form c.args.len front.content.now c.requires h.0 (ap (bad_place c.args.form) h.1 ∙ none), h.2))
    c.plain_of.ensures.ok
