use Rattle.std.proofs.Common.{take, sym, ap, subst, ◌∙◌, arith}
use Rattle.std.proofs.lemmas.List.{take_all}
use Rattle.serde_json.specs.Data.{string, object, Members, put}
use Rattle.serde_json.proofs.Views.{view-Object}
use Rattle.json_fields.specs.NamesRealms.declared.pairs.Pair.{Pair}
use Rattle.field_kinds.specs.Variants.{IsPairOfGrammar, def_members}
use Rattle.field_kinds.proofs.VariantLaws.{grammar_at, put_after}
use Rattle.field_kinds.proofs.variants.def_value.Goals as goal

pub put_pair-requires : goal.put_pair-requires
put_pair-requires c =
    subst (λ (p : Pair). IsPairOfGrammar p) (sym c.pair-item.is)
    (grammar_at c.args.pairs.now c.loop-pair.pair-index c.pair-item.result c.requires.grammar c.loop-pair-test.true)

pub loop-pair-preserved : goal.loop-pair-preserved
loop-pair-preserved c =
    c.in_ok-put_pair.ensures
    ∙ ap (λ (ms : Members). put c.pair-item.result.key (string c.pair-item.result.value) ms) c.loop-pair.invariant
    ∙ ap (λ (p : Pair). put p.key (string p.value) (def_members (take c.loop-pair.pair-index c.args.pairs.now))) c.pair-item.is
    ∙ put_after c.args.pairs.now c.loop-pair.pair-index c.pair-item.result c.requires.ascending c.loop-pair-test.true

pub returns : goal.returns
returns c =
    view-Object c.loop-pair.map
    ∙ ap object (c.loop-pair.invariant ∙ ap def_members (take_all c.loop-pair.pair-index c.args.pairs.now (omega arith)))
