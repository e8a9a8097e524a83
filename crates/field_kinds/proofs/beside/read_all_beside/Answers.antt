use Rattle.std.proofs.Common.{◌≡◌, List, map, take, arith, sym, ap, ◌∙◌, subst}
use Rattle.std.proofs.lemmas.List.{take_all}
use Rattle.serde_json.specs.View.{view}
use Rattle.serde_json.specs.declared.value.Value.{Value}
use Rattle.json_fields.specs.Faults.{Says, moved}
use Rattle.json_fields.specs.declared.names.Step.TheVariants.{Place}
use Rattle.json_fields.specs.Fields.{Pairs}
use Rattle.json_fields.proofs.ListLaws.{list_more, list_fault, list_end, pairs_more}
use Rattle.field_kinds.proofs.beside.read_all_beside.Goals as goal

pub returns-in-Err-clause-err : goal.returns-in-Err-clause-err
returns-in-Err-clause-err g c =
    let says = c.under.ensures ((g.T.FormBeside.fault c.args.context.now) (view c.index-list-i.result)) c.in-Err.ensures.err in
    rw (c.loop-i.invariant.fault) (list_fault (g.T.FormBeside.fault c.args.context.now) c.args.list.now c.loop-i.i _ c.under.result c.loop-i-test.true (subst (λ (v : Value). Says c.under.result (moved (Place c.loop-i.i) ((g.T.FormBeside.fault c.args.context.now) (view v)))) c.index-list-i.is says))

pub loop-i-preserved : goal.loop-i-preserved
loop-i-preserved g c =
    let none = ap (λ v. (g.T.FormBeside.fault c.args.context.now) (view v)) (sym c.index-list-i.is) ∙ c.in-Ok.ensures.ok.0 in
    let one = subst (λ (v : Value). (g.T.FormBeside.means c.args.context.now) (view v) c.in-Ok.one) c.index-list-i.is c.in-Ok.ensures.ok.1 in
    record {
      fault = c.loop-i.invariant.fault ∙ list_more (g.T.FormBeside.fault c.args.context.now) c.args.list.now c.loop-i.i _ c.loop-i-test.true none;
      pairs = rw (c.in_ok-add-in-Ok.ensures) (pairs_more (g.T.FormBeside.means c.args.context.now) c.args.list.now c.loop-i.found.items c.loop-i.i _ c.in-Ok.one c.loop-i-test.true c.loop-i.invariant.pairs one);
    }

pub returns-clause-ok : goal.returns-clause-ok
returns-clause-ok g c =
    let all : take c.loop-i.i c.args.list.now ≡ c.args.list.now = take_all c.loop-i.i c.args.list.now (omega arith) in
    rw c.new.ensures (c.loop-i.invariant.fault ∙ list_end (g.T.FormBeside.fault c.args.context.now) c.args.list.now c.loop-i.i (omega arith), subst (λ (vs : List Value). Pairs (g.T.FormBeside.means c.args.context.now) (map view vs) c.loop-i.found.items) all c.loop-i.invariant.pairs)
