use Rattle.std.proofs.Common.{◌≡◌, ◌<◌, ℕ, Option, Some, length, option_map, rules, refl, sym, ap, ◌∙◌, subst}
use Rattle.std.specs.Option.{IfSome}
use Rattle.request_demands.specs.Demands.{Demand}
use Rattle.request_rules.specs.Locating.{Located, place_if}
use Rattle.request_rules.specs.Named.{row_at}
use Rattle.request_rules.proofs.PlaceLaws.{if_there}
use Rattle.request_rules.proofs.judging.not_active.Goals as goal

pub row_at-requires : goal.row_at-requires
row_at-requires c =
    subst (λ (place : Option ℕ). IfSome place (λ at. at < length c.args.table.now.rows))
    (sym (ap (λ (l : Located). l.active) (c.places.view_is ∙ c.requires.1))) (if_there c.args.table.now.rows c.args.demand.now.active)

pub returns : goal.returns
returns c =
    let rows = c.args.table.now.rows in
    let id = c.in_ok-id.id.now in
    let place = ap (λ (l : Located). l.active) (c.places.view_is ∙ c.requires.1) in
    let shows : c.args.demand.now.active ≡ Some id =
    sym (ap (λ (d : Demand). d.active) c.demand.view_is) ∙ ap (option_map (λ given. given.now)) c.in_ok-id.was in
    record {
      id = id;
      changes = shows;
      row = c.in_ok-state.field-0.now;
      stands = ap (row_at rows) (ap (place_if rows) (sym shows) ∙ sym place) ∙ (sym c.row_at.ensures ∙ ap (option_map (λ r. r.now)) c.in_ok-state.was);
      inactive = search rules;
      refusal_is = refl;
    }
