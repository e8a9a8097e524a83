use Rattle.std.proofs.Common.{◌≡◌, ◌<◌, ◌∙◌, length, sym, subst, ap}
use Rattle.std.specs.Prelude.{IfSome}
use Rattle.std.specs.List.{All}
use Rattle.request_rules.specs.Broken.{Lacks}
use Rattle.request_demands.specs.Demands.{Demand}
use Rattle.request_rules.specs.Rights.{rights_here, rights_in}
use Rattle.request_rules.specs.Locating.{Located}
use Rattle.request_rules.specs.Named.{places_in}
use Rattle.request_rules.proofs.Firsts.{first_in_front, first_in_more}
use Rattle.request_rules.proofs.PlaceLaws.{all_there}
use Rattle.request_rules.proofs.RightLaws.{rights_same}
use Rattle.request_rules.proofs.rights.Asker.lacking.Goals as goal

pub lacks_in-requires-clause-there : goal.lacks_in-requires-clause-there
lacks_in-requires-clause-there c =
    let rows = c.args.table.now.rows in
    let are : c.as_slice.result.now ≡ places_in rows c.args.demand.now.named =
    c.as_slice.ensures.value ∙ ap (λ (l : Located). l.named) (c.places.view_is ∙ c.requires.places.1) in
    subst (All (λ place. IfSome place (λ at. at < length rows))) (sym are) (all_there rows c.args.demand.now.named)

pub lacks_in-requires-2-clause-there : goal.lacks_in-requires-2-clause-there
lacks_in-requires-2-clause-there c =
    let rows = c.args.table.now.rows in
    let are : c.as_slice-2.result.now ≡ places_in rows c.args.demand.now.included =
    c.as_slice-2.ensures.value ∙ ap (λ (l : Located). l.included) (c.places.view_is ∙ c.requires.places.1) in
    subst (All (λ place. IfSome place (λ at. at < length rows))) (sym are) (all_there rows c.args.demand.now.included)

pub returns-in-Some : goal.returns-in-Some
returns-in-Some c =
    let d = c.args.demand.now in
    first_in_front (Lacks c.args.self.now.policy.now c.args.self.now.caller) (rights_here d.realm d.takes) _ c.in-Some.lacking
    c.in-Some.ensures

pub returns-in-Some-lacks_in : goal.returns-in-Some-lacks_in
returns-in-Some-lacks_in c =
    let d = c.args.demand.now in
    let rows = c.args.table.now.rows in
    let lacks = Lacks c.args.self.now.policy.now c.args.self.now.caller in
    let are : c.as_slice.result.now ≡ places_in rows d.named =
    c.as_slice.ensures.value ∙ ap (λ (l : Located). l.named) (c.places.view_is ∙ c.requires.places.1) in
    first_in_more lacks (rights_here d.realm d.takes) _ _ c.in_default.ensures
    (first_in_front lacks (rights_in rows d.of_named (places_in rows d.named)) _ c.in-Some-lacks_in.lacking
    (rights_same lacks rows _ _ d.of_named _ (places_in rows d.named) (ap (λ (x : Demand). x.of_named) c.demand.view_is) are
    c.in-Some-lacks_in.ensures))

pub returns : goal.returns
returns c =
    let d = c.args.demand.now in
    let rows = c.args.table.now.rows in
    let lacks = Lacks c.args.self.now.policy.now c.args.self.now.caller in
    let named : c.as_slice.result.now ≡ places_in rows d.named =
    c.as_slice.ensures.value ∙ ap (λ (l : Located). l.named) (c.places.view_is ∙ c.requires.places.1) in
    let included : c.as_slice-2.result.now ≡ places_in rows d.included =
    c.as_slice-2.ensures.value ∙ ap (λ (l : Located). l.included) (c.places.view_is ∙ c.requires.places.1) in
    first_in_more lacks (rights_here d.realm d.takes) _ _ c.in_default.ensures
    (first_in_more lacks (rights_in rows d.of_named (places_in rows d.named)) _ _
    (rights_same lacks rows _ _ d.of_named _ (places_in rows d.named) (ap (λ (x : Demand). x.of_named) c.demand.view_is) named
    c.in_default-lacks_in.ensures)
    (rights_same lacks rows _ _ d.of_included _ (places_in rows d.included) (ap (λ (x : Demand). x.of_included) c.demand.view_is) included
    c.lacks_in-2.ensures))
