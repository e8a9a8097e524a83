use Rattle.std.proofs.Common.{◌≡◌, ◌++◌, ◌∷◌, [], map, rules, sym, ap, subst, ◌∙◌, append_assoc}
use Rattle.std.proofs.lemmas.List.{map-append}
use Rattle.std.specs.List.{AllByRecursion}
use Rattle.served_desk.proofs.SeatLaws.{joins_push}
use Rattle.served_desk.proofs.joining.gathered.Goals as goal

pub loop-door-preserved : goal.loop-door-preserved
loop-door-preserved g c =
    let i = c.loop-door.invariant in
    let seen = c.loop-door.yielded in
    let w = c.in-Some.field-0 in
    let next : c.loop-door.door-iterator.rest.items ≡ w ∷ c.next.new.self.rest.items = c.in-Some.ensures.steps.0 in
    let own = subst (AllByRecursion (λ w. w.teller.seat.table ≡ c.args.desk.now.table)) next i.own in
    record {
      can = tt;
      finite = tt;
      doors = c.push_reserved-in-loop-door.ensures.items ∙ ap (λ l. l ++ w.door ∷ []) i.doors
          ∙ append_assoc c.push_reserved.new.self.items (map (λ w. w.door) seen) (w.door ∷ [])
          ∙ ap (λ l. c.push_reserved.new.self.items ++ l) (sym (map-append (λ w. w.door) seen (w ∷ [])));
      whole = i.whole ∙ ap (λ l. seen ++ l) next ∙ sym (append_assoc seen (w ∷ []) c.next.new.self.rest.items);
      room = search rules;
      table = c.join.ensures.own ∙ i.table;
      own = own.1;
      joined = joins_push (λ w. w.teller.seat.knows) _ seen w _ _ i.joined c.join.ensures.agrees c.join.ensures.joined;
    }
