use Rattle.std.proofs.Common.{◌≡◌, ◌+◌, ◌≤◌, ◌++◌, ◌∷◌, [], length, map, vec_len, rules, arith, refl, sym, ap, subst, ◌∙◌, length-append, append_assoc}
use Rattle.std.specs.List.{AllByRecursion}
use Rattle.std.proofs.lemmas.List.{length-map, map-append}
use Rattle.served_desk.specs.Seatings.{AreSeats, seat_at}
use Rattle.served_desk.proofs.SeatLaws.{all_push, unsplit, left_by, right_by, seats_push}
use Rattle.served_desk.proofs.staff.workers_of.Goals as goal

pub loop-door-preserved : goal.loop-door-preserved
loop-door-preserved g c =
    let i = c.loop-door.invariant in
    let seen = c.loop-door.yielded in
    let next : c.loop-door.door-iterator.rest.items ≡ c.in-Some.door ∷ c.next.new.self.rest.items = c.in-Some.ensures.steps.0 in
    let count = vec_len c.args.doors in
    let more : length c.into_iter-door-iterator.result.rest.items ≡ length seen + length c.loop-door.door-iterator.rest.items =
    ap length i.whole ∙ length-append seen c.loop-door.door-iterator.rest.items in
    let long : length c.loop-door.workers.items ≡ length seen = sym (length-map c.loop-door.workers.items (λ w. w.door)) ∙ ap length i.doors in
    let few : length seen ≤ 64 = let most = i.few in omega (arith, more, most) in
    let split = right_by count (length seen) c.loop-door.seat.knows c.split-split.result.knows few i.knows c.split-split.ensures.right in
    record {
      can = tt;
      finite = tt;
      doors = ap (map (λ w. w.door)) c.push_reserved.ensures.items
          ∙ (map-append (λ w. w.door) c.loop-door.workers.items _ ∙ ap (λ l. l ++ c.in-Some.door ∷ []) i.doors);
      whole = i.whole ∙ ap (λ l. seen ++ l) next ∙ sym (append_assoc seen (c.in-Some.door ∷ []) c.next.new.self.rest.items);
      room = search rules;
      few = i.few;
      table = c.split-split.ensures.own.0 ∙ i.table;
      desk = subst (AllByRecursion (λ w. w.teller.desk.now ≡ c.args.desk.now)) (sym c.push_reserved.ensures.items)
          (all_push (λ w. w.teller.desk.now ≡ c.args.desk.now) c.loop-door.workers.items _ i.desk refl);
      knows = left_by (length seen) c.loop-door.seat.knows c.split-split.new.seat.knows i.knows c.split-split.ensures.left
          ∙ ap unsplit (sym (length-append seen (c.in-Some.door ∷ [])));
      seats = subst (λ ws. AreSeats c.args.desk.now.table count 1 (map (λ w. w.teller.seat) ws)) (sym c.push_reserved.ensures.items)
          (seats_push (λ w. w.teller.seat) c.args.desk.now.table count c.loop-door.workers.items _ i.seats
          (c.split-split.ensures.own.1 ∙ i.table) (split ∙ ap (λ n. seat_at count (1 + n)) (sym long)));
    }
