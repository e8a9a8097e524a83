use Rattle.std.proofs.Common.{◌≡◌, ◌≤◌, ◌+◌, ◌++◌, ◌∷◌, length, map}
use Rattle.std.specs.Prelude.{vec_capacity}
use Rattle.std.specs.List.{AllByRecursion}
use Rattle.served_desk.specs.Seatings.{JoinsAll}
use Rattle.served_desk.proofs.joining.gathered.Given as goal

abbrev pub invariant-loop-door : goal.invariant-loop-door
invariant-loop-door g l = record {
  can : (goal.iterator-loop-door g).can_next l.door-iterator;
  finite : (goal.iterator-loop-door g).is_finite l.door-iterator;
  doors : l.doors.items ≡ l.initial.doors.items ++ map (λ w. w.door) l.yielded;
  whole : l.initial.door-iterator.rest.items ≡ l.yielded ++ l.door-iterator.rest.items;
  room : length l.initial.door-iterator.rest.items + 1 ≤ vec_capacity l.doors;
  table : l.first.table ≡ l.desk.table;
  own : AllByRecursion (λ w. w.teller.seat.table ≡ l.desk.table) l.door-iterator.rest.items;
  joined : JoinsAll (l.initial.first.knows ∷ map (λ w. w.teller.seat.knows) l.yielded) l.first.knows;
}
