use Rattle.std.proofs.Common.{◌≡◌, ◌≤◌, ◌+◌, ◌++◌, length, map, vec_len}
use Rattle.std.specs.Prelude.{vec_capacity}
use Rattle.std.specs.List.{AllByRecursion}
use Rattle.served_desk.specs.Seatings.{AreSeats}
use Rattle.served_desk.proofs.SeatLaws.{unsplit}
use Rattle.served_desk.proofs.staff.workers_of.Given as goal

abbrev pub invariant-loop-door : goal.invariant-loop-door
invariant-loop-door g l = record {
  can : (goal.iterator-loop-door g).can_next l.door-iterator;
  finite : (goal.iterator-loop-door g).is_finite l.door-iterator;
  doors : map (λ w. w.door) l.workers.items ≡ l.yielded;
  whole : l.initial.door-iterator.rest.items ≡ l.yielded ++ l.door-iterator.rest.items;
  room : length l.initial.door-iterator.rest.items + 1 ≤ vec_capacity l.workers;
  few : length l.initial.door-iterator.rest.items ≤ 63;
  table : l.seat.table ≡ l.desk.table;
  desk : AllByRecursion (λ w. w.teller.desk.now ≡ l.desk) l.workers.items;
  knows : l.seat.knows ≡ unsplit (length l.yielded);
  seats : AreSeats l.desk.table (vec_len l.fn.doors) 1 (map (λ w. w.teller.seat) l.workers.items);
}
