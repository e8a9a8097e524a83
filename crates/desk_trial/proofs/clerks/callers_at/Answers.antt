use Rattle.std.proofs.Common.{◌≡◌, ◌+◌, ◌≤◌, length, vec_len, arith, sym, ap, subst, ◌∙◌, length-append}
use Rattle.desk_trial.specs.Seats.{EachFrom, Sits, first_after, seat_of}
use Rattle.desk_trial.proofs.CountLaws.{each_push, first_unsplit, left_by, right_by}
use Rattle.desk_trial.proofs.clerks.callers_at.Goals as goal

pub loop-number-init : goal.loop-number-init
loop-number-init g c = record {
  table = c.requires.0;
  long = ap length c.in_ok-callers.ensures.items;
  knows = first_unsplit c.args.first.now.knows c.requires.1;
  room = omega (arith, c.in_ok-callers.ensures.capacity, c.seats.ensures);
  seats = subst (λ cs. EachFrom (λ n k. Sits c.args.desk.now c.args.desk.now.table n k.teller.desk.now k.teller.seat) 1 cs)
      (sym c.in_ok-callers.ensures.items) tt;
}

pub split-seat-requires-clause-own : goal.split-seat-requires-clause-own
split-seat-requires-clause-own g c = c.loop-number.invariant.table

pub split-seat-requires-clause-some : goal.split-seat-requires-clause-some
split-seat-requires-clause-some g c =
    let splits = ap (λ k. k.splits) c.loop-number.invariant.knows in
    omega (arith, splits, c.loop-number-test.true, c.seats-number-end.ensures, c.args.work.few)

pub push_reserved-requires : goal.push_reserved-requires
push_reserved-requires g c =
    let long = c.loop-number.invariant.long in
    let room = c.loop-number.invariant.room in
    omega (arith, long, room, c.loop-number-test.true, c.seats-number-end.ensures, c.loop-number.callers.ok.0)

pub loop-number-preserved : goal.loop-number-preserved
loop-number-preserved g c =
    let i = c.loop-number.invariant in
    let few : c.loop-number.number ≤ 1000 = omega (arith, c.loop-number-test.true, c.seats-number-end.ensures, c.args.work.few) in
    let right = right_by c.loop-number.number c.loop-number.first.knows c.split-seat.result.knows few i.knows c.split-seat.ensures.right in
    let room = i.room in
    record {
      table = c.split-seat.ensures.own.0 ∙ i.table;
      long = ap length c.push_reserved.ensures.items ∙ length-append c.loop-number.callers.items _ ∙ ap (λ n. n + 1) i.long;
      knows = left_by c.loop-number.number c.loop-number.first.knows c.split-seat.new.seat.knows i.knows c.split-seat.ensures.left;
      room = omega (arith, room, c.push_reserved.ensures.capacity);
      seats = subst (λ cs. EachFrom (λ n k. Sits c.args.desk.now c.args.desk.now.table n k.teller.desk.now k.teller.seat) 1 cs)
          (sym c.push_reserved.ensures.items)
          (each_push (λ n k. Sits c.args.desk.now c.args.desk.now.table n k.teller.desk.now k.teller.seat) 1 c.loop-number.callers.items _ i.seats
          (record {
            desk_is = c.caller.ensures.desk;
            table_is = c.caller.ensures.seat.0 ∙ c.split-seat.ensures.own.1 ∙ i.table;
            knows = c.caller.ensures.seat.1 ∙ right ∙ ap (λ n. seat_of (1 + n)) (sym i.long);
          }));
    }

pub returns-clause-own : goal.returns-clause-own
returns-clause-own g c = c.loop-number.invariant.table

pub returns-clause-count : goal.returns-clause-count
returns-clause-count g c =
    let long = c.loop-number.invariant.long in
    let same : c.loop-number.number ≡ vec_len c.loop-number.callers = omega (arith, long, c.loop-number.callers.ok.0) in (
      omega (arith, same, c.loop-number.auto.number-end, c.seats-number-end.ensures, c.args.work.few),
      c.loop-number.invariant.knows ∙ ap first_after same,
    )

pub returns-clause-seats : goal.returns-clause-seats
returns-clause-seats g c = c.loop-number.invariant.seats
