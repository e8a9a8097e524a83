use Rattle.disks.specs.MomentLaws.{only_now, counts_now, goes_on_twice, goes_on_here, goes_on_next, left_next, of_first_or_second, not_lost}
use Rattle.disks.proofs.laws.moments_add_up.Goals as goal

pub returns : goal.returns
returns c = record {
  now = only_now;
  counts = counts_now;
  goes_on = goes_on_twice;
  here = goes_on_here;
  next = goes_on_next;
  at_next = left_next;
  in_one = of_first_or_second;
  not_lost = not_lost;
}
