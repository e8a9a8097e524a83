use Rattle.std.proofs.Common.{refl, ◌∙◌}
use Rattle.door_workers.specs.Workers.{WasAsked}
use Rattle.door_workers.proofs.WorkLaws.{asked_nothing, asked_more, no_work, none_failed, same_failed, work_more}
use Rattle.door_workers.proofs.door.serve_door.Goals as goal

pub links-init : goal.links-init
links-init g c = record {
  work = no_work g.A.L.Link.ends g.A.L.Link.holds _ _ c.new-tally.result (asked_nothing g.T.Teller.stands c.args.teller.now) c.new-tally.ensures;
  faults = refl;
  failed = none_failed _ c.new-tally.ensures;
  holds = refl;
  stands = c.requires;
}

pub links-preserved : goal.links-preserved
links-preserved g c =
    let so_far = c.links.invariant in
    let one = rw c.in-Ok-Some.field-0-is at c.in-Ok-Some.ensures.serves in
    let stands = g.T.Teller.stands in
    let old = c.args.teller.now in
    let between = c.links.teller in
    let new = c.serve_next.new.teller in
    record {
      work = work_more g.A.L.Link.ends g.A.L.Link.holds (WasAsked stands old between) (WasAsked stands between new) (WasAsked stands old new) _ _ _ _ _ _
          (asked_more stands old between new) so_far.work one c.with_link-tally.ensures;
      faults = one.faults ∙ so_far.faults;
      failed = same_failed _ _ _ c.with_link-tally.ensures ∙ so_far.failed;
      holds = c.serve_next.ensures.holds ∙ so_far.holds;
      stands = c.serve_next.ensures.stands;
    }
