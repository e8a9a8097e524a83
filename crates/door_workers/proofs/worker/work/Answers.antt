use Rattle.std.proofs.Common.{ℕ, ap, drop, Bor, MutBor}
use Rattle.door_workers.specs.declared.reader.Reader.{Reader}
use Rattle.door_workers.proofs.WorkLaws.{asked_alike}
use Rattle.door_workers.proofs.worker.work.Goals as goal

-- a reader whose teller is this one
abbrev reader_with : {R W T : Type 0} (B : Type 0) → Bor R → Bor ℕ → MutBor W → T → Reader R B T
reader_with B rt room job teller = record { rt = rt; room = room; teller = record { ref_ptr = job.ref_ptr; ghost_name = job.ghost_name; now = teller } }

pub serve_door-job-requires : goal.serve_door-job-requires
serve_door-job-requires g c =
    (reader_with g.row.B.Denot c.args.rt c.args.room c.args.job c.requires.0, c.requires.1, c.requires.2)

pub returns : goal.returns
returns g c =
    let done = c.serve_door-job.ensures in
    record {
      serves = asked_alike g.A.L.Link.ends g.A.L.Link.holds _ _ _ _ _
          (λ exchanges asked first before stood.
          asked (reader_with g.row.B.Denot c.args.rt c.args.room c.args.job first) before stood)
          done.serves;
      holds = ap (λ names. drop 1 names) done.holds;
      stands_again = (done.stands.0.teller.now, done.stands.1, done.stands.2);
    }
