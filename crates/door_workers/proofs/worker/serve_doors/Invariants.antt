use Rattle.door_workers.proofs.worker.serve_doors.Given as goal

abbrev pub ghosts-work_all : goal.ghosts-work_all
ghosts-work_all g a = record { name = a.blank.name; parts = a.blank.parts }
