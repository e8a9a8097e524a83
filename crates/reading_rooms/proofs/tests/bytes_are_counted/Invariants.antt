use Rattle.reading_rooms.proofs.tests.bytes_are_counted.Given as goal

abbrev pub ghosts-counts : goal.ghosts-counts
ghosts-counts g a = record { name = a.blank.name; parts = a.blank.parts }
