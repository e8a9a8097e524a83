use Rattle.reading_rooms.proofs.tests.a_second_large_one_waits_until_the_first_has_left.Given as goal

abbrev pub ghosts-second_waits : goal.ghosts-second_waits
ghosts-second_waits g a = record { name = a.blank.name; parts = a.blank.parts }
