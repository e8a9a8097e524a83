use Rattle.turnstile.proofs.steps.look.Given as goal

abbrev pub ghosts-look_by : goal.ghosts-look_by
ghosts-look_by g a = record { stands = λ v log. g.T.Held.stands v (g.T.Held.start a.board.now.shared.key.value) log }
