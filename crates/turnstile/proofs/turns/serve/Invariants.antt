use Rattle.std.proofs.Common.{◌≡◌, ◌++◌, ◌∷◌, []}
use Rattle.turnstile.specs.Seats.{Stood}
use Rattle.turnstile.specs.Rule.{own_of}
use Rattle.turnstile.proofs.turns.serve.Given as goal

abbrev pub ghosts-pass : goal.ghosts-pass
ghosts-pass g a = record {
  fits = λ log e. (g.T.Held.by e ≡ (own_of a.place.now.me.0).number)
      × Stood g.T.Held.stands (g.T.Held.start a.board.now.shared.key.value) log
      × Stood g.T.Held.stands (g.T.Held.start a.board.now.shared.key.value) (log ++ e ∷ [])
      × g.Q.Call.may a.asked.now.value log e a.answer.now;
}
