use Rattle.std.proofs.Common.{◌≡◌, ◌∙◌, sym, ap, map, length, take, ◌∷◌, min}
use Rattle.outside.specs.Pieces.{without_empty, first_piece}
use Rattle.outside.proofs.FirstPiece.{first_is, after_is, end_is}
use Rattle.outside.proofs.memory.pieces.Pieces.give.Goals as goal

pub returns : goal.returns
returns c =
    let same : without_empty (c.pass_empty.new.current ∷ map (λ v. v.items) c.pass_empty.new.others.items) ≡ c.args.self.now =
    c.pass_empty.ensures.same ∙ c.self.view_is in
    let first : first_piece c.args.self.now ≡ c.pass_empty.new.current =
    first_is _ _ _ same (λ h. ap (map (λ v. v.items)) (c.pass_empty.ensures.passed h)) in
    record {
      count = c.give.ensures.count ∙ ap (λ p. min (length p) (length c.give.new.room)) (sym first);
      given = c.give.ensures.given ∙ ap (take c.give.result) (sym first);
      rest = rw c.give.ensures.rest
          (after_is _ _ _ c.give.result same (λ h. ap (map (λ v. v.items)) (c.pass_empty.ensures.passed h)));
      end = rw (← c.self.view_is) (end_is (c.self.inside.current ∷ map (λ v. v.items) c.self.inside.others.items));
    }
