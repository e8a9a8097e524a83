use Rattle.std.proofs.Common.{◌≡◌, Bool, true, length, get_or, refl, sym, ◌∙◌, subst, arith, rules}
use Rattle.disks.specs.Parts.{part_of}
use Rattle.disks.specs.Whole.{FillsRoom}
use Rattle.result_journal.proofs.OpenLaws.{first_byte, four_bytes}
use Rattle.result_journal.proofs.opening.Opening.next_length.Goals as goal

pub returns-clause-found : goal.returns-clause-found
returns-clause-found g c = λ t is size.
    let bytes = (part_of t.now c.args.self.now.part).bytes in
    let place = c.args.self.now.place in
    let room = c.read_exact_at.new.room in
    let whole : c.in_ok-whole.whole ≡ true = search rules in
    let long : length room ≡ 5 = omega arith in
    let fills : FillsRoom bytes place room true =
    subst (λ (b : Bool). FillsRoom bytes place room b) whole (c.in_ok-whole.ensures.fills t is) in
    let yes : c.has_room.result ≡ true = search rules in
    let open_gate : get_or room 0 0 ≡ 1 = search rules in
    let fits = c.has_room.ensures.0 yes in
    record {
      gate = sym (first_byte bytes room place 5 long fills (omega arith)) ∙ open_gate;
      word = c.said_count-count.ensures.word ∙ four_bytes bytes room place 5 long fills refl;
      some = fits.0;
      few = fits.1;
      inside = omega (arith, fits.2, size);
    }
