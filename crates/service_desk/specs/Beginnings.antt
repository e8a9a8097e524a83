-- How a shelf begins.
use Rattle.std.proofs.Common.{◌≡◌, ℕ, ℤ, List, [], Option, refl, sym, ◌∙◌, true≢false}
use Rattle.disks.specs.Moments.{Told as DiskTold}
use Rattle.record_desk.proofs.ClockedLaws.{clocked_nothing}
use Rattle.service_desk.specs.declared.shelf.Shelf.{Shelf}
use Rattle.service_desk.specs.Shelves.{StandsFor}

-- One that has counted no entry stands for none, from itself.
pub begins : {D C S : Type 0} (told : D → Option DiskTold) (faults : D → ℕ)
    (tells : C → List ℤ → Type 0) (shelf : Shelf D C S) → shelf.entries ≡ 0
    → StandsFor told faults tells shelf shelf []
begins told faults tells shelf none = record {
  counted = none;
  led = λ opened. record {
    goes = record {
      answers = [];
      timed = refl;
      settings = refl;
      clocked = clocked_nothing (tells shelf.clock);
      rises = refl;
    };
    book = record {
      commands = opened.commands;
      stands = opened.stands;
      failed = λ unsettled. absurd (true≢false (sym opened.settled ∙ unsettled));
    };
    moments = refl;
  };
}
