-- The count of ends over one read into room.
use Rattle.std.proofs.Common.{◌≡◌, ◌≢◌, ◌∙◌, ◌<◌, ℕ, zero, suc, List, length, Ok, refl, arith}
use Rattle.fault_counts.specs.Causes.{counted}
use Rattle.outside.specs.Ends.{ends_after}
use Rattle.outside.proofs.EndLaws.{ends_stay, ends_rise}
use Rattle.http_wire.specs.Reads.{CountsNothing}

pub into_room : (before now : ℕ) (room : List ℕ) (count : ℕ) → 0 < length room → now ≡ ends_after before room count
    → CountsNothing before (Ok count) now
into_room before now room zero some is = is ∙ ends_rise before room 0 refl some
into_room before now room (suc n) some is = is ∙ ends_stay before room (suc n) (λ e. absurd (omega (arith, e)))

pub some_read : (before now count : ℕ) → CountsNothing before (Ok count) now → count ≢ 0 → now ≡ before
some_read before now zero is some = absurd (some refl)
some_read before now (suc n) is some = is

pub none_read : (before now count : ℕ) → CountsNothing before (Ok count) now → count ≡ 0 → now ≡ counted before
none_read before now zero is none = is
none_read before now (suc n) is none = absurd (omega (arith, none))
