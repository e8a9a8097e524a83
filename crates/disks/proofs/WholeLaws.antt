-- Reads that fill their room bit by bit.
use Rattle.std.proofs.Common.{◌≡◌, true, ℕ, ◌+◌, ◌<◌, ◌≤◌, List, ◌++◌, length, take, drop, refl, sym, ◌∙◌, ap, subst, arith}
use Rattle.std.proofs.Math.Seq.{take-add}
use Rattle.std.proofs.lemmas.List.{take_all, drop-drop}
use Rattle.disks.specs.Calls.{Gives}
use Rattle.disks.specs.Whole.{FillsRoom}

-- So many bytes of the room were read.
pub record SoFar (bytes : List ℕ) (at done : ℕ) (room : List ℕ) : Type 0 where
  pub inside : 0 < done → at + done ≤ length bytes
  pub read : take done room ≡ take done (drop at bytes)

pub read_none : (bytes : List ℕ) (at : ℕ) (room : List ℕ) → SoFar bytes at 0 room
read_none bytes at room = record { inside = λ some. absurd (omega arith); read = refl }

pub read_more : (bytes : List ℕ) (at done count : ℕ) (before room : List ℕ) → SoFar bytes at done before →
    take done room ≡ take done before → Gives bytes (at + done) (drop done room) count → 0 < count →
    SoFar bytes at (done + count) room
read_more bytes at done count before room so_far front gives some = record {
  inside = λ _. let e = gives.inside some in omega arith;
  read = take-add done count room
      ∙ ap (λ (l : List ℕ). l ++ take count (drop done room)) (front ∙ so_far.read)
      ∙ ap (λ (l : List ℕ). take done (drop at bytes) ++ l)
      (gives.given ∙ ap (λ (l : List ℕ). take count l) (sym (drop-drop done at bytes)))
      ∙ sym (take-add done count (drop at bytes));
}

pub read_all : (bytes : List ℕ) (at done : ℕ) (room : List ℕ) → 0 < length room → length room ≤ done →
    done ≤ length room → SoFar bytes at done room → FillsRoom bytes at room true
read_all bytes at done room some all few so_far =
    let same : done ≡ length room = omega arith in
    let s : SoFar bytes at (length room) room = subst (λ (k : ℕ). SoFar bytes at k room) same so_far in
    (s.inside some, sym (take_all (length room) room (omega arith)) ∙ s.read)
