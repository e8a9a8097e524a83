use Rattle.std.proofs.Common.{◌≡◌, ◌≤◌, List, ℕ, ◌++◌, take}
use Rattle.http_wire.specs.Scan.{head_end, scan}
use Rattle.http_wire.proofs.head_scan.search_on.Given as goal

abbrev pub invariant-loop-i : goal.invariant-loop-i
invariant-loop-i l = record {
  few : l.lines ≤ l.i;
  goes : (rest : List ℕ) → head_end (take l.i l.bytes ++ rest) ≡ scan l.place l.i l.lines rest;
}
