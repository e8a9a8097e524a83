use Rattle.std.proofs.Common.{◌≡◌, ◌++◌, false, map, drop}
use Rattle.serde_json.specs.View.{items_of}
use Rattle.serde_json.specs.Written.{items_text}
use Rattle.query_replies.proofs.writing.append_rows.Given as goal

abbrev pub invariant-loop-row : goal.invariant-loop-row
invariant-loop-row g l =
    l.out.items ++ items_text l.later (items_of (map g.T.Row.shows (drop l.row-index l.rows)))
    ≡ l.initial.out.items ++ items_text false (items_of (map g.T.Row.shows l.rows))
