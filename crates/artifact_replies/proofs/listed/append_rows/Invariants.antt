use Rattle.std.proofs.Common.{◌≡◌, ◌++◌, map, drop, nat_lt}
use Rattle.std.specs.Prelude.{string_bytes}
use Rattle.serde_json.specs.Written.{compact_text}
use Rattle.json_fields.specs.Writing.{list_data}
use Rattle.artifact_replies.specs.Replies.{line_data}
use Rattle.artifact_replies.proofs.ListTexts.{rest_text}
use Rattle.artifact_replies.proofs.listed.append_rows.Given as goal

abbrev pub invariant-loop-i : goal.invariant-loop-i
invariant-loop-i l =
    string_bytes l.out ++ rest_text (nat_lt 0 l.i) (map (λ row. row.now) (drop l.i l.rows))
    ≡ string_bytes l.fn.out ++ compact_text (list_data line_data (map (λ row. row.now) l.rows))
