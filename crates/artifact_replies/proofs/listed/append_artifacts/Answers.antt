use Rattle.std.proofs.Common.{◌≡◌, ◌++◌, List, map, option_map, codes, false, not, subst}
use Rattle.std.specs.Borrow.{Bor}
use Rattle.std.specs.Prelude.{string_bytes}
use Rattle.serde_json.specs.Written.{compact_text}
use Rattle.artifacts.specs.declared.artifact.Artifact.{Artifact}
use Rattle.artifact_replies.specs.Replies.{ArtifactsShown, rows_shown, artifacts_data}
use Rattle.artifact_replies.specs.Texts.{member_text}
use Rattle.artifact_replies.proofs.ListTexts.{later_is, list_done}
use Rattle.artifact_replies.proofs.listed.append_artifacts.Goals as goal

pub returns : goal.returns
returns c =
    let items = c.shown.inside.rows.items in
    let listed = subst (λ (xs : List (Bor Artifact)). string_bytes c.append_list.new.out
    ≡ string_bytes c.append.new.out ++ member_text false (codes "artifacts") (rows_shown (map (λ (b : Bor Artifact). b.now) xs))) c.as_slice-rows.ensures.value c.in_ok-append_list.ensures in
    subst (λ (s : ArtifactsShown). string_bytes c.append-2.new.out ≡ string_bytes c.args.out.now ++ compact_text (artifacts_data s)) c.shown.view_is
    (list_done (map (λ (b : Bor Artifact). b.now) items) (option_map string_bytes c.shown.inside.next) (not c.is_empty.result) (string_bytes c.args.out.now) _ _ _ _
    (later_is (λ (b : Bor Artifact). b.now) items c.as_slice-rows.result.now c.is_empty.result c.as_slice-rows.ensures.value c.is_empty.ensures)
    c.in_ok-append.ensures listed c.in_ok-append_next.ensures c.in_ok-append-2.ensures)
