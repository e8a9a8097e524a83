use Rattle.std.proofs.Common.{rules, ◌≡◌, ◌∙◌, Some, None, Vec, Global, Option, refl, ap, subst, ℕ, ◌+◌, ◌-◌, ◌^◌, min, length, get_or}
use Rattle.std.specs.Prelude.{if◌then◌else◌, is_some, is_none, option_map}
use Rattle.sha2.specs.Sha256.{sha256}
use Rattle.batch_floor.specs.Lines.{Row, IsReply, reply_length}
use Rattle.batch_floor.proofs.LineLemmas.{sum_more, sum_same}
use Rattle.batch_floor.proofs.with_line.Goals as goal

pub returns-in-Some : goal.returns-in-Some
returns-in-Some c = λ rows are.
    let row : Row = record { line = c.args.line.now; reply = Some c.in-Some.reply.items } in
    let is_reply = subst (λ (r : Option (Vec ℕ Global)). IsReply c.args.line.now (option_map (λ text. text.items) r)) c.in-Some.is c.in_ok-reply.ensures in
    let first : c.from.result ≡ get_or (sha256 c.args.line.now) 0 0 = search rules in
    let long : c.len.result ≡ length c.in-Some.reply.items = search rules in (
      row,
      refl,
      is_reply,
      λ i. record {
        bodies = sum_more (λ (r : Row). if is_some r.reply then 1 else 0) rows row _ _ (ap (λ s. s.bodies) are) c.saturating_add.ensures i;
        bad = sum_same (λ (r : Row). if is_none r.reply then 1 else 0) rows row _ (ap (λ s. s.bad) are) refl i;
        bytes = sum_more reply_length rows row _ _ (ap (λ s. s.bytes) are)
            (c.saturating_add-in-Some.ensures ∙ ap (λ n. min (c.args.sums.bytes + n) (2 ^ 64 - 1)) long) i;
        digests = sum_more (λ (r : Row). get_or (sha256 r.line) 0 0) rows row _ _ (ap (λ s. s.digests) are)
            (c.saturating_add-digests.ensures ∙ ap (λ n. min (c.args.sums.digests + n) (2 ^ 64 - 1)) first) i;
      },
    )

pub returns-in-None : goal.returns-in-None
returns-in-None c = λ rows are.
    let row : Row = record { line = c.args.line.now; reply = None } in
    let is_reply = subst (λ (r : Option (Vec ℕ Global)). IsReply c.args.line.now (option_map (λ text. text.items) r)) c.in-None.is c.in_ok-reply.ensures in
    let first : c.from.result ≡ get_or (sha256 c.args.line.now) 0 0 = search rules in (
      row,
      refl,
      is_reply,
      λ i. record {
        bodies = sum_same (λ (r : Row). if is_some r.reply then 1 else 0) rows row _ (ap (λ s. s.bodies) are) refl i;
        bad = sum_more (λ (r : Row). if is_none r.reply then 1 else 0) rows row _ _ (ap (λ s. s.bad) are) c.saturating_add-in-None.ensures i;
        bytes = sum_same reply_length rows row _ (ap (λ s. s.bytes) are) refl i;
        digests = sum_more (λ (r : Row). get_or (sha256 r.line) 0 0) rows row _ _ (ap (λ s. s.digests) are)
            (c.saturating_add-digests.ensures ∙ ap (λ n. min (c.args.sums.digests + n) (2 ^ 64 - 1)) first) i;
      },
    )
