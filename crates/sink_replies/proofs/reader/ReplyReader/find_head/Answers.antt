use Rattle.std.proofs.Common.{◌≡◌, ◌≤◌, ◌∙◌, ap, subst, length, take, Err}
use Rattle.std.proofs.lemmas.Result.{err_from_is_err_and}
use Rattle.sink_replies.specs.Judged.{IsBegun, IsInFront}
use Rattle.sink_replies.specs.Replies.{BeginsNoReply}
use Rattle.sink_replies.proofs.ReadLaws.{found, found_none, found_end, gathered_more}
use Rattle.sink_replies.proofs.reader.ReplyReader.find_head.Goals as goal

pub returns-in-Head-clause-finds : goal.returns-in-Head-clause-finds
returns-in-Head-clause-finds g c =
    let seen : take c.self.inside.filled c.as_slice.result.now ≡ c.search.self =
    ap (take c.self.inside.filled) c.as_slice.ensures.value ∙ c.self.view_is in
    found _ _ _ _ c.in-Head.head c.search.invariant.gathered (subst (λ z. IsInFront z c.in-Head.head) seen c.in-Head.ensures)

pub returns-in-NoReply-clause-finds : goal.returns-in-NoReply-clause-finds
returns-in-NoReply-clause-finds g c =
    let seen : take c.self.inside.filled c.as_slice.result.now ≡ c.search.self =
    ap (take c.self.inside.filled) c.as_slice.ensures.value ∙ c.self.view_is in
    found_none _ _ _ _ _ c.search.invariant.gathered
    (subst (λ z. (c.in-NoReply.end ≤ length z) × BeginsNoReply (take c.in-NoReply.end z)) seen c.in-NoReply.ensures)

pub search-preserved : goal.search-preserved
search-preserved g c =
    let seen : take c.self.inside.filled c.as_slice.result.now ≡ c.search.self =
    ap (take c.self.inside.filled) c.as_slice.ensures.value ∙ c.self.view_is in
    let ok = c.in_ok-fill-in-Unfinished.ensures in
    record {
      gathered = gathered_more _ _ _ _ _ _ _ c.search.invariant.gathered (subst (λ z. IsBegun z) seen c.in-Unfinished.ensures) ok.filled;
      only = ok.only ∙ c.search.invariant.only;
      holds = ok.holds ∙ c.search.invariant.holds;
    }

pub returns-in_err-fill-in-Unfinished-clause-finds : goal.returns-in_err-fill-in-Unfinished-clause-finds
returns-in_err-fill-in-Unfinished-clause-finds g c =
    let seen : take c.self.inside.filled c.as_slice.result.now ≡ c.search.self =
    ap (take c.self.inside.filled) c.as_slice.ensures.value ∙ c.self.view_is in
    let p = err_from_is_err_and c.from_residual.result c.from_residual.ensures.1 in
    found_end _ _ _ _ _ _ _ _ (p.1 ∙ ap Err p.2) c.search.invariant.gathered
    (subst (λ z. IsBegun z) seen c.in-Unfinished.ensures) c.in_err-fill-in-Unfinished.ensures.filled
