use Rattle.std.proofs.Common.{◌≡◌, ◌++◌, ◌∷◌, ◌∙◌, [], sym, ap, subst, length, arith}
use Rattle.std.specs.Prelude.{is_ok}
use Rattle.std.proofs.lemmas.Bool.{cond-true}
use Rattle.kept_replies.specs.Kept.{IsFree, IsWord, KeptState}
use Rattle.kept_replies.specs.declared.reply.KeptReply.{KeptReply}
use Rattle.kept_replies.proofs.KeptLemmas.{both_rooms, done, invariant_more}
use Rattle.kept_replies.proofs.table.KeptReplies.keep.Goals as goal

pub invariant_of-self : goal.invariant_of-self
invariant_of-self c =
    let replies = c.self.inside.replies in
    let places = c.self.inside.places in
    let reply = c.ready.inside.reply in
    let rooms = both_rooms _ _ c.args.self.now.room (ap (λ (k : KeptState). k.room) c.self.view_is) c.requires.room in
    let word : IsWord reply.number = subst (λ (r : KeptReply). IsWord r.number) (sym c.ready.view_is) c.requires.word in
    let free : IsFree replies.items reply.caller reply.number =
    subst (λ (r : KeptReply). IsFree replies.items r.caller r.number) (sym c.ready.view_is)
    (subst (λ (k : KeptState). IsFree k.kept c.args.ready.caller c.args.ready.number) (sym c.self.view_is) c.requires.free) in
    let place : c.len-place.result ≡ length replies.items = omega (arith, c.len-place.ensures, replies.ok.0) in
    let updated = done c.insert.result _ (c.insert.ensures.succeeds rooms.1) c.insert.ensures.updates in
    let pushed = c.push.ensures.items
    ∙ cond-true (is_ok c.push.result) (replies.items ++ reply ∷ []) replies.items (c.push.ensures.succeeds (omega (arith, rooms.0))) in
    invariant_more places.entries c.insert.new.self.entries replies.items c.push.new.self.items reply c.ready.inside.key c.len-place.result
    c.self.invariant c.ready.invariant word free place pushed updated.0
