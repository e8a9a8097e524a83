use Rattle.service_core.proofs.RoomLaws.{kept_shown}
use Rattle.service_core.proofs.serving.Core.kept_answer.Goals as goal

pub returns : goal.returns
returns c = λ reply at.
    kept_shown (record { policy = c.args.policy.now }) _ c.args.self.now c.args.place c.reply.result.now reply c.show_kept.result c.self.view_is
    c.reply.ensures at c.show_kept.ensures
