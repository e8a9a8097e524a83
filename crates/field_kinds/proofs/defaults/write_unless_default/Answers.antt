use Rattle.serde_json.specs.View.{members_view}
use Rattle.field_kinds.proofs.DefaultLaws.{read_left_out, read_put}
use Rattle.field_kinds.proofs.defaults.write_unless_default.Goals as goal

pub returns-then-is_default-clause-again : goal.returns-then-is_default-clause-again
returns-then-is_default-clause-again g c = λ none.
    read_left_out g.T.Form.fault g.T.Form.means g.T.Defaulted.unset c.args.name c.args.x.now (members_view c.args.map.now.entries)
    (c.is_default.ensures.0 c.if-is_default.true) none

pub returns-clause-again : goal.returns-clause-again
returns-clause-again g c = λ none.
    read_put g.T.Form.fault g.T.Form.means g.T.Defaulted.unset c.args.name g.T.Form.empty g.T.Written.blank g.T.Written.json c.args.x.now
    (members_view c.args.map.now.entries) (members_view c.write_required.new.map.entries) c.in_ok-write_required.ensures.again
    c.in_ok-write_required.ensures.members
