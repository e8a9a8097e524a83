use Rattle.std.proofs.Common.{sym}
use Rattle.request_demands.proofs.ReadLaws.{method_of_texts, no_method_of_texts, no_method, no_caller}
use Rattle.request_demands.proofs.reading.understand.Goals as goal

pub returns-in_default : goal.returns-in_default
returns-in_default c =
    no_method (record { policy = c.args.policy.now }) c.args.asked.now c.in_ok-no_method.field-0
    (no_method_of_texts c.args.asked.now _ _ c.in_default.ensures c.as_slice.ensures c.as_slice-2.ensures) c.in_ok-no_method.ensures

pub returns-in_default-caller_of : goal.returns-in_default-caller_of
returns-in_default-caller_of c =
    no_caller (record { policy = c.args.policy.now }) c.args.asked.now c.in_ok-no_caller.field-0
    (method_of_texts c.args.asked.now _ _ c.in-Some.field-0 c.in-Some.ensures c.as_slice.ensures c.as_slice-2.ensures)
    (sym c.in_default-caller_of.ensures.caller) c.in_ok-no_caller.ensures
