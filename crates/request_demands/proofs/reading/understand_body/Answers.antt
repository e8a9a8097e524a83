use Rattle.request_demands.proofs.PolicyLaws.{caller_is_there}
use Rattle.request_demands.proofs.ReadLaws.{bad_body, fault_of_texts}
use Rattle.request_demands.proofs.reading.understand_body.Goals as goal

pub returns-in_ok-bad_body-in-Err : goal.returns-in_ok-bad_body-in-Err
returns-in_ok-bad_body-in-Err c =
    bad_body (record { policy = c.args.policy.now }) c.args.asked.now c.in_ok-bad_body-in-Err.field-0 c.args.caller c.in-Err.fault
    c.requires.method c.requires.caller
    (λ other. fault_of_texts c.args.asked.now _ _ _ c.in-Err.fault c.as_slice-service.ensures c.as_slice-method.ensures c.as_slice.ensures
    (c.in-Err.ensures.err other))
    c.in_ok-bad_body-in-Err.ensures

pub length_for-length-requires : goal.length_for-length-requires
length_for-length-requires c =
    caller_is_there (record { policy = c.args.policy.now }) c.args.asked.now.bearer c.args.caller c.requires.caller
