use Rattle.std.proofs.Common.{Some, refl, ap, ◌∙◌, arith}
use Rattle.serde_json.specs.Written.{has_float, compact_text}
use Rattle.message_forms.specs.Methods.{method_asked, request_data}
use Rattle.message_forms.proofs.MethodLaws.{request_plain, method_named}
use Rattle.message_forms.proofs.requests.write_request.Goals as goal

pub returns-clause-text : goal.returns-clause-text
returns-clause-text c =
    let v = c.in_ok-value.ensures.value in
    let plain = request_plain c.args.request.now in
    c.new.ensures ∙ c.in_ok-text.ensures.text (ap has_float v ∙ plain.no_float) ∙ ap compact_text v

pub returns-clause-reads_back : goal.returns-clause-reads_back
returns-clause-reads_back c = λ can.
    let v = c.in_ok-value.ensures.value in
    let plain = request_plain c.args.request.now in
    let again = c.in_ok-value.ensures.again can in
    record {
      method = method_asked c.args.request.now;
      named = method_named (method_asked c.args.request.now);
      value = request_data c.args.request.now;
      json = (
        rw c.new.ensures c.in_ok-text.ensures.utf8,
        rw c.new.ensures (c.in_ok-text.ensures.reads_back (rw v (omega (arith, plain.deep))) ∙ ap Some v),
      );
      no_fault = again.0;
      meant = (refl, again.1);
    }
