use Rattle.std.proofs.Common.{◌++◌, List, map, Some, None, refl}
use Rattle.std.specs.Option.{option_to_list}
use Rattle.request_demands.specs.Demands.{Demand}
use Rattle.request_rules.specs.Broken.{IsAbsent, Sought, artifact_named, invocation_with, result_named, sought}
use Rattle.request_rules.proofs.Firsts.{first_in_front, first_in_more, first_of_map, no_first}
use Rattle.request_rules.proofs.judging.not_found.Goals as goal

abbrev invocations : Demand → List Sought
invocations d = map invocation_with (d.named ++ d.included)

abbrev results : Demand → List Sought
results d = map result_named (option_to_list d.row)

abbrev artifacts : Demand → List Sought
artifacts d = map artifact_named (option_to_list d.artifact)

pub returns-in-Some : goal.returns-in-Some
returns-in-Some c = λ rows held are.
    let d = c.args.demand.now in
    record {
      what = invocation_with c.in-Some.id.now;
      first = first_in_front (IsAbsent rows held) (invocations d) (results d ++ artifacts d) _
          (first_of_map invocation_with (IsAbsent rows held) (d.named ++ d.included) (Some c.in-Some.id.now) (c.in-Some.ensures rows held are));
      refusal_is = refl;
    }

pub returns-in-Some-missing_result : goal.returns-in-Some-missing_result
returns-in-Some-missing_result c = λ rows held are.
    let d = c.args.demand.now in
    record {
      what = result_named c.in-Some-missing_result.name.now;
      first = first_in_more (IsAbsent rows held) (invocations d) (results d ++ artifacts d) _
          (first_of_map invocation_with (IsAbsent rows held) (d.named ++ d.included) None (c.in_default.ensures rows held are))
          (first_in_front (IsAbsent rows held) (results d) (artifacts d) _ (c.in-Some-missing_result.ensures rows held are));
      refusal_is = refl;
    }

pub returns-in-Some-missing_artifact : goal.returns-in-Some-missing_artifact
returns-in-Some-missing_artifact c = λ rows held are.
    let d = c.args.demand.now in
    record {
      what = artifact_named c.in-Some-missing_artifact.name.now;
      first = first_in_more (IsAbsent rows held) (invocations d) (results d ++ artifacts d) _
          (first_of_map invocation_with (IsAbsent rows held) (d.named ++ d.included) None (c.in_default.ensures rows held are))
          (first_in_more (IsAbsent rows held) (results d) (artifacts d) _ (c.in_default-missing_result.ensures rows held are)
          (c.in-Some-missing_artifact.ensures rows held are));
      refusal_is = refl;
    }

pub returns-in-None : goal.returns-in-None
returns-in-None c = λ rows held are r is.
    let d = c.args.demand.now in
    no_first (IsAbsent rows held) (sought d)
    (first_in_more (IsAbsent rows held) (invocations d) (results d ++ artifacts d) None
    (first_of_map invocation_with (IsAbsent rows held) (d.named ++ d.included) None (c.in_default.ensures rows held are))
    (first_in_more (IsAbsent rows held) (results d) (artifacts d) None (c.in_default-missing_result.ensures rows held are)
    (c.in-None.ensures rows held are))) is.what is.first
