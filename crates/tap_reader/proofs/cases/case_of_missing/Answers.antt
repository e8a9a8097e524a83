use Rattle.std.proofs.Common.{◌≡◌, ℕ, false, List, [], ◌++◌, ap, ◌∙◌}
use Rattle.std.specs.Prelude.{None}
use Rattle.names_realms.specs.declared.states.Case.{Case}
use Rattle.names_realms.specs.declared.states.Status.TheVariants.{Skip}
use Rattle.tap_reader.specs.Cases.{missing_case, name_in, number_name}
use Rattle.tap_reader.specs.NamingViews.{names_of}
use Rattle.tap_reader.proofs.cases.case_of_missing.Goals as goal

pub returns : goal.returns
unfolding missing_case name_in
returns c =
    let path = names_of c.args.path.now in
    let called = number_name c.args.number in
    let case : List ℕ → List ℕ → Case = λ name message. record { name = name; status = Skip; expected = false; duration = None; message = message } in
    let name : c.new.result ≡ name_in path called =
    c.new.ensures ∙ c.in_ok-append_number.ensures ∙ ap (λ xs. xs ++ called) c.in_ok-name.ensures in
    let message : c.new-3.result ≡ [] = c.new-3.ensures ∙ c.new-2.ensures.items in
    ap (λ n. case n c.new-3.result) name ∙ ap (case (name_in path called)) message
