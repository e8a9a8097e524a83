-- A document that was read up to a rest.
use Rattle.std.proofs.Common.{◌≡◌, ◌<◌, List, [], length, Some, None, ℕ, Result, Ok, Err, IfErr, true, false, refl, subst, arith, Vec, Global}
use Rattle.std.specs.Prelude.{◌==◌}
use Rattle.std.proofs.lemmas.Bool.Decides.{nat_tests}
use Rattle.std.proofs.lemmas.List.{nil_from_length}
use Rattle.names_realms.specs.declared.states.Case.{Case}
use Rattle.junit_parts.proofs.TreeLemmas.{grown_printed, grown_sound}
use Rattle.junit_parts.specs.Constructs.{Token, token_from}
use Rattle.junit_parts.specs.Flaws.{IsSound, flaw_at, token_flaw}
use Rattle.junit_parts.specs.Reports.{HasFlaw, IsFlawed}
use Rattle.junit_parts.specs.Reports.HasFlaw.{wrong, broken, open_end, no_root}
use Rattle.junit_parts.specs.Tree.{Nothing, Unfinished, Outside, Within, PrintsFront, grown}
use Rattle.junit_parts.specs.declared.faults.Cause.TheVariants.{NotWellFormed}
use Rattle.junit_parts.specs.declared.faults.Stop.{Stop}
use Rattle.junit_parts.specs.declared.faults.Stop.TheVariants as stop
use Rattle.junit_reader.specs.Standing.{FinishesAt, StandsFor, TakesAt}
use Rattle.junit_reader.specs.declared.reading.Reading.{Reading}

-- What was read is the print of an unfinished tree with nothing wrong in it, for which the reading stands.
pub record IsReadTo (document : List ℕ) (s : Reading) (rest : List ℕ) : Type 0 where
  pub tree : Unfinished
  pub printed : PrintsFront document tree rest
  pub sound : IsSound tree
  pub stands : StandsFor s tree

pub begun : (document : List ℕ) (s : Reading) → StandsFor s (Outside Nothing) → IsReadTo document s document
begun document s stands = record { tree = Outside Nothing; printed = refl; sound = tt; stands = stands }

-- what a stop says of the document
pub stopped : (document middle rest : List ℕ) (s n : Reading) (token : Token) (e : Stop) → (read : IsReadTo document s middle) → token_from middle ≡ Some (token, rest)
    → TakesAt read.tree (Err e) n (length middle) token → IsFlawed document e
stopped document middle rest s n token stop.Memory read is taken = tt
stopped document middle rest s n token (stop.Flawed flaw) read is taken =
    wrong read.tree middle rest token read.printed read.sound (record { place = refl; read = is }) taken

pub read_on : (document middle rest : List ℕ) (s n : Reading) (token : Token) → (read : IsReadTo document s middle) → token_from middle ≡ Some (token, rest)
    → (token_flaw read.tree (length middle) token ≡ None) × StandsFor n (grown read.tree (length middle) token) → IsReadTo document n rest
read_on document middle rest s n token read is taken = record {
  tree = grown read.tree (length middle) token;
  printed = grown_printed document middle rest read.tree (length middle) token read.printed (record { place = refl; read = is }) taken.0;
  sound = grown_sound read.tree (length middle) token read.sound taken.0;
  stands = taken.1;
}

pub some_left : (bytes : List ℕ) → (length bytes == 0) ≡ false → 0 < length bytes
some_left bytes e = grind (arith, nat_tests, e)

pub none_left : (bytes : List ℕ) → (length bytes == 0) ≡ true → bytes ≡ []
none_left bytes e = nil_from_length bytes (grind (arith, nat_tests, e))

pub broken_off : (document middle : List ℕ) (s : Reading) → (read : IsReadTo document s middle) → 0 < length middle → token_from middle ≡ None → HasFlaw document (flaw_at (length middle) NotWellFormed)
broken_off document middle s read some none = broken read.tree middle read.printed read.sound some none refl

finish : (document : List ℕ) (u : Unfinished) (r : Result (Vec Case Global) Stop) → PrintsFront document u [] → IsSound u → FinishesAt u r → IfErr r (IsFlawed document)
finish document u (Ok found) printed sound done = tt
finish document u (Err stop.Memory) printed sound done = tt
finish document (Outside content) (Err (stop.Flawed flaw)) printed sound done = no_root content printed sound done.0 done.1
finish document (Within outer left tag content) (Err (stop.Flawed flaw)) printed sound done = open_end outer left tag content printed sound done

pub finished : (document rest : List ℕ) (s : Reading) (r : Result (Vec Case Global) Stop) → (read : IsReadTo document s rest) → rest ≡ [] → FinishesAt read.tree r → IfErr r (IsFlawed document)
finished document rest s r read none done =
    let P : List ℕ → Type 0 = λ t. PrintsFront document read.tree t in
    finish document read.tree r (subst P none read.printed) read.sound done
