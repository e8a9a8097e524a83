use Rattle.std.proofs.Common.{length, subst, sym, zero-add}
use Rattle.http_wire.specs.Stream.{FramedFrom}
use Rattle.http_wire.proofs.StreamLaws.{reading_of_rest, spells_then_framed}
use Rattle.http_wire.proofs.laws.front_of_reading.Goals as goal

pub returns-clause-front : goal.returns-clause-front
returns-clause-front c text rest ms ns e x stay y =
    let r = reading_of_rest ms ns 0 text rest e x stay y in
    (r.0, r.1, subst (λ n. FramedFrom n rest r.0 e) (zero-add (length ms)) r.2)

pub returns-clause-whole : goal.returns-clause-whole
returns-clause-whole c text rest ms ns e x stay y =
    spells_then_framed ms ns 0 text rest e x stay (subst (λ n. FramedFrom n rest ns e) (sym (zero-add (length ms))) y)
