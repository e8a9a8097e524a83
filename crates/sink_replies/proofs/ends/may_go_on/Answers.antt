use Rattle.std.proofs.Common.{◌≡◌, false}
use Rattle.sink_replies.proofs.StartLaws.{last_end}
use Rattle.sink_replies.proofs.ends.may_go_on.Goals.{then-ends_with_a_rest, else-ends_with_a_rest, then-ends_with, else-ends_with}
use Rattle.sink_replies.proofs.ends.may_go_on.Goals as goal

pub returns-else-ends_with-2 : goal.returns-else-ends_with-2
returns-else-ends_with-2 c =
    let third = c.if-ends_with-2.false in
    elim c.if-ends_with.branch [
      | then-ends_with w ↦ absurd (let e = w.value-is in cc)
      | else-ends_with w ↦
          let second = w.if-ends_with.false in
          let name = w.value-is in
          elim c.if-ends_with_a_rest.branch [
            | then-ends_with_a_rest v ↦ absurd (let e = v.value-is in cc)
            | else-ends_with_a_rest v ↦
                let field = v.value-is in
                let field_is : v.ends_with.result ≡ false = cc in
                let name_is : w.ends_with-else-ends_with.result ≡ false = cc in
                last_end c.args.bytes.now c.ends_with_a_rest.result v.ends_with.result w.ends_with-else-ends_with.result c.ends_with-else-ends_with-2.result
                c.ends_with_a_rest.ensures v.ends_with.ensures w.ends_with-else-ends_with.ensures c.ends_with-else-ends_with-2.ensures
                v.if-ends_with_a_rest.false field_is name_is
          ]
    ]
