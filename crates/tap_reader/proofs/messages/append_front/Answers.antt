use Rattle.std.proofs.Common.{◌≡◌, ◌++◌, ◌-◌, length, take, ap, ◌∙◌, arith}
use Rattle.tap_reader.proofs.MessageLemmas.{front_fits, front_cut}
use Rattle.tap_reader.proofs.messages.append_front.Goals as goal

pub returns-then-bytes-room-clause-front : goal.returns-then-bytes-room-clause-front
returns-then-bytes-room-clause-front c =
    let e : take 1024 (c.args.out.now.items ++ c.args.bytes.now) ≡ c.args.out.now.items ++ c.args.bytes.now =
    front_fits c.args.out.now.items c.args.bytes.now 1024 c.requires (omega arith) in
    rw e c.append.ensures.ok

pub returns-else-bytes-room-clause-front : goal.returns-else-bytes-room-clause-front
returns-else-bytes-room-clause-front c =
    let out = c.args.out.now.items in
    let bytes = c.args.bytes.now in
    let room : 1024 - length out ≡ 1024 - c.len-room.result = omega arith in
    let e : take 1024 (out ++ bytes) ≡ out ++ take (1024 - c.len-room.result) bytes =
    front_cut out bytes 1024 c.requires ∙ ap (λ k. out ++ take k bytes) room in
    rw e c.append-else-bytes-room.ensures.ok
