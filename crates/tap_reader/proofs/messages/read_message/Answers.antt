use Rattle.std.proofs.Common.{◌≡◌, take, ap, ◌∙◌}
use Rattle.std.specs.Str.Lossy.{utf8_valid_len}
use Rattle.tap_reader.specs.Lines.{lines}
use Rattle.tap_reader.specs.Cases.{cut, message_of}
use Rattle.tap_reader.specs.MessageWords.{front_of}
use Rattle.tap_reader.proofs.messages.read_message.Goals as goal

pub returns : goal.returns
unfolding message_of cut
returns c =
    let front = front_of c.args.level (take c.args.count (lines c.args.diagnostic.now)) in
    let len : c.utf8_len-len.result ≡ utf8_valid_len front =
    c.utf8_len-len.ensures.value ∙ ap utf8_valid_len (c.deref.ensures.value ∙ c.in_ok-out.ensures) in
    c.truncate.ensures.items ∙ ap (λ n. take n c.in_ok-out.out.items) len
    ∙ ap (take (utf8_valid_len front)) c.in_ok-out.ensures
