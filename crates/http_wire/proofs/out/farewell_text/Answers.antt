use Rattle.std.proofs.Common.{refl}
use Rattle.std.specs.Fmt.{digits}
use Rattle.http_wire.proofs.out.farewell_text.Goals as goal

pub returns-in-HeadTooLong-clause-text : goal.returns-in-HeadTooLong-clause-text
unfolding digits
returns-in-HeadTooLong-clause-text c = rw c.in-HeadTooLong.is refl

pub returns-in-TooManyHeaders-clause-text : goal.returns-in-TooManyHeaders-clause-text
unfolding digits
returns-in-TooManyHeaders-clause-text c = rw c.in-TooManyHeaders.is refl

pub returns-in-BadHead-clause-text : goal.returns-in-BadHead-clause-text
unfolding digits
returns-in-BadHead-clause-text c = rw c.in-BadHead.is refl

pub returns-in-NoLength-clause-text : goal.returns-in-NoLength-clause-text
unfolding digits
returns-in-NoLength-clause-text c = rw c.in-NoLength.is refl

pub returns-in-TwoLengths-clause-text : goal.returns-in-TwoLengths-clause-text
unfolding digits
returns-in-TwoLengths-clause-text c = rw c.in-TwoLengths.is refl

pub returns-in-TransferCoded-clause-text : goal.returns-in-TransferCoded-clause-text
unfolding digits
returns-in-TransferCoded-clause-text c = rw c.in-TransferCoded.is refl

pub returns-in-BodyTooLong-clause-text : goal.returns-in-BodyTooLong-clause-text
unfolding digits
returns-in-BodyTooLong-clause-text c = rw c.in-BodyTooLong.is refl

pub returns-in-CutShort-clause-text : goal.returns-in-CutShort-clause-text
unfolding digits
returns-in-CutShort-clause-text c = rw c.in-CutShort.is refl

pub returns-in-ReadFault-clause-text : goal.returns-in-ReadFault-clause-text
unfolding digits
returns-in-ReadFault-clause-text c = rw c.in-ReadFault.is refl

pub returns-in-Memory-clause-text : goal.returns-in-Memory-clause-text
unfolding digits
returns-in-Memory-clause-text c = rw c.in-Memory.is refl
