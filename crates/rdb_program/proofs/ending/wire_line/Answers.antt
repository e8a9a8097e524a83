use Rattle.rdb_program.proofs.LineLaws.{head_too_long_line, too_many_headers_line, bad_head_line, no_length_line, two_lengths_line, transfer_coded_line, body_too_long_line, cut_short_line, read_fault_line, memory_line}
use Rattle.rdb_program.proofs.ending.wire_line.Goals as goal

pub returns-in-HeadTooLong : goal.returns-in-HeadTooLong
returns-in-HeadTooLong c = rw c.in-HeadTooLong.is head_too_long_line

pub returns-in-TooManyHeaders : goal.returns-in-TooManyHeaders
returns-in-TooManyHeaders c = rw c.in-TooManyHeaders.is too_many_headers_line

pub returns-in-BadHead : goal.returns-in-BadHead
returns-in-BadHead c = rw c.in-BadHead.is (bad_head_line c.in-BadHead.end)

pub returns-in-NoLength : goal.returns-in-NoLength
returns-in-NoLength c = rw c.in-NoLength.is no_length_line

pub returns-in-TwoLengths : goal.returns-in-TwoLengths
returns-in-TwoLengths c = rw c.in-TwoLengths.is two_lengths_line

pub returns-in-TransferCoded : goal.returns-in-TransferCoded
returns-in-TransferCoded c = rw c.in-TransferCoded.is transfer_coded_line

pub returns-in-BodyTooLong : goal.returns-in-BodyTooLong
returns-in-BodyTooLong c = rw c.in-BodyTooLong.is (body_too_long_line c.in-BodyTooLong.said)

pub returns-in-CutShort : goal.returns-in-CutShort
returns-in-CutShort c = rw c.in-CutShort.is (cut_short_line c.in-CutShort.have)

pub returns-in-ReadFault : goal.returns-in-ReadFault
returns-in-ReadFault c = rw c.in-ReadFault.is read_fault_line

pub returns-in-Memory : goal.returns-in-Memory
returns-in-Memory c = rw c.in-Memory.is memory_line
