-- What a connection's peer gets where no more is read.
use Rattle.std.specs.Prelude.{ℕ, List, ◌++◌, true, codes, decimal}
use Rattle.call_forms.specs.ReplyBytes.{plain_reply}
use Rattle.http_wire.specs.declared.message.WireFault.{WireFault}
use Rattle.http_wire.specs.declared.message.WireFault.TheVariants.{HeadTooLong, TooManyHeaders}
use Rattle.http_wire.specs.declared.message.WireFault.TheVariants.{BadHead, NoLength, TwoLengths}
use Rattle.http_wire.specs.declared.message.WireFault.TheVariants.{TransferCoded, BodyTooLong}
use Rattle.http_wire.specs.declared.message.WireFault.TheVariants.{CutShort, ReadFault, Memory}

-- a fault's number
abbrev pub fault_number : WireFault → ℕ
fault_number HeadTooLong = 1
fault_number TooManyHeaders = 2
fault_number (BadHead end) = 3
fault_number NoLength = 4
fault_number TwoLengths = 5
fault_number TransferCoded = 6
fault_number (BodyTooLong said) = 7
fault_number (CutShort have) = 8
fault_number ReadFault = 9
fault_number Memory = 10

-- a fault's name
abbrev pub fault_name : WireFault → List ℕ
fault_name HeadTooLong = codes "HeadTooLong"
fault_name TooManyHeaders = codes "TooManyHeaders"
fault_name (BadHead end) = codes "BadHead"
fault_name NoLength = codes "NoLength"
fault_name TwoLengths = codes "TwoLengths"
fault_name TransferCoded = codes "TransferCoded"
fault_name (BodyTooLong said) = codes "BodyTooLong"
fault_name (CutShort have) = codes "CutShort"
fault_name ReadFault = codes "ReadFault"
fault_name Memory = codes "Memory"

-- why no more is read
abbrev pub farewell_text : WireFault → List ℕ
farewell_text fault =
    codes "wire "
    ++ (decimal (fault_number fault) ++ (codes " " ++ (fault_name fault ++ codes "\n")))

-- the reply that says so
abbrev pub farewell_bytes : WireFault → List ℕ
farewell_bytes fault = plain_reply 400 3 true (farewell_text fault)
