-- Why a run stops before its end.
use Rattle.call_forms.specs.declared.forms.Standin.{Standin}
use Rattle.call_forms.specs.declared.forms.Standin.TheVariants as standins
use Rattle.workload_turns.specs.declared.stops.Stop.{Stop}
use Rattle.workload_turns.specs.declared.stops.Stop.TheVariants.{Unavailable, Memory}

-- at a stand-in
abbrev pub stop_of : Standin → Stop
stop_of standins.Unavailable = Unavailable
stop_of standins.Memory = Memory
stop_of standins.Spent = Memory
