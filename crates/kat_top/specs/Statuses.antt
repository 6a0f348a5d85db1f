-- How the program ends: the numbers that the system is told, and the status of each fault.
use Rattle.std.specs.Prelude.{ℕ}
use Rattle.kat_top.specs.declared.fault.Fault.{Fault}
use Rattle.kat_top.specs.declared.fault.Fault.TheVariants as fault
use Rattle.kat_top.specs.declared.status.Status.{Status}
use Rattle.kat_top.specs.declared.status.Status.TheVariants as status

-- the number of a status, in the order in which they are declared
abbrev pub number_of_status : Status → ℕ
number_of_status status.Ok = 0
number_of_status status.Refused = 1
number_of_status status.Usage = 2
number_of_status status.ReadFault = 3
number_of_status status.WriteFault = 4
number_of_status status.TooLong = 5
number_of_status status.Form = 6
number_of_status status.IllTyped = 7
number_of_status status.Limit = 8
number_of_status status.NotBooted = 9
number_of_status status.Out = 10
number_of_status status.Failed = 11
number_of_status status.BadPoke = 12
number_of_status status.Memory = 13

-- the status with which the line of a fault is said
abbrev pub status_of_fault : Fault → Status
status_of_fault fault.Usage = status.Usage
status_of_fault (fault.Read name) = status.ReadFault
status_of_fault (fault.Long name taken) = status.TooLong
status_of_fault (fault.Tree kind offset) = status.Form
status_of_fault (fault.Form place wanted) = status.Form
status_of_fault (fault.Image line) = status.Form
status_of_fault (fault.IllTyped decl tree rule) = status.IllTyped
status_of_fault (fault.IllModed decl name) = status.IllTyped
status_of_fault (fault.Out cycle) = status.Out
status_of_fault (fault.Failed cycle site) = status.Failed
