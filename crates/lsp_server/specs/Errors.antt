-- Which errors of a server come when.
use Rattle.std.specs.Prelude.{◌≡◌, ◌^◌, ◌-◌, ⊤, Bool, true, false, Result, Ok, Err}
use Rattle.lsp_desk.specs.Meaning.{Meaning}
use Rattle.lsp_server.specs.declared.sink.Refused.{Refused}
use Rattle.lsp_server.specs.declared.sink.Refused.TheVariants as refusals
use Rattle.lsp_server.specs.declared.step.ServeError.{ServeError}
use Rattle.lsp_server.specs.declared.step.ServeError.TheVariants.{ReadFault, WriteFault, ReadsSpent, DeskSpent, NoMemory}

-- what a server stops with where its sink refuses
abbrev pub refused_error : Refused → ServeError
refused_error refusals.Failed = WriteFault
refused_error refusals.NoMemory = NoMemory

-- these errors come between the steps of one piece and the next read
abbrev pub IsBetweenReads : ServeError → Type 0
IsBetweenReads ReadFault = ⊤
IsBetweenReads WriteFault = ⊥
IsBetweenReads ReadsSpent = ⊤
IsBetweenReads (DeskSpent n) = ⊥
IsBetweenReads NoMemory = ⊥

-- at these errors all that was written is flushed: at a failed write the sink is broken, and a flush may lack memory too
abbrev pub IsFlushedAt : ServeError → Type 0
IsFlushedAt ReadFault = ⊤
IsFlushedAt WriteFault = ⊥
IsFlushedAt ReadsSpent = ⊤
IsFlushedAt (DeskSpent n) = ⊤
IsFlushedAt NoMemory = ⊥

-- these errors come in a step
abbrev pub IsInStep : ServeError → Type 0
IsInStep ReadFault = ⊥
IsInStep WriteFault = ⊤
IsInStep ReadsSpent = ⊥
IsInStep (DeskSpent n) = ⊤
IsInStep NoMemory = ⊤

-- an answer that comes of a step
abbrev pub EndsInStep : {A : Type 0} → Result A ServeError → Type 0
EndsInStep (Ok x) = ⊤
EndsInStep (Err e) = IsInStep e

-- an answer that leaves the session between two steps
abbrev pub StaysWhole : {A : Type 0} → Result A ServeError → Type 0
StaysWhole (Ok x) = ⊤
StaysWhole (Err e) = IsBetweenReads e

-- these errors come without a fault of the sink
abbrev pub LeavesSink : ServeError → Type 0
LeavesSink ReadFault = ⊤
LeavesSink WriteFault = ⊥
LeavesSink ReadsSpent = ⊤
LeavesSink (DeskSpent n) = ⊤
LeavesSink NoMemory = ⊤

-- an error says that the desk is spent only where it is, and then it says the number of the last turn
abbrev pub SaysSpent : {D : Type 0} → Meaning D → D → ServeError → Type 0
SaysSpent m desk ReadFault = ⊤
SaysSpent m desk WriteFault = ⊤
SaysSpent m desk ReadsSpent = ⊤
SaysSpent m desk (DeskSpent n) = (n ≡ 2 ^ 64 - 1) × (m.spent desk ≡ true)
SaysSpent m desk NoMemory = ⊤

-- without a failure, and with reads left, only NoMemory comes, and DeskSpent over a desk that others use
abbrev pub ComesUnfailed : Bool → ServeError → Type 0
ComesUnfailed alone ReadFault = ⊥
ComesUnfailed alone WriteFault = ⊥
ComesUnfailed alone ReadsSpent = ⊥
ComesUnfailed alone (DeskSpent n) = alone ≡ false
ComesUnfailed alone NoMemory = ⊤

-- these errors come of a sink
abbrev pub ComesOfSink : ServeError → Type 0
ComesOfSink ReadFault = ⊥
ComesOfSink WriteFault = ⊤
ComesOfSink ReadsSpent = ⊥
ComesOfSink (DeskSpent n) = ⊥
ComesOfSink NoMemory = ⊤
