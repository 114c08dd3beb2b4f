-- The requests whose answers are awaited, as plain data.
use Rattle.std.specs.Prelude.{ℕ, List, map}
use Rattle.lsp_rpc.specs.declared.id.Id.{Id}
use Rattle.lsp_rpc.specs.Shown.{show_id}
use Rattle.lsp_desk.specs.declared.waiting.Waiting.{Waiting}
use Rattle.lsp_desk.specs.Desk.{AwaitedData}

abbrev pub show_awaited : {X : Type 0} → ℕ × (Id × X) → AwaitedData
show_awaited e = record { ticket = e.0; id = show_id e.1.0 }

-- in the order in which they were sent
abbrev pub show_waiting : Waiting → List AwaitedData
show_waiting w = map show_awaited w.awaited
