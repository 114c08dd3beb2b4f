-- The plain data of a table.
use Rattle.std.specs.Prelude.{ℕ, List, map, Bool}
use Rattle.lsp_rpc.specs.Shown.{show_id}
use Rattle.lsp_proxy.specs.declared.table.Asker.{Asker}
use Rattle.lsp_proxy.specs.Entries.{AskerData, Entry, same_asker}

abbrev pub show_asker : Asker → AskerData
show_asker a = record { editor = a.editor; id = show_id a.id }

abbrev pub table_entries : {V : Type 0} → List (ℕ × (Asker × V)) → List Entry
table_entries es = map (λ e. record { n = e.0; asker = show_asker e.1.0 }) es

abbrev pub same_shown : Asker → Asker → Bool
same_shown a b = same_asker (show_asker a) (show_asker b)
