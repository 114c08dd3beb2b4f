-- How a method table finds a name.
use Rattle.std.specs.Prelude.{◌≡◌, ℕ, List, map, String, string_bytes}
use Rattle.std.specs.declared.alloc.Global.{Global}
use Rattle.std.specs.HashMap.{HashMap, get_by_text}
use Rattle.lsp_session.specs.declared.table.Entry.{Entry}
use Rattle.lsp_session.specs.declared.table.Registration.{Registration}
use Rattle.lsp_session.specs.Table.{MethodData, find_in}

abbrev pub show_method : Registration → MethodData
show_method r = record { name = string_bytes r.name; layer = r.layer; kind = r.kind }

-- each name is found where its first registration stands
abbrev pub AreFound : {S : Type 0} → List Registration → HashMap (String Global) Entry S → Type 0
AreFound ms places = (name : List ℕ) → get_by_text places name ≡ find_in 0 (map show_method ms) name
