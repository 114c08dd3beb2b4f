-- The methods that every service has, in the order of its table.
use Rattle.std.specs.Prelude.{ℕ, List, [], ◌∷◌, ◌++◌, codes, map}
use Rattle.lsp_session.specs.declared.table.Kind.TheVariants.{Notification}
use Rattle.lsp_session.specs.declared.table.Layer.TheVariants.{Exit, Cancel}
use Rattle.lsp_session.specs.Table.{MethodData}
use Rattle.lsp_methods.specs.Methods.{method_row, all_methods}

-- behind those of the protocol stand the two that a session itself carries out
unfoldable pub standard_methods : List MethodData
standard_methods = map method_row all_methods
    ++ record { name = codes "$/cancelRequest"; layer = Cancel; kind = Notification }
    ∷ record { name = codes "exit"; layer = Exit; kind = Notification }
    ∷ []

-- their number: that of the first custom method's place
abbrev pub standard_count : ℕ
standard_count = 63
