-- How much a server tells.
use Rattle.std.specs.Prelude.{List, [], codes, ℕ, ◌∷◌}
use Rattle.lsp_shape.specs.Row.{Row, names}
use Rattle.lsp_names.specs.declared.trace.TraceValue.{TraceValue}
use Rattle.lsp_names.specs.declared.trace.TraceValue.TheVariants as trace_value

abbrev pub trace_value_name : TraceValue → List ℕ
trace_value_name trace_value.Off = codes "off"
trace_value_name trace_value.Messages = codes "messages"
trace_value_name trace_value.Verbose = codes "verbose"

unfoldable pub trace_value_row : Row TraceValue
trace_value_row = names (codes "off" ∷ codes "messages" ∷ codes "verbose" ∷ []) trace_value_name
