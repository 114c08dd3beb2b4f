-- Rows: what an editor supports of symbols.
use Rattle.lsp_shape.specs.Row.{Row, fields, i32, list, nullable}
use Rattle.lsp_base.specs.declared.capability.SymbolKindCapability.{SymbolKindCapability}

unfoldable pub symbol_kind_capability_row : Row SymbolKindCapability
symbol_kind_capability_row = fields (
    nullable "valueSet" (list i32) (λ x. x.value_set))
