use Rattle.std.proofs.Common.{refl, ap, inl, inr}
use Rattle.std.specs.Prelude.{Err}
use Rattle.lsp_shape.proofs.Refusals.{passed, passed_in}
use Rattle.lsp_caps_text.specs.Symbols.{document_symbol_client_capabilities_row}
use Rattle.lsp_caps_text.proofs.symbols.DocumentSymbolClientCapabilitiesWire.from_value.Goals as goal

pub returns-in_err-object-clause-unfit : goal.returns-in_err-object-clause-unfit
unfolding document_symbol_client_capabilities_row
returns-in_err-object-clause-unfit c = passed c.from_residual.result c.in_err-object.field-0.0 _ c.from_residual.ensures.1 (λ why is. c.in_err-object.ensures.unfit why (ap Err is) document_symbol_client_capabilities_row.shape refl)

pub returns-in_err-optional-clause-unfit : goal.returns-in_err-optional-clause-unfit
unfolding document_symbol_client_capabilities_row
returns-in_err-optional-clause-unfit c = passed_in c.from_residual-in_err-optional.result c.in_err-optional.field-0.0 document_symbol_client_capabilities_row.shape c.in_ok-object.ensures.ok c.from_residual-in_err-optional.ensures.1 (λ why is. c.in_err-optional.ensures.unfit why (ap Err is) document_symbol_client_capabilities_row.shape refl)

pub returns-in_err-optional-2-clause-unfit : goal.returns-in_err-optional-2-clause-unfit
unfolding document_symbol_client_capabilities_row
returns-in_err-optional-2-clause-unfit c = passed_in c.from_residual-in_err-optional-2.result c.in_err-optional-2.field-0.0 document_symbol_client_capabilities_row.shape c.in_ok-object.ensures.ok c.from_residual-in_err-optional-2.ensures.1 (λ why is. c.in_err-optional-2.ensures.unfit why (ap Err is) document_symbol_client_capabilities_row.shape refl)

pub returns-in_err-optional-3-clause-unfit : goal.returns-in_err-optional-3-clause-unfit
unfolding document_symbol_client_capabilities_row
returns-in_err-optional-3-clause-unfit c = passed_in c.from_residual-in_err-optional-3.result c.in_err-optional-3.field-0.0 document_symbol_client_capabilities_row.shape c.in_ok-object.ensures.ok c.from_residual-in_err-optional-3.ensures.1 (λ why is. c.in_err-optional-3.ensures.unfit why (ap Err is) document_symbol_client_capabilities_row.shape refl)

pub returns-in_err-supported-clause-unfit : goal.returns-in_err-supported-clause-unfit
unfolding document_symbol_client_capabilities_row
returns-in_err-supported-clause-unfit c = passed_in c.from_residual-in_err-supported.result c.in_err-supported.field-0.0 document_symbol_client_capabilities_row.shape c.in_ok-object.ensures.ok c.from_residual-in_err-supported.ensures.1 (λ why is. c.in_err-supported.ensures.unfit why (ap Err is) document_symbol_client_capabilities_row.shape refl)
