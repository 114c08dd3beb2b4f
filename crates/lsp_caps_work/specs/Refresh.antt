-- Rows: what a server may ask the client to ask for again.
use Rattle.lsp_shape.specs.Row.{Row, fields, nullable, omitted, truth}
use Rattle.lsp_caps_work.specs.declared.refresh.CodeLensWorkspaceClientCapabilities.{CodeLensWorkspaceClientCapabilities}
use Rattle.lsp_caps_work.specs.declared.refresh.DiagnosticWorkspaceClientCapabilities.{DiagnosticWorkspaceClientCapabilities}
use Rattle.lsp_caps_work.specs.declared.refresh.InlayHintWorkspaceClientCapabilities.{InlayHintWorkspaceClientCapabilities}
use Rattle.lsp_caps_work.specs.declared.refresh.InlineValueWorkspaceClientCapabilities.{InlineValueWorkspaceClientCapabilities}
use Rattle.lsp_caps_work.specs.declared.refresh.SemanticTokensWorkspaceClientCapabilities.{SemanticTokensWorkspaceClientCapabilities}

unfoldable pub code_lens_workspace_client_capabilities_row : Row CodeLensWorkspaceClientCapabilities
code_lens_workspace_client_capabilities_row = fields (
    omitted "refreshSupport" truth (λ x. x.refresh_support))

unfoldable pub semantic_tokens_workspace_client_capabilities_row : Row SemanticTokensWorkspaceClientCapabilities
semantic_tokens_workspace_client_capabilities_row = fields (
    nullable "refreshSupport" truth (λ x. x.refresh_support))

unfoldable pub inlay_hint_workspace_client_capabilities_row : Row InlayHintWorkspaceClientCapabilities
inlay_hint_workspace_client_capabilities_row = fields (
    omitted "refreshSupport" truth (λ x. x.refresh_support))

unfoldable pub inline_value_workspace_client_capabilities_row : Row InlineValueWorkspaceClientCapabilities
inline_value_workspace_client_capabilities_row = fields (
    omitted "refreshSupport" truth (λ x. x.refresh_support))

unfoldable pub diagnostic_workspace_client_capabilities_row : Row DiagnosticWorkspaceClientCapabilities
diagnostic_workspace_client_capabilities_row = fields (
    omitted "refreshSupport" truth (λ x. x.refresh_support))
