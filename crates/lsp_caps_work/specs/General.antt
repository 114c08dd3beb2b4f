-- Rows: the protocol itself.
use Rattle.lsp_shape.specs.Row.{Row, fields, list, omitted, required, string, truth, ◌&◌}
use Rattle.lsp_names.specs.KindText.{text_kind_row}
use Rattle.lsp_caps_work.specs.declared.general.GeneralClientCapabilities.{GeneralClientCapabilities}
use Rattle.lsp_caps_work.specs.declared.general.MarkdownClientCapabilities.{MarkdownClientCapabilities}
use Rattle.lsp_caps_work.specs.declared.general.RegularExpressionsClientCapabilities.{RegularExpressionsClientCapabilities}
use Rattle.lsp_caps_work.specs.declared.general.StaleRequestSupportClientCapabilities.{StaleRequestSupportClientCapabilities}

unfoldable pub regular_expressions_client_capabilities_row : Row RegularExpressionsClientCapabilities
regular_expressions_client_capabilities_row = fields (
    required "engine" string (λ x. x.engine) &
    omitted "version" string (λ x. x.version))

unfoldable pub markdown_client_capabilities_row : Row MarkdownClientCapabilities
markdown_client_capabilities_row = fields (
    required "parser" string (λ x. x.parser) &
    omitted "version" string (λ x. x.version) &
    omitted "allowedTags" (list string) (λ x. x.allowed_tags))

unfoldable pub stale_request_support_client_capabilities_row : Row StaleRequestSupportClientCapabilities
stale_request_support_client_capabilities_row = fields (
    required "cancel" truth (λ x. x.cancel) &
    required "retryOnContentModified" (list string) (λ x. x.retry_on_content_modified))

unfoldable pub general_client_capabilities_row : Row GeneralClientCapabilities
general_client_capabilities_row = fields (
    omitted "regularExpressions" regular_expressions_client_capabilities_row (λ x. x.regular_expressions) &
    omitted "markdown" markdown_client_capabilities_row (λ x. x.markdown) &
    omitted "staleRequestSupport" stale_request_support_client_capabilities_row (λ x. x.stale_request_support) &
    omitted "positionEncodings" (list text_kind_row) (λ x. x.position_encodings))
