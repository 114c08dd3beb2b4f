-- Rows: the server.
use Rattle.lsp_shape.specs.Row.{Row, fields, omitted, required, string, truth, ◌&◌}
use Rattle.lsp_offer_work.specs.declared.server.InitializeError.{InitializeError}
use Rattle.lsp_offer_work.specs.declared.server.ServerInfo.{ServerInfo}

unfoldable pub server_info_row : Row ServerInfo
server_info_row = fields (
    required "name" string (λ x. x.name) &
    omitted "version" string (λ x. x.version))

unfoldable pub initialize_error_row : Row InitializeError
initialize_error_row = fields (
    required "retry" truth (λ x. x.retry))
