-- Rows: the client.
use Rattle.lsp_shape.specs.Row.{Row, fields, no_fields, omitted, required, string, ◌&◌}
use Rattle.lsp_caps_work.specs.declared.client.ClientInfo.{ClientInfo}
use Rattle.lsp_caps_work.specs.declared.client.InitializedParams.{InitializedParams}

unfoldable pub client_info_row : Row ClientInfo
client_info_row = fields (
    required "name" string (λ x. x.name) &
    omitted "version" string (λ x. x.version))

unfoldable pub initialized_params_row : Row InitializedParams
initialized_params_row = no_fields
