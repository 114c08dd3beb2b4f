-- Rows of positions and ids.
use Rattle.std.specs.Prelude.{string_bytes}
use Rattle.lsp_shape.specs.Plain.{Plain, choice}
use Rattle.lsp_shape.specs.Row.{Row, fields, i32, omitted, required, string, u32, union, variant, ◌&◌, ◌or◌}
use Rattle.lsp_rpc.specs.Message.{IdData, number_id, text_id}
use Rattle.lsp_uri.specs.Uri.{uri_row}
use Rattle.lsp_base.specs.declared.position.CancelParams.{CancelParams}
use Rattle.lsp_base.specs.declared.position.Location.{Location}
use Rattle.lsp_base.specs.declared.position.LocationLink.{LocationLink}
use Rattle.lsp_base.specs.declared.position.NumberOrString.{NumberOrString}
use Rattle.lsp_base.specs.declared.position.NumberOrString.TheVariants as number_or_string
use Rattle.lsp_base.specs.declared.position.Position.{Position}
use Rattle.lsp_base.specs.declared.position.Range.{Range}

abbrev pub show_number_or_string : NumberOrString → Plain
show_number_or_string (number_or_string.Number x) = choice 0 (i32.shown x)
show_number_or_string (number_or_string.String x) = choice 1 (string.shown x)

unfoldable pub number_or_string_row : Row NumberOrString
number_or_string_row = union (variant i32 or variant string) show_number_or_string

unfoldable pub cancel_params_row : Row CancelParams
cancel_params_row = fields (
    required "id" number_or_string_row (λ x. x.id))

unfoldable pub position_row : Row Position
position_row = fields (
    required "line" u32 (λ x. x.line) &
    required "character" u32 (λ x. x.character))

unfoldable pub range_row : Row Range
range_row = fields (
    required "start" position_row (λ x. x.start) &
    required "end" position_row (λ x. x.end))

unfoldable pub location_row : Row Location
location_row = fields (
    required "uri" uri_row (λ x. x.uri) &
    required "range" range_row (λ x. x.range))

unfoldable pub location_link_row : Row LocationLink
location_link_row = fields (
    omitted "originSelectionRange" range_row (λ x. x.origin_selection_range) &
    required "targetUri" uri_row (λ x. x.target_uri) &
    required "targetRange" range_row (λ x. x.target_range) &
    required "targetSelectionRange" range_row (λ x. x.target_selection_range))

-- the id of a request
abbrev pub id_of : NumberOrString → IdData
id_of (number_or_string.Number x) = number_id x
id_of (number_or_string.String x) = text_id (string_bytes x)

-- the empty range at the start of a document
abbrev pub first_range : Range
first_range = record { start = record { line = 0; character = 0 }; end = record { line = 0; character = 0 } }
