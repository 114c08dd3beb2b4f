-- Rows of diagnostics.
use Rattle.std.specs.Prelude.{None, String}
use Rattle.std.specs.declared.alloc.Global.{Global}
use Rattle.lsp_shape.specs.Row.{Row, any, fields, i32, list, omitted, required, string, ◌&◌}
use Rattle.lsp_uri.specs.Uri.{uri_row}
use Rattle.lsp_base.specs.Position.{location_row, number_or_string_row, range_row}
use Rattle.lsp_base.specs.declared.diagnostic.CodeDescription.{CodeDescription}
use Rattle.lsp_base.specs.declared.diagnostic.Diagnostic.{Diagnostic}
use Rattle.lsp_base.specs.declared.diagnostic.DiagnosticRelatedInformation.{DiagnosticRelatedInformation}
use Rattle.lsp_base.specs.declared.position.Range.{Range}

unfoldable pub code_description_row : Row CodeDescription
code_description_row = fields (
    required "href" uri_row (λ x. x.href))

unfoldable pub diagnostic_related_information_row : Row DiagnosticRelatedInformation
diagnostic_related_information_row = fields (
    required "location" location_row (λ x. x.location) &
    required "message" string (λ x. x.message))

unfoldable pub diagnostic_row : Row Diagnostic
diagnostic_row = fields (
    required "range" range_row (λ x. x.range) &
    omitted "severity" i32 (λ x. x.severity) &
    omitted "code" number_or_string_row (λ x. x.code) &
    omitted "codeDescription" code_description_row (λ x. x.code_description) &
    omitted "source" string (λ x. x.source) &
    required "message" string (λ x. x.message) &
    omitted "relatedInformation" (list diagnostic_related_information_row) (λ x. x.related_information) &
    omitted "tags" (list i32) (λ x. x.tags) &
    omitted "data" any (λ x. x.payload))

-- a diagnostic of that range and message, and nothing else
abbrev pub simple_diagnostic : Range → String Global → Diagnostic
simple_diagnostic range message = record {
  range = range;
  severity = None;
  code = None;
  code_description = None;
  source = None;
  message = message;
  related_information = None;
  tags = None;
  payload = None;
}
