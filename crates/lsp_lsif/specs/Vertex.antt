-- Rows: vertices.
use Rattle.std.specs.Prelude.{List, Option, Vec, [], codes, ℕ, ◌∷◌}
use Rattle.std.specs.declared.alloc.Global.{Global}
use Rattle.lsp_shape.specs.Plain.{Plain, choice}
use Rattle.lsp_shape.specs.Row.{Row, fields, flat, list, names, nothing, omitted, required, row_of, string, tag, union, unless_empty, variant, ◌&◌, ◌or◌}
use Rattle.lsp_shape.specs.Shape.{Shape}
use Rattle.lsp_shape.specs.Shape as shape
use Rattle.lsp_uri.specs.Uri.{uri_row}
use Rattle.lsp_base.specs.Diagnostic.{diagnostic_row}
use Rattle.lsp_base.specs.Position.{number_or_string_row, range_row}
use Rattle.lsp_base.specs.declared.diagnostic.Diagnostic.{Diagnostic}
use Rattle.lsp_base.specs.declared.position.Range.{Range}
use Rattle.lsp_lang_goto.specs.Hover.{hover_row}
use Rattle.lsp_lang_goto.specs.Link.{document_link_row}
use Rattle.lsp_lang_goto.specs.Tree.{document_symbol_row}
use Rattle.lsp_lsif.specs.Symbols.{range_based_document_symbol_row}
use Rattle.lsp_lsif.specs.Tags.{range_tag_row}
use Rattle.lsp_tokens.specs.Folding.{folding_range_row}
use Rattle.lsp_tokens.specs.Moniker.{moniker_row}
use Rattle.lsp_lang_goto.specs.declared.hover.Hover.{Hover}
use Rattle.lsp_lang_goto.specs.declared.link.DocumentLink.{DocumentLink}
use Rattle.lsp_lsif.specs.declared.tags.RangeTag.{RangeTag}
use Rattle.lsp_lsif.specs.declared.vertex.Document.{Document}
use Rattle.lsp_lsif.specs.declared.vertex.DocumentSymbolOrRangeBasedVec.{DocumentSymbolOrRangeBasedVec}
use Rattle.lsp_lsif.specs.declared.vertex.DocumentSymbolOrRangeBasedVec.TheVariants as document_symbol_or_range_based_vec
use Rattle.lsp_lsif.specs.declared.vertex.Encoding.{Encoding}
use Rattle.lsp_lsif.specs.declared.vertex.Encoding.TheVariants as encoding
use Rattle.lsp_lsif.specs.declared.vertex.Event.{Event}
use Rattle.lsp_lsif.specs.declared.vertex.EventKind.{EventKind}
use Rattle.lsp_lsif.specs.declared.vertex.EventKind.TheVariants as event_kind
use Rattle.lsp_lsif.specs.declared.vertex.EventScope.{EventScope}
use Rattle.lsp_lsif.specs.declared.vertex.EventScope.TheVariants as event_scope
use Rattle.lsp_lsif.specs.declared.vertex.MetaData.{MetaData}
use Rattle.lsp_lsif.specs.declared.vertex.PackageInformation.{PackageInformation}
use Rattle.lsp_lsif.specs.declared.vertex.Project.{Project}
use Rattle.lsp_lsif.specs.declared.vertex.Repository.{Repository}
use Rattle.lsp_lsif.specs.declared.vertex.ResultSet.{ResultSet}
use Rattle.lsp_lsif.specs.declared.vertex.ToolInfo.{ToolInfo}
use Rattle.lsp_lsif.specs.declared.vertex.Vertex.{Vertex}
use Rattle.lsp_lsif.specs.declared.vertex.Vertex.TheVariants as vertex
use Rattle.lsp_tokens.specs.declared.folding.FoldingRange.{FoldingRange}

-- the fields of `Vertex::Range`
abbrev pub vertex_range_row : Row (record { range : Range; tag : Option RangeTag })
vertex_range_row = fields (
    flat range_row (λ x. x.range) &
    omitted "tag" range_tag_row (λ x. x.tag))

-- the shape of a record with the member `result` alone
abbrev pub result_alone : Shape → Shape
result_alone s = shape.fields (shape.field (codes "result") shape.required s shape.no_fields)

-- the fields of `Vertex::FoldingRangeResult`
abbrev pub vertex_folding_range_result_row : Row (record { result : Vec FoldingRange Global })
vertex_folding_range_result_row = fields (
    required "result" (list folding_range_row) (λ x. x.result))

-- the fields of `Vertex::HoverResult`
abbrev pub vertex_hover_result_row : Row (record { result : Hover })
vertex_hover_result_row = fields (
    required "result" hover_row (λ x. x.result))

abbrev pub show_document_symbol_or_range_based_vec : DocumentSymbolOrRangeBasedVec → Plain
show_document_symbol_or_range_based_vec (document_symbol_or_range_based_vec.DocumentSymbol x) = choice 0 ((list document_symbol_row).shown x)
show_document_symbol_or_range_based_vec (document_symbol_or_range_based_vec.RangeBased x) = choice 1 ((list range_based_document_symbol_row).shown x)

unfoldable pub document_symbol_or_range_based_vec_row : Row DocumentSymbolOrRangeBasedVec
document_symbol_or_range_based_vec_row = union (
    variant (list document_symbol_row) or
    variant (list range_based_document_symbol_row)) show_document_symbol_or_range_based_vec

-- the fields of `Vertex::DocumentSymbolResult`
abbrev pub vertex_document_symbol_result_row : Row (record { result : DocumentSymbolOrRangeBasedVec })
vertex_document_symbol_result_row = fields (
    required "result" document_symbol_or_range_based_vec_row (λ x. x.result))

-- the fields of `Vertex::DocumentLinkResult`
abbrev pub vertex_document_link_result_row : Row (record { result : Vec DocumentLink Global })
vertex_document_link_result_row = fields (
    required "result" (list document_link_row) (λ x. x.result))

-- the fields of `Vertex::DiagnosticResult`
abbrev pub vertex_diagnostic_result_row : Row (record { result : Vec Diagnostic Global })
vertex_diagnostic_result_row = fields (
    required "result" (list diagnostic_row) (λ x. x.result))

abbrev pub encoding_name : Encoding → List ℕ
encoding_name encoding.Utf16 = codes "utf-16"

unfoldable pub encoding_row : Row Encoding
encoding_row = names (codes "utf-16" ∷ []) encoding_name

unfoldable pub tool_info_row : Row ToolInfo
tool_info_row = fields (
    required "name" string (λ x. x.name) &
    unless_empty "args" string (λ x. x.args) &
    omitted "version" string (λ x. x.version))

unfoldable pub meta_data_row : Row MetaData
meta_data_row = fields (
    required "version" string (λ x. x.version) &
    required "projectRoot" uri_row (λ x. x.project_root) &
    required "positionEncoding" encoding_row (λ x. x.position_encoding) &
    omitted "toolInfo" tool_info_row (λ x. x.tool_info))

unfoldable pub project_row : Row Project
project_row = fields (
    omitted "resource" uri_row (λ x. x.resource) &
    omitted "content" string (λ x. x.content) &
    required "kind" string (λ x. x.kind))

unfoldable pub document_row : Row Document
document_row = fields (
    required "uri" uri_row (λ x. x.uri) &
    required "languageId" string (λ x. x.language_id))

unfoldable pub result_set_row : Row ResultSet
result_set_row = fields (
    omitted "key" string (λ x. x.key))

unfoldable pub repository_row : Row Repository
repository_row = fields (
    required "type" string (λ x. x.typ) &
    required "url" string (λ x. x.url) &
    omitted "commitId" string (λ x. x.commit_id))

unfoldable pub package_information_row : Row PackageInformation
package_information_row = fields (
    required "name" string (λ x. x.name) &
    required "manager" string (λ x. x.manager) &
    omitted "uri" uri_row (λ x. x.uri) &
    omitted "content" string (λ x. x.content) &
    omitted "repository" repository_row (λ x. x.repository) &
    omitted "version" string (λ x. x.version))

abbrev pub event_kind_name : EventKind → List ℕ
event_kind_name event_kind.Begin = codes "begin"
event_kind_name event_kind.End = codes "end"

unfoldable pub event_kind_row : Row EventKind
event_kind_row = names (codes "begin" ∷ codes "end" ∷ []) event_kind_name

abbrev pub event_scope_name : EventScope → List ℕ
event_scope_name event_scope.Document = codes "document"
event_scope_name event_scope.Project = codes "project"

unfoldable pub event_scope_row : Row EventScope
event_scope_row = names (codes "document" ∷ codes "project" ∷ []) event_scope_name

unfoldable pub event_row : Row Event
event_row = fields (
    required "kind" event_kind_row (λ x. x.kind) &
    required "scope" event_scope_row (λ x. x.scope) &
    required "data" number_or_string_row (λ x. x.payload))

abbrev pub show_vertex : Vertex → Plain
show_vertex (vertex.MetaData x) = choice 0 (meta_data_row.shown x)
show_vertex (vertex.Project x) = choice 1 (project_row.shown x)
show_vertex (vertex.Document x) = choice 2 (document_row.shown x)
show_vertex (vertex.Range range tag) = choice 3 (vertex_range_row.shown (record { range = range; tag = tag }))
show_vertex (vertex.ResultSet x) = choice 4 (result_set_row.shown x)
show_vertex (vertex.Moniker x) = choice 5 (moniker_row.shown x)
show_vertex (vertex.PackageInformation x) = choice 6 (package_information_row.shown x)
show_vertex (vertex.Event x) = choice 7 (event_row.shown x)
show_vertex vertex.DefinitionResult = choice 8 (nothing.shown (record {}))
show_vertex vertex.DeclarationResult = choice 9 (nothing.shown (record {}))
show_vertex vertex.TypeDefinitionResult = choice 10 (nothing.shown (record {}))
show_vertex vertex.ReferenceResult = choice 11 (nothing.shown (record {}))
show_vertex vertex.ImplementationResult = choice 12 (nothing.shown (record {}))
show_vertex (vertex.FoldingRangeResult result) = choice 13 (vertex_folding_range_result_row.shown (record { result = result }))
show_vertex (vertex.HoverResult result) = choice 14 (vertex_hover_result_row.shown (record { result = result }))
show_vertex (vertex.DocumentSymbolResult result) = choice 15 (vertex_document_symbol_result_row.shown (record { result = result }))
show_vertex (vertex.DocumentLinkResult result) = choice 16 (vertex_document_link_result_row.shown (record { result = result }))
show_vertex (vertex.DiagnosticResult result) = choice 17 (vertex_diagnostic_result_row.shown (record { result = result }))

unfoldable pub vertex_shape : Shape
vertex_shape = shape.tagged (codes "label") ((
    tag "metaData" meta_data_row or
    tag "project" project_row or
    tag "document" document_row or
    tag "range" vertex_range_row or
    tag "resultSet" result_set_row or
    tag "moniker" moniker_row or
    tag "packageInformation" package_information_row or
    tag "$event" event_row or
    tag "definitionResult" nothing or
    tag "declarationResult" nothing or
    tag "typeDefinitionResult" nothing or
    tag "referenceResult" nothing or
    tag "implementationResult" nothing or
    tag "foldingRangeResult" vertex_folding_range_result_row or
    tag "hoverResult" vertex_hover_result_row or
    tag "documentSymbolResult" vertex_document_symbol_result_row or
    tag "documentLinkResult" vertex_document_link_result_row or
    tag "diagnosticResult" vertex_diagnostic_result_row) shape.no_variants)

unfoldable pub vertex_row : Row Vertex
vertex_row = row_of vertex_shape show_vertex
