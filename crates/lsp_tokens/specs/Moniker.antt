-- Rows: monikers.
use Rattle.std.specs.Prelude.{List, [], codes, ℕ, ◌∷◌}
use Rattle.lsp_shape.specs.Row.{Row, fields, flat, names, omitted, required, string, ◌&◌}
use Rattle.lsp_base.specs.Document.{text_document_position_params_row}
use Rattle.lsp_base.specs.Progress.{partial_result_params_row, work_done_progress_params_row}
use Rattle.lsp_tokens.specs.declared.moniker.Moniker.{Moniker}
use Rattle.lsp_tokens.specs.declared.moniker.MonikerKind.{MonikerKind}
use Rattle.lsp_tokens.specs.declared.moniker.MonikerKind.TheVariants as moniker_kind
use Rattle.lsp_tokens.specs.declared.moniker.MonikerParams.{MonikerParams}
use Rattle.lsp_tokens.specs.declared.moniker.UniquenessLevel.{UniquenessLevel}
use Rattle.lsp_tokens.specs.declared.moniker.UniquenessLevel.TheVariants as uniqueness_level

unfoldable pub moniker_params_row : Row MonikerParams
moniker_params_row = fields (
    flat text_document_position_params_row (λ x. x.text_document_position_params) &
    flat work_done_progress_params_row (λ x. x.work_done_progress_params) &
    flat partial_result_params_row (λ x. x.partial_result_params))

abbrev pub uniqueness_level_name : UniquenessLevel → List ℕ
uniqueness_level_name uniqueness_level.Document = codes "document"
uniqueness_level_name uniqueness_level.Project = codes "project"
uniqueness_level_name uniqueness_level.Group = codes "group"
uniqueness_level_name uniqueness_level.Scheme = codes "scheme"
uniqueness_level_name uniqueness_level.Global = codes "global"

unfoldable pub uniqueness_level_row : Row UniquenessLevel
uniqueness_level_row = names (codes "document" ∷ codes "project" ∷ codes "group" ∷ codes "scheme" ∷ codes "global" ∷ []) uniqueness_level_name

abbrev pub moniker_kind_name : MonikerKind → List ℕ
moniker_kind_name moniker_kind.Import = codes "import"
moniker_kind_name moniker_kind.Export = codes "export"
moniker_kind_name moniker_kind.Local = codes "local"

unfoldable pub moniker_kind_row : Row MonikerKind
moniker_kind_row = names (codes "import" ∷ codes "export" ∷ codes "local" ∷ []) moniker_kind_name

unfoldable pub moniker_row : Row Moniker
moniker_row = fields (
    required "scheme" string (λ x. x.scheme) &
    required "identifier" string (λ x. x.identifier) &
    required "unique" uniqueness_level_row (λ x. x.unique) &
    omitted "kind" moniker_kind_row (λ x. x.kind))
