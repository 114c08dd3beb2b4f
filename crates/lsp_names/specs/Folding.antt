-- What is folded.
use Rattle.std.specs.Prelude.{List, [], codes, ℕ, ◌∷◌}
use Rattle.lsp_shape.specs.Row.{Row, names}
use Rattle.lsp_names.specs.declared.folding.FoldingRangeKind.{FoldingRangeKind}
use Rattle.lsp_names.specs.declared.folding.FoldingRangeKind.TheVariants as folding_range_kind

abbrev pub folding_range_kind_name : FoldingRangeKind → List ℕ
folding_range_kind_name folding_range_kind.Comment = codes "comment"
folding_range_kind_name folding_range_kind.Imports = codes "imports"
folding_range_kind_name folding_range_kind.Region = codes "region"

unfoldable pub folding_range_kind_row : Row FoldingRangeKind
folding_range_kind_row = names (codes "comment" ∷ codes "imports" ∷ codes "region" ∷ []) folding_range_kind_name
