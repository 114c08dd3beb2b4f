use Rattle.std.proofs.Common.{◌∙◌}
use Rattle.serde_json.specs.View.{view}
use Rattle.lsp_shape.proofs.Refusals.{refuses_leads}
use Rattle.lsp_tokens.specs.SelectionRange.{selection_range_shape, selection_range_level}
use Rattle.lsp_tokens.proofs.Unrolled.{read-level}
use Rattle.lsp_tokens.proofs.selection_range.SelectionRangeWire.from_value.Goals as goal

pub returns-clause-read : goal.returns-clause-read
returns-clause-read c = rw (read-level (view c.args.value.now)) c.read_selection.ensures.read

pub returns-clause-unfit : goal.returns-clause-unfit
returns-clause-unfit c = λ why is. refuses_leads {s = selection_range_level.shape} {t = selection_range_shape} (λ e none. read-level e ∙ none) (c.read_selection.ensures.unfit why is)
