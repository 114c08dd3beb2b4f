use Rattle.std.proofs.Common.{◌+◌, ◌*◌}
use Rattle.lsp_shape.specs.Plain.{plain_depth}
use Rattle.lsp_shape.specs.Shown.{show_option}
use Rattle.lsp_tokens.specs.SelectionRange.{show_selection_range, show_parent}
use Rattle.lsp_tokens.proofs.selection_range.+writing.Given as goal

abbrev pub decreases-write_selection : goal.decreases-write_selection
decreases-write_selection l = 2 * plain_depth (show_selection_range l.selection.now)

abbrev pub decreases-put_parent : goal.decreases-put_parent
decreases-put_parent l = 2 * plain_depth (show_option show_parent l.parent.now) + 1
