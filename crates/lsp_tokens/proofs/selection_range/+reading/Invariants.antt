use Rattle.std.proofs.Common.{◌+◌, ◌*◌}
use Rattle.serde_json.specs.Data.{depth, members_depth}
use Rattle.serde_json.specs.View.{view, members_view}
use Rattle.lsp_tokens.proofs.selection_range.+reading.Given as goal

abbrev pub decreases-read_selection : goal.decreases-read_selection
decreases-read_selection l = 4 * depth (view l.value.now)

abbrev pub decreases-read_members : goal.decreases-read_members
decreases-read_members l = 4 * members_depth (members_view l.object.now.entries) + 3

abbrev pub decreases-read_outer : goal.decreases-read_outer
decreases-read_outer l = 4 * depth (view l.value.now) + 1

abbrev pub decreases-read_parent : goal.decreases-read_parent
decreases-read_parent l = 4 * members_depth (members_view l.object.now.entries) + 2
