use Rattle.std.proofs.Common.{◌≡◌, ℕ, ◌+◌, ◌*◌, ◌-◌, ◌≤◌, length, false}
use Rattle.json.specs.Json.{value, items, members}
use Rattle.serde_json.specs.Data.{no_members}
use Rattle.serde_json.specs.Read.{converted}
use Rattle.lsp_text.specs.Floats.{of_items_by}
use Rattle.json.specs.Json.{parse_map}
use Rattle.serde_json.specs.View.{items_view, members_view}
use Rattle.serde_json.specs.Written.{items_have_float, members_have_float}
use Rattle.lsp_text.proofs.Tokens.{after_values, members_after}
use Rattle.lsp_text.proofs.value.+reading.Given as goal

abbrev pub decreases-read_value : goal.decreases-read_value
decreases-read_value l = 2 * l.depth + 1

abbrev pub decreases-read_items : goal.decreases-read_items
decreases-read_items l = 2 * l.depth

abbrev pub decreases-read_members : goal.decreases-read_members
decreases-read_members l = 2 * l.depth

-- what was read comes before what is left
abbrev pub invariant-read_items-items : goal.invariant-read_items-items
invariant-read_items-items l =
    (n : ℕ) × (length l.reader ≤ n) × (length l.reader ≤ length l.initial.reader)
    × (converted (of_items_by l.floats) (items (value (l.depth - 1)) (length l.initial.reader) l.initial.reader)
    ≡ parse_map (after_values l.items.items) (converted (of_items_by l.floats) (items (value (l.depth - 1)) n l.reader)))
    × (items_have_float (items_view l.items.items) ≡ false)

abbrev pub decreases-read_items-items : goal.decreases-read_items-items
decreases-read_items-items l = length l.reader

abbrev pub invariant-read_members-members : goal.invariant-read_members-members
invariant-read_members-members l =
    (n : ℕ) × (length l.reader ≤ n) × (length l.reader ≤ length l.initial.reader)
    × (converted (members_after l.floats no_members) (members (value (l.depth - 1)) (length l.initial.reader) l.initial.reader)
    ≡ converted (members_after l.floats (members_view l.members.entries)) (members (value (l.depth - 1)) n l.reader))
    × (members_have_float (members_view l.members.entries) ≡ false)

abbrev pub decreases-read_members-members : goal.decreases-read_members-members
decreases-read_members-members l = length l.reader
