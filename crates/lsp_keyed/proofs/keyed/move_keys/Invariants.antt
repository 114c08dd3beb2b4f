use Rattle.std.proofs.Common.{◌≡◌, ◌++◌, ◌+◌, ◌≤◌, map, length}
use Rattle.std.specs.Vec.{vec_len, vec_capacity}
use Rattle.lsp_keyed.proofs.keyed.move_keys.Given as goal

-- those moved so far, and those that are left, for which there is room
abbrev pub invariant-loop-key : goal.invariant-loop-key
invariant-loop-key g l = record {
  moved : l.keys.items ++ map (λ e. e.1.0) l.entries.entries ≡ l.fn.keys.items ++ map (λ e. e.1.0) l.fn.entries.entries;
  room : vec_len l.keys + length l.entries.entries ≤ vec_capacity l.keys;
}

abbrev pub decreases-loop-key : goal.decreases-loop-key
decreases-loop-key g l = length l.entries.entries
