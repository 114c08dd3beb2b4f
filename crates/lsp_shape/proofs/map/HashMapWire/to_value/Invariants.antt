use Rattle.std.proofs.Common.{◌≡◌, true}
use Rattle.serde_json.specs.View.{members_view}
use Rattle.lsp_shape.specs.Plain.{Parts, no_parts}
use Rattle.lsp_shape.specs.Write.{write, write_entries}
use Rattle.lsp_shape.specs.Values.{is_of, every, is_entry}
use Rattle.lsp_shape.proofs.Tables.{puts}
use Rattle.lsp_shape.proofs.map.HashMapWire.to_value.Given as goal

-- the entries so far were written, and with those that are left they are all
abbrev pub invariant-loop-key : goal.invariant-loop-key
invariant-loop-key g l =
    (done : Parts) × (members_view l.object.entries ≡ write_entries (write g.T.Wire.shape) done)
    × (puts g.K.Key.key_text g.T.Wire.shown l.key-iterator done ≡ puts g.K.Key.key_text g.T.Wire.shown l.self.entries no_parts)
    × (every (is_entry g.K.Key.is_key (is_of g.T.Wire.shape)) done ≡ true)
