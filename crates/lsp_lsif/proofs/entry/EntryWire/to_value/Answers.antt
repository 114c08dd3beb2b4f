use Rattle.std.proofs.Common.{refl}
use Rattle.lsp_base.specs.Position.{number_or_string_row}
use Rattle.lsp_shape.proofs.Parts.{both_ok}
use Rattle.lsp_lsif.specs.Entry.{entry_row}
use Rattle.lsp_lsif.proofs.Room.{id-beside-element}
use Rattle.lsp_lsif.proofs.entry.EntryWire.to_value.Goals as goal

pub returns-clause-of_shape : goal.returns-clause-of_shape
unfolding entry_row
returns-clause-of_shape c = both_ok _ _ c.end.result c.end.ensures.written c.end.ensures.whole (λ v written whole.
    rw (id-beside-element number_or_string_row.shape, c.field.ensures.2 (c.flat.ensures.0 whole), c.flat.ensures.2 whole) refl)
