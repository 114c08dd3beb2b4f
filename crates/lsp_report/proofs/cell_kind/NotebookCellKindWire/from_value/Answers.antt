use Rattle.std.proofs.Common.{refl}
use Rattle.serde_json.specs.View.{view}
use Rattle.lsp_shape.specs.declared.why.Wanted.TheVariants as wants
use Rattle.lsp_shape.proofs.Told.{wants_other, gave, gave_none}
use Rattle.lsp_report.specs.CellKind.{notebook_cell_kind_row}
use Rattle.lsp_report.proofs.cell_kind.NotebookCellKindWire.from_value.Goals as goal

pub returns-in-Some-clause-read : goal.returns-in-Some-clause-read
unfolding notebook_cell_kind_row
returns-in-Some-clause-read c = gave notebook_cell_kind_row.shown c.kind_of.ensures c.in-Some.is

pub returns-in-None-clause-unfit : goal.returns-in-None-clause-unfit
unfolding notebook_cell_kind_row
returns-in-None-clause-unfit c =
    wants_other wants.Unsigned notebook_cell_kind_row.shape (view c.args.value.now) c.wanted.result c.wanted.ensures.refuses refl refl (gave_none notebook_cell_kind_row.shown c.kind_of.ensures c.in-None.is)
