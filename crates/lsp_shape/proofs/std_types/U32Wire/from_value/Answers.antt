use Rattle.std.proofs.Common.{refl}
use Rattle.serde_json.specs.View.{view}
use Rattle.lsp_shape.specs.Shape.{u32_shape}
use Rattle.lsp_shape.specs.Shown.{show_unsigned}
use Rattle.lsp_shape.specs.declared.why.Wanted.TheVariants as wants
use Rattle.lsp_shape.proofs.Told.{wants_other, gave, gave_none}
use Rattle.lsp_shape.proofs.std_types.U32Wire.from_value.Goals as goal

pub returns-in-Some-clause-read : goal.returns-in-Some-clause-read
returns-in-Some-clause-read c = gave show_unsigned c.u32_of.ensures c.in-Some.is

pub returns-in-None-clause-unfit : goal.returns-in-None-clause-unfit
returns-in-None-clause-unfit c = wants_other wants.Unsigned u32_shape (view c.args.value.now) c.wanted.result c.wanted.ensures.refuses refl refl (gave_none show_unsigned c.u32_of.ensures c.in-None.is)
