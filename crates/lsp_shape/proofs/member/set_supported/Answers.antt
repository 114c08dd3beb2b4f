use Rattle.std.proofs.Common.{◌≡◌, true, Option, Some, None, option_map, ap, sym, ◌∙◌}
use Rattle.std.specs.Prelude.{Err}
use Rattle.serde_json.specs.Data.{Data}
use Rattle.serde_json.specs.View.{view}
use Rattle.lsp_shape.specs.Plain.{Plain, present}
use Rattle.lsp_shape.specs.Read.{read, or_absent, empty_set}
use Rattle.lsp_shape.proofs.Refusals.{passed, unfit_none}
use Rattle.lsp_shape.proofs.Told.{as_read}
use Rattle.lsp_shape.proofs.member.set_supported.Goals as goal

no_set_read : (f : Data → Option Plain) (d : Data) → d ≡ empty_set → f d ≡ None → or_absent true f ≡ None
no_set_read f d same none = ap (option_map present) (ap f (sym same) ∙ none)

pub returns-in_err-told_whole-clause-unfit : goal.returns-in_err-told_whole-clause-unfit
returns-in_err-told_whole-clause-unfit g c =
    passed c.from_residual-in_err-told_whole.result c.in_err-told_whole.field-0.0 _ c.from_residual-in_err-told_whole.ensures.1
    (λ why is. no_set_read (read g.T.Wire.shape) _ c.in_ok-set.ensures (unfit_none c.from_value.result c.from_value.ensures.unfit (c.in_err-told_whole.ensures.unfit why (ap Err is))))

pub returns-in_err-told_whole-clause-whole : goal.returns-in_err-told_whole-clause-whole
returns-in_err-told_whole-clause-whole g c =
    passed c.from_residual-in_err-told_whole.result c.in_err-told_whole.field-0.0 _ c.from_residual-in_err-told_whole.ensures.1 (λ why is. c.in_err-told_whole.ensures.whole why (ap Err is))

pub returns-clause-read : goal.returns-clause-read
returns-clause-read g c =
    let reads = as_read (λ x. read g.T.Wire.shape (view c.in_ok-set.set) ≡ Some (g.T.Wire.shown x)) c.in_ok-told_whole.ensures.ok c.from_value.ensures.read in
    ap (option_map present) (ap (read g.T.Wire.shape) (sym c.in_ok-set.ensures) ∙ reads)
