use Rattle.std.proofs.Common.{◌≡◌, Bool, None, Some, option_map, sym, subst}
use Rattle.std.specs.Prelude.{IfOk}
use Rattle.lsp_shape.specs.Plain.{maybe_of}
use Rattle.lsp_shape.specs.Read.{read, or_absent}
use Rattle.lsp_shape.proofs.member.truth_supported.Goals as goal

pub returns-then-is_supported-clause-read : goal.returns-then-is_supported-clause-read
returns-then-is_supported-clause-read g c =
    subst (λ (b : Bool). IfOk c.set_supported.result (λ o. or_absent b (read g.T.Wire.shape) ≡ Some (maybe_of (option_map g.T.Wire.shown o)))) (sym c.if-is_supported.true) c.set_supported.ensures.read

pub returns-then-is_supported-clause-unfit : goal.returns-then-is_supported-clause-unfit
returns-then-is_supported-clause-unfit g c = λ why is.
    subst (λ (b : Bool). or_absent b (read g.T.Wire.shape) ≡ None) (sym c.if-is_supported.true) (c.set_supported.ensures.unfit why is)
