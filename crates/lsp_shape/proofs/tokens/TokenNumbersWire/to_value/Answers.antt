use Rattle.std.proofs.Common.{◌%◌, ◌==◌, ap}
use Rattle.std.proofs.lemmas.Result.{on_ok_weaker}
use Rattle.lsp_shape.specs.Shape.{u32_shape}
use Rattle.lsp_shape.specs.Shown.{show_unsigned}
use Rattle.lsp_shape.specs.Values.{is_of}
use Rattle.lsp_shape.proofs.Tested.{tested_of}
use Rattle.lsp_shape.proofs.tokens.TokenNumbersWire.to_value.Goals as goal

pub returns-clause-of_shape : goal.returns-clause-of_shape
returns-clause-of_shape c =
    rw (← c.self.view_is) (on_ok_weaker c.to_value.result (tested_of (λ n. n % 5 == 0) (is_of u32_shape) show_unsigned _ (ap (λ n. n == 0) c.self.invariant)) c.to_value.ensures.of_shape)
