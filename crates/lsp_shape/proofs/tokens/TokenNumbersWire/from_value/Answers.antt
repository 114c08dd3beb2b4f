use Rattle.std.proofs.Common.{◌≡◌, ◌≢◌, ◌==◌, ◌%◌, false, length, map, refl, ap, sym, subst, ◌∙◌, arith}
use Rattle.std.specs.Prelude.{Err}
use Rattle.std.proofs.lemmas.Bool.{false≢true}
use Rattle.std.proofs.lemmas.Grind.{common_steps}
use Rattle.serde_json.specs.View.{view}
use Rattle.lsp_shape.specs.Plain.{parts_of}
use Rattle.lsp_shape.specs.Shape.{tokens}
use Rattle.lsp_shape.specs.Shown.{show_unsigned}
use Rattle.lsp_shape.specs.Why.{IsUnfit}
use Rattle.lsp_shape.proofs.Refusals.{passed, tested_refuses}
use Rattle.lsp_shape.proofs.Tested.{fives_read, tested_unread, part_count-map}
use Rattle.lsp_shape.proofs.tokens.TokenNumbersWire.from_value.Goals as goal

pub returns-in_err-from_value-clause-unfit : goal.returns-in_err-from_value-clause-unfit
returns-in_err-from_value-clause-unfit c =
    passed c.from_residual.result c.in_err-from_value.field-0.0 _ c.from_residual.ensures.1 (λ why is. tested_refuses (c.in_err-from_value.ensures.unfit why (ap Err is)))

pub returns-clause-read : goal.returns-clause-read
returns-clause-read c = fives_read _ (view c.args.value.now) c.in_ok-from_value.field-0.items c.try_new.result c.in_ok-from_value.ensures.read c.try_new.ensures.numbers c.try_new.ensures.fives

pub returns-clause-unfit : goal.returns-clause-unfit
returns-clause-unfit c = λ why is.
    let numbers = c.in_ok-from_value.field-0.items in
    let ragged : length numbers % 5 ≢ 0 = c.try_new.ensures.unfit (subst IsUnfit (sym is) tt) in
    let fails : (length numbers % 5 == 0) ≡ false = grind (arith, common_steps) in
    c.try_new.ensures.refuses why is tokens (view c.args.value.now) (
      refl,
      λ e. absurd (false≢true e),
      tested_unread (λ n. n % 5 == 0) _ (view c.args.value.now) (parts_of (map show_unsigned numbers)) c.in_ok-from_value.ensures.read (ap (λ n. n % 5 == 0) (part_count-map show_unsigned numbers) ∙ fails),
    )
