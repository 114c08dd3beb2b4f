use Rattle.std.proofs.Common.{◌≡◌, ◌+◌, ℕ, [], drop, length, rules, ap, sym, subst, ◌∙◌, map, arith, Some, List}
use Rattle.std.specs.Prelude.{Err}
use Rattle.std.proofs.lemmas.Grind.{common_steps}
use Rattle.std.proofs.lemmas.List.{length-append}
use Rattle.serde_json.specs.Find.{get_item}
use Rattle.serde_json.specs.View.{items_view, view}
use Rattle.serde_json.specs.declared.value.Value.{Value}
use Rattle.serde_json.proofs.Views.{get_item_within}
use Rattle.lsp_shape.specs.Read.{read, read_items}
use Rattle.lsp_shape.specs.Why.{IsOfItem}
use Rattle.lsp_shape.proofs.Items.{after, one_more, after-end}
use Rattle.lsp_shape.proofs.Refusals.{passed, item_told}
use Rattle.lsp_shape.proofs.Told.{as_read}
use Rattle.lsp_shape.proofs.std_types.read_all.Goals as goal

pub returns-in_err-told_item-clause-unfit : goal.returns-in_err-told_item-clause-unfit
returns-in_err-told_item-clause-unfit g c =
    let place : c.len-in-loop-item.result ≡ c.loop-item.item-index = omega (arith, c.loop-item.all.ok.0) in
    let whole : c.deref-item-items.result.now ≡ c.args.items.now.items = search rules in
    let item_is = sym (get_item_within c.deref-item-items.result.now c.loop-item.item-index c.item-item.result c.loop-item-test.true) ∙ ap (λ (v : Value). Some (view v)) (sym c.item-item.is) in
    let here = subst (λ (vs : List Value). get_item c.loop-item.item-index (items_view vs) ≡ Some (view c.item-item.result)) whole item_is in
    passed c.from_residual-in_err-told_item.result c.in_err-told_item.field-0.0 _ c.from_residual-in_err-told_item.ensures.1
    (λ why is. item_told here c.from_value.ensures.unfit (subst (λ (n : ℕ). IsOfItem n c.from_value.result why) place (c.in_err-told_item.ensures.unfit why (ap Err is))))

pub loop-item-preserved : goal.loop-item-preserved
loop-item-preserved g c =
    let reads = as_read (λ x. read g.T.Wire.shape (view c.item-item.result) ≡ Some (g.T.Wire.shown x)) c.in_ok-told_item.ensures.ok c.from_value.ensures.read in (
      one_more g.T.Wire.shown (read g.T.Wire.shape) c.deref-item-items.result.now c.loop-item.item-index c.item-item.result c.loop-item.all.items c.push.new.self.items c.in_ok-told_item.field-0 _
          c.loop-item.invariant.0 c.loop-item-test.true c.item-item.is reads c.in_ok-push.ensures.items,
      ap length c.in_ok-push.ensures.items ∙ length-append c.loop-item.all.items _ ∙ ap (λ (n : ℕ). n + 1) c.loop-item.invariant.1,
    )

pub returns-clause-read : goal.returns-clause-read
returns-clause-read g c =
    let done = map g.T.Wire.shown c.loop-item.all.items in
    let none : drop c.loop-item.item-index c.deref-item-items.result.now ≡ [] = grind (arith, common_steps) in
    c.loop-item.invariant.0 ∙ ap (λ vs. after done (read_items (read g.T.Wire.shape) (items_view vs))) none ∙ after-end done
