use Rattle.std.proofs.Common.{◌≡◌, ◌+◌, ◌≤◌, ℕ, suc, List, [], drop, length, false, rules, refl, ap, sym, subst, ◌∙◌, map, option_map, arith, Some, is_some}
use Rattle.std.specs.Prelude.{Err}
use Rattle.std.proofs.lemmas.Grind.{common_steps}
use Rattle.std.proofs.lemmas.List.{length-append}
use Rattle.std.proofs.lemmas.Result.{IfOk-weaker}
use Rattle.serde_json.specs.Data.{Data, depth, items_depth, members_depth}
use Rattle.serde_json.specs.Find.{get_item, as_null}
use Rattle.serde_json.specs.View.{items_view, members_view, view}
use Rattle.serde_json.specs.declared.value.Value.{Value}
use Rattle.serde_json.proofs.Views.{get_item_within}
use Rattle.lsp_shape.specs.Plain.{parts}
use Rattle.lsp_shape.specs.Read.{read, read_items}
use Rattle.lsp_shape.specs.Shape.{list}
use Rattle.lsp_shape.specs.Why.{Refuses, IsOfItem}
use Rattle.lsp_shape.specs.declared.why.Wanted.TheVariants as wants
use Rattle.lsp_shape.proofs.Items.{after, one_more, after-end}
use Rattle.lsp_shape.proofs.Refusals.{passed, item_told, of_named, omitted_told, maybe_refuses, found_member, refuses_leads}
use Rattle.lsp_shape.proofs.Told.{as_read, wants_kind, gave, gave_none, is_array, is_object}
use Rattle.lsp_lang_goto.specs.Tree.{document_symbol_shape, document_symbol_level, show_document_symbol}
use Rattle.lsp_lang_goto.proofs.Depth.{depth-item}
use Rattle.lsp_lang_goto.proofs.Unrolled.{read-level}
use Rattle.lsp_lang_goto.proofs.tree.+reading.Goals as goal

pub read_symbol-read_members-requires : goal.read_symbol-read_members-requires
read_symbol-read_members-requires t c =
    let is = is_object (view c.args.value.now) _ (gave _ c.as_object.ensures c.in-Some.is) in
    let deep : depth (view c.args.value.now) ≡ suc (members_depth (members_view c.in-Some.object.now.entries)) = ap depth is in
    grind (arith, deep)

pub read_symbol-returns-in-Some-clause-read : goal.read_symbol-returns-in-Some-clause-read
read_symbol-returns-in-Some-clause-read t c =
    let is = is_object (view c.args.value.now) _ (gave _ c.as_object.ensures c.in-Some.is) in
    IfOk-weaker c.read_members.result _ _ (λ x h. ap (read document_symbol_level.shape) is ∙ h) c.read_members.ensures.read

pub read_symbol-returns-in-Some-clause-unfit : goal.read_symbol-returns-in-Some-clause-unfit
read_symbol-returns-in-Some-clause-unfit t c = λ why h.
    let is = is_object (view c.args.value.now) _ (gave _ c.as_object.ensures c.in-Some.is) in
    subst (λ (d : Data). Refuses document_symbol_level.shape d why) (sym is) (c.read_members.ensures.unfit why h)

pub read_symbol-returns-in-None-clause-unfit : goal.read_symbol-returns-in-None-clause-unfit
unfolding document_symbol_level
read_symbol-returns-in-None-clause-unfit t c =
    wants_kind wants.Object document_symbol_level.shape (view c.args.value.now) c.wanted.result c.wanted.ensures.refuses refl (ap is_some (gave_none _ c.as_object.ensures c.in-None.is))

pub read_members-returns-in_err-field-clause-unfit : goal.read_members-returns-in_err-field-clause-unfit
unfolding document_symbol_level
read_members-returns-in_err-field-clause-unfit t c = passed c.from_residual.result c.in_err-field.field-0.0 _ c.from_residual.ensures.1 (λ why is. c.in_err-field.ensures.unfit why (ap Err is) document_symbol_level.shape refl)

pub read_members-returns-in_err-optional-clause-unfit : goal.read_members-returns-in_err-optional-clause-unfit
unfolding document_symbol_level
read_members-returns-in_err-optional-clause-unfit t c = passed c.from_residual-in_err-optional.result c.in_err-optional.field-0.0 _ c.from_residual-in_err-optional.ensures.1 (λ why is. c.in_err-optional.ensures.unfit why (ap Err is) document_symbol_level.shape refl)

pub read_members-returns-in_err-field-2-clause-unfit : goal.read_members-returns-in_err-field-2-clause-unfit
unfolding document_symbol_level
read_members-returns-in_err-field-2-clause-unfit t c = passed c.from_residual-in_err-field-2.result c.in_err-field-2.field-0.0 _ c.from_residual-in_err-field-2.ensures.1 (λ why is. c.in_err-field-2.ensures.unfit why (ap Err is) document_symbol_level.shape refl)

pub read_members-returns-in_err-optional-2-clause-unfit : goal.read_members-returns-in_err-optional-2-clause-unfit
unfolding document_symbol_level
read_members-returns-in_err-optional-2-clause-unfit t c = passed c.from_residual-in_err-optional-2.result c.in_err-optional-2.field-0.0 _ c.from_residual-in_err-optional-2.ensures.1 (λ why is. c.in_err-optional-2.ensures.unfit why (ap Err is) document_symbol_level.shape refl)

pub read_members-returns-in_err-optional-3-clause-unfit : goal.read_members-returns-in_err-optional-3-clause-unfit
unfolding document_symbol_level
read_members-returns-in_err-optional-3-clause-unfit t c = passed c.from_residual-in_err-optional-3.result c.in_err-optional-3.field-0.0 _ c.from_residual-in_err-optional-3.ensures.1 (λ why is. c.in_err-optional-3.ensures.unfit why (ap Err is) document_symbol_level.shape refl)

pub read_members-returns-in_err-field-3-clause-unfit : goal.read_members-returns-in_err-field-3-clause-unfit
unfolding document_symbol_level
read_members-returns-in_err-field-3-clause-unfit t c = passed c.from_residual-in_err-field-3.result c.in_err-field-3.field-0.0 _ c.from_residual-in_err-field-3.ensures.1 (λ why is. c.in_err-field-3.ensures.unfit why (ap Err is) document_symbol_level.shape refl)

pub read_members-returns-in_err-field-4-clause-unfit : goal.read_members-returns-in_err-field-4-clause-unfit
unfolding document_symbol_level
read_members-returns-in_err-field-4-clause-unfit t c = passed c.from_residual-in_err-field-4.result c.in_err-field-4.field-0.0 _ c.from_residual-in_err-field-4.ensures.1 (λ why is. c.in_err-field-4.ensures.unfit why (ap Err is) document_symbol_level.shape refl)

pub read_members-returns-in_err-read_children-clause-unfit : goal.read_members-returns-in_err-read_children-clause-unfit
unfolding document_symbol_level
read_members-returns-in_err-read_children-clause-unfit t c = passed c.from_residual-in_err-read_children.result c.in_err-read_children.field-0.0 _ c.from_residual-in_err-read_children.ensures.1 (λ why is. c.in_err-read_children.ensures.unfit why (ap Err is) document_symbol_level.shape refl)

pub read_children-returns-in-Some-clause-unfit : goal.read_children-returns-in-Some-clause-unfit
read_children-returns-in-Some-clause-unfit t c = λ why is s named.
    of_named (omitted_told (found_member c.find.result c.in-Some.value _ c.find.ensures c.in-Some.is) c.read_list_or_null.ensures.unfit (c.told_member.ensures.unfit why is)) s named

pub read_list_or_null-returns-in_err-read_list-clause-unfit : goal.read_list_or_null-returns-in_err-read_list-clause-unfit
read_list_or_null-returns-in_err-read_list-clause-unfit t c =
    let apart : is_some (as_null (view c.args.value.now)) ≡ false = search rules in
    passed c.from_residual.result c.in_err-read_list.field-0.0 _ c.from_residual.ensures.1 (λ why is. maybe_refuses apart (c.in_err-read_list.ensures.unfit why (ap Err is)))

pub read_list-read_all-requires : goal.read_list-read_all-requires
read_list-read_all-requires t c =
    let is = is_array (view c.args.value.now) _ (gave _ c.as_array.ensures c.in-Some.is) in
    let deep : depth (view c.args.value.now) ≡ suc (items_depth (items_view c.in-Some.items.now.items)) = ap depth is in
    grind (arith, deep)

pub read_list-returns-in-Some-clause-read : goal.read_list-returns-in-Some-clause-read
read_list-returns-in-Some-clause-read t c =
    let is = is_array (view c.args.value.now) _ (gave _ c.as_array.ensures c.in-Some.is) in
    IfOk-weaker c.read_all.result _ _ (λ v h. ap (read (list document_symbol_shape)) is ∙ ap (option_map parts) h) c.read_all.ensures.read

pub read_list-returns-in-Some-clause-unfit : goal.read_list-returns-in-Some-clause-unfit
read_list-returns-in-Some-clause-unfit t c = λ why h.
    let is = is_array (view c.args.value.now) _ (gave _ c.as_array.ensures c.in-Some.is) in
    subst (λ (d : Data). Refuses (list document_symbol_shape) d why) (sym is) (c.read_all.ensures.unfit why h)

pub read_list-returns-in-None-clause-unfit : goal.read_list-returns-in-None-clause-unfit
read_list-returns-in-None-clause-unfit t c =
    wants_kind wants.List (list document_symbol_shape) (view c.args.value.now) c.wanted.result c.wanted.ensures.refuses refl (ap is_some (gave_none _ c.as_array.ensures c.in-None.is))

pub read_all-read_symbol-requires : goal.read_all-read_symbol-requires
read_all-read_symbol-requires t c =
    let below : depth (view c.item-item.result) ≤ items_depth (items_view c.deref-item-items.result.now) = depth-item c.deref-item-items.result.now c.loop-item.item-index c.item-item.result c.loop-item-test.true c.item-item.is in
    grind (arith, below)

pub read_all-returns-in_err-told_item-clause-unfit : goal.read_all-returns-in_err-told_item-clause-unfit
read_all-returns-in_err-told_item-clause-unfit t c =
    let place : c.len-in-loop-item.result ≡ c.loop-item.item-index = omega (arith, c.loop-item.all.ok.0) in
    let whole : c.deref-item-items.result.now ≡ c.args.items.now.items = search rules in
    let item_is = sym (get_item_within c.deref-item-items.result.now c.loop-item.item-index c.item-item.result c.loop-item-test.true) ∙ ap (λ (v : Value). Some (view v)) (sym c.item-item.is) in
    let here = subst (λ (vs : List Value). get_item c.loop-item.item-index (items_view vs) ≡ Some (view c.item-item.result)) whole item_is in
    passed c.from_residual-in_err-told_item.result c.in_err-told_item.field-0.0 _ c.from_residual-in_err-told_item.ensures.1
    (λ why is. item_told here (λ w was. refuses_leads {s = document_symbol_level.shape} {t = document_symbol_shape} (λ e none. read-level e ∙ none) (c.read_symbol.ensures.unfit w was))
    (subst (λ (n : ℕ). IsOfItem n c.read_symbol.result why) place (c.in_err-told_item.ensures.unfit why (ap Err is))))

pub read_all-loop-item-preserved : goal.read_all-loop-item-preserved
read_all-loop-item-preserved t c =
    let reads = as_read (λ x. read document_symbol_level.shape (view c.item-item.result) ≡ Some (show_document_symbol x)) c.in_ok-told_item.ensures.ok c.read_symbol.ensures.read in (
      one_more show_document_symbol (read document_symbol_shape) c.deref-item-items.result.now c.loop-item.item-index c.item-item.result c.loop-item.all.items c.push.new.self.items c.in_ok-told_item.field-0 _
          c.loop-item.invariant.0 c.loop-item-test.true c.item-item.is (read-level (view c.item-item.result) ∙ reads) c.in_ok-push.ensures.items,
      ap length c.in_ok-push.ensures.items ∙ length-append c.loop-item.all.items _ ∙ ap (λ (n : ℕ). n + 1) c.loop-item.invariant.1,
    )

pub read_all-returns-clause-read : goal.read_all-returns-clause-read
read_all-returns-clause-read t c =
    let done = map show_document_symbol c.loop-item.all.items in
    let none : drop c.loop-item.item-index c.deref-item-items.result.now ≡ [] = grind (arith, common_steps) in
    c.loop-item.invariant.0 ∙ ap (λ vs. after done (read_items (read document_symbol_shape) (items_view vs))) none ∙ after-end done
