use Rattle.std.proofs.Common.{◌≡◌, suc, false, rules, refl, ap, sym, subst, ◌∙◌, arith, is_some}
use Rattle.std.specs.Prelude.{Err}
use Rattle.std.proofs.lemmas.Result.{IfOk-weaker}
use Rattle.serde_json.specs.Data.{Data, depth, members_depth}
use Rattle.serde_json.specs.Find.{as_null}
use Rattle.serde_json.specs.View.{members_view, view}
use Rattle.lsp_shape.specs.Read.{read}
use Rattle.lsp_shape.specs.Why.{Refuses}
use Rattle.lsp_shape.specs.declared.why.Wanted.TheVariants as wants
use Rattle.lsp_shape.proofs.Refusals.{passed, of_named, omitted_told, maybe_refuses, found_member, refuses_leads}
use Rattle.lsp_shape.proofs.Told.{wants_kind, gave, gave_none, is_object}
use Rattle.lsp_tokens.specs.SelectionRange.{selection_range_shape, selection_range_level}
use Rattle.lsp_tokens.proofs.Unrolled.{read-level}
use Rattle.lsp_tokens.proofs.selection_range.+reading.Goals as goal

pub read_selection-read_members-requires : goal.read_selection-read_members-requires
read_selection-read_members-requires t c =
    let is = is_object (view c.args.value.now) _ (gave _ c.as_object.ensures c.in-Some.is) in
    let deep : depth (view c.args.value.now) ≡ suc (members_depth (members_view c.in-Some.object.now.entries)) = ap depth is in
    grind (arith, deep)

pub read_selection-returns-in-Some-clause-read : goal.read_selection-returns-in-Some-clause-read
read_selection-returns-in-Some-clause-read t c =
    let is = is_object (view c.args.value.now) _ (gave _ c.as_object.ensures c.in-Some.is) in
    IfOk-weaker c.read_members.result _ _ (λ x h. ap (read selection_range_level.shape) is ∙ h) c.read_members.ensures.read

pub read_selection-returns-in-Some-clause-unfit : goal.read_selection-returns-in-Some-clause-unfit
read_selection-returns-in-Some-clause-unfit t c = λ why h.
    let is = is_object (view c.args.value.now) _ (gave _ c.as_object.ensures c.in-Some.is) in
    subst (λ (d : Data). Refuses selection_range_level.shape d why) (sym is) (c.read_members.ensures.unfit why h)

pub read_selection-returns-in-None-clause-unfit : goal.read_selection-returns-in-None-clause-unfit
unfolding selection_range_level
read_selection-returns-in-None-clause-unfit t c =
    wants_kind wants.Object selection_range_level.shape (view c.args.value.now) c.wanted.result c.wanted.ensures.refuses refl (ap is_some (gave_none _ c.as_object.ensures c.in-None.is))

pub read_members-returns-in_err-field-clause-unfit : goal.read_members-returns-in_err-field-clause-unfit
unfolding selection_range_level
read_members-returns-in_err-field-clause-unfit t c = passed c.from_residual.result c.in_err-field.field-0.0 _ c.from_residual.ensures.1 (λ why is. c.in_err-field.ensures.unfit why (ap Err is) selection_range_level.shape refl)

pub read_members-returns-in_err-read_parent-clause-unfit : goal.read_members-returns-in_err-read_parent-clause-unfit
unfolding selection_range_level
read_members-returns-in_err-read_parent-clause-unfit t c =
    passed c.from_residual-in_err-read_parent.result c.in_err-read_parent.field-0.0 _ c.from_residual-in_err-read_parent.ensures.1 (λ why is. c.in_err-read_parent.ensures.unfit why (ap Err is) selection_range_level.shape refl)

pub read_parent-returns-in-Some-clause-unfit : goal.read_parent-returns-in-Some-clause-unfit
read_parent-returns-in-Some-clause-unfit t c = λ why is s named.
    of_named (omitted_told (found_member c.find.result c.in-Some.value _ c.find.ensures c.in-Some.is) c.read_outer.ensures.unfit (c.told_member.ensures.unfit why is)) s named

pub read_outer-returns-in_err-outer-clause-unfit : goal.read_outer-returns-in_err-outer-clause-unfit
read_outer-returns-in_err-outer-clause-unfit t c =
    let apart : is_some (as_null (view c.args.value.now)) ≡ false = search rules in
    passed c.from_residual.result c.in_err-outer.field-0.0 _ c.from_residual.ensures.1
    (λ why is. maybe_refuses apart (refuses_leads {s = selection_range_level.shape} {t = selection_range_shape} (λ e none. read-level e ∙ none) (c.in_err-outer.ensures.unfit why (ap Err is))))
