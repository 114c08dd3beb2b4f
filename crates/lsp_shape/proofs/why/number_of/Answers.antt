use Rattle.std.proofs.Common.{List, String, Global, Some, ap, sym, subst, ◌∙◌}
use Rattle.std.specs.Cmp.Lexicographic.{same_text, other_text}
use Rattle.serde_json.specs.declared.value.Value.{Value}
use Rattle.lsp_shape.proofs.Steps.{IsPast, here_is, one_past}
use Rattle.lsp_shape.proofs.why.number_of.Goals as goal

pub returns-then-eq-clause-found : goal.returns-then-eq-clause-found
returns-then-eq-clause-found c =
    let here = subst (λ (es : List (String Global × Value)). IsPast c.args.name.now c.args.object.now.entries es c.loop-key.number) c.in-Some.ensures.steps c.loop-key.invariant in
    here_is c.args.name.now c.args.object.now.entries _ c.next.new.self c.loop-key.number here ∙ ap Some (sym c.as_str.ensures.value ∙ same_text _ _ c.if-eq.ensures)

pub loop-key-preserved : goal.loop-key-preserved
loop-key-preserved c =
    let here = subst (λ (es : List (String Global × Value)). IsPast c.args.name.now c.args.object.now.entries es c.loop-key.number) c.in-Some.ensures.steps c.loop-key.invariant in
    one_past c.args.name.now c.args.object.now.entries _ c.next.new.self c.loop-key.number (λ e. other_text _ _ c.if-eq.ensures (c.as_str.ensures.value ∙ sym e)) here
