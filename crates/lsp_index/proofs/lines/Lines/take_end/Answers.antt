-- The end of a line, which a read holds whole or not.
use Rattle.std.proofs.Common.{◌≡◌, ◌++◌, [], ◌∙◌, sym, ap, subst, eqb-true}
use Rattle.std.proofs.lemmas.List.{nil_from_length}
use Rattle.std.proofs.lemmas.Result.{IfOk-weaker}
use Rattle.std.specs.Str.Lines.{strip_carriage_return}
use Rattle.lsp_index.specs.Reading.{TookLine}
use Rattle.lsp_index.proofs.ReadingLemmas.{took_end}
use Rattle.lsp_index.proofs.lines.Lines.take_end.Goals as goal

pub returns-then-is_empty : goal.returns-then-is_empty
returns-then-is_empty c =
    let empty : c.args.self.now.part.items ≡ [] = nil_from_length _ (sym c.args.self.now.part.ok.0 ∙ eqb-true _ 0 (sym c.is_empty.ensures ∙ c.if-is_empty.true)) in
    IfOk-weaker c.take_line.result _ _ (λ good t. took_end c.args.self.now c.args.self.now c.args.search.now c.take_line.new.self c.args.bytes.now good c.requires
    (subst (λ l. TookLine c.args.search.now l good c.take_line.new.self) (c.without_cr.ensures ∙ ap (λ p. strip_carriage_return (p ++ c.args.bytes.now)) (sym empty)) t) empty) c.take_line.ensures.took

pub returns : goal.returns
returns c =
    IfOk-weaker c.take_line-good.result _ _ (λ good t. took_end c.args.self.now _ c.args.search.now c.take_line-good.new.self c.args.bytes.now good c.requires
    (subst (λ l. TookLine c.args.search.now l good c.take_line-good.new.self) (c.without_cr-2.ensures ∙ ap strip_carriage_return (c.deref.ensures.value ∙ c.in_ok-extend_from_slice.ensures.items)) t) c.clear.ensures.items) c.take_line-good.ensures.took
