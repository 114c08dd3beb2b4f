use Rattle.std.proofs.Common.{◌≡◌, [], ap, ◌∙◌, sym, rules}
use Rattle.json.specs.Json.{value}
use Rattle.json.specs.Lex.{tokens}
use Rattle.serde_json.specs.Read.{converted}
use Rattle.serde_json.specs.View.{view}
use Rattle.lsp_text.specs.Floats.{of_json_by}
use Rattle.lsp_text.proofs.LetIn.{read_by-is}
use Rattle.lsp_text.proofs.Tokens.{some_with, whole_read}
use Rattle.lsp_text.proofs.value.read_whole.Goals as goal

pub returns-clause-value : goal.returns-clause-value
returns-clause-value c =
    let floats = c.args.floats in
    let text = c.args.text.now in
    let d = view c.in_ok-value.value in
    let none : c.read_value.new.reader ≡ [] = search rules in
    let read = ap (λ ts. converted (of_json_by floats) (value 127 ts)) (sym c.in_ok-reader.ensures.ok) ∙ c.in_ok-value.ensures.value ∙ ap (some_with d) none in
    read_by-is floats text ∙ whole_read floats (value 127 (tokens text)) d read
