-- The frames one after the other.
use Rattle.std.proofs.Common.{◌≡◌, ◌++◌, [], ap, ◌∙◌, rules}
use Rattle.std.specs.Prelude.{string_bytes}
use Rattle.lsp_frame.specs.Frames.{framed}
use Rattle.lsp_sample_run.specs.Bulk.{initialize_text, bodies, exit}
use Rattle.lsp_sample_run.proofs.bulk.generate.Goals as goal

pub returns : goal.returns
returns c =
    let middle = bodies c.args.session.seed c.args.session.count in
    let none : c.new-input.result.items ≡ [] = search rules in
    let first = c.in_ok-push_frame.ensures ∙ ap (λ l. l ++ framed initialize_text) none in
    let next = c.in_ok-push_messages.ensures ∙ ap (λ l. l ++ middle) first in
    let last = c.in_ok-push_text.ensures ∙ ap (λ l. l ++ framed (string_bytes c.in_ok-last.last)) next in
    c.in_ok-push_frame-2.ensures ∙ ap (λ l. l ++ framed exit) (last ∙ ap (λ t. (framed initialize_text ++ middle) ++ framed t) c.in_ok-last.ensures)
