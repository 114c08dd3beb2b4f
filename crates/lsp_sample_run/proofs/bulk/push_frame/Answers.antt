use Rattle.std.proofs.Common.{◌≡◌, ◌++◌, ap, ◌∙◌, append_assoc, rules, length}
use Rattle.std.specs.Prelude.{string_bytes}
use Rattle.lsp_frame.specs.Frames.{head_text}
use Rattle.lsp_sample_run.proofs.bulk.push_frame.Goals as goal

pub returns : goal.returns
returns c =
    let input = c.args.input.now.items in
    let body = c.args.body.now in
    let head : string_bytes c.in_ok-head.head ≡ head_text (length body) = search rules in
    let one : c.extend_from_slice.new.self.items ≡ input ++ string_bytes c.in_ok-head.head = search rules in
    let two : c.extend_from_slice-2.new.self.items ≡ c.extend_from_slice.new.self.items ++ body = search rules in
    two ∙ ap (λ l. l ++ body) (one ∙ ap (λ l. input ++ l) head) ∙ append_assoc input (head_text (length body)) body
