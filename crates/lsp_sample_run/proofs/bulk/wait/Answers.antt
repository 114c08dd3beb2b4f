use Rattle.std.proofs.Common.{◌≡◌, ◌++◌, ap, ◌∙◌, rules}
use Rattle.std.specs.Prelude.{string_bytes, codes, decimal}
use Rattle.lsp_sample_run.proofs.BulkLemmas.{regrouped}
use Rattle.lsp_sample_run.proofs.bulk.wait.Goals as goal

pub returns : goal.returns
returns c =
    let head = codes "{\"jsonrpc\":\"2.0\",\"method\":\"workspace/executeCommand\",\"params\":{\"command\":\"wait\",\"arguments\":[" in
    let text : string_bytes c.in_ok-format.field-0 ≡ head ++ (decimal c.args.polls ++ (codes "]},\"id\":" ++ (decimal c.args.k ++ codes "}"))) = search rules in
    text ∙ ap (λ l. head ++ l) (regrouped (decimal c.args.polls) (codes "]") (codes "},\"id\":") (decimal c.args.k) (codes "}"))
