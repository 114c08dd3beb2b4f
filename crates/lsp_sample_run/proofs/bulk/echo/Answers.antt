use Rattle.std.proofs.Common.{◌≡◌, ◌++◌, ap, ◌∙◌, rules}
use Rattle.std.specs.Prelude.{string_bytes, codes, decimal}
use Rattle.lsp_sample_run.proofs.BulkLemmas.{regrouped}
use Rattle.lsp_sample_run.proofs.bulk.echo.Goals as goal

pub returns : goal.returns
returns c =
    let head = codes "{\"jsonrpc\":\"2.0\",\"method\":\"workspace/executeCommand\",\"params\":{\"command\":\"echo\",\"arguments\":[" in
    let text : string_bytes c.in_ok-format.field-0 ≡ head ++ (decimal c.args.k ++ (codes "]},\"id\":" ++ (decimal c.args.k ++ codes "}"))) = search rules in
    text ∙ ap (λ l. head ++ l) (regrouped (decimal c.args.k) (codes "]") (codes "},\"id\":") (decimal c.args.k) (codes "}"))
