-- No form has two arguments.
use Rattle.std.proofs.Common.{◌≤◌, ◌<◌, length, ap, sym, arith}
use Rattle.lsp_sample_run.proofs.ArgumentsLemmas.{two_arguments}
use Rattle.lsp_sample_run.proofs.arguments.read_arguments.Goals as goal

pub returns-in_default-2-clause-value : goal.returns-in_default-2-clause-value
returns-in_default-2-clause-value c =
    let arguments = c.args.arguments.now.items in
    let same = ap length c.as_slice.ensures.value in
    let some : 2 ≤ length arguments = omega (arith, same, c.in_default.len_at_least) in
    let few : length arguments < 3 = omega (arith, same, c.in_default.len_below) in
    sym (two_arguments arguments some few)
