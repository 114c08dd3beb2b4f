use Rattle.lsp_frame.proofs.BothWays.{one_message}
use Rattle.lsp_frame.proofs.law.read_both_ways.Goals as goal

pub returns-clause-agree : goal.returns-clause-agree
returns-clause-agree c = one_message c.args.floats c.args.text.now c.from_tokens.result c.by_value.result c.from_tokens.ensures.read c.by_value.ensures.read
