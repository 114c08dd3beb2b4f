-- The constant is the list of the methods.
use Rattle.lsp_methods.proofs.method.Method.at.Goals as goal

pub returns : goal.returns
returns c = c.method_in.ensures
