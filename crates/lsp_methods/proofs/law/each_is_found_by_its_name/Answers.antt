use Rattle.lsp_methods.proofs.FoundLemmas as found
use Rattle.lsp_methods.proofs.law.each_is_found_by_its_name.Goals as goal

pub returns-clause-served : goal.returns-clause-served
returns-clause-served c = λ m customs. found.each_found customs m

pub returns-clause-cancel : goal.returns-clause-cancel
returns-clause-cancel c = found.cancel_found

pub returns-clause-exit : goal.returns-clause-exit
returns-clause-exit c = found.exit_found
