-- Behind the list of methods stand two more.
use Rattle.lsp_session.specs.TableView.{methods_of}
use Rattle.lsp_methods.specs.Standard.{standard_methods}
use Rattle.lsp_methods.proofs.TableLemmas.{registered}
use Rattle.lsp_methods.proofs.table.standard_table.Goals as goal

pub returns : goal.returns
unfolding standard_methods
returns c =
    registered (methods_of c.new-table.result) (methods_of c.register.new.table) (methods_of c.method.new.self) (methods_of c.method-2.new.self) _ _ _
    c.new-table.ensures c.in_ok-register.ensures c.in_ok-method.ensures.ok c.in_ok-method-2.ensures.ok
