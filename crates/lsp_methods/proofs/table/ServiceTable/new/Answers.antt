-- There are no custom methods yet.
use Rattle.lsp_session.specs.TableView.{methods_of}
use Rattle.lsp_methods.proofs.TableLemmas.{none_more}
use Rattle.lsp_methods.proofs.table.ServiceTable.new.Goals as goal

pub invariant_of-result : goal.invariant_of-result
invariant_of-result c = record { standard_first = (none_more (methods_of c.in_ok-table.table) c.in_ok-table.ensures).0 }

pub returns : goal.returns
returns c = (none_more (methods_of c.in_ok-table.table) c.in_ok-table.ensures).1
