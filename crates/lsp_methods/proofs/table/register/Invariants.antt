use Rattle.std.proofs.Common.{◌≡◌, ◌++◌, map, take}
use Rattle.lsp_session.specs.TableView.{methods_of}
use Rattle.lsp_methods.specs.Methods.{method_row}
use Rattle.lsp_methods.proofs.table.register.Given as goal

abbrev pub invariant-loop-method : goal.invariant-loop-method
invariant-loop-method l = methods_of l.table ≡ methods_of l.fn.table ++ map method_row (take l.method-index l.methods)
