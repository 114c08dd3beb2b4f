-- What contracts see of a service's method table.
use Rattle.std.specs.Prelude.{List, ◌++◌, drop}
use Rattle.lsp_session.specs.Table.{MethodData}
use Rattle.lsp_session.specs.TableView.{methods_of}
use Rattle.lsp_methods.specs.declared.table.ServiceTable.{ServiceTable}
use Rattle.lsp_methods.specs.Standard.{standard_count, standard_methods}

-- the custom methods, in the order in which they were registered
abbrev pub customs_of : ServiceTable → List MethodData
customs_of t = drop standard_count (methods_of t.table)

-- the standard methods, and behind them the custom ones
abbrev pub service_methods : ServiceTable → List MethodData
service_methods t = standard_methods ++ customs_of t
