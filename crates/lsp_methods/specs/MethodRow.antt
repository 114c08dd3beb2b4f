-- A method of the protocol, as a method table has it.
use Prim.Native.String.{String as Name}
use Rattle.std.specs.Prelude.{codes}
use Rattle.lsp_session.specs.declared.table.Kind.TheVariants.{Request, Notification}
use Rattle.lsp_session.specs.declared.table.Layer.TheVariants.{Normal}
use Rattle.lsp_session.specs.Table.{MethodData}

abbrev pub request : Name → MethodData
request name = record { name = codes name; layer = Normal; kind = Request }

abbrev pub notification : Name → MethodData
notification name = record { name = codes name; layer = Normal; kind = Notification }
