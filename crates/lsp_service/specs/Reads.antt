-- What params are read as, by the row of their method.
use Rattle.std.specs.Prelude.{◌≡◌, ◌-◌, ℕ, nat_lt, if◌then◌else◌, Option, Some, None}
use Rattle.serde_json.specs.Data.{Data}
use Rattle.lsp_session.specs.declared.handlers.CallMisfit.{CallMisfit}
use Rattle.lsp_session.specs.declared.handlers.CallMisfit.TheVariants as misfits
use Rattle.lsp_session.specs.declared.table.Entry.{Entry}
use Rattle.lsp_session.specs.declared.table.Kind.{Kind}
use Rattle.lsp_session.specs.Semantics.{Reading, MayLackMemory, call, missing, unexpected, unfit}
use Rattle.lsp_shape.specs.Plain.{Plain}
use Rattle.lsp_shape.specs.Shape.{Shape}
use Rattle.lsp_shape.specs.Read.{read}
use Rattle.lsp_methods.specs.declared.method.Method.{Method}
use Rattle.lsp_methods.specs.Methods.{method_at}
use Rattle.lsp_methods.specs.Shapes.{params_shape}
use Rattle.lsp_methods.specs.Standard.{standard_count}
use Rattle.lsp_service.specs.Data.{MethodCall, IncomingCall, typed, custom}

abbrev pub read_as : Method → Option Plain → Reading MethodCall
read_as m None = unfit
read_as m (Some p) = call (typed m (Some p))

-- a method without params refuses any; one with params refuses their absence, and what its shape doesn't fit
abbrev pub reads_by : Method → Option Shape → Option Data → Reading MethodCall
reads_by m None None = call (typed m None)
reads_by m None (Some d) = unexpected
reads_by m (Some s) None = missing
reads_by m (Some s) (Some d) = read_as m (read s d)

abbrev pub reading : Method → Option Data → Reading MethodCall
reading m params = reads_by m (params_shape m) params

-- behind the standard methods stand the custom ones, which take any params or none
abbrev pub reading_custom : ℕ → Option Data → Reading MethodCall
reading_custom place params = if nat_lt place standard_count then unfit else call (custom (place - standard_count) params)

abbrev pub reading_by : Option Method → ℕ → Option Data → Reading MethodCall
reading_by (Some m) place params = reading m params
reading_by None place params = reading_custom place params

abbrev pub reading_at : ℕ → Option Data → Reading MethodCall
reading_at place params = reading_by (method_at place) place params

-- the kind stands in the entry by which the params are read
abbrev pub of_kind : Kind → Reading MethodCall → Reading IncomingCall
of_kind kind (call c) = call (record { call = c; kind = kind })
of_kind kind missing = missing
of_kind kind unexpected = unexpected
of_kind kind unfit = unfit

abbrev pub reading_entry : Entry → Option Data → Reading IncomingCall
reading_entry entry params = of_kind entry.kind (reading_at entry.place params)

-- what is read of these params is refused so; memory may lack only where there are some
abbrev pub IsMisfitOf : {C : Type 0} → Option Data → Reading C → CallMisfit → Type 0
IsMisfitOf params r misfits.Missing = r ≡ missing
IsMisfitOf params r misfits.Unexpected = r ≡ unexpected
IsMisfitOf params r misfits.Unfit = r ≡ unfit
IsMisfitOf params r misfits.NoMemory = MayLackMemory params r

-- the params of a method are refused so
abbrev pub Refuses : Method → Option Data → CallMisfit → Type 0
Refuses m params misfit = IsMisfitOf params (reading m params) misfit
