-- What is asked of a server and what it answers, as plain data; and what an answer comes to.
use Rattle.std.specs.Prelude.{◌==◌, ℕ, Bool, false, if◌then◌else◌, Option, Some, None, is_some, Result, Ok, Err}
use Rattle.serde_json.specs.Data.{Data, null}
use Rattle.lsp_rpc.specs.declared.code.ErrorCode.TheVariants.{InternalError}
use Rattle.lsp_rpc.specs.declared.error.Error.{Error}
use Rattle.lsp_rpc.specs.Message.{ErrorData, error_with_code, may_have_float, body_has_float}
use Rattle.lsp_rpc.specs.Shown.{show_error}
use Rattle.lsp_session.specs.declared.table.Kind.{Kind}
use Rattle.lsp_session.specs.declared.table.Kind.TheVariants.{Request, Notification}
use Rattle.lsp_shape.specs.Plain.{Plain, leaf, plain_has_float}
use Rattle.lsp_shape.specs.Row.{Row, row_of}
use Rattle.lsp_shape.specs.Read.{read}
use Rattle.lsp_shape.specs.Shape.{Shape, nil}
use Rattle.lsp_shape.specs.Write.{write}
use Rattle.lsp_methods.specs.declared.method.Method.{Method}
use Rattle.lsp_methods.specs.Methods.{method_row, place_of}
use Rattle.lsp_methods.specs.Shapes.{result_shape}
use Rattle.lsp_service.specs.declared.call.Target.{Target}
use Rattle.lsp_service.specs.declared.call.Target.TheVariants as targets

-- a call: a method with its params, as they were read; or a custom method, by its number, with any params or none
pub data MethodCall : Type 0 where
  typed : Method → Option Plain → MethodCall
  custom : ℕ → Option Data → MethodCall

-- a call as a session hands it in: its method was registered with this kind
pub record IncomingCall : Type 0 where
  pub call : MethodCall
  pub kind : Kind

-- a reply: the answer to a method's request; that answer as it was written before; the answer to a custom request; an error,
-- whatever was asked; or a note taken
pub data MethodReply : Type 0 where
  answer : Method → Result Plain ErrorData → MethodReply
  written : Method → Result Data ErrorData → MethodReply
  custom_answer : Result Data ErrorData → MethodReply
  refusal : ErrorData → MethodReply
  noted : MethodReply

-- a result that is null
abbrev pub nil_row : Row (Unit {0})
nil_row = row_of nil (λ x. leaf null)

abbrev pub result_shown : {A : Type 0} → (A → Plain) → Result A Error → Result Plain ErrorData
result_shown show (Ok x) = Ok (show x)
result_shown show (Err e) = Err (show_error e)

-- ---- params that are held as they came

-- the params fit the shape
abbrev pub fits : Shape → Data → Bool
fits s d = is_some (read s d)

abbrev pub plain_or_null : Option Plain → Plain
plain_or_null None = leaf null
plain_or_null (Some p) = p

-- what params that fit are read as
abbrev pub read_plain : Shape → Data → Plain
read_plain s d = plain_or_null (read s d)

-- ---- what a reply comes to

-- the reply is none of the call's
abbrev pub mismatch : Result Data ErrorData
mismatch = Err (error_with_code InternalError)

abbrev pub write_body : Shape → Result Plain ErrorData → Result Data ErrorData
write_body s (Ok p) = Ok (write s p)
write_body s (Err e) = Err e

-- an answer is that of the method alone
abbrev pub written_to : Method → Method → Result Data ErrorData → Result Data ErrorData
written_to m n r = if place_of m == place_of n then r else mismatch

-- a notification is noted, and a request is not
abbrev pub noted_by : Kind → Result Data ErrorData
noted_by Notification = Ok null
noted_by Request = mismatch

-- the kind of the method that was called
abbrev pub kind_of : Target → Kind
kind_of (targets.Typed m) = (method_row m).kind
kind_of (targets.Custom kind) = kind

-- what is written for a reply to a call of this method
abbrev pub written_by : Target → MethodReply → Result Data ErrorData
written_by (targets.Typed m) (answer n r) = written_to m n (write_body (result_shape n) r)
written_by (targets.Typed m) (written n r) = written_to m n r
written_by (targets.Typed m) (custom_answer r) = mismatch
written_by (targets.Typed m) (refusal e) = Err e
written_by (targets.Typed m) noted = noted_by (method_row m).kind
written_by (targets.Custom kind) (answer n r) = mismatch
written_by (targets.Custom kind) (written n r) = mismatch
written_by (targets.Custom kind) (custom_answer r) = r
written_by (targets.Custom kind) (refusal e) = Err e
written_by (targets.Custom kind) noted = noted_by kind

-- no float is sent
abbrev pub unless_float : Result Data ErrorData → Result Data ErrorData
unless_float r = if body_has_float r then mismatch else r

abbrev pub outcome_by : Target → MethodReply → Result Data ErrorData
outcome_by t r = unless_float (written_by t r)

-- ---- floats

abbrev pub plain_may_have_float : Option Plain → Bool
plain_may_have_float None = false
plain_may_have_float (Some p) = plain_has_float p

abbrev pub params_have_float : MethodCall → Bool
params_have_float (typed m p) = plain_may_have_float p
params_have_float (custom n p) = may_have_float p
