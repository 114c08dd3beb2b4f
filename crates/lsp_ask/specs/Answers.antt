-- What becomes of what a server sends and asks.
use Rattle.std.specs.Prelude.{ℕ, Bool, true, false, Option, Some, None, Result, Ok, Err, is_ok}
use Rattle.serde_json.specs.Data.{Data}
use Rattle.lsp_rpc.specs.declared.code.ErrorCode.TheVariants as error_codes
use Rattle.lsp_rpc.specs.Message.{ErrorData, error_with_code, not_initialized_error, may_have_float}
use Rattle.lsp_desk.specs.Reply.{Reply}
use Rattle.lsp_desk.specs.Reply as replies
use Rattle.lsp_shape.specs.Plain.{Plain, plain_has_float}
use Rattle.lsp_shape.specs.Shape.{Shape}
use Rattle.lsp_shape.specs.Read.{read}
use Rattle.lsp_ask.specs.declared.answers.Told.{Told}
use Rattle.lsp_ask.specs.declared.answers.Told.TheVariants as tolds

-- ---- a notification

-- the desk's reply
abbrev pub told_reply : Told → Reply
told_reply tolds.Sent = replies.Sent
told_reply tolds.Suppressed = replies.Suppressed
told_reply tolds.Exited = replies.Exited

-- ---- a request

-- the number of a ticket, or the error in place of one
pub data AskedData : Type 0 where
  ticket : ℕ → AskedData
  refused : ErrorData → AskedData

-- what the desk's reply comes to; none of the others is a reply to a request
abbrev pub asked_of : Reply → Option AskedData
asked_of (replies.Ticket n i) = Some (ticket n)
asked_of replies.Sent = None
asked_of replies.Suppressed = None
asked_of replies.NotInitialized = Some (refused not_initialized_error)
asked_of replies.Exited = Some (refused (error_with_code error_codes.InternalError))
asked_of (replies.Answered r) = None
asked_of replies.Awaited = None
asked_of replies.Gone = None
asked_of (replies.Number n) = None
asked_of (replies.LifeIs life) = None
asked_of replies.Done = None
asked_of replies.Given = None
asked_of replies.Ignored = None
asked_of (replies.First r) = None
asked_of (replies.Messages rs) = None

-- ---- an answer

-- the result, an error, or the ticket again
pub data AnsweredData : Type 0 where
  value : Plain → AnsweredData
  error : ErrorData → AnsweredData
  pending : ℕ → AnsweredData

abbrev pub read_result : Option Plain → AnsweredData
read_result None = error (error_with_code error_codes.ParseError)
read_result (Some p) = value p

-- a result is read by the method's shape; one that doesn't fit is an error
abbrev pub answer_in : Shape → Result Data ErrorData → AnsweredData
answer_in s (Ok d) = read_result (read s d)
answer_in s (Err e) = error e

-- what the desk's reply comes to; none of the others is a reply to a poll
abbrev pub answered_of : Shape → ℕ → Reply → Option AnsweredData
answered_of s n (replies.Ticket m i) = None
answered_of s n replies.Sent = None
answered_of s n replies.Suppressed = None
answered_of s n replies.NotInitialized = None
answered_of s n replies.Exited = None
answered_of s n (replies.Answered r) = Some (answer_in s r.body)
answered_of s n replies.Awaited = Some (pending n)
answered_of s n replies.Gone = Some (error (error_with_code error_codes.InternalError))
answered_of s n (replies.Number m) = None
answered_of s n (replies.LifeIs life) = None
answered_of s n replies.Done = None
answered_of s n replies.Given = None
answered_of s n replies.Ignored = None
answered_of s n (replies.First r) = None
answered_of s n (replies.Messages rs) = None

abbrev pub answered_has_float : AnsweredData → Bool
answered_has_float (value p) = plain_has_float p
answered_has_float (error e) = may_have_float e.payload
answered_has_float (pending n) = false

-- telling this reply to a poll takes memory: a result is read, and an error is made where no answer is awaited
abbrev pub may_lack : Reply → Bool
may_lack (replies.Ticket m i) = false
may_lack replies.Sent = false
may_lack replies.Suppressed = false
may_lack replies.NotInitialized = false
may_lack replies.Exited = false
may_lack (replies.Answered r) = is_ok r.body
may_lack replies.Awaited = false
may_lack replies.Gone = true
may_lack (replies.Number m) = false
may_lack (replies.LifeIs life) = false
may_lack replies.Done = false
may_lack replies.Given = false
may_lack replies.Ignored = false
may_lack (replies.First r) = false
may_lack (replies.Messages rs) = false
