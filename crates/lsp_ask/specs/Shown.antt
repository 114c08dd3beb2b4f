-- The plain data that the code's answers stand for.
use Rattle.std.specs.Prelude.{ℕ}
use Rattle.lsp_rpc.specs.Shown.{show_error}
use Rattle.lsp_shape.specs.Plain.{Plain}
use Rattle.lsp_ask.specs.declared.answers.Asked.{Asked}
use Rattle.lsp_ask.specs.declared.answers.Asked.TheVariants as askeds
use Rattle.lsp_ask.specs.declared.answers.Answered.{Answered}
use Rattle.lsp_ask.specs.declared.answers.Answered.TheVariants as answereds
use Rattle.lsp_ask.specs.declared.answers.Ticket.{Ticket}
use Rattle.lsp_ask.specs.Answers.{AskedData, ticket, refused, AnsweredData, value, error, pending}

abbrev pub ticket_number : {R : Type 0} → Ticket R → ℕ
ticket_number t = t.number

abbrev pub show_asked : {R : Type 0} → Asked R → AskedData
show_asked (askeds.Ticket t) = ticket (ticket_number t)
show_asked (askeds.Refused e) = refused (show_error e)

abbrev pub show_answered : {R A : Type 0} → (A → Plain) → Answered R A → AnsweredData
show_answered show (answereds.Value x) = value (show x)
show_answered show (answereds.Error e) = error (show_error e)
show_answered show (answereds.Pending t) = pending (ticket_number t)
