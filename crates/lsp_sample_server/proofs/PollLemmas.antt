-- What a poll of a command asked and came to.
use Rattle.std.proofs.Common.{◌≡◌, ℕ, List, [], refl, sym, subst}
use Rattle.lsp_desk.specs.Meaning.{Meaning, PollsOn}
use Rattle.lsp_desk.specs.Trace.{DeskEntry}
use Rattle.lsp_desk.proofs.TraceLemmas.{grows_none}
use Rattle.lsp_shape.specs.Plain.{Plain}
use Rattle.lsp_ask.specs.Answers.{AskedData, AnsweredData}
use Rattle.lsp_ask.specs.Client.{IsAsked, IsPolled}
use Rattle.lsp_client.specs.Methods.{workspace_folders_call}
use Rattle.lsp_service.specs.Server.{Start}
use Rattle.lsp_sample_server.specs.declared.command.Command.{Command}
use Rattle.lsp_sample_server.specs.declared.command.Command.TheVariants.{Wait}
use Rattle.lsp_sample_server.specs.Command.{command_in}
use Rattle.lsp_sample_server.specs.Execute.{TaskData, Asks, PollsAnswer, Executes, ResumesLeft, ResumesCommand, asked_start, answered_start, folders_shape, waits}
use Rattle.lsp_sample_server.specs.Left.{waiting, command_left}

-- nothing was asked
pub polls_none : {D : Type 0} (m : Meaning D) (d : D) (P : List DeskEntry → Type 0) → P [] → PollsOn m d d P
polls_none m d P p = record { trace = []; grows = grows_none m d; holds = p }

-- the folders were asked for
pub asks_as : {D : Type 0} (m : Meaning D) (old new : D) (params : Plain) (a : AskedData) (start : Start TaskData) → PollsOn m old new (IsAsked workspace_folders_call a) → start ≡ asked_start params a
    → PollsOn m old new (λ asked. Asks params asked start)
asks_as m old new params a start p is = record { trace = p.trace; grows = p.grows; holds = record { asked_data = a; asks = p.holds; gives = is } }

-- their answer was asked for
pub answers_as : {D : Type 0} (m : Meaning D) (old new : D) (params : Plain) (n : ℕ) (a : AnsweredData) (start : Start TaskData) → PollsOn m old new (IsPolled folders_shape n a) → start ≡ answered_start params a
    → PollsOn m old new (λ asked. PollsAnswer params n asked start)
answers_as m old new params n a start p is = record { trace = p.trace; grows = p.grows; holds = record { answered = a; polls = p.holds; gives = is } }

-- a wait begins
pub begins_wait : {D : Type 0} (m : Meaning D) (d : D) (params : Plain) (c : Command) (polls : ℕ) (start : Start TaskData) → c ≡ Wait polls → start ≡ waits params polls polls
    → PollsOn m d d (λ asked. Executes params c asked start)
begins_wait m d params c polls start is gives =
    subst (λ x. PollsOn m d d (λ asked. Executes params x asked start)) (sym is) (polls_none m d (λ asked. Executes params (Wait polls) asked start) (record { asks = refl; is = gives }))

-- a wait goes on
pub goes_on_waiting : {D : Type 0} (m : Meaning D) (d : D) (t : TaskData) (left polls : ℕ) (start : Start TaskData) → command_left t.left ≡ command_in t.params → t.left ≡ waiting left polls → start ≡ waits t.params left polls
    → PollsOn m d d (λ asked. ResumesCommand t asked start)
goes_on_waiting m d t left polls start tied is gives =
    polls_none m d (λ asked. ResumesCommand t asked start) (record { tied = tied; goes = subst (λ l. ResumesLeft t.params l [] start) (sym is) (record { asks = refl; is = gives }) })
