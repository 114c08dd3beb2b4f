-- What holds of each language server holds of the sample.
use Rattle.std.specs.Prelude.{◌≡◌, ◌==◌, ◌-◌, ℕ, List, Bool, true, false, if◌then◌else◌, Option, Some, Err}
use Rattle.std.proofs.Common.{refl, sym, ap, subst}
use Rattle.serde_json.specs.Data.{number, unsigned}
use Rattle.lsp_desk.specs.Trace.{DeskEntry}
use Rattle.lsp_session.specs.Semantics.{Phase, Fresh, Held, AreClient}
use Rattle.lsp_shape.specs.Plain.{Plain}
use Rattle.lsp_methods.specs.declared.method.Method.TheVariants as methods
use Rattle.lsp_methods.specs.declared.method.LifeMethod.{LifeMethod}
use Rattle.lsp_methods.specs.declared.method.LifeMethod.TheVariants as life
use Rattle.lsp_methods.specs.declared.method.WorkMethod.{WorkMethod}
use Rattle.lsp_methods.specs.declared.method.WorkMethod.TheVariants as work
use Rattle.lsp_ask.specs.Answers.{AskedData, ticket, refused, AnsweredData, value, error, pending}
use Rattle.lsp_service.specs.Data.{MethodCall, typed, MethodReply}
use Rattle.lsp_service.specs.Server.{Start, Now, Later, ServerPolls, polled_call, IsLawfulServer}
use Rattle.lsp_sample_server.specs.declared.command.Command.{Command}
use Rattle.lsp_sample_server.specs.declared.command.Command.TheVariants.{Echo, Wait, Ask, Unknown}
use Rattle.lsp_sample_server.specs.declared.sample.Sample.{Sample}
use Rattle.lsp_sample_server.specs.Command.{command_in}
use Rattle.lsp_sample_server.specs.Execute.{TaskData, command_result, asked_start, answered_start, Quietly, Executes, ResumesLeft, ResumesCommand}
use Rattle.lsp_sample_server.specs.Left.{LeftData, waiting, asking, command_left}
use Rattle.lsp_sample_server.specs.Sample.{SampleTurn, replies, greets, executes, life_turn, work_turn, sample_turn, BeginsTurn, MayEnd, MayReply, task_call, sample_semantics}

-- ---- a poll makes no calls of the session

quiet_client : (gives : Start TaskData) (asked : List DeskEntry) (start : Start TaskData) → Quietly gives asked start → AreClient asked
quiet_client gives asked start p = subst AreClient (sym p.asks) tt

executes_client : (params : Plain) (c : Command) (asked : List DeskEntry) (start : Start TaskData) → Executes params c asked start → AreClient asked
executes_client params Echo asked start p = quiet_client _ asked start p
executes_client params (Wait polls) asked start p = quiet_client _ asked start p
executes_client params Ask asked start p = subst AreClient (sym p.asks.1) (refl, tt)
executes_client params Unknown asked start p = quiet_client _ asked start p

begins_client : (turn : SampleTurn) (asked : List DeskEntry) (start : Start TaskData) → BeginsTurn turn asked start → AreClient asked
begins_client (replies r) asked start p = subst AreClient (sym p.0) tt
begins_client greets asked start p = subst AreClient (sym p.0.1) (refl, tt)
begins_client (executes params) asked start p = executes_client params (command_in params) asked start p

left_client : (params : Plain) (left : LeftData) (asked : List DeskEntry) (start : Start TaskData) → ResumesLeft params left asked start → AreClient asked
left_client params (waiting left polls) asked start p = quiet_client _ asked start p
left_client params (asking n) asked start p = subst AreClient (sym p.polls.1) (refl, tt)

asks : (s : Sample) (phase : Phase MethodCall TaskData) (asked : List DeskEntry) (s2 : Sample) (start : Start TaskData) → ServerPolls sample_semantics s phase asked s2 start → AreClient asked
asks s (Fresh c) asked s2 start p = begins_client (sample_turn c) asked start p.begins
asks s (Held t) asked s2 start p = left_client t.params t.left asked start p.goes_on.goes

-- ---- what a poll comes to, where the params are these

-- the call goes on with them, or it ends with such a reply
abbrev Comes : Plain → (MethodReply → Type 0) → Start TaskData → Type 0
Comes params ends (Now r) = ends r
Comes params ends (Later t) = t.params ≡ params

comes_if : (b : Bool) (params : Plain) (polls : ℕ) (left : LeftData) → Comes params (MayEnd params (Wait polls)) (if b then Now (command_result (number (unsigned polls))) else Later (record { params = params; left = left }))
comes_if true params polls left = refl
comes_if false params polls left = refl

comes_asked : (params : Plain) (a : AskedData) → Comes params (MayEnd params Ask) (asked_start params a)
comes_asked params (ticket n) = refl
comes_asked params (refused e) = (Err e, refl)

comes_answered : (params : Plain) (a : AnsweredData) → Comes params (MayEnd params Ask) (answered_start params a)
comes_answered params (value p) = (_, refl)
comes_answered params (error e) = (Err e, refl)
comes_answered params (pending n) = refl

comes_executed : (params : Plain) (c : Command) (asked : List DeskEntry) (start : Start TaskData) → Executes params c asked start → Comes params (MayEnd params c) start
comes_executed params Echo asked start p = subst (Comes params (MayEnd params Echo)) (sym p.is) refl
comes_executed params (Wait polls) asked start p = subst (Comes params (MayEnd params (Wait polls))) (sym p.is) (comes_if (polls == 0) params polls (waiting (polls - 1) polls))
comes_executed params Ask asked start p = subst (Comes params (MayEnd params Ask)) (sym p.gives) (comes_asked params p.asked_data)
comes_executed params Unknown asked start p = subst (Comes params (MayEnd params Unknown)) (sym p.is) refl

comes_left : (params : Plain) (left : LeftData) (asked : List DeskEntry) (start : Start TaskData) → ResumesLeft params left asked start → Comes params (MayEnd params (command_left left)) start
comes_left params (waiting left polls) asked start p = subst (Comes params (MayEnd params (Wait polls))) (sym p.is) (comes_if (left == 0) params polls (waiting (left - 1) polls))
comes_left params (asking n) asked start p = subst (Comes params (MayEnd params Ask)) (sym p.gives) (comes_answered params p.answered)

comes_on : (t : TaskData) (asked : List DeskEntry) (start : Start TaskData) → ResumesCommand t asked start → Comes t.params (MayEnd t.params (command_in t.params)) start
comes_on t asked start p = subst (λ c. Comes t.params (MayEnd t.params c) start) p.tied (comes_left t.params t.left asked start p.goes)

-- ---- what a poll comes to, whatever the call

-- only a command goes on
abbrev ComesOf : SampleTurn → Start TaskData → Type 0
ComesOf (replies r1) (Now r) = r ≡ r1
ComesOf (replies r1) (Later t) = ⊥
ComesOf greets (Now r) = MayReply greets r
ComesOf greets (Later t) = ⊥
ComesOf (executes params) start = Comes params (MayEnd params (command_in params)) start

comes_begun : (turn : SampleTurn) (asked : List DeskEntry) (start : Start TaskData) → BeginsTurn turn asked start → ComesOf turn start
comes_begun (replies r) asked start p = subst (ComesOf (replies r)) (sym p.1) refl
comes_begun greets asked start p = subst (ComesOf greets) (sym p.1) refl
comes_begun (executes params) asked start p = comes_executed params (command_in params) asked start p

no_life : (m : LifeMethod) (t : TaskData) → ComesOf (life_turn m) (Later t) → ⊥
no_life life.Initialize t p = p
no_life life.Initialized t p = p
no_life life.Shutdown t p = p

of_work : (m : WorkMethod) (params : Option Plain) (t : TaskData) → ComesOf (work_turn m params) (Later t) → task_call t ≡ typed (methods.Work m) params
of_work work.ExecuteCommand (Some params) t p = ap (λ x. typed (methods.Work work.ExecuteCommand) (Some x)) p
of_work m params t p = absurd p

keeps_turn : (c : MethodCall) (t : TaskData) → ComesOf (sample_turn c) (Later t) → task_call t ≡ c
keeps_turn (typed (methods.Life m) params) t p = absurd (no_life m t p)
keeps_turn (typed (methods.Work m) params) t p = of_work m params t p
keeps_turn c t p = absurd p

keeps : (s : Sample) (phase : Phase MethodCall TaskData) (asked : List DeskEntry) (s2 : Sample) (t : TaskData) → ServerPolls sample_semantics s phase asked s2 (Later t)
    → task_call t ≡ polled_call sample_semantics phase
keeps s (Fresh c) asked s2 t p = keeps_turn c t (comes_begun (sample_turn c) asked (Later t) p.begins)
keeps s (Held u) asked s2 t p = ap (λ x. typed (methods.Work work.ExecuteCommand) (Some x)) (comes_on u asked (Later t) p.goes_on)

replies_turn : (turn : SampleTurn) (r : MethodReply) → ComesOf turn (Now r) → MayReply turn r
replies_turn (replies r1) r p = p
replies_turn greets r p = p
replies_turn (executes params) r p = p

answers : (s : Sample) (phase : Phase MethodCall TaskData) (asked : List DeskEntry) (s2 : Sample) (r : MethodReply) → ServerPolls sample_semantics s phase asked s2 (Now r)
    → MayReply (sample_turn (polled_call sample_semantics phase)) r
answers s (Fresh c) asked s2 r p = replies_turn (sample_turn c) r (comes_begun (sample_turn c) asked (Now r) p.begins)
answers s (Held u) asked s2 r p = comes_on u asked (Now r) p.goes_on

pub sample_laws : IsLawfulServer sample_semantics
sample_laws = record { asks_client = asks; keeps_call = keeps; keeps_answers = answers }
