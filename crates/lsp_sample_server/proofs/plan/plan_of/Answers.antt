-- A call of `initialize` has its own reply, and each other call has the reply of the others, and takes memory as that does.
use Rattle.std.proofs.Common.{◌≡◌, sym, ap, ◌∙◌}
use Rattle.std.specs.Prelude.{Ok}
use Rattle.lsp_methods.specs.declared.method.Method.TheVariants as methods
use Rattle.lsp_methods.specs.declared.method.LifeMethod.TheVariants as life
use Rattle.lsp_service.specs.declared.call.Call.TheVariants as calls
use Rattle.lsp_service.specs.declared.call.LifeCall.TheVariants as life_calls
use Rattle.lsp_service.specs.Calls.{show_call}
use Rattle.lsp_service.specs.Data.{written}
use Rattle.lsp_sample_server.specs.Sample.{replies, sample_turn, takes_memory}
use Rattle.lsp_sample_server.proofs.PlanLemmas.{group_other, work_other, on_fault}
use Rattle.lsp_sample_server.proofs.plan.plan_of.Goals as goal

pub returns-in_ok-offered-in-Initialize-clause-plan : goal.returns-in_ok-offered-in-Initialize-clause-plan
returns-in_ok-offered-in-Initialize-clause-plan c =
    let call : c.args.call ≡ calls.Life (life_calls.Initialize c.in-Initialize.params) = c.in-Life.is ∙ ap calls.Life c.in-Initialize.is in
    ap (λ d. replies (written (methods.Life life.Initialize) (Ok d))) c.in_ok-offered-in-Initialize.ensures
    ∙ sym (ap (λ x. sample_turn (show_call x)) call)

pub returns-in_ok-other_reply-in_default-call-clause-plan : goal.returns-in_ok-other_reply-in_default-call-clause-plan
returns-in_ok-other_reply-in_default-call-clause-plan c =
    ap replies c.in_ok-other_reply-in_default-call.ensures.reply ∙ work_other c.in-Work.call c.in_default-call.not-ExecuteCommand ∙ sym (ap (λ x. sample_turn (show_call x)) c.in-Work.is)

pub returns-in_ok-other_reply-in_default-clause-plan : goal.returns-in_ok-other_reply-in_default-clause-plan
returns-in_ok-other_reply-in_default-clause-plan c = ap replies c.in_ok-other_reply-in_default.ensures.reply ∙ group_other c.args.call c.in_default.not-Life c.in_default.not-Work

pub returns-in_err-offered-in-Initialize-clause-memory : goal.returns-in_err-offered-in-Initialize-clause-memory
returns-in_err-offered-in-Initialize-clause-memory c =
    let call : c.args.call ≡ calls.Life (life_calls.Initialize c.in-Initialize.params) = c.in-Life.is ∙ ap calls.Life c.in-Initialize.is in
    on_fault c.from_residual.result (ap (λ x. takes_memory (sample_turn (show_call x))) call)

pub returns-in_err-other_reply-in_default-call-clause-memory : goal.returns-in_err-other_reply-in_default-call-clause-memory
returns-in_err-other_reply-in_default-call-clause-memory c =
    on_fault c.from_residual-in_err-other_reply-in_default-call.result
    (ap (λ x. takes_memory (sample_turn (show_call x))) c.in-Work.is
    ∙ sym (ap takes_memory (work_other c.in-Work.call c.in_default-call.not-ExecuteCommand)) ∙ c.in_err-other_reply-in_default-call.ensures.memory)

pub returns-in_err-other_reply-in_default-clause-memory : goal.returns-in_err-other_reply-in_default-clause-memory
returns-in_err-other_reply-in_default-clause-memory c =
    on_fault c.from_residual-in_err-other_reply-in_default.result
    (sym (ap takes_memory (group_other c.args.call c.in_default.not-Life c.in_default.not-Work)) ∙ c.in_err-other_reply-in_default.ensures.memory)
