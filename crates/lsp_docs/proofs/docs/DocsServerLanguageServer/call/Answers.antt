-- Each call takes the turn of its group; want of memory comes before any call on the desk.
use Rattle.std.proofs.Common.{◌≡◌, sym, ap, ◌∙◌, refl, subst}
use Rattle.std.specs.Prelude.{Result}
use Rattle.serde_json.specs.Data.{Data}
use Rattle.lsp_rpc.specs.Message.{ErrorData, error_with_code}
use Rattle.lsp_rpc.specs.declared.code.ErrorCode.TheVariants.{MethodNotFound}
use Rattle.lsp_rpc.specs.Shown.{show_error}
use Rattle.lsp_desk.specs.Meaning.{PollsOn}
use Rattle.lsp_session.proofs.FailLemmas.{poll_fails_still}
use Rattle.lsp_service.specs.Data.{custom_answer, refusal, noted}
use Rattle.lsp_service.specs.declared.call.LifeCall.TheVariants as life_calls
use Rattle.lsp_service.specs.Replies.{show_life_reply}
use Rattle.lsp_docs.specs.Docs.{replies, TakesTurn}
use Rattle.lsp_docs.specs.Typed.{call_turn, sync_turn, closes_open, reply_or_error}
use Rattle.lsp_docs.proofs.TurnLemmas.{takes_reply, polls_turn, unknown_group}
use Rattle.lsp_docs.proofs.docs.DocsServerLanguageServer.call.Goals as goal

no_text : {b : Result Data ErrorData} → replies (refusal (error_with_code MethodNotFound)) ≡ replies (custom_answer b) → ⊥
no_text e = cc

pub returns-in-Ok-Ok-clause-called : goal.returns-in-Ok-Ok-clause-called
returns-in-Ok-Ok-clause-called g c =
    let s = c.args.self.now in
    let r = show_life_reply c.in-Ok-Ok.reply in
    polls_turn g.D.Caller.meaning c.args.client.now c.args.client.now s s c.args.call _ r (ap (call_turn s.documents) c.in-Life.is)
    (takes_reply g.D.Caller.meaning c.args.client.now _ s.documents s.documents r (c.in-Ok-Ok.ensures.reply ∙ ap (λ x. replies (reply_or_error show_life_reply x)) c.in-Ok-Ok.field-0-is) refl)

pub returns-in-Ok-Err-clause-called : goal.returns-in-Ok-Err-clause-called
returns-in-Ok-Err-clause-called g c =
    let s = c.args.self.now in
    let r = refusal (show_error c.in-Ok-Err.error) in
    polls_turn g.D.Caller.meaning c.args.client.now c.args.client.now s s c.args.call _ r (ap (call_turn s.documents) c.in-Life.is)
    (takes_reply g.D.Caller.meaning c.args.client.now _ s.documents s.documents r (c.in-Ok-Err.ensures.reply ∙ ap (λ x. replies (reply_or_error show_life_reply x)) c.in-Ok-Err.field-0-is) refl)

pub returns-in-Ok-Ok-heed-clause-called : goal.returns-in-Ok-Ok-heed-clause-called
returns-in-Ok-Ok-heed-clause-called g c =
    let s = c.args.self.now in
    let s2 = c.heed.new.self in
    polls_turn g.D.Caller.meaning c.args.client.now c.heed.new.client s s2 c.args.call (sync_turn c.in-Sync.call) noted (ap (call_turn s.documents) c.in-Sync.is)
    (subst (λ x. PollsOn g.D.Caller.meaning c.args.client.now c.heed.new.client (TakesTurn (sync_turn c.in-Sync.call) s.documents s2.documents (reply_or_error (λ _. noted) x))) c.in-Ok-Ok-heed.field-0-is c.in-Ok-Ok-heed.ensures.heeded)

pub returns-in-Ok-clause-called : goal.returns-in-Ok-clause-called
returns-in-Ok-clause-called g c =
    let s = c.args.self.now in
    polls_turn g.D.Caller.meaning c.args.client.now c.args.client.now s s c.args.call _ _ (ap (call_turn s.documents) c.in-Custom.is)
    (takes_reply g.D.Caller.meaning c.args.client.now _ s.documents s.documents _ (ap (λ b. replies (custom_answer b)) (sym c.in-Ok.ensures.body)) refl)

pub returns-in-Ok-not_found_for : goal.returns-in-Ok-not_found_for
returns-in-Ok-not_found_for g c =
    let s = c.args.self.now in
    record {
      called = polls_turn g.D.Caller.meaning c.args.client.now c.args.client.now s s c.args.call _ _ (unknown_group s.documents c.args.call c.in_default.not-Life c.in_default.not-Sync c.in_default.not-Custom)
          (takes_reply g.D.Caller.meaning c.args.client.now _ s.documents s.documents _ (ap replies (sym c.in-Ok-not_found_for.ensures)) refl);
      failed = tt;
      shutdown = tt;
      closes = tt;
      text = tt;
      err = tt;
    }

pub returns-in-Err-not_found_for : goal.returns-in-Err-not_found_for
returns-in-Err-not_found_for g c =
    let ds = c.args.self.now.documents in
    let unknown = unknown_group ds c.args.call c.in_default.not-Life c.in_default.not-Sync c.in_default.not-Custom in
    record {
      called = tt;
      failed = poll_fails_still g.D.Caller.meaning c.args.client.now;
      shutdown = λ e. c.in_default.not-Life life_calls.Shutdown e;
      closes = ap (λ t. closes_open t ds) unknown;
      text = λ e. no_text (sym unknown ∙ e);
      err = refl;
    }
