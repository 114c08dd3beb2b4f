-- The answer stands after the others, or there was no memory for it.
use Rattle.std.proofs.Common.{ap, ◌∙◌}
use Rattle.std.specs.Prelude.{is_ok}
use Rattle.lsp_rpc.specs.declared.message.Message.TheVariants.{Response}
use Rattle.lsp_rpc.specs.Message.{ResponseData, body_has_float}
use Rattle.lsp_session.proofs.OutgoingLemmas.{have_float-pushed}
use Rattle.lsp_session.proofs.outgoing.Outgoing.answer.Goals as goal

pub invariant_of-self : goal.invariant_of-self
invariant_of-self c =
    let clean = ap (λ (r : ResponseData). body_has_float r.body) c.from_parts.ensures ∙ c.requires in
    record {
      float_free = rw c.push.ensures.items (have_float-pushed c.args.self.now.messages.items (Response c.from_parts.result) (is_ok c.push.result) c.args.self.now.float_free clean);
    }
