-- The list that a notification with its editors stands for.
use Rattle.std.proofs.Common.{◌∙◌, refl}
use Rattle.std.specs.Prelude.{Result, Ok, Err, IfOk, OnErr}
use Rattle.lsp_rpc.specs.Shown.{show_message}
use Rattle.lsp_proxy.specs.Outgoing.{GivesOutgoing, KeepsAtBroadcast}
use Rattle.lsp_proxy.specs.Proxy.{from_server}
use Rattle.lsp_proxy.proofs.ReadyLemmas.{none_mapped}
use Rattle.lsp_proxy.proofs.proxy.Proxy.server.Goals as goal

if_ok : {T E : Type 0} (r : Result T E) {P Q : T → Type 0} → ((x : T) → P x → Q x) → IfOk r P → IfOk r Q
if_ok (Ok x) f p = f x p
if_ok (Err e) f p = p

on_err : {T E Q : Type 0} (r : Result T E) → Q → OnErr r Q
on_err (Ok x) q = tt
on_err (Err e) q = q

pub returns-in-Broadcast : goal.returns-in-Broadcast
returns-in-Broadcast c =
    let gives : GivesOutgoing c.args.self.now c.server_outgoing.new.self (from_server (show_message c.args.message)) c.in_ok-sent.field-0 = c.in_ok-sent.ensures.ok in
    let keeps : KeepsAtBroadcast c.args.self.now c.server_outgoing.new.self c.in_ok-sent.field-0 = c.in_ok-sent.ensures.broadcast in
    let broadcast = rw c.in-Broadcast.is at gives.1 in
    let same = rw c.in-Broadcast.is at keeps in
    record {
      ok = if_ok c.to_each.result (λ sent each. (gives.0, each ∙ rw c.deref.ensures.value broadcast)) c.to_each.ensures.sent;
      err = on_err c.to_each.result (same refl);
      ready = λ none waits. c.to_each.ensures.ready (rw c.deref.ensures.value (none_mapped _ _ (broadcast ∙ none)));
    }
