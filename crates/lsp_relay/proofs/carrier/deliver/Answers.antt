-- What is sent, and what is kept, hold no float.
use Rattle.std.proofs.Common.{◌≡◌, false, sym, subst, ◌∙◌, ap}
use Rattle.std.specs.Prelude.{Result, Ok, Err, IfOk, OnErr}
use Rattle.lsp_rpc.specs.Shown.{show_message}
use Rattle.lsp_proxy.specs.declared.side.Side.TheVariants.{Server, Editor}
use Rattle.lsp_proxy.specs.Proxy.{ProxyState, Sent}
use Rattle.lsp_proxy.specs.Shown.{show_proxy}
use Rattle.lsp_server.proofs.KnownLemmas.{if_ok}
use Rattle.lsp_relay.specs.Floats.{AreFloatFree, opening_has_float}
use Rattle.lsp_relay.proofs.FloatLemmas.{free}
use Rattle.lsp_relay.proofs.carrier.deliver.Goals as goal

-- a clause of both outcomes
both_ways : {T E Q R : Type 0} (r : Result T E) {P : T → Type 0} → ((x : T) → P x → R) → (Q → R) → IfOk r P → OnErr r Q → R
both_ways (Ok x) f g p q = f x p
both_ways (Err e) f g p q = g q

kept : (s t : ProxyState) → s ≡ t → opening_has_float t.opening ≡ false → opening_has_float s.opening ≡ false
kept s t is h = ap (λ (x : ProxyState). opening_has_float x.opening) is ∙ h

pub returns-in-Server-clause-float_free : goal.returns-in-Server-clause-float_free
returns-in-Server-clause-float_free c =
    let clean = free (Server, show_message c.args.message) (show_proxy c.args.proxy.now) c.requires.float_free c.requires.kept in
    if_ok c.server_outgoing.result (λ sent gives. subst (λ (l : Sent). AreFloatFree l) (sym gives.1) clean.0) c.server_outgoing.ensures.ok

pub returns-in-Server-clause-kept : goal.returns-in-Server-clause-kept
returns-in-Server-clause-kept c =
    let clean = free (Server, show_message c.args.message) (show_proxy c.args.proxy.now) c.requires.float_free c.requires.kept in
    both_ways c.server_outgoing.result (λ sent gives. kept _ _ gives.0 clean.1) (λ same. kept _ _ same c.requires.kept) c.server_outgoing.ensures.ok c.server_outgoing.ensures.err

pub returns-in_ok-editor-in-Editor-clause-float_free : goal.returns-in_ok-editor-in-Editor-clause-float_free
returns-in_ok-editor-in-Editor-clause-float_free c =
    let clean = free (Editor c.in-Editor.k, show_message c.args.message) (show_proxy c.args.proxy.now) c.requires.float_free c.requires.kept in
    subst (λ (l : Sent). AreFloatFree l) (sym c.in_ok-editor-in-Editor.ensures.makes.ok.1) clean.0

pub returns-in_ok-editor-in-Editor-clause-kept : goal.returns-in_ok-editor-in-Editor-clause-kept
returns-in_ok-editor-in-Editor-clause-kept c =
    let clean = free (Editor c.in-Editor.k, show_message c.args.message) (show_proxy c.args.proxy.now) c.requires.float_free c.requires.kept in
    kept _ _ c.in_ok-editor-in-Editor.ensures.makes.ok.0 clean.1
