-- What holds of the messages over any list.
use Rattle.std.proofs.Common.{◌≡◌, ℕ, List, [], ◌∷◌, refl, subst}
use Rattle.std.specs.List.{AllByRecursion}
use Rattle.lsp_proxy.specs.Proxy.{opening_state}
use Rattle.lsp_proxy.specs.Law.{Event, react, state_after}
use Rattle.lsp_proxy.specs.Origin.{HasOrigin, state_of}
use Rattle.lsp_proxy.proofs.IdLemmas.{ids_distinct}
use Rattle.lsp_proxy.proofs.CountLemmas.{at_most_asked}
use Rattle.lsp_proxy.proofs.OriginLemmas.{all_have_origins}
use Rattle.lsp_relay.specs.Relay.{latest_first, KeepsApart}

state_latest : (editors : ℕ) (es history : List Event) → state_of editors (latest_first es history) ≡ state_after es (state_of editors history)
state_latest editors [] history = refl
state_latest editors (e ∷ es) history = state_latest editors es (e ∷ history)

pub keeps_apart : (editors : ℕ) (es : List Event) → KeepsApart editors es
keeps_apart editors es = record {
  ids = ids_distinct es (opening_state editors);
  asked = λ k i. at_most_asked k i editors es;
  origins = λ earlier later event is.
      let history = latest_first earlier [] in
      subst (λ s. AllByRecursion (HasOrigin editors history event) (react event s).1) (state_latest editors earlier [])
      (all_have_origins editors history event);
}
