-- Where a call is begun.
use Rattle.std.proofs.Common.{◌≡◌, ◌⊎◌, inl, inr, List, refl, ◌∙◌, ap, Bool, true, false}
use Rattle.std.specs.Prelude.{Option, Some, None, ◌&&◌, if◌then◌else◌}
use Rattle.lsp_rpc.specs.declared.code.ErrorCode.TheVariants.{InvalidRequest}
use Rattle.lsp_rpc.specs.Message.{IdData, error_with_code}
use Rattle.lsp_desk.specs.declared.life.Life.{Life}
use Rattle.lsp_desk.specs.declared.life.Life.TheVariants.{Uninitialized, Initialized}
use Rattle.lsp_session.specs.declared.table.Entry.{Entry}
use Rattle.lsp_session.specs.declared.table.Kind.{Kind}
use Rattle.lsp_session.specs.declared.table.Kind.TheVariants.{Request, Notification}
use Rattle.lsp_session.specs.declared.table.Layer.{Layer}
use Rattle.lsp_session.specs.declared.table.Layer.TheVariants.{Initialize, Shutdown, Normal}
use Rattle.lsp_session.specs.Item.{ItemData}
use Rattle.lsp_session.specs.Semantics.{Semantics}
use Rattle.lsp_session.specs.Admission.{Verdict, Refuses, Starts, Admission, check_life, passed, is_limited, unless_crowded, if_of_kind, started, by_layer}
use Rattle.lsp_session.specs.State.{State, live, is_crowded}
use Rattle.lsp_session.specs.Run.{admission_of, occasion, reads_in}
use Rattle.lsp_laws.specs.Starts.{FitsKind, IsCallOf, CallsBegin}
use Rattle.lsp_laws.proofs.LifeLemmas.{by_its_layer}

module _ (C : Type 0) where
  -- the kind and the id let it pass
  kind_passes : (live : List IdData) (kind : Kind) (id : Option IdData) (v : Verdict C) → FitsKind kind id live → if_of_kind live kind id v ≡ v
  kind_passes live Request None v h = absurd h
  kind_passes live Request (Some i) v h = ap (λ b. if b then Refuses i (error_with_code InvalidRequest) else v) h
  kind_passes live Notification None v h = refl
  kind_passes live Notification (Some i) v h = absurd h

  -- so do the slots
  abbrev LetsWait : Bool → Option IdData → Type 0
  LetsWait crowded id = (v : Verdict C) → unless_crowded crowded id v ≡ v

  not_limited : (crowded : Bool) (layer : Layer) (id : Option IdData) → is_limited layer ≡ false → LetsWait (crowded && is_limited layer) id
  not_limited true layer id h v = ap (λ b. unless_crowded b id v) h
  not_limited false layer id h v = refl

  not_crowded : (crowded : Bool) (layer : Layer) (id : Option IdData) → (crowded ≡ false) ⊎ (id ≡ None) → LetsWait (crowded && is_limited layer) id
  not_crowded crowded layer id (inl h) v = ap (λ b. unless_crowded (b && is_limited layer) id v) h
  not_crowded crowded layer id (inr h) v = ap (λ (x : Option IdData). unless_crowded (crowded && is_limited layer) x v) h ∙ at (crowded && is_limited layer)
    where
      at : (b : Bool) → unless_crowded b None v ≡ v
      at true = refl
      at false = refl

module _ {H C T : Type 0} (semantics : Semantics H C T) (s : State H semantics.Call semantics.Task) (item : ItemData) (layer : Layer) (id : Option IdData) (entry : Entry) (c : semantics.Call)
    (q : IsCallOf semantics s item layer id entry c) where
  -- what it comes to where the life lets it pass
  abbrev passing : Verdict semantics.Call
  passing = if_of_kind (live s) entry.kind q.r.id (started (is_crowded s) q.r.id entry q.r.params (reads_in semantics s entry q.r.params))

  begins : LetsWait semantics.Call (is_crowded s && is_limited entry.layer) id → passing ≡ Starts id entry c
  begins waits =
      ap (λ (x : Option IdData). if_of_kind (live s) entry.kind x (started (is_crowded s) x entry q.r.params (reads_in semantics s entry q.r.params))) q.id_is
      ∙ kind_passes semantics.Call (live s) entry.kind id _ q.of_kind ∙ ap (started (is_crowded s) id entry q.r.params) q.read ∙ waits (Starts id entry c)

  by_it : admission_of semantics s item ≡ by_layer (occasion s) q.r entry (reads_in semantics s entry q.r.params) layer
  by_it = ap (admission_of semantics s) q.item_is ∙ by_its_layer (occasion s) (semantics.find s.service) (reads_in semantics s) q.r entry layer q.found q.in_layer

  -- the verdict is so where the layer is one of calls, and the life lets it pass
  begins_at : (life : Life) → s.desk.life ≡ life → (by_layer (occasion s) q.r entry (reads_in semantics s entry q.r.params) layer).verdict ≡ (passed (check_life s.desk.life entry.layer) q.r.id passing).verdict
      → (passed (check_life life layer) q.r.id passing).verdict ≡ passing → LetsWait semantics.Call (is_crowded s && is_limited entry.layer) id → (admission_of semantics s item).verdict ≡ Starts id entry c
  begins_at life l plain lets waits =
      ap (λ (x : Admission semantics.Call). x.verdict) by_it ∙ plain ∙ ap (λ (x : Layer). (passed (check_life s.desk.life x) q.r.id passing).verdict) q.in_layer
      ∙ ap (λ (x : Life). (passed (check_life x layer) q.r.id passing).verdict) l ∙ lets ∙ begins waits

pub calls_begin_lem : {H C T : Type 0} (semantics : Semantics H C T) → CallsBegin semantics
calls_begin_lem semantics = record {
  initialize = λ s item id entry c l q. begins_at semantics s item Initialize id entry c q Uninitialized l refl refl (not_limited semantics.Call (is_crowded s) entry.layer id (ap is_limited q.in_layer));
  shutdown = λ s item id entry c l q. begins_at semantics s item Shutdown id entry c q Initialized l refl refl (not_limited semantics.Call (is_crowded s) entry.layer id (ap is_limited q.in_layer));
  normal = λ s item id entry c l some q. begins_at semantics s item Normal id entry c q Initialized l refl refl (not_crowded semantics.Call (is_crowded s) entry.layer id some);
}
