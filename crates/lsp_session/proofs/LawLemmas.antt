-- What every session keeps, by the cases of admission.
use Rattle.std.proofs.Common.{◌≡◌, ◌≢◌, ◌⊎◌, inl, inr, ℕ, ◌<◌, ◌≤◌, [], ◌∷◌, ◌++◌, map, refl, sym, ◌∙◌, ap, subst, arith, Bool, true, false, true≢false}
use Rattle.std.specs.Prelude.{Option, Some, Err, if◌then◌else◌, ltb}
use Rattle.std.proofs.lemmas.Bool.{ltb-true}
use Rattle.lsp_rpc.specs.declared.code.ErrorCode.TheVariants.{InvalidRequest}
use Rattle.lsp_rpc.specs.Message.{IdData, ErrorData, RequestData, request, error_with_code, not_initialized_error}
use Rattle.lsp_desk.specs.declared.life.Life.{Life}
use Rattle.lsp_desk.specs.declared.life.Life.TheVariants.{Uninitialized, Initializing, Initialized, ShutDown, Exited}
use Rattle.lsp_desk.specs.Desk.{DeskState}
use Rattle.lsp_desk.specs.Lives.{rank, later, fallen}
use Rattle.lsp_desk.proofs.TraceLemmas.{makes_life, life_along}
use Rattle.lsp_session.specs.declared.table.Entry.{Entry}
use Rattle.lsp_session.specs.declared.table.Layer.{Layer}
use Rattle.lsp_session.specs.declared.table.Layer.TheVariants.{Initialize, Shutdown, Exit, Cancel, Normal}
use Rattle.lsp_session.specs.declared.life_check.LifeCheck.{LifeCheck}
use Rattle.lsp_session.specs.declared.life_check.LifeCheck.TheVariants.{NotInitialized}
use Rattle.lsp_session.specs.declared.life_check.LifeChange.{LifeChange}
use Rattle.lsp_session.specs.declared.life_check.LifeChange.TheVariants.{Stays, Rises, Falls}
use Rattle.lsp_session.specs.Item.{ItemData, message}
use Rattle.lsp_session.specs.Semantics.{Semantics, IsLawfulHandlers, Progress, Pending, Done}
use Rattle.lsp_session.specs.Admission.{Verdict, Silence, Refuses, Answers, Cancels, Exits, Starts, Admission, Occasion, cancel, check_life, quiet, refuse, passed, initialized, if_of_kind, started, by_layer, by_entry}
use Rattle.lsp_session.specs.State.{State, Effect, live, initializing, is_crowded}
use Rattle.lsp_session.specs.Run.{reads_in, answer, cancelled, Applies, Admits, admission_of, occasion, after_poll, Poll, took, closed, changing, poll_change}
use Rattle.lsp_session.specs.Laws.{IsAnswered, Requests, NeedsInitialize, InitializeComesFirst, InitializeComesOnce, NothingBeginsAfterShutdown, ExitEnds, FallsInTime, LivesGoOn}
use Rattle.lsp_session.proofs.SortLemmas.{Sorted, leaves, takes, ends, opens, begins, shuts, closes, changes_none, admission_sorted}
use Rattle.lsp_session.proofs.LifeLemmas.{admission_quits, quits_quietly}
use Rattle.lsp_session.proofs.WorkLemmas.{quit_live}
use Rattle.lsp_session.proofs.CountLemmas.{quits_is}
use Rattle.lsp_session.proofs.FactLemmas.{poll_life}

-- ---- refusals

module _ {H C T : Type 0} (semantics : Semantics H C T) where
  -- a change of the life puts out nothing
  pub admitted_out : (s s2 : State H semantics.Call semantics.Task) (a : Admission semantics.Call) (e : Effect) (h : Admits semantics s a e s2) → e.out ≡ h.rest.out
  admitted_out s s2 a e h = ap (λ (x : Effect). x.out) h.adds ∙ ap (λ (x : Effect). x.out ++ h.rest.out) h.changes.adds

  -- an error is all that comes of an admission
  refused : (s s2 : State H semantics.Call semantics.Task) (a : Admission semantics.Call) (i : IdData) (error : ErrorData) (e : Effect) → a ≡ quiet (Refuses i error) → Admits semantics s a e s2
      → IsAnswered s (answer i (Err error)) e s2
  refused s s2 a i error e is h =
      let done : Admits semantics s (quiet (Refuses i error)) e s2 = subst (λ (x : Admission semantics.Call). Admits semantics s x e s2) is h in
      let there : s2 ≡ record s { desk = done.changes.desk } = done.applies.1 ∙ done.changes.leaves in
      record {
        out = admitted_out s s2 _ e done ∙ ap (λ (x : Effect). x.out) done.applies.0;
        untouched = record {
          same = there ∙ ap (λ (x : DeskState). record s { desk = x }) (sym (ap (λ (x : State H semantics.Call semantics.Task). x.desk) there));
          life = ap (λ (x : State H semantics.Call semantics.Task). x.desk.life) there ∙ makes_life s.desk done.changes.desk [] done.changes.trace done.changes.makes;
        };
      }

  module _ (s : State H semantics.Call semantics.Task) (r : RequestData) (entry : Entry) (i : IdData) (found : semantics.find s.service r.method ≡ Some entry) (id : r.id ≡ Some i) where
    -- what it would come to if the life let it pass
    abbrev passing : Verdict semantics.Call
    passing = if_of_kind (live s) entry.kind r.id (started (is_crowded s) r.id entry r.params (reads_in semantics s entry r.params))

    found_entry : admission_of semantics s (message (request r)) ≡ by_layer (occasion s) r entry (reads_in semantics s entry r.params) entry.layer
    found_entry = ap (by_entry (occasion s) (reads_in semantics s) r) found

    -- a method in this layer begins if the life lets it pass
    abbrev IsPlain : Layer → Type 0
    IsPlain layer = by_layer (occasion s) r entry (reads_in semantics s entry r.params) layer ≡ passed (check_life s.desk.life entry.layer) r.id passing

    plain_is : (life : Life) (layer : Layer) → IsPlain layer → s.desk.life ≡ life → entry.layer ≡ layer → admission_of semantics s (message (request r)) ≡ passed (check_life life layer) r.id passing
    plain_is life layer plain l k =
        found_entry ∙ ap (by_layer (occasion s) r entry (reads_in semantics s entry r.params)) k ∙ plain
        ∙ ap (λ (x : Layer). passed (check_life s.desk.life x) r.id passing) k ∙ ap (λ (x : Life). passed (check_life x layer) r.id passing) l

    initialize_is : (life : Life) → s.desk.life ≡ life → entry.layer ≡ Initialize → admission_of semantics s (message (request r)) ≡ initialized (passed (check_life life Initialize) r.id passing)
    initialize_is life l layer =
        found_entry ∙ ap (by_layer (occasion s) r entry (reads_in semantics s entry r.params)) layer
        ∙ ap (λ (x : Layer). initialized (passed (check_life s.desk.life x) r.id passing)) layer ∙ ap (λ (x : Life). initialized (passed (check_life x Initialize) r.id passing)) l

  comes_first : (life : Life) → check_life life Shutdown ≡ NotInitialized → check_life life Normal ≡ NotInitialized
      → (s s2 : State H semantics.Call semantics.Task) (i : IdData) (layer : Layer) (e : Effect) → s.desk.life ≡ life → NeedsInitialize layer → Requests semantics s i layer e s2
      → IsAnswered s (answer i (Err not_initialized_error)) e s2
  comes_first life at_shutdown at_normal s s2 i layer e l needs q = refused s s2 _ i not_initialized_error e (at layer needs q.in_layer) q.admits
    where
      held : (layer : Layer) → IsPlain s q.r q.entry i q.found q.id layer → check_life life layer ≡ NotInitialized → q.entry.layer ≡ layer
          → admission_of semantics s (message (request q.r)) ≡ quiet (Refuses i not_initialized_error)
      held layer plain check k =
          plain_is s q.r q.entry i q.found q.id life layer plain l k ∙ ap (λ (x : LifeCheck). passed x q.r.id (passing s q.r q.entry i q.found q.id)) check
          ∙ ap (λ (x : Option IdData). quiet (refuse x not_initialized_error)) q.id

      at : (layer : Layer) → NeedsInitialize layer → q.entry.layer ≡ layer → admission_of semantics s (message (request q.r)) ≡ quiet (Refuses i not_initialized_error)
      at Initialize h k = absurd (h.0 refl)
      at Shutdown h k = held Shutdown refl at_shutdown k
      at Exit h k = absurd (h.1 refl)
      at Cancel h k = absurd (h.2 refl)
      at Normal h k = held Normal refl at_normal k

  pub initialize_first : InitializeComesFirst semantics
  initialize_first = record { before = comes_first Uninitialized refl refl; meanwhile = comes_first Initializing refl refl }

  pub initialize_once : InitializeComesOnce semantics
  initialize_once s s2 i e later q = refused s s2 _ i (error_with_code InvalidRequest) e (initialize_is s q.r q.entry i q.found q.id s.desk.life refl q.in_layer ∙ at s.desk.life later) q.admits
    where
      second : initialized (quiet {C = semantics.Call} (refuse q.r.id (error_with_code InvalidRequest))) ≡ quiet (Refuses i (error_with_code InvalidRequest))
      second = ap (λ (x : Option IdData). initialized (quiet (refuse x (error_with_code InvalidRequest)))) q.id

      at : (life : Life) → life ≢ Uninitialized → initialized (passed (check_life life Initialize) q.r.id (passing s q.r q.entry i q.found q.id)) ≡ quiet (Refuses i (error_with_code InvalidRequest))
      at Uninitialized h = absurd (h refl)
      at Initializing h = second
      at Initialized h = second
      at ShutDown h = second
      at Exited h = second

  pub after_shutdown : NothingBeginsAfterShutdown semantics
  after_shutdown = record {
    begins_none = λ s item id entry c l is. begins_none (occasion s) (admission_of semantics s item) id entry c l is (admission_sorted (occasion s) (semantics.find s.service) (reads_in semantics s) item);
    refuses = refuses;
  }
    where
      refuses : (s s2 : State H semantics.Call semantics.Task) (i : IdData) (layer : Layer) (e : Effect) → s.desk.life ≡ ShutDown → layer ≢ Exit → Requests semantics s i layer e s2
          → IsAnswered s (answer i (Err (error_with_code InvalidRequest))) e s2
      refuses s s2 i Initialize e l h q = initialize_once s s2 i e (λ same. shut_down (sym l ∙ same)) q
        where
          shut_down : ShutDown ≢ Uninitialized
          shut_down is = cc
      refuses s s2 i Shutdown e l h q = refused s s2 _ i (error_with_code InvalidRequest) e
          (plain_is s q.r q.entry i q.found q.id ShutDown Shutdown refl l q.in_layer ∙ ap (λ (x : Option IdData). quiet (refuse x (error_with_code InvalidRequest))) q.id) q.admits
      refuses s s2 i Exit e l h q = absurd (h refl)
      refuses s s2 i Cancel e l h q = refused s s2 _ i (error_with_code InvalidRequest) e
          (found_entry s q.r q.entry i q.found q.id ∙ ap (by_layer (occasion s) q.r q.entry (reads_in semantics s q.entry q.r.params)) q.in_layer
          ∙ ap (λ (x : Option IdData). cancel (live s) (initializing s) x q.r.params) q.id) q.admits
      refuses s s2 i Normal e l h q = refused s s2 _ i (error_with_code InvalidRequest) e
          (plain_is s q.r q.entry i q.found q.id ShutDown Normal refl l q.in_layer ∙ ap (λ (x : Option IdData). quiet (refuse x (error_with_code InvalidRequest))) q.id) q.admits

      not_none : (v : Verdict semantics.Call) (id : Option IdData) (entry : Entry) (c : semantics.Call) → v ≡ Starts id entry c → changes_none v ≡ true → ⊥
      not_none v id entry c is h = true≢false (sym h ∙ ap changes_none is)

      begins_none : (o : Occasion) (a : Admission semantics.Call) (id : Option IdData) (entry : Entry) (c : semantics.Call) → o.life ≡ ShutDown → a.verdict ≡ Starts id entry c → Sorted o a → ⊥
      begins_none o a id entry c l is (leaves ch v) = not_none a.verdict id entry c is v
      begins_none o a id entry c l is (takes i q ch v) = cc
      begins_none o a id entry c l is (ends ch v) = cc
      begins_none o a id entry c l is (opens j f x k q ch v) = cc
      begins_none o a id entry c l is (begins j f x k q ch v) = cc
      begins_none o a id entry c l is (shuts j f x k q ch v) = cc
      begins_none o a id entry c l is (closes k ch v) = cc

  -- ---- an exit

  pub exits : ExitEnds semantics
  exits s s2 item e is h =
      let a = admission_of semantics s item in
      let quits_now = admission_quits semantics.Call (occasion s) (semantics.find s.service) (reads_in semantics s) item ∙ is in
      let stays = quits_quietly (occasion s) a (admission_sorted (occasion s) (semantics.find s.service) (reads_in semantics s) item) quits_now in
      let done = subst (λ (v : Verdict semantics.Call). Applies semantics h.mid v h.rest s2) (quits_is a.verdict quits_now) h.applies in
      let same : h.mid.desk.life ≡ s.desk.life =
      ap (λ (x : State H semantics.Call semantics.Task). x.desk.life) h.changes.leaves
      ∙ makes_life s.desk h.changes.desk _ h.changes.trace h.changes.makes ∙ ap (λ change. life_along s.desk.life (changing change)) stays in
      record {
        life = ap (λ (x : State H semantics.Call semantics.Task). x.desk.life) done.leaves ∙ makes_life h.mid.desk done.desk (closed done.messages ∷ []) done.trace done.makes;
        noted = ap (λ (x : State H semantics.Call semantics.Task). x.exited) done.leaves ∙ ap Some same;
        messages = done.messages;
        answered = admitted_out s s2 a e h ∙ ap (λ (x : Effect). x.out) done.adds
            ∙ ap (λ (x : State H semantics.Call semantics.Task). map request done.messages ++ map cancelled (live x)) h.changes.leaves;
        none_left = ap live done.leaves ∙ quit_live h.mid done.desk (Some h.mid.desk.life);
      }

-- ---- a fall

no_fall : (life life2 : Life) → rank life ≤ rank life2 → FallsInTime life life2
no_fall life life2 up down = absurd (omega (arith, up, down))

later_rises : (life other : Life) → rank life ≤ rank (later life other)
later_rises life other = at (ltb (rank life) (rank other)) refl
  where
    at : (b : Bool) → ltb (rank life) (rank other) ≡ b → rank life ≤ rank (if b then other else life)
    at true h = let less : rank life < rank other = ltb-true _ _ h in omega (arith, less)
    at false h = omega arith

fallen_falls : (life : Life) → FallsInTime life (fallen life)
fallen_falls Uninitialized = no_fall Uninitialized Uninitialized (omega arith)
fallen_falls Initializing = λ _. (refl, refl)
fallen_falls Initialized = no_fall Initialized Initialized (omega arith)
fallen_falls ShutDown = no_fall ShutDown ShutDown (omega arith)
fallen_falls Exited = no_fall Exited Exited (omega arith)

changing_falls : (life : Life) (change : LifeChange) → FallsInTime life (life_along life (changing change))
changing_falls life Stays = no_fall life life (omega arith)
changing_falls life (Rises other) = no_fall life (later life other) (later_rises life other)
changing_falls life Falls = fallen_falls life

exited_last : (life : Life) → FallsInTime life Exited
exited_last Uninitialized = no_fall Uninitialized Exited (omega arith)
exited_last Initializing = no_fall Initializing Exited (omega arith)
exited_last Initialized = no_fall Initialized Exited (omega arith)
exited_last ShutDown = no_fall ShutDown Exited (omega arith)
exited_last Exited = no_fall Exited Exited (omega arith)

module _ {H C T : Type 0} (semantics : Semantics H C T) where
  applies_life : (s s2 : State H semantics.Call semantics.Task) (v : Verdict semantics.Call) (e : Effect) → Applies semantics s v e s2 → (s2.desk.life ≡ s.desk.life) ⊎ (s2.desk.life ≡ Exited)
  applies_life s s2 Silence e p = inl (ap (λ (x : State H semantics.Call semantics.Task). x.desk.life) p.1)
  applies_life s s2 (Refuses i error) e p = inl (ap (λ (x : State H semantics.Call semantics.Task). x.desk.life) p.1)
  applies_life s s2 (Answers r) e p = inl (ap (λ (x : State H semantics.Call semantics.Task). x.desk.life) p.leaves ∙ makes_life s.desk p.desk p.own p.trace p.makes ∙ ap (life_along s.desk.life) p.gives.1)
  applies_life s s2 (Cancels i) e p = inl (ap (λ (x : State H semantics.Call semantics.Task). x.desk.life) p.1)
  applies_life s s2 Exits e p = inr (ap (λ (x : State H semantics.Call semantics.Task). x.desk.life) p.leaves ∙ makes_life s.desk p.desk (closed p.messages ∷ []) p.trace p.makes)
  applies_life s s2 (Starts id entry c) e p = inl (ap (λ (x : State H semantics.Call semantics.Task). x.desk.life) p.1)

  admits_falls : (s s2 : State H semantics.Call semantics.Task) (item : ItemData) (e : Effect) → Admits semantics s (admission_of semantics s item) e s2 → FallsInTime s.desk.life s2.desk.life
  admits_falls s s2 item e h = at (applies_life h.mid s2 a.verdict h.rest h.applies)
    where
      a : Admission semantics.Call
      a = admission_of semantics s item

      mid_is : h.mid.desk.life ≡ life_along s.desk.life (changing a.change)
      mid_is = ap (λ (x : State H semantics.Call semantics.Task). x.desk.life) h.changes.leaves ∙ makes_life s.desk h.changes.desk (changing a.change) h.changes.trace h.changes.makes

      at : (s2.desk.life ≡ h.mid.desk.life) ⊎ (s2.desk.life ≡ Exited) → FallsInTime s.desk.life s2.desk.life
      at (inl same) = subst (FallsInTime s.desk.life) (sym (same ∙ mid_is)) (changing_falls s.desk.life a.change)
      at (inr ended) = subst (FallsInTime s.desk.life) (sym ended) (exited_last s.desk.life)

  module _ (laws : IsLawfulHandlers semantics) where
    poll_life_falls : (s s2 : State H semantics.Call semantics.Task) (place : ℕ) (e : Effect) → Poll semantics s place e s2 → FallsInTime s.desk.life s2.desk.life
    poll_life_falls s s2 place e p = subst (FallsInTime s.desk.life) (sym (ap (λ (x : State H semantics.Call semantics.Task). x.desk.life) p.leaves ∙ at p.progress ∙ poll_life semantics laws s s2 place e p))
        (changing_falls s.desk.life (poll_change s.desk.life p.work.entry.layer p.progress))
      where
        at : (progress : Progress semantics.Task) → (after_poll s p.before p.work p.after p.service progress p.desk).desk.life ≡ p.desk.life
        at (Pending t) = refl
        at (Done outcome) = refl

    pub lives : LivesGoOn semantics
    lives = record {
      in_admission = admits_falls;
      in_poll = poll_life_falls;
      at_the_end = λ s s2 e h. ap (λ (x : State H semantics.Call semantics.Task). x.desk.life) h.leaves ∙ makes_life s.desk h.desk (took h.messages ∷ []) h.trace h.takes;
    }
