-- What admission can come to, sorted by the life.
use Rattle.std.proofs.Common.{◌≡◌, refl, sym, subst, ap, ℕ, List, Bool, true, false}
use Rattle.std.specs.Prelude.{Option, Some, None, if◌then◌else◌, ◌&&◌}
use Rattle.serde_json.specs.Data.{Data}
use Rattle.lsp_rpc.specs.declared.code.ErrorCode.TheVariants.{InvalidRequest}
use Rattle.lsp_rpc.specs.Message.{IdData, ErrorData, request, response, error_with_code}
use Rattle.lsp_desk.specs.declared.life.Life.{Life}
use Rattle.lsp_desk.specs.declared.life.Life.TheVariants.{Uninitialized, Initializing, Initialized, ShutDown, Exited}
use Rattle.lsp_session.specs.declared.table.Entry.{Entry}
use Rattle.lsp_session.specs.declared.table.Kind.{Kind}
use Rattle.lsp_session.specs.declared.table.Kind.TheVariants.{Request, Notification}
use Rattle.lsp_session.specs.declared.table.Layer.{Layer}
use Rattle.lsp_session.specs.declared.table.Layer.TheVariants.{Initialize, Shutdown, Exit, Cancel, Normal}
use Rattle.lsp_session.specs.declared.life_check.LifeChange.TheVariants.{Stays, Rises}
use Rattle.lsp_session.specs.Item.{ItemData, message, fault, tick}
use Rattle.lsp_session.specs.Semantics.{Reading, call, missing, unexpected, unfit}
use Rattle.lsp_rpc.specs.Cancel.{cancelled_id}
use Rattle.lsp_session.specs.Admission.{Verdict, Silence, Refuses, Answers, Cancels, Exits, Starts, Admission, Occasion, is_live, admission, refuse, cancel, cancel_live, cancels, cancel_change, started, unless_crowded, is_limited, if_of_kind, check_life, passed, quiet, initialized, by_layer, by_entry, unknown_method}

-- nothing begins and nothing ends
abbrev pub changes_none : {C : Type 0} → Verdict C → Bool
changes_none Silence = true
changes_none (Refuses i error) = true
changes_none (Answers r) = true
changes_none (Cancels i) = false
changes_none Exits = false
changes_none (Starts id entry c) = false

-- what admission can come to
pub data Sorted {C : Type 0} (o : Occasion) (a : Admission C) : Type 0 where
  -- nothing changes
  leaves : a.change ≡ Stays → changes_none a.verdict ≡ true → Sorted o a
  -- a live request is cancelled
  takes : (i : IdData) → is_live i o.live ≡ true → a.change ≡ cancel_change o.initializing i → a.verdict ≡ Cancels i → Sorted o a
  -- the session ends
  ends : a.change ≡ Stays → a.verdict ≡ Exits → Sorted o a
  -- an `initialize` begins
  opens : (id : Option IdData) (entry : Entry) (c : C) → o.life ≡ Uninitialized → entry.layer ≡ Initialize → a.change ≡ Rises Initializing → a.verdict ≡ Starts id entry c → Sorted o a
  -- an ordinary call begins
  begins : (id : Option IdData) (entry : Entry) (c : C) → o.life ≡ Initialized → entry.layer ≡ Normal → a.change ≡ Stays → a.verdict ≡ Starts id entry c → Sorted o a
  -- a `shutdown` passes, and begins or comes to nothing
  shuts : (id : Option IdData) (entry : Entry) (c : C) → o.life ≡ Initialized → entry.layer ≡ Shutdown → a.change ≡ Rises ShutDown → a.verdict ≡ Starts id entry c → Sorted o a
  closes : o.life ≡ Initialized → a.change ≡ Rises ShutDown → changes_none a.verdict ≡ true → Sorted o a

-- a call of this entry begins, or nothing does
pub data Begun {C : Type 0} (entry : Entry) (v : Verdict C) : Type 0 where
  none : changes_none v ≡ true → Begun entry v
  one : (id : Option IdData) (c : C) → v ≡ Starts id entry c → Begun entry v

module _ (C : Type 0) where
  refuse_none : (id : Option IdData) (error : ErrorData) → changes_none {C = C} (refuse id error) ≡ true
  refuse_none None error = refl
  refuse_none (Some i) error = refl

  unless_crowded_begun : (b : Bool) (id : Option IdData) (entry : Entry) (c : C) → Begun entry (unless_crowded b id (Starts id entry c))
  unless_crowded_begun true (Some i) entry c = none refl
  unless_crowded_begun true None entry c = one None c refl
  unless_crowded_begun false id entry c = one id c refl

  started_begun : (crowded : Bool) (id : Option IdData) (entry : Entry) (params : Option Data) (reading : Reading C) → Begun entry (started crowded id entry params reading)
  started_begun crowded id entry params (call c) = unless_crowded_begun (crowded && is_limited entry.layer) id entry c
  started_begun crowded id entry params missing = none (refuse_none id _)
  started_begun crowded id entry params unexpected = none (refuse_none id _)
  started_begun crowded id entry params unfit = none (refuse_none id _)

  kind_begun : (live : List IdData) (entry : Entry) (kind : Kind) (id : Option IdData) (v : Verdict C) → Begun entry v → Begun entry (if_of_kind live kind id v)
  kind_begun live entry Notification (Some i) v p = none refl
  kind_begun live entry Notification None v p = p
  kind_begun live entry Request None v p = none refl
  kind_begun live entry Request (Some i) v p = at (is_live i live)
    where
      at : (b : Bool) → Begun entry (if b then Refuses i (error_with_code InvalidRequest) else v)
      at true = none refl
      at false = p

  cancel_live_sorted : (o : Occasion) (id : Option IdData) → Sorted {C = C} o (cancel_live o.live o.initializing id)
  cancel_live_sorted o None = leaves refl refl
  cancel_live_sorted o (Some i) = at (is_live i o.live) refl
    where
      at : (b : Bool) → is_live i o.live ≡ b → Sorted {C = C} o (if b then cancels o.initializing i else quiet Silence)
      at true h = takes i h refl refl
      at false h = leaves refl refl

  cancel_sorted : (o : Occasion) (id : Option IdData) (params : Option Data) → Sorted {C = C} o (cancel o.live o.initializing id params)
  cancel_sorted o None params = cancel_live_sorted o (cancelled_id params)
  cancel_sorted o (Some i) params = leaves refl refl

  begun_none : (v : Verdict C) → changes_none v ≡ true → (initialized (record { change = Stays; verdict = v })).change ≡ Stays
  begun_none Silence h = refl
  begun_none (Refuses i error) h = refl
  begun_none (Answers r) h = refl
  begun_none (Cancels i) h = absurd (cc)
  begun_none Exits h = absurd (cc)
  begun_none (Starts id entry c) h = absurd (cc)

  refuse_opens : (id : Option IdData) (error : ErrorData) → (initialized {C = C} (quiet (refuse id error))).change ≡ Stays
  refuse_opens id error = begun_none (refuse id error) (refuse_none id error)

  initialize_sorted : (o : Occasion) (entry : Entry) (id : Option IdData) (v : Verdict C) → entry.layer ≡ Initialize → Begun entry v → (life : Life) → o.life ≡ life → Sorted o (initialized (passed (check_life life Initialize) id v))
  initialize_sorted o entry id v is (none h) Uninitialized e = leaves (begun_none v h) h
  initialize_sorted o entry id v is (one i c h) Uninitialized e = opens i entry c e is (ap (λ (x : Verdict C). (initialized (record { change = Stays; verdict = x })).change) h) h
  initialize_sorted o entry id v is p Initializing e = leaves (refuse_opens id _) (refuse_none id _)
  initialize_sorted o entry id v is p Initialized e = leaves (refuse_opens id _) (refuse_none id _)
  initialize_sorted o entry id v is p ShutDown e = leaves (refuse_opens id _) (refuse_none id _)
  initialize_sorted o entry id v is p Exited e = leaves (refuse_opens id _) (refuse_none id _)

  shutdown_sorted : (o : Occasion) (entry : Entry) (id : Option IdData) (v : Verdict C) → entry.layer ≡ Shutdown → Begun entry v → (life : Life) → o.life ≡ life → Sorted o (passed (check_life life Shutdown) id v)
  shutdown_sorted o entry id v is p Uninitialized e = leaves refl (refuse_none id _)
  shutdown_sorted o entry id v is p Initializing e = leaves refl (refuse_none id _)
  shutdown_sorted o entry id v is (none h) Initialized e = closes e refl h
  shutdown_sorted o entry id v is (one i c h) Initialized e = shuts i entry c e is refl h
  shutdown_sorted o entry id v is p ShutDown e = leaves refl (refuse_none id _)
  shutdown_sorted o entry id v is p Exited e = leaves refl (refuse_none id _)

  normal_sorted : (o : Occasion) (entry : Entry) (id : Option IdData) (v : Verdict C) → entry.layer ≡ Normal → Begun entry v → (life : Life) → o.life ≡ life → Sorted o (passed (check_life life Normal) id v)
  normal_sorted o entry id v is p Uninitialized e = leaves refl (refuse_none id _)
  normal_sorted o entry id v is p Initializing e = leaves refl (refuse_none id _)
  normal_sorted o entry id v is (none h) Initialized e = leaves refl h
  normal_sorted o entry id v is (one i c h) Initialized e = begins i entry c e is refl h
  normal_sorted o entry id v is p ShutDown e = leaves refl (refuse_none id _)
  normal_sorted o entry id v is p Exited e = leaves refl (refuse_none id _)

-- the cases of admission
pub admission_sorted : {C : Type 0} (o : Occasion) (find : List ℕ → Option Entry) (reads : Entry → Option Data → Reading C) (item : ItemData) → Sorted o (admission o find reads item)
admission_sorted {C} o find reads (message (request r)) = at_entry (find r.method)
  where
    at_layer : (entry : Entry) (reading : Reading C) (layer : Layer) → entry.layer ≡ layer → Sorted o (by_layer o r entry reading layer)
    at_layer entry reading Exit is = ends refl refl
    at_layer entry reading Cancel is = cancel_sorted C o r.id r.params
    at_layer entry reading Initialize is =
        let v = if_of_kind o.live entry.kind r.id (started o.crowded r.id entry r.params reading) in
        let begun = kind_begun C o.live entry entry.kind r.id _ (started_begun C o.crowded r.id entry r.params reading) in
        subst (λ l. Sorted o (initialized (passed (check_life o.life l) r.id v))) (sym is) (initialize_sorted C o entry r.id v is begun o.life refl)
    at_layer entry reading Shutdown is =
        let v = if_of_kind o.live entry.kind r.id (started o.crowded r.id entry r.params reading) in
        let begun = kind_begun C o.live entry entry.kind r.id _ (started_begun C o.crowded r.id entry r.params reading) in
        subst (λ l. Sorted o (passed (check_life o.life l) r.id v)) (sym is) (shutdown_sorted C o entry r.id v is begun o.life refl)
    at_layer entry reading Normal is =
        let v = if_of_kind o.live entry.kind r.id (started o.crowded r.id entry r.params reading) in
        let begun = kind_begun C o.live entry entry.kind r.id _ (started_begun C o.crowded r.id entry r.params reading) in
        subst (λ l. Sorted o (passed (check_life o.life l) r.id v)) (sym is) (normal_sorted C o entry r.id v is begun o.life refl)

    at_entry : (entry : Option Entry) → Sorted o (by_entry o reads r entry)
    at_entry None = leaves refl (refuse_none C r.id (unknown_method r.method))
    at_entry (Some entry) = at_layer entry (reads entry r.params) entry.layer refl
admission_sorted o find reads (message (response r)) = leaves refl refl
admission_sorted o find reads (fault code) = leaves refl refl
admission_sorted o find reads tick = leaves refl refl
