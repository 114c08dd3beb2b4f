-- How the life of a session follows what comes of its requests.
use Rattle.std.proofs.Common.{◌≡◌, ℕ, List, [], ◌∷◌, ◌++◌, refl, sym, ◌∙◌, ap, Bool, true, false, true≢false, cond}
use Rattle.std.specs.Prelude.{Option, Some, None, Result, Ok, Err, if◌then◌else◌, ◌||◌, filter}
use Rattle.serde_json.specs.Data.{Data}
use Rattle.lsp_rpc.specs.Message.{IdData, ErrorData, RequestData, request, response}
use Rattle.lsp_rpc.specs.Ids.{same_id}
use Rattle.lsp_rpc.specs.Cancel.{cancelled_id}
use Rattle.lsp_desk.specs.declared.life.Life.{Life}
use Rattle.lsp_desk.specs.declared.life.Life.TheVariants.{Uninitialized, Initializing, Initialized, ShutDown, Exited}
use Rattle.lsp_desk.proofs.TraceLemmas.{makes_life, life_along}
use Rattle.lsp_session.specs.declared.table.Entry.{Entry}
use Rattle.lsp_session.specs.declared.table.Layer.{Layer}
use Rattle.lsp_session.specs.declared.table.Layer.TheVariants.{Initialize, Shutdown, Exit, Cancel, Normal}
use Rattle.lsp_session.specs.declared.life_check.LifeChange.{LifeChange}
use Rattle.lsp_session.specs.declared.life_check.LifeChange.TheVariants.{Stays, Rises, Falls}
use Rattle.lsp_session.specs.Item.{ItemData, message, fault, tick}
use Rattle.lsp_session.specs.Semantics.{Semantics, IsLawfulHandlers, Reading, Progress, Pending, Done}
use Rattle.lsp_session.specs.Admission.{Verdict, Silence, Refuses, Answers, Cancels, Exits, Starts, Admission, Occasion, is_live, admission, cancel, cancel_live, cancels, quiet, check_life, passed, begun_change, if_of_kind, started, by_layer, by_entry}
use Rattle.lsp_session.specs.State.{Work, State, Effect, with_id, ids_of, initializes, live, initializing}
use Rattle.lsp_session.specs.Run.{Applies, Admits, Poll, reads_in, admission_of, occasion, after_poll, changing, poll_change, is_exit, is_exit_entry, is_exit_layer}
use Rattle.lsp_session.proofs.SortLemmas.{Sorted, leaves, takes, ends, opens, begins, shuts, closes, changes_none, admission_sorted}
use Rattle.lsp_session.proofs.LifeLemmas.{quits, admission_quits}
use Rattle.lsp_session.proofs.FactLemmas.{poll_life}
use Rattle.lsp_laws.specs.Lives.{EndsInitialize, IsOfLayer, CancelsInitialize, BeginsInitialize, IsOther, LivesFollow}

-- ---- polls

module _ {H C T : Type 0} (semantics : Semantics H C T) (laws : IsLawfulHandlers semantics) (s s2 : State H semantics.Call semantics.Task) (place : ℕ) (e : Effect) (p : Poll semantics s place e s2) where
  polled_is : s2.desk.life ≡ life_along s.desk.life (changing (poll_change s.desk.life p.work.entry.layer p.progress))
  polled_is = ap (λ (x : State H semantics.Call semantics.Task). x.desk.life) p.leaves ∙ at p.progress ∙ poll_life semantics laws s s2 place e p
    where
      at : (progress : Progress semantics.Task) → (after_poll s p.before p.work p.after p.service progress p.desk).desk.life ≡ p.desk.life
      at (Pending t) = refl
      at (Done outcome) = refl

  abbrev ended_by : Progress semantics.Task → Life
  ended_by progress = life_along Initializing (changing (poll_change Initializing Initialize progress))

  ended_is : (outcome : Result Data ErrorData) → EndsInitialize semantics s place e s2 p outcome → s2.desk.life ≡ ended_by (Done outcome)
  ended_is outcome h =
      polled_is ∙ ap (λ (life : Life). life_along life (changing (poll_change life p.work.entry.layer p.progress))) h.goes_on
      ∙ ap (λ (layer : Layer). life_along Initializing (changing (poll_change Initializing layer p.progress))) h.in_layer
      ∙ ap ended_by h.ends

  kept_is : ((outcome : Result Data ErrorData) → ¬ (EndsInitialize semantics s place e s2 p outcome)) → s2.desk.life ≡ s.desk.life
  kept_is other = polled_is ∙ at s.desk.life p.work.entry.layer p.progress refl refl refl
    where
      at : (life : Life) (layer : Layer) (progress : Progress semantics.Task) → s.desk.life ≡ life → p.work.entry.layer ≡ layer → p.progress ≡ progress
          → life_along life (changing (poll_change life layer progress)) ≡ life
      at Uninitialized layer progress l k h = refl
      at Initialized layer progress l k h = refl
      at ShutDown layer progress l k h = refl
      at Exited layer progress l k h = refl
      at Initializing Shutdown progress l k h = refl
      at Initializing Exit progress l k h = refl
      at Initializing Cancel progress l k h = refl
      at Initializing Normal progress l k h = refl
      at Initializing Initialize (Pending t) l k h = refl
      at Initializing Initialize (Done outcome) l k h = absurd (other outcome (record { goes_on = l; in_layer = k; ends = h }))

-- ---- admissions

module _ {H C T : Type 0} (semantics : Semantics H C T) where
  -- a verdict that doesn't end the session leaves the life
  applied_is : (s s2 : State H semantics.Call semantics.Task) (v : Verdict semantics.Call) (e : Effect) → quits v ≡ false → Applies semantics s v e s2 → s2.desk.life ≡ s.desk.life
  applied_is s s2 Silence e h p = ap (λ (x : State H semantics.Call semantics.Task). x.desk.life) p.1
  applied_is s s2 (Refuses i error) e h p = ap (λ (x : State H semantics.Call semantics.Task). x.desk.life) p.1
  applied_is s s2 (Answers r) e h p =
      ap (λ (x : State H semantics.Call semantics.Task). x.desk.life) p.leaves ∙ makes_life s.desk p.desk p.own p.trace p.makes ∙ ap (life_along s.desk.life) p.gives.1
  applied_is s s2 (Cancels i) e h p = ap (λ (x : State H semantics.Call semantics.Task). x.desk.life) p.1
  applied_is s s2 Exits e h p = absurd (true≢false h)
  applied_is s s2 (Starts id entry c) e h p = ap (λ (x : State H semantics.Call semantics.Task). x.desk.life) p.1

  -- what an admission makes of the life
  admitted_is : (s s2 : State H semantics.Call semantics.Task) (a : Admission semantics.Call) (e : Effect) (life : Life) (change : LifeChange) → s.desk.life ≡ life → a.change ≡ change → quits a.verdict ≡ false
      → Admits semantics s a e s2 → s2.desk.life ≡ life_along life (changing change)
  admitted_is s s2 a e life change l is stays h =
      applied_is h.mid s2 a.verdict h.rest stays h.applies
      ∙ ap (λ (x : State H semantics.Call semantics.Task). x.desk.life) h.changes.leaves ∙ makes_life s.desk h.changes.desk (changing a.change) h.changes.trace h.changes.makes
      ∙ ap (λ (x : LifeChange). life_along s.desk.life (changing x)) is ∙ ap (λ (x : Life). life_along x (changing change)) l

-- ---- an `initialize` that begins

module _ {C : Type 0} (o : Occasion) (a : Admission C) where
  -- it begins before any other, and raises the life
  opened : (id : Option IdData) (entry : Entry) (c : C) → a.verdict ≡ Starts id entry c → entry.layer ≡ Initialize → Sorted o a → (o.life ≡ Uninitialized) × (a.change ≡ Rises Initializing)
  opened id entry c is layer (leaves ch v) = absurd (true≢false (sym v ∙ ap changes_none is))
  opened id entry c is layer (takes i q ch v) = absurd (cc)
  opened id entry c is layer (ends ch v) = absurd (cc)
  opened id entry c is layer (opens j f x k q ch v) = (k, ch)
  opened id entry c is layer (begins j f x k q ch v) = let same : f ≡ entry = cc in absurd (cc)
  opened id entry c is layer (shuts j f x k q ch v) = let same : f ≡ entry = cc in absurd (cc)
  opened id entry c is layer (closes k ch v) = absurd (true≢false (sym v ∙ ap changes_none is))

-- ---- a cancel

module _ {C : Type 0} (o : Occasion) (find : List ℕ → Option Entry) (reads : Entry → Option Data → Reading C) (r : RequestData) where
  -- the admission of a request of a registered method
  pub by_its_layer : (entry : Entry) (layer : Layer) → find r.method ≡ Some entry → entry.layer ≡ layer → admission o find reads (message (request r)) ≡ by_layer o r entry (reads entry r.params) layer
  by_its_layer entry layer found is = ap (by_entry o reads r) found ∙ ap (by_layer o r entry (reads entry r.params)) is

  -- a cancel that names a live id
  cancels_live : (entry : Entry) (i : IdData) → find r.method ≡ Some entry → entry.layer ≡ Cancel → r.id ≡ None → cancelled_id r.params ≡ Some i → is_live i o.live ≡ true
      → admission o find reads (message (request r)) ≡ cancels o.initializing i
  cancels_live entry i found is none names lives =
      by_its_layer entry Cancel found is ∙ ap (λ (x : Option IdData). cancel o.live o.initializing x r.params) none ∙ ap (cancel_live o.live o.initializing) names
      ∙ ap (λ b. if b then cancels o.initializing i else quiet Silence) lives

  -- a `shutdown` passes where the session is initialized
  shutdown_passes : (entry : Entry) → find r.method ≡ Some entry → entry.layer ≡ Shutdown → o.life ≡ Initialized → (admission o find reads (message (request r))).change ≡ Rises ShutDown
  shutdown_passes entry found is l =
      let v = if_of_kind o.live entry.kind r.id (started o.crowded r.id entry r.params (reads entry r.params)) in
      ap (λ (x : Admission C). x.change) (by_its_layer entry Shutdown found is)
      ∙ ap (λ (x : Layer). (passed (check_life o.life x) r.id v).change) is ∙ ap (λ (x : Life). (passed (check_life x Shutdown) r.id v).change) l

-- a request among some of the works is among all
live_among : {C T : Type 0} (f : Work C T → Bool) (i : IdData) (ws : List (Work C T)) → is_live i (ids_of (filter f ws)) ≡ true → is_live i (ids_of ws) ≡ true
live_among f i [] h = h
live_among {C} {T} f i (w ∷ ws) h = at (f w) h (live_among f i ws)
  where
    more : (id : Option IdData) (ids : List IdData) → is_live i ids ≡ true → is_live i (with_id id ids) ≡ true
    more None ids h = h
    more (Some j) ids h = or (same_id i j) (is_live i ids) h
      where
        or : (b c : Bool) → c ≡ true → (b || c) ≡ true
        or true c h = refl
        or false c h = h

    with : (id : Option IdData) (some all : List IdData) → (is_live i some ≡ true → is_live i all ≡ true) → is_live i (with_id id some) ≡ true → is_live i (with_id id all) ≡ true
    with None some all f h = f h
    with (Some j) some all f h = or (same_id i j) h
      where
        or : (b : Bool) → (b || is_live i some) ≡ true → (b || is_live i all) ≡ true
        or true h = refl
        or false h = f h

    at : (b : Bool) → is_live i (ids_of (cond b (w ∷ filter f ws) (filter f ws))) ≡ true → (is_live i (ids_of (filter f ws)) ≡ true → is_live i (ids_of ws) ≡ true) → is_live i (ids_of (w ∷ ws)) ≡ true
    at true h g = with w.id (ids_of (filter f ws)) (ids_of ws) g h
    at false h g = more w.id (ids_of ws) (g h)

-- ---- other admissions

begins_none : {C : Type 0} (v : Verdict C) → changes_none v ≡ true → begun_change v ≡ Stays
begins_none Silence h = refl
begins_none (Refuses i error) h = refl
begins_none (Answers r) h = refl
begins_none (Cancels i) h = absurd (cc)
begins_none Exits h = absurd (cc)
begins_none (Starts id entry c) h = absurd (cc)

module _ {H C T : Type 0} (semantics : Semantics H C T) (s : State H semantics.Call semantics.Task) where
  -- where no `initialize` begins, an item of that layer leaves the life
  initialize_stays : (item : ItemData) → ¬ (BeginsInitialize semantics s item) → (admission_of semantics s item).change ≡ begun_change (admission_of semantics s item).verdict
      → Sorted (occasion s) (admission_of semantics s item) → (admission_of semantics s item).change ≡ Stays
  initialize_stays item none is (leaves ch v) = ch
  initialize_stays item none is (takes i q ch v) = is ∙ ap begun_change v
  initialize_stays item none is (ends ch v) = ch
  initialize_stays item none is (opens id entry c k q ch v) = absurd (none (record { id = id; entry = entry; call = c; starts = v; in_layer = q }))
  initialize_stays item none is (begins id entry c k q ch v) = ch
  initialize_stays item none is (shuts id entry c k q ch v) = let e : Rises ShutDown ≡ Rises Initializing = sym ch ∙ is ∙ ap begun_change v in absurd (cc)
  initialize_stays item none is (closes k ch v) = let e : Rises ShutDown ≡ Stays = sym ch ∙ is ∙ begins_none (admission_of semantics s item).verdict v in absurd (cc)

  module _ (r : RequestData) (h : IsOther semantics s (message (request r))) (entry : Entry) (found : semantics.find s.service r.method ≡ Some entry) where
    -- what it would come to if the life let it pass
    abbrev passing : Verdict semantics.Call
    passing = if_of_kind (live s) entry.kind r.id (started (occasion s).crowded r.id entry r.params (reads_in semantics s entry r.params))

    cancel_stays : entry.layer ≡ Cancel → (id : Option IdData) (named : Option IdData) → r.id ≡ id → cancelled_id r.params ≡ named → (cancel {C = semantics.Call} (live s) (initializing s) id r.params).change ≡ Stays
    cancel_stays is (Some i) named e f = refl
    cancel_stays is None None e f = ap (λ (x : Option IdData). (cancel_live {C = semantics.Call} (live s) (initializing s) x).change) f
    cancel_stays is None (Some i) e f =
        ap (λ (x : Option IdData). (cancel_live {C = semantics.Call} (live s) (initializing s) x).change) f ∙ by (is_live i (live s)) (is_live i (initializing s)) refl
      where
        by : (b c : Bool) → is_live i (initializing s) ≡ c → (if b then record { change = if c then Falls else Stays; verdict = Cancels i } else quiet {C = semantics.Call} Silence).change ≡ Stays
        by false c g = refl
        by true false g = refl
        by true true g = absurd (h.no_cancel i (record {
          cancels = record { r = r; entry = entry; item_is = refl; no_id = e; found = found; in_layer = is; names = f };
          goes_on = g;
        }))

    normal_stays : (life : Life) → (passed (check_life life Normal) r.id passing).change ≡ Stays
    normal_stays Uninitialized = refl
    normal_stays Initializing = refl
    normal_stays Initialized = refl
    normal_stays ShutDown = refl
    normal_stays Exited = refl

    shutdown_stays : entry.layer ≡ Shutdown → (life : Life) → s.desk.life ≡ life → (passed (check_life life Shutdown) r.id passing).change ≡ Stays
    shutdown_stays is Uninitialized l = refl
    shutdown_stays is Initializing l = refl
    shutdown_stays is Initialized l = absurd (h.no_shutdown l (record { r = r; entry = entry; item_is = refl; found = found; in_layer = is }))
    shutdown_stays is ShutDown l = refl
    shutdown_stays is Exited l = refl

    layer_stays : (layer : Layer) → entry.layer ≡ layer → (admission_of semantics s (message (request r))).change ≡ Stays
    layer_stays Initialize is =
        let whole = by_its_layer (occasion s) (semantics.find s.service) (reads_in semantics s) r entry Initialize found is in
        initialize_stays (message (request r)) h.no_begin (ap (λ (x : Admission semantics.Call). x.change) whole ∙ ap (λ (x : Admission semantics.Call). begun_change x.verdict) (sym whole))
        (admission_sorted (occasion s) (semantics.find s.service) (reads_in semantics s) (message (request r)))
    layer_stays Exit is = ap (λ (x : Admission semantics.Call). x.change) (by_its_layer (occasion s) (semantics.find s.service) (reads_in semantics s) r entry Exit found is)
    layer_stays Cancel is =
        ap (λ (x : Admission semantics.Call). x.change) (by_its_layer (occasion s) (semantics.find s.service) (reads_in semantics s) r entry Cancel found is)
        ∙ cancel_stays is r.id (cancelled_id r.params) refl refl
    layer_stays Normal is =
        ap (λ (x : Admission semantics.Call). x.change) (by_its_layer (occasion s) (semantics.find s.service) (reads_in semantics s) r entry Normal found is)
        ∙ ap (λ (x : Layer). (passed (check_life s.desk.life x) r.id passing).change) is ∙ normal_stays s.desk.life
    layer_stays Shutdown is =
        ap (λ (x : Admission semantics.Call). x.change) (by_its_layer (occasion s) (semantics.find s.service) (reads_in semantics s) r entry Shutdown found is)
        ∙ ap (λ (x : Layer). (passed (check_life s.desk.life x) r.id passing).change) is ∙ shutdown_stays is s.desk.life refl

  other_stays : (item : ItemData) → IsOther semantics s item → (admission_of semantics s item).change ≡ Stays
  other_stays (message (response r)) h = refl
  other_stays (fault code) h = refl
  other_stays tick h = refl
  other_stays (message (request r)) h = at (semantics.find s.service r.method) refl
    where
      at : (found : Option Entry) → semantics.find s.service r.method ≡ found → (admission_of semantics s (message (request r))).change ≡ Stays
      at None e = ap (λ (x : Option Entry). (by_entry (occasion s) (reads_in semantics s) r x).change) e
      at (Some entry) e = layer_stays r h entry e entry.layer refl

-- ---- the law

module _ {H C T : Type 0} (semantics : Semantics H C T) where
  -- no item of a layer but Exit ends a session
  quits_is : (s : State H semantics.Call semantics.Task) (item : ItemData) → quits (admission_of semantics s item).verdict ≡ is_exit (semantics.find s.service) item
  quits_is s item = admission_quits semantics.Call (occasion s) (semantics.find s.service) (reads_in semantics s) item

  begun : (s s2 : State H semantics.Call semantics.Task) (item : ItemData) (e : Effect) → BeginsInitialize semantics s item → Admits semantics s (admission_of semantics s item) e s2 → s2.desk.life ≡ Initializing
  begun s s2 item e b h =
      let w = opened (occasion s) (admission_of semantics s item) b.id b.entry b.call b.starts b.in_layer (admission_sorted (occasion s) (semantics.find s.service) (reads_in semantics s) item) in
      admitted_is semantics s s2 (admission_of semantics s item) e Uninitialized (Rises Initializing) w.0 w.1 (ap quits b.starts) h

  cancelled_falls : (s s2 : State H semantics.Call semantics.Task) (item : ItemData) (i : IdData) (e : Effect) → s.desk.life ≡ Initializing → CancelsInitialize semantics s item i
      → Admits semantics s (admission_of semantics s item) e s2 → s2.desk.life ≡ Uninitialized
  cancelled_falls s s2 item i e l b h =
      let q = b.cancels in
      let lives = live_among initializes i (s.slots ++ s.queue) b.goes_on in
      let is : admission_of semantics s item ≡ cancels (initializing s) i =
      ap (admission_of semantics s) q.item_is ∙ cancels_live (occasion s) (semantics.find s.service) (reads_in semantics s) q.r q.entry i q.found q.in_layer q.no_id q.names lives in
      let falls : (admission_of semantics s item).change ≡ Falls = ap (λ (x : Admission semantics.Call). x.change) is ∙ ap (λ b. if b then Falls else Stays) b.goes_on in
      admitted_is semantics s s2 (admission_of semantics s item) e Initializing Falls l falls (ap (λ (x : Admission semantics.Call). quits x.verdict) is) h

  shut : (s s2 : State H semantics.Call semantics.Task) (item : ItemData) (e : Effect) → s.desk.life ≡ Initialized → IsOfLayer semantics s.service item Shutdown
      → Admits semantics s (admission_of semantics s item) e s2 → s2.desk.life ≡ ShutDown
  shut s s2 item e l q h =
      let is : (admission_of semantics s item).change ≡ Rises ShutDown =
      ap (λ (x : ItemData). (admission_of semantics s x).change) q.item_is ∙ shutdown_passes (occasion s) (semantics.find s.service) (reads_in semantics s) q.r q.entry q.found q.in_layer l in
      let stays : quits (admission_of semantics s item).verdict ≡ false =
      quits_is s item ∙ ap (is_exit (semantics.find s.service)) q.item_is ∙ ap is_exit_entry q.found ∙ ap is_exit_layer q.in_layer in
      admitted_is semantics s s2 (admission_of semantics s item) e Initialized (Rises ShutDown) l is stays h

  pub lives_follow_lem : IsLawfulHandlers semantics → LivesFollow semantics
  lives_follow_lem laws = record {
    begun = begun;
    ended_well = λ s s2 place e p value h. ended_is semantics laws s s2 place e p (Ok value) h;
    failed = λ s s2 place e p error h. ended_is semantics laws s s2 place e p (Err error) h;
    cancelled = cancelled_falls;
    shut = shut;
    goes_on = λ s s2 place e p h. kept_is semantics laws s s2 place e p h;
    stays = λ s s2 item e h a. admitted_is semantics s s2 (admission_of semantics s item) e s.desk.life Stays refl (other_stays semantics s item h) (quits_is s item ∙ h.no_exit) a;
  }
