-- What the code sees of an occasion is what there is.
use Rattle.std.proofs.Common.{◌≡◌, List, [], ◌∷◌, ◌++◌, length, refl, sym, ◌∙◌, ap, arith, Bool, true, false, cond}
use Rattle.std.specs.Prelude.{filter, Option, Some, None, if◌then◌else◌, ◌||◌}
use Rattle.std.specs.List.{list_any}
use Rattle.lsp_rpc.specs.Message.{IdData}
use Rattle.lsp_desk.specs.declared.life.Life.{Life}
use Rattle.lsp_desk.specs.declared.life.Life.TheVariants.{Uninitialized, Initializing, Initialized, ShutDown, Exited}
use Rattle.lsp_session.specs.Verdict.{occasion_of}
use Rattle.lsp_session.specs.State.{Work, State, with_id, ids_of, live, initializes, is_crowded, WorksFit, FitsLife}
use Rattle.lsp_session.specs.Run.{occasion, is_initializing}
use Rattle.lsp_session.proofs.FitLemmas.{filter_none, no_length}

module _ {C T : Type 0} where
  one_initializes : (slots queue : List (Work C T)) → length slots ≡ 1 → length queue ≡ 0 → list_any initializes slots ≡ true → ids_of (slots ++ queue) ≡ ids_of (filter initializes (slots ++ queue))
  one_initializes [] queue n m h = absurd (omega (arith, n))
  one_initializes (w ∷ []) [] n m h = at (initializes w) h
    where
      at : (b : Bool) → (b || false) ≡ true → with_id w.id [] ≡ ids_of (cond b (w ∷ []) [])
      at true k = refl
      at false k = absurd (cc)
  one_initializes (w ∷ []) (x ∷ queue) n m h = absurd (omega (arith, m))
  one_initializes (w ∷ v ∷ slots) queue n m h = absurd (omega (arith, n))

  ids_none : (ws : List (Work C T)) → length (ids_of ws) ≡ 0 → ids_of (filter initializes ws) ≡ []
  ids_none [] h = refl
  ids_none (w ∷ ws) h = at w.id (initializes w) h (ids_none ws)
    where
      at : (id : Option IdData) (b : Bool) → length (with_id id (ids_of ws)) ≡ 0 → (length (ids_of ws) ≡ 0 → ids_of (filter initializes ws) ≡ [])
          → ids_of (cond b (record { id = id; entry = w.entry; phase = w.phase; due = w.due } ∷ filter initializes ws) (filter initializes ws)) ≡ []
      at None true h ih = ih h
      at None false h ih = ih h
      at (Some i) b h ih = absurd (omega (arith, h))

  initializing_are : (life : Life) (slots queue : List (Work C T)) → WorksFit life slots queue → (if is_initializing life then ids_of (slots ++ queue) else []) ≡ ids_of (filter initializes (slots ++ queue))
  initializing_are Uninitialized slots queue p =
      let none : slots ++ queue ≡ [] = ap (λ s. s ++ queue) (no_length slots p.0) ∙ no_length queue p.1 in
      sym (ap (λ (ws : List (Work C T)). ids_of (filter initializes ws)) none)
  initializing_are Initializing slots queue p = one_initializes slots queue p.0 p.1.0 p.1.1
  initializing_are Initialized slots queue p = sym (ap ids_of (filter_none initializes (slots ++ queue) p))
  initializing_are ShutDown slots queue p = sym (ap ids_of (filter_none initializes (slots ++ queue) p))
  initializing_are Exited slots queue p = sym (ids_none (slots ++ queue) p)

pub same_occasion : {H C T : Type 0} (s : State H C T) (life : Life) (ids : List IdData) (crowded : Bool) → life ≡ s.desk.life → ids ≡ live s → crowded ≡ is_crowded s → FitsLife s → occasion_of life ids crowded ≡ occasion s
same_occasion s life ids crowded l i b p =
    ap (λ (x : Life). occasion_of x ids crowded) l ∙ ap (λ (x : List IdData). occasion_of s.desk.life x crowded) i ∙ ap (λ (x : Bool). occasion_of s.desk.life (live s) x) b
    ∙ ap (λ (x : List IdData). record { life = s.desk.life; live = live s; initializing = x; crowded = is_crowded s }) (initializing_are s.desk.life s.slots s.queue p.works_fit)
