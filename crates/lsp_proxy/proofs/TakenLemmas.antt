-- Each request of an editor that is here is passed on, waits, or is answered, and a cancel names an
-- entry of its sender's.
use Rattle.std.proofs.Common.{◌≡◌, ℕ, List, [], ◌∷◌, ◌++◌, Bool, true, false, cond, Option, Some, None, option_and_then, nat_lt, bytes_eq, codes, refl, sym, ap, ◌∙◌, subst, inl, inr, true≢false}
use Rattle.std.specs.List.{AllByRecursion}
use Rattle.std.proofs.lemmas.Bool.{and_parts}
use Rattle.std.proofs.lemmas.Slice.Eq.{bytes_eq-Decides}
use Rattle.lsp_rpc.specs.Message.{IdData, RequestData, MessageData, request}
use Rattle.lsp_rpc.specs.Ids.{same_id, same_id-Decides}
use Rattle.lsp_proxy.specs.declared.side.Side.{Side}
use Rattle.lsp_proxy.specs.declared.side.Side.TheVariants.{Server, Editor}
use Rattle.lsp_proxy.specs.declared.side.Presence.{Presence}
use Rattle.lsp_proxy.specs.declared.side.Presence.TheVariants.{Here, Down, Gone}
use Rattle.lsp_proxy.specs.Entries.{AskerData, Entry, same_asker, same_asker-Decides, place_of}
use Rattle.lsp_rpc.specs.Cancel.{cancelled_id}
use Rattle.lsp_proxy.specs.Proxy.{ProxyState, Outcome, Opening, unopened, awaited, opened, bare, last_id, begin_initialize, initialize_at, initialize, shut_down, pass_request, ask_at, ask_as, ask, cancel_limit, cancel_note, cancel_passed, asked_place, cancel_heard, note_as, note, call_heard, from_editor, from_server, server_called, server_cancel, first_requested, cancel_entry, presence, is_gone}
use Rattle.lsp_proxy.specs.Law.{react, OnlySends, IsAmong, IsTaken, is_none, is_cancel, CancelsAsked, CancelsRequested}

last_among : {X : Type 0} (xs : List X) (x : X) → IsAmong x (xs ++ x ∷ [])
last_among xs x = (xs, [], refl)

-- ---- requests

module _ (k : ℕ) (r : RequestData) (i : IdData) (s : ProxyState) where
  abbrev asker : AskerData
  asker = record { editor = k; id = i }

  abbrev Taken : Outcome → Type 0
  Taken o = IsTaken r asker s o

  taken_if : (b : Bool) (x y : Outcome) → Taken x → Taken y → Taken (cond b x y)
  taken_if true x y hx hy = hx
  taken_if false x y hx hy = hy

  initialize_taken : (o : Opening) → Taken (initialize_at o k (bare r) i s)
  unfolding begin_initialize
  initialize_taken unopened =
      taken_if (nat_lt s.next last_id) _ _ (inl (refl, inr (asker ∷ [], refl, last_among [] asker))) (inr (inr (_, refl)))
  initialize_taken (awaited m askers) = inr (inl (refl, m, (askers ++ asker ∷ [], refl, last_among askers asker)))
  initialize_taken (opened v) = inr (inr (_, refl))

  ask_taken : (p : Presence) → is_gone p ≡ false → Taken (ask_as p k (bare r) i s)
  unfolding pass_request
  ask_taken Here here = at (place_of asker s.asked)
    where
      at : (o : Option ℕ) → Taken (ask_at o k (bare r) i s)
      at (Some n) = inr (inr (_, refl))
      at None = taken_if (nat_lt s.next last_id) _ _ (inl (refl, inl (last_among s.asked _))) (inr (inr (_, refl)))
  ask_taken Down here = inr (inr (_, refl))
  ask_taken Gone here = absurd (true≢false here)

  called_taken : is_gone (presence k s) ≡ false → Taken (call_heard k r (Some i) s)
  unfolding initialize shut_down ask
  called_taken here =
      taken_if (bytes_eq r.method (codes "initialize")) _ _ (initialize_taken s.opening)
      (taken_if (bytes_eq r.method (codes "shutdown")) _ _ (inr (inr (_, refl))) (ask_taken (presence k s) here))

  pub request_taken : r.id ≡ Some i → is_gone (presence k s) ≡ false → Taken (react (Editor k, request r) s)
  unfolding from_editor
  request_taken under here =
      subst (λ b. Taken (cond b (s, []) (call_heard k r r.id s))) (sym here) (subst (λ o. Taken (call_heard k r o s)) (sym under) (called_taken here))

-- ---- cancels

among_later : {X : Type 0} (x y : X) (xs : List X) → IsAmong x xs → IsAmong x (y ∷ xs)
among_later x y xs at = (y ∷ at.0, at.1, ap (λ l. y ∷ l) at.2)

place_among : (a : AskerData) (n : ℕ) (es : List Entry) → place_of a es ≡ Some n → IsAmong {X = Entry} (record { n = n; asker = a }) es
place_among a n [] at = absurd (cc)
place_among a n (e ∷ es) at = go (same_asker a e.asker) refl at (place_among a n es)
  where
    go : (b : Bool) → same_asker a e.asker ≡ b → cond b (Some e.n) (place_of a es) ≡ Some n
        → (place_of a es ≡ Some n → IsAmong {X = Entry} (record { n = n; asker = a }) es) → IsAmong {X = Entry} (record { n = n; asker = a }) (e ∷ es)
    go true is at later =
        let number : e.n ≡ n = cc in
        let same : e.asker ≡ a = sym ((same_asker-Decides a e.asker).0 is) in
        ([], es, ap (λ (x : Entry). x ∷ es) (let both : e ≡ record { n = n; asker = a } = λ j. record { n = number j; asker = same j } in both))
    go false is at later = among_later _ e es (later at)

first_among : (i : IdData) (e : Entry) (es : List Entry) → first_requested i es ≡ Some e → (e.asker.id ≡ i) × IsAmong e es
first_among i e [] at = absurd (cc)
first_among i e (x ∷ es) at = go (same_id i x.asker.id) refl at (first_among i e es)
  where
    go : (b : Bool) → same_id i x.asker.id ≡ b → cond b (Some x) (first_requested i es) ≡ Some e
        → (first_requested i es ≡ Some e → (e.asker.id ≡ i) × IsAmong e es) → (e.asker.id ≡ i) × IsAmong e (x ∷ es)
    go true is at later =
        let same : x ≡ e = cc in
        (ap (λ (y : Entry). y.asker.id) (sym same) ∙ sym ((same_id-Decides i x.asker.id).0 is), ([], es, ap (λ (y : Entry). y ∷ es) same))
    go false is at later = ((later at).0, among_later e x es (later at).1)

passed_all : (P : Side × MessageData → Type 0) (to : Side) (n : ℕ) → P (to, cancel_note n) → AllByRecursion P (cancel_passed to (Some n))
passed_all P to n p = go (nat_lt n cancel_limit)
  where
    go : (b : Bool) → AllByRecursion P (cond b ((to, cancel_note n) ∷ []) [])
    go true = (p, tt)
    go false = tt

module _ (r : RequestData) (s : ProxyState) (is : is_cancel r ≡ true) where
  cancelled : bytes_eq r.method (codes "$/cancelRequest") ≡ true
  cancelled = (and_parts (is_none r.id) (bytes_eq r.method (codes "$/cancelRequest")) is).1

  unnumbered : r.id ≡ None
  unnumbered = go r.id (and_parts (is_none r.id) (bytes_eq r.method (codes "$/cancelRequest")) is).0
    where
      go : (o : Option IdData) → is_none o ≡ true → o ≡ None
      go None h = refl
      go (Some i) h = absurd (true≢false (sym h))

  -- it is no other notification
  other : (name : List ℕ) → bytes_eq (codes "$/cancelRequest") name ≡ false → bytes_eq r.method name ≡ false
  other name apart = ap (λ m. bytes_eq m name) ((bytes_eq-Decides r.method (codes "$/cancelRequest")).0 cancelled) ∙ apart

  module _ (k : ℕ) where
    named_asked : (o : Option IdData) → cancelled_id r.params ≡ o → AllByRecursion (CancelsAsked k r s) (cancel_passed Server (asked_place k o s))
    named_asked None under = tt
    named_asked (Some i) under = go (place_of (record { editor = k; id = i }) s.asked) refl
      where
        go : (o : Option ℕ) → place_of (record { editor = k; id = i }) s.asked ≡ o → AllByRecursion (CancelsAsked k r s) (cancel_passed Server o)
        go None at = tt
        go (Some n) at = passed_all (CancelsAsked k r s) Server n (i, n, under, refl, place_among (record { editor = k; id = i }) n s.asked at)

    note_cancels : (p : Presence) → OnlySends s (CancelsAsked k r s) (note_as p k (bare r) s)
    unfolding cancel_heard
    note_cancels Here = subst (λ b. OnlySends s (CancelsAsked k r s) (cond b (cancel_heard k (bare r) s) (s, (Server, request (bare r)) ∷ []))) (sym cancelled) (named_asked (cancelled_id r.params) refl, refl)
    note_cancels Down = (tt, refl)
    note_cancels Gone = (tt, refl)

    called_cancels : OnlySends s (CancelsAsked k r s) (call_heard k r None s)
    unfolding note
    called_cancels = rw (other (codes "initialize") refl, other (codes "initialized") refl, other (codes "shutdown") refl, other (codes "exit") refl) (note_cancels (presence k s))

    pub editor_cancels : OnlySends s (CancelsAsked k r s) (react (Editor k, request r) s)
    unfolding from_editor
    editor_cancels = go (is_gone (presence k s))
      where
        go : (b : Bool) → OnlySends s (CancelsAsked k r s) (cond b (s, []) (call_heard k r r.id s))
        go true = (tt, refl)
        go false = subst (λ o. OnlySends s (CancelsAsked k r s) (call_heard k r o s)) (sym unnumbered) called_cancels

  named_requested : (o : Option IdData) → cancelled_id r.params ≡ o → AllByRecursion (CancelsRequested r s) (cancel_entry (option_and_then (λ i. first_requested i s.requested) o))
  named_requested None under = tt
  named_requested (Some i) under = go (first_requested i s.requested) refl
    where
      go : (o : Option Entry) → first_requested i s.requested ≡ o → AllByRecursion (CancelsRequested r s) (cancel_entry o)
      go None at = tt
      go (Some e) at =
          let found = first_among i e s.requested at in
          passed_all (CancelsRequested r s) (Editor e.asker.editor) e.n
          (e.asker.id, e.n, e.asker.editor, under ∙ ap (λ j. Some j) (sym found.0), refl, found.1)

  pub server_cancels : OnlySends s (CancelsRequested r s) (react (Server, request r) s)
  unfolding from_server server_cancel
  server_cancels =
      subst (λ o. OnlySends s (CancelsRequested r s) (server_called r o s)) (sym unnumbered)
      (rw (cancelled) (named_requested (cancelled_id r.params) refl, refl))
