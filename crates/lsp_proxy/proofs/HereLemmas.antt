-- Who is here, and that nothing goes to others.
use Rattle.std.proofs.Common.{◌≡◌, ◌<◌, ◌+◌, arith, ℕ, zero, suc, List, [], ◌∷◌, ◌++◌, Bool, true, false, cond, not, ◌==◌, Option, Some, None, option_and_then, Result, map, nat_lt, ltb-true, lt-ltb, bytes_eq, codes, refl, sym, ap, ◌∙◌, subst, true≢false}
use Rattle.std.specs.Prelude.{⊤, slice_set, replicate}
use Rattle.std.specs.List.{AllByRecursion, filter}
use Rattle.std.proofs.lemmas.Bool.{eqb-true, eq-eqb, and_parts, and_from}
use Rattle.std.proofs.lemmas.Slice.Eq.{bytes_eq-Decides}
use Rattle.serde_json.specs.Data.{Data}
use Rattle.lsp_rpc.specs.Message.{IdData, ErrorData, RequestData, MessageData, response, request}
use Rattle.lsp_rpc.specs.Ids.{same_id}
use Rattle.lsp_proxy.specs.declared.side.Side.{Side}
use Rattle.lsp_proxy.specs.declared.side.Side.TheVariants.{Server, Editor}
use Rattle.lsp_proxy.specs.declared.side.Presence.{Presence}
use Rattle.lsp_proxy.specs.declared.side.Presence.TheVariants.{Here, Down, Gone}
use Rattle.lsp_proxy.specs.Entries.{AskerData, Entry}
use Rattle.lsp_rpc.specs.Cancel.{cancelled_id}
use Rattle.lsp_proxy.specs.Proxy.{ProxyState, Sent, Outcome, bare, cancel_limit, cancel_note, shutdown_request, exit_note, refused, is_asked_by, cancel_passed, asked_place, answered_to, is_here_in, is_here, first_requested, cancel_entry, here_from, first_editor, lowest, presence_in, presence, is_gone, AreOf, last_id, last_message, answers_internal, left, closing_drawn, leave, call_heard, are_gone_but, from_editor}
use Rattle.lsp_proxy.specs.Law.{Event, react, GoesToOneHere, is_none, says_exit, is_exit_of, is_here_after}
use Rattle.lsp_proxy.specs.Origin.{state_of}
use Rattle.lsp_proxy.proofs.ProxyLemmas.{of_head, of_tail, of-without, of-pushed, of_left, lowest-down}
use Rattle.lsp_proxy.proofs.RowLemmas.{Row, idle, begins, waits, shuts, passes, answers, announces, notes, cancels, leaves, closes, ends, replies, stray, is_shut, opens, returns, calls, refuses, server_cancels, tells, event_of, after, sent_at, row}

-- ---- editors that are here

-- those counted from j
all_here : (all ps : List Presence) (j : ℕ) → ((i : ℕ) → presence_in ps i ≡ presence_in all (j + i)) → AllByRecursion (λ k. is_gone (presence_in all k) ≡ false) (here_from j ps)
all_here all [] j same = tt
all_here all (p ∷ ps) j same = go (is_gone p) refl (all_here all ps (j + 1) (λ i. same (suc i) ∙ ap (presence_in all) (let one : j + suc i ≡ j + 1 + i = omega arith in one)))
  where
    go : (b : Bool) → is_gone p ≡ b → AllByRecursion (λ k. is_gone (presence_in all k) ≡ false) (here_from (j + 1) ps)
        → AllByRecursion (λ k. is_gone (presence_in all k) ≡ false) (cond b (here_from (j + 1) ps) (j ∷ here_from (j + 1) ps))
    go true is later = later
    go false is later =
        let at : j + 0 ≡ j = omega arith in
        (ap is_gone (ap (presence_in all) (sym at) ∙ sym (same 0)) ∙ is, later)

here_all : (ps : List Presence) → AllByRecursion (λ k. is_gone (presence_in ps k) ≡ false) (here_from 0 ps)
here_all ps = all_here ps ps 0 (λ i. ap (presence_in ps) (let same : i ≡ 0 + i = omega arith in same))

lowest_here : (ps : List Presence) (k : ℕ) → lowest ps ≡ Some k → is_gone (presence_in ps k) ≡ false
lowest_here ps k is = go (here_from 0 ps) is (here_all ps)
  where
    go : (ks : List ℕ) → first_editor ks ≡ Some k → AllByRecursion (λ j. is_gone (presence_in ps j) ≡ false) ks → is_gone (presence_in ps k) ≡ false
    go [] is all = absurd (cc)
    go (j ∷ ks) is all = let same : j ≡ k = cc in subst (λ n. is_gone (presence_in ps n) ≡ false) same all.0

-- ---- what is sent

-- the editor that it goes to isn't gone
abbrev GoesHere : ProxyState → Side × MessageData → Type 0
GoesHere s (Editor k, m) = is_gone (presence k s) ≡ false
GoesHere s (Server, m) = ⊤

abbrev Goes : ProxyState → Sent → Type 0
Goes s sent = AllByRecursion (GoesHere s) sent

goes_refused : (s : ProxyState) (es : List Entry) (more : Sent) → Goes s more → Goes s (map refused es ++ more)
goes_refused s [] more m = m
goes_refused s (e ∷ es) more m = (tt, goes_refused s es more m)

all_refused : (s : ProxyState) (es : List Entry) → Goes s (map refused es)
all_refused s [] = tt
all_refused s (e ∷ es) = (tt, all_refused s es)

goes_told : (s : ProxyState) (r : RequestData) (ks : List ℕ) → AllByRecursion (λ k. is_gone (presence k s) ≡ false) ks → Goes s (map (λ k. (Editor k, request r)) ks)
goes_told s r [] all = tt
goes_told s r (k ∷ ks) all = (all.0, goes_told s r ks all.1)

not_gone : (b : Bool) → not b ≡ true → b ≡ false
not_gone true h = absurd (true≢false (sym h))
not_gone false h = refl

goes_answered : (s : ProxyState) (body : Result Data ErrorData) (askers : List AskerData) → Goes s (map (answered_to body) (filter (is_here_in s.editors) askers))
goes_answered s body [] = tt
goes_answered s body (a ∷ askers) = go (is_here_in s.editors a) refl (goes_answered s body askers)
  where
    go : (b : Bool) → is_here_in s.editors a ≡ b → Goes s (map (answered_to body) (filter (is_here_in s.editors) askers))
        → Goes s (map (answered_to body) (cond b (a ∷ filter (is_here_in s.editors) askers) (filter (is_here_in s.editors) askers)))
    go true is later = (not_gone (is_gone (presence a.editor s)) is, later)
    go false is later = later

goes_returned : (s : ProxyState) (body : Result Data ErrorData) (a : AskerData) (b : Bool) → is_here s a ≡ b → Goes s (cond b (answered_to body a ∷ []) [])
goes_returned s body a true is = (not_gone (is_gone (presence a.editor s)) is, tt)
goes_returned s body a false is = tt

goes_cancel : (s : ProxyState) (to : Side) (o : Option ℕ) → GoesHere s (to, exit_note) → Goes s (cancel_passed to o)
goes_cancel s to None here = tt
goes_cancel s Server (Some n) here = go (nat_lt n cancel_limit)
  where
    go : (b : Bool) → Goes s (cond b ((Server, cancel_note n) ∷ []) [])
    go true = (tt, tt)
    go false = tt
goes_cancel s (Editor k) (Some n) here = go (nat_lt n cancel_limit)
  where
    go : (b : Bool) → Goes s (cond b ((Editor k, cancel_note n) ∷ []) [])
    go true = (here, tt)
    go false = tt

-- an entry of the server's is the lowest editor's
goes_entry : (s : ProxyState) (i : IdData) (es : List Entry) → AreOf (lowest s.editors) es → Goes s (cancel_entry (first_requested i es))
goes_entry s i [] of = tt
goes_entry s i (e ∷ es) of = go (same_id i e.asker.id) (goes_entry s i es (of_tail (lowest s.editors) e es of))
  where
    go : (b : Bool) → Goes s (cancel_entry (first_requested i es)) → Goes s (cancel_entry (cond b (Some e) (first_requested i es)))
    go true later = goes_cancel s (Editor e.asker.editor) (Some e.n) (lowest_here s.editors e.asker.editor (of_head (lowest s.editors) e es of))
    go false later = later

goes_row : (s : ProxyState) → AreOf (lowest s.editors) s.requested → (x : Row s) → Goes s (sent_at x)
goes_row s of (idle e q) = tt
goes_row s of (begins k r i under method is) = (tt, tt)
goes_row s of (waits k r i m askers under method is) = tt
goes_row s of (shuts k r i under method here) = (here, tt)
goes_row s of (passes k r i under) = (tt, tt)
goes_row s of (answers k r i body under own here) = (here, tt)
goes_row s of (announces k r) = (tt, tt)
goes_row s of (notes k r) = (tt, tt)
goes_row s of (cancels k r) = goes_cancel s Server (asked_place k (cancelled_id r.params) s) tt
goes_row s of (leaves k r exit) = all_refused s (filter (is_asked_by k) s.requested)
goes_row s of (closes k r exit) = goes_refused s (filter (is_asked_by k) s.requested) ((Server, shutdown_request s.next) ∷ []) (tt, tt)
goes_row s of (ends k r exit) = goes_refused s (filter (is_asked_by k) s.requested) ((Server, exit_note) ∷ []) (tt, tt)
goes_row s of (replies k r n a at) = (tt, tt)
goes_row s of (stray r n under none apart) = tt
goes_row s of (is_shut r n under at) = (tt, tt)
goes_row s of (opens r n m askers under is at) = goes_answered s r.body askers
goes_row s of (returns r n a under at apart) = goes_returned s r.body a (is_here s a) refl
goes_row s of (calls k r i under to) = (lowest_here s.editors k to, tt)
goes_row s of (refuses r i under) = (tt, tt)
goes_row s of (server_cancels r) = go (cancelled_id r.params)
  where
    go : (o : Option IdData) → Goes s (cancel_entry (option_and_then (λ i. first_requested i s.requested) o))
    go None = tt
    go (Some i) = goes_entry s i s.requested of
goes_row s of (tells r) = goes_told s (bare r) (here_from 0 s.editors) (here_all s.editors)

-- ---- the server's requests are the lowest editor's

abbrev OfLowest : ProxyState → Type 0
OfLowest s = AreOf (lowest s.editors) s.requested

of_row : (s : ProxyState) → OfLowest s → (x : Row s) → OfLowest (after x)
of_row s of (shuts k r i under method here) = subst (λ o. AreOf o s.requested) (sym (lowest-down k s.editors here)) of
of_row s of (leaves k r exit) = of_left k s.editors s.requested of
of_row s of (closes k r exit) = of_left k s.editors s.requested of
of_row s of (ends k r exit) = of_left k s.editors s.requested of
of_row s of (replies k r n a at) = of-without (lowest s.editors) n s.requested of
of_row s of (calls k r i under to) =
    subst (λ o. AreOf o (s.requested ++ record { n = s.next; asker = record { editor = k; id = i } } ∷ [])) (sym to)
    (of-pushed k s.next i s.requested (subst (λ o. AreOf o s.requested) to of))
of_row s of other = of

of_lowest : (editors : ℕ) (h : List Event) → OfLowest (state_of editors h)
of_lowest editors [] = refl
of_lowest editors (e ∷ h) =
    let x = row (state_of editors h) e in
    subst (λ o. OfLowest o.0) x.2 (of_row (state_of editors h) (of_lowest editors h) x.0)

-- ---- who has sent `exit`

-- an editor's place is set, and others stay where they are
other_set : (ps : List Presence) (j k : ℕ) (p : Presence) → (k ≡ j → ⊥) → presence_in (slice_set ps j p) k ≡ presence_in ps k
other_set [] j k p apart = refl
other_set (x ∷ ps) zero zero p apart = absurd (apart refl)
other_set (x ∷ ps) zero (suc k) p apart = refl
other_set (x ∷ ps) (suc j) zero p apart = refl
other_set (x ∷ ps) (suc j) (suc k) p apart = other_set ps j k p (λ same. apart (ap suc same))

own_set : (ps : List Presence) (j : ℕ) → is_gone (presence_in (slice_set ps j Gone) j) ≡ true
own_set [] j = refl
own_set (x ∷ ps) zero = refl
own_set (x ∷ ps) (suc j) = own_set ps j

down_set : (ps : List Presence) (j k : ℕ) → is_gone (presence_in ps j) ≡ false → is_gone (presence_in (slice_set ps j Down) k) ≡ is_gone (presence_in ps k)
down_set [] j k here = refl
down_set (x ∷ ps) zero zero here = sym here
down_set (x ∷ ps) zero (suc k) here = refl
down_set (x ∷ ps) (suc j) zero here = refl
down_set (x ∷ ps) (suc j) (suc k) here = down_set ps j k here

apart_at_exit : (k j : ℕ) (r : RequestData) → says_exit r ≡ true → is_exit_of k (Editor j, request r) ≡ false → k ≡ j → ⊥
apart_at_exit k j r exit apart same = true≢false (sym (and_from (k == j) (says_exit r) (eq-eqb k j same) exit) ∙ apart)

stays_row : (s : ProxyState) (k : ℕ) (x : Row s) → is_exit_of k (event_of x) ≡ false → is_gone (presence k (after x)) ≡ is_gone (presence k s)
stays_row s k (shuts j r i under method here) apart = down_set s.editors j k here
stays_row s k (leaves j r exit) apart = ap is_gone (other_set s.editors j k Gone (apart_at_exit k j r exit apart))
stays_row s k (closes j r exit) apart = ap is_gone (other_set s.editors j k Gone (apart_at_exit k j r exit apart))
stays_row s k (ends j r exit) apart = ap is_gone (other_set s.editors j k Gone (apart_at_exit k j r exit apart))
stays_row s k other apart = refl

stays : (s : ProxyState) (k : ℕ) (e : Event) → is_exit_of k e ≡ false → is_gone (presence k (react e s).0) ≡ is_gone (presence k s)
stays s k e apart =
    let x = row s e in
    subst (λ o. is_gone (presence k o.0) ≡ is_gone (presence k s)) x.2 (stays_row s k x.0 (ap (is_exit_of k) x.1 ∙ apart))

-- the method is no other than that of `exit`
none_of_others : (r : RequestData) → says_exit r ≡ true → (r.id ≡ None) × ((name : List ℕ) → bytes_eq (codes "exit") name ≡ false → bytes_eq r.method name ≡ false)
none_of_others r exit =
    let parts = and_parts (is_none r.id) (bytes_eq r.method (codes "exit")) exit in
    (none r.id parts.0, λ name apart. ap (λ m. bytes_eq m name) ((bytes_eq-Decides r.method (codes "exit")).0 parts.1) ∙ apart)
  where
    none : (o : Option IdData) → is_none o ≡ true → o ≡ None
    none None h = refl
    none (Some i) h = absurd (true≢false (sym h))

leave_goes : (s : ProxyState) (j : ℕ) → is_gone (presence j (leave j s).0) ≡ true
unfolding leave closing_drawn
leave_goes s j = go (are_gone_but j 0 s.editors) (nat_lt s.next last_id)
  where
    go : (b c : Bool) → is_gone (presence j (cond {A = Outcome} b (cond c (record (left j s) { next = s.next + 1; closing = Some s.next }) (left j s), answers_internal j s.requested ++ (Server, last_message s.next) ∷ []) (left j s, answers_internal j s.requested)).0) ≡ true
    go true true = own_set s.editors j
    go true false = own_set s.editors j
    go false c = own_set s.editors j

exits : (s : ProxyState) (k : ℕ) (e : Event) → is_exit_of k e ≡ true → is_gone (presence k (react e s).0) ≡ true
unfolding from_editor
exits s k (Server, m) exit = absurd (true≢false (sym exit))
exits s k (Editor j, response r) exit = absurd (true≢false (sym exit))
exits s k (Editor j, request r) exit =
    let parts = and_parts (k == j) (says_exit r) exit in
    subst (λ n. is_gone (presence n (from_editor j (request r) s).0) ≡ true) (sym (eqb-true k j parts.0)) (go (is_gone (presence j s)) refl)
  where
    left_at : is_gone (presence j (call_heard j r None s).0) ≡ true
    left_at =
        let parts = and_parts (k == j) (says_exit r) exit in
        let others = (none_of_others r parts.1).1 in
        let is = (and_parts (is_none r.id) (bytes_eq r.method (codes "exit")) parts.1).1 in
        rw (others (codes "initialize") refl, others (codes "initialized") refl, others (codes "shutdown") refl, is) (leave_goes s j)

    go : (b : Bool) → is_gone (presence j s) ≡ b → is_gone (presence j (cond b (s, []) (call_heard j r r.id s)).0) ≡ true
    go true gone = gone
    go false here =
        let parts = and_parts (k == j) (says_exit r) exit in
        subst (λ o. is_gone (presence j (call_heard j r o s).0) ≡ true) (sym (none_of_others r parts.1).0) left_at

here_below : (n k : ℕ) → k < n → is_gone (presence_in (replicate n Here) k) ≡ false
here_below zero k less = absurd (omega (arith, less))
here_below (suc n) zero less = refl
here_below (suc n) (suc k) less = here_below n k (omega (arith, less))

gone_above : (n k : ℕ) → (k < n → ⊥) → is_gone (presence_in (replicate n Here) k) ≡ true
gone_above zero k above = refl
gone_above (suc n) zero above = absurd (above (omega arith))
gone_above (suc n) (suc k) above = gone_above n k (λ less. above (omega (arith, less)))

here_is : (editors : ℕ) (h : List Event) (k : ℕ) → is_gone (presence k (state_of editors h)) ≡ not (is_here_after editors h k)
here_is editors [] k = go (nat_lt k editors) refl
  where
    go : (b : Bool) → nat_lt k editors ≡ b → is_gone (presence_in (replicate editors Here) k) ≡ not b
    go true is = here_below editors k (ltb-true k editors is)
    go false is = gone_above editors k (λ less. true≢false (sym (lt-ltb k editors less) ∙ is))
here_is editors (e ∷ h) k = go (is_exit_of k e) refl (here_is editors h k)
  where
    go : (b : Bool) → is_exit_of k e ≡ b → is_gone (presence k (state_of editors h)) ≡ not (is_here_after editors h k)
        → is_gone (presence k (react e (state_of editors h)).0) ≡ not (cond b false (is_here_after editors h k))
    go true exit before = exits (state_of editors h) k e exit
    go false apart before = stays (state_of editors h) k e apart ∙ before

pub not_gone_after : (editors : ℕ) (h : List Event) (k : ℕ) → is_here_after editors h k ≡ true → is_gone (presence k (state_of editors h)) ≡ false
not_gone_after editors h k here = here_is editors h k ∙ ap not here

here_after : (editors : ℕ) (h : List Event) (k : ℕ) → is_gone (presence k (state_of editors h)) ≡ false → is_here_after editors h k ≡ true
here_after editors h k is = go (is_here_after editors h k) (sym (here_is editors h k) ∙ is)
  where
    go : (b : Bool) → not b ≡ false → b ≡ true
    go true h = refl
    go false h = absurd (true≢false h)

all_after : (editors : ℕ) (h : List Event) (sent : Sent) → Goes (state_of editors h) sent → AllByRecursion (GoesToOneHere editors h) sent
all_after editors h [] all = tt
all_after editors h ((Server, m) ∷ sent) all = (tt, all_after editors h sent all.1)
all_after editors h ((Editor k, m) ∷ sent) all = (here_after editors h k all.0, all_after editors h sent all.1)

pub none_to_gone : (editors : ℕ) (h : List Event) (e : Event) → AllByRecursion (GoesToOneHere editors h) (react e (state_of editors h)).1
none_to_gone editors h e =
    let x = row (state_of editors h) e in
    all_after editors h (react e (state_of editors h)).1
    (subst (λ o. Goes (state_of editors h) o.1) x.2 (goes_row (state_of editors h) (of_lowest editors h) x.0))
