-- Each step draws at most one id, the next one.
use Rattle.std.proofs.Common.{◌≡◌, ◌<◌, ◌≤◌, ◌+◌, arith, ℕ, List, [], ◌∷◌, ◌++◌, Bool, true, false, cond, Option, Some, None, option_and_then, Result, map, nat_lt, refl, sym, ap, ◌∙◌, subst, inl, inr, ◌⊎◌}
use Rattle.std.specs.Prelude.{⊤}
use Rattle.std.specs.List.{AllByRecursion, filter}
use Rattle.serde_json.specs.Data.{Data}
use Rattle.lsp_rpc.specs.Message.{IdData, ErrorData, RequestData, MessageData, response, request}
use Rattle.lsp_rpc.specs.Ids.{same_id, same_id-Decides}
use Rattle.lsp_proxy.specs.declared.side.Side.{Side}
use Rattle.lsp_proxy.specs.declared.side.Side.TheVariants.{Server, Editor}
use Rattle.lsp_proxy.specs.Entries.{AskerData, Entry}
use Rattle.lsp_rpc.specs.Cancel.{cancelled_id}
use Rattle.lsp_proxy.specs.Proxy.{ProxyState, Sent, Outcome, drawn, bare, cancel_limit, shutdown_request, exit_note, refused, answers_internal, cancel_note, is_asked_by, cancel_passed, asked_place, answered_to, is_here_in, is_here, first_requested, cancel_entry, here_from}
use Rattle.lsp_proxy.specs.Law.{Event, react, sent_over, request_ids, with_id_of, with_some, AreDistinct}
use Rattle.lsp_proxy.proofs.RowLemmas.{Row, begins, passes, leaves, closes, ends, cancels, opens, returns, calls, server_cancels, tells, after, sent_at, by_rows}

with_id_of-append : (m : MessageData) (xs ys : List IdData) → with_id_of m (xs ++ ys) ≡ with_id_of m xs ++ ys
with_id_of-append (response r) xs ys = refl
with_id_of-append (request r) xs ys = go r.id
  where
    go : (o : Option IdData) → with_some o (xs ++ ys) ≡ with_some o xs ++ ys
    go None = refl
    go (Some i) = refl

request_ids-append : (xs ys : Sent) → request_ids (xs ++ ys) ≡ request_ids xs ++ request_ids ys
request_ids-append [] ys = refl
request_ids-append (x ∷ xs) ys = ap (with_id_of x.1) (request_ids-append xs ys) ∙ with_id_of-append x.1 (request_ids xs) (request_ids ys)

-- ---- what holds no request

no_ids_refused : (es : List Entry) → request_ids (map refused es) ≡ []
no_ids_refused [] = refl
no_ids_refused (e ∷ es) = no_ids_refused es

no_ids_answered : (body : Result Data ErrorData) (askers : List AskerData) → request_ids (map (answered_to body) askers) ≡ []
no_ids_answered body [] = refl
no_ids_answered body (a ∷ askers) = no_ids_answered body askers

no_ids_noted : (r : RequestData) (ks : List ℕ) → request_ids (map (λ k. (Editor k, request (bare r))) ks) ≡ []
no_ids_noted r [] = refl
no_ids_noted r (k ∷ ks) = no_ids_noted r ks

no_ids_cancel : (to : Side) (o : Option ℕ) → request_ids (cancel_passed to o) ≡ []
no_ids_cancel to None = refl
no_ids_cancel to (Some n) = go (nat_lt n cancel_limit)
  where
    go : (b : Bool) → request_ids (cond b ((to, cancel_note n) ∷ []) []) ≡ []
    go true = refl
    go false = refl

no_ids_entry : (o : Option Entry) → request_ids (cancel_entry o) ≡ []
no_ids_entry None = refl
no_ids_entry (Some e) = no_ids_cancel (Editor e.asker.editor) (Some e.n)

no_ids_returned : (b : Bool) (body : Result Data ErrorData) (a : AskerData) → request_ids (cond b (answered_to body a ∷ []) []) ≡ []
no_ids_returned true body a = refl
no_ids_returned false body a = refl

-- ---- row by row

-- nothing is drawn, or the next id is
abbrev Draws : ProxyState → Outcome → Type 0
Draws s o = ((request_ids o.1 ≡ []) × (o.0.next ≡ s.next)) ⊎ ((request_ids o.1 ≡ drawn s.next ∷ []) × (o.0.next ≡ s.next + 1))

-- one more message after the refusals of an editor's
ids_last : (k : ℕ) (s : ProxyState) (m : MessageData) → request_ids (answers_internal k s.requested ++ (Server, m) ∷ []) ≡ with_id_of m []
ids_last k s m =
    request_ids-append (answers_internal k s.requested) ((Server, m) ∷ [])
    ∙ ap (λ ids. ids ++ with_id_of m []) (no_ids_refused (filter (is_asked_by k) s.requested))

draws_row : (s : ProxyState) (x : Row s) → Draws s (after x, sent_at x)
draws_row s (begins k r i under method is) = inr (refl, refl)
draws_row s (passes k r i under) = inr (refl, refl)
draws_row s (leaves k r exit) = inl (no_ids_refused (filter (is_asked_by k) s.requested), refl)
draws_row s (closes k r exit) = inr (ids_last k s (shutdown_request s.next), refl)
draws_row s (ends k r exit) = inl (ids_last k s exit_note, refl)
draws_row s (cancels k r) = inl (no_ids_cancel Server (asked_place k (cancelled_id r.params) s), refl)
draws_row s (opens r n m askers under is at) = inl (no_ids_answered r.body (filter (is_here_in s.editors) askers), refl)
draws_row s (returns r n a under at apart) = inl (no_ids_returned (is_here s a) r.body a, refl)
draws_row s (calls k r i under to) = inr (refl, refl)
draws_row s (server_cancels r) = inl (no_ids_entry (option_and_then (λ i. first_requested i s.requested) (cancelled_id r.params)), refl)
draws_row s (tells r) = inl (no_ids_noted r (here_from 0 s.editors), refl)
draws_row s other = inl (refl, refl)

draws : (e : Event) (s : ProxyState) → Draws s (react e s)
draws e s = by_rows (λ t d o. Draws t o) draws_row s e

-- ---- over all events

abbrev IsFrom : ℕ → List IdData → Type 0
IsFrom n [] = ⊤
IsFrom n (i ∷ ids) = (m : ℕ) × (i ≡ drawn m) × (n ≤ m) × IsFrom (m + 1) ids

from_step : (o : Outcome) (ids : List IdData) (s : ProxyState) → Draws s o → IsFrom o.0.next ids → IsFrom s.next (request_ids o.1 ++ ids)
from_step o ids s (inl none) later = subst (λ l. IsFrom s.next (l ++ ids)) (sym none.0) (subst (λ n. IsFrom n ids) none.1 later)
from_step o ids s (inr one) later =
    let rest : IsFrom (s.next + 1) ids = subst (λ n. IsFrom n ids) one.1 later in
    subst (λ l. IsFrom s.next (l ++ ids)) (sym one.0) (s.next, refl, omega arith, rest)

from_next : (es : List Event) (s : ProxyState) → IsFrom s.next (request_ids (sent_over es s))
from_next [] s = tt
from_next (e ∷ es) s = subst (IsFrom s.next) (sym (request_ids-append (react e s).1 (sent_over es (react e s).0))) (from_step (react e s) (request_ids (sent_over es (react e s).0)) s (draws e s) (from_next es (react e s).0))

apart_ids : (m p : ℕ) → m < p → same_id (drawn m) (drawn p) ≡ false
apart_ids m p less = go (same_id (drawn m) (drawn p)) refl
  where
    go : (b : Bool) → same_id (drawn m) (drawn p) ≡ b → b ≡ false
    go true is =
        let same_ids : drawn m ≡ drawn p = (same_id-Decides (drawn m) (drawn p)).0 is in
        let same : m ≡ p = cc in
        absurd (omega arith)
    go false is = refl

apart_from : (m : ℕ) (ids : List IdData) (n : ℕ) → m < n → IsFrom n ids → AllByRecursion (λ j. same_id (drawn m) j ≡ false) ids
apart_from m [] n less h = tt
apart_from m (i ∷ ids) n less h = (ap (same_id (drawn m)) h.1 ∙ apart_ids m h.0 (omega (arith, h.2)), apart_from m ids (h.0 + 1) (omega (arith, h.2)) h.3)

distinct_from : (n : ℕ) (ids : List IdData) → IsFrom n ids → AreDistinct ids
distinct_from n [] h = tt
distinct_from n (i ∷ ids) h = (
  subst (λ j. AllByRecursion (λ l. same_id j l ≡ false) ids) (sym h.1) (apart_from h.0 ids (h.0 + 1) (omega arith) h.3),
  distinct_from (h.0 + 1) ids h.3,
)

pub ids_distinct : (es : List Event) (s : ProxyState) → AreDistinct (request_ids (sent_over es s))
ids_distinct es s = distinct_from s.next (request_ids (sent_over es s)) (from_next es s)
