-- One call more of a caller, and its seat taken in.
use Rattle.std.proofs.Common.{◌≡◌, ◌+◌, ℕ, List, [], ◌∷◌, ◌++◌, length, refl, sym, ap, ◌∙◌, Bool, true, false, true≢false, arith, append_assoc, append-nil, Result, Ok, Err, inl, inr}
use Rattle.std.specs.Prelude.{◌≢◌, Some, None, is_some, OnOk, OnErr, IfOk, IsOk, ◌||◌, ◌⊎◌}
use Rattle.std.specs.Option.{option_or}
use Rattle.std.specs.Result.{result_err}
use Rattle.std.proofs.lemmas.List.Concat.{flat_map-cons}
use Rattle.lsp_desk.specs.declared.call.ClientCall.{ClientCall}
use Rattle.lsp_desk.specs.declared.call.ClientReply.{ClientReply}
use Rattle.lsp_desk.specs.declared.call.ClientReply.TheVariants as client_replies
use Rattle.lsp_desk.specs.declared.call.DeskFault.{DeskFault}
use Rattle.lsp_desk.specs.declared.call.DeskFault.TheVariants as faults
use Rattle.lsp_desk.specs.Call.{Call}
use Rattle.lsp_desk.specs.Shown.{show_client_call, show_client_reply}
use Rattle.lsp_desk.specs.Trace.{DeskEntry, AllBelow}
use Rattle.lsp_shared.specs.declared.view.Asked.TheVariants as asked
use Rattle.lsp_shared.specs.declared.view.Item.{Item}
use Rattle.lsp_shared.specs.declared.view.View.{View}
use Rattle.lsp_shared.specs.Rule.{AllClient}
use Rattle.lsp_shared.specs.Steps.{Turned, AddsClients, Answered, item_for, by_client}
use Rattle.lsp_callers.specs.declared.caller.Heard.{Heard}
use Rattle.lsp_callers.specs.Said.{call_said, entry_said, EndsUnsent}
use Rattle.lsp_callers.specs.Counted.{one_sent}
use Rattle.lsp_callers.specs.Made.{entries_made}
use Rattle.lsp_callers.specs.Callers.{said_of, all_said_of, first_fault}
use Rattle.lsp_callers.proofs.MadeLemmas.{made_turned}

pub said_turned : {A E : Type 0} (v w : View) (call : ClientCall) (reply : ClientReply) (caller n : ℕ) (r : Result A E) → AllBelow (length v.seen) v.made
    → Turned v (item_for by_client (asked.Client call) (Ok reply)) w → show_client_call call ≡ call_said caller n → OnOk r (reply ≡ client_replies.Sent)
    → OnOk r (entries_made w ≡ entries_made v ++ entry_said caller n ∷ [])
said_turned v w call reply caller n (Ok x) inside t is sent =
    made_turned v w _ inside t
    ∙ ap (λ (k : Call). let e : DeskEntry = record { call = k; reply = Some (show_client_reply reply) } in entries_made v ++ e ∷ []) is
    ∙ ap (λ (k : ClientReply). let e : DeskEntry = record { call = call_said caller n; reply = Some (show_client_reply k) } in entries_made v ++ e ∷ []) sent
said_turned v w call reply caller n (Err e) inside t is sent = tt

-- ---- a caller stops

-- the call ended by a fault
pub unsent_fault : (v w : View) (call : ClientCall) (caller n : ℕ) (fault : DeskFault) → AllBelow (length v.seen) v.made → Answered by_client (asked.Client call) v (Err fault) w
    → show_client_call call ≡ call_said caller n → EndsUnsent caller n (entries_made v) (entries_made w)
unsent_fault v w call caller n faults.NoMemory inside t is = record {
  last = Some (record { call = show_client_call call; reply = None });
  made = made_turned v w _ inside t;
  unsent = (is, λ same. true≢false (sym (ap is_some same)));
}
unsent_fault v w call caller n (faults.Spent k) inside t is = record { last = None; made = ap entries_made t.1 ∙ sym (append-nil (entries_made v)); unsent = tt }

-- what holds anyway holds at a fault
pub on_fault : {A E : Type 0} {P : Type 0} (r : Result A E) → P → OnErr r P
on_fault (Ok x) p = tt
on_fault (Err e) p = p

sent_shown : (reply : ClientReply) → one_sent (Some (show_client_reply reply)) ≡ 1 → reply ≡ client_replies.Sent
sent_shown (client_replies.Ticket n i) is = absurd (omega (arith, is))
sent_shown client_replies.Sent is = refl
sent_shown client_replies.Suppressed is = absurd (omega (arith, is))
sent_shown client_replies.NotInitialized is = absurd (omega (arith, is))
sent_shown client_replies.Exited is = absurd (omega (arith, is))
sent_shown (client_replies.Answer r) is = absurd (omega (arith, is))
sent_shown client_replies.Awaited is = absurd (omega (arith, is))
sent_shown client_replies.Gone is = absurd (omega (arith, is))
sent_shown (client_replies.Number n) is = absurd (omega (arith, is))

-- the call had another reply
pub unsent_turned : {A E : Type 0} (v w : View) (call : ClientCall) (reply : ClientReply) (caller n : ℕ) (r : Result A E) → AllBelow (length v.seen) v.made
    → Turned v (item_for by_client (asked.Client call) (Ok reply)) w → show_client_call call ≡ call_said caller n → OnErr r (reply ≢ client_replies.Sent)
    → OnErr r (EndsUnsent caller n (entries_made v) (entries_made w))
unsent_turned v w call reply caller n (Ok x) inside t is other = tt
unsent_turned v w call reply caller n (Err e) inside t is other = record {
  last = Some (record { call = show_client_call call; reply = Some (show_client_reply reply) });
  made = made_turned v w _ inside t;
  unsent = (is, λ same. other (sent_shown reply (ap one_sent same)));
}

-- ---- a seat is taken in

-- both numbers together, or the first fault
pub both_said : (start : List DeskEntry) (v w u : View) (h : Heard) (rest : List Heard) (all one sum : Result ℕ DeskFault) → OnOk sum (IsOk all × IsOk one)
    → OnOk all (entries_made v ++ all_said_of (h ∷ rest) ≡ start) → IfOk one (λ n. (n ≡ h.messages) × (entries_made w ≡ said_of h)) → entries_made u ≡ entries_made v ++ entries_made w
    → OnOk sum (entries_made u ++ all_said_of rest ≡ start)
both_said start v w u h rest (Ok a) (Ok b) (Ok n) both was said made =
    let s = all_said_of rest in
    ap (λ l. l ++ s) made ∙ append_assoc (entries_made v) (entries_made w) s ∙ ap (λ l. entries_made v ++ (l ++ s)) said.1
    ∙ ap (λ l. entries_made v ++ l) (sym (flat_map-cons said_of h rest)) ∙ was
both_said start v w u h rest (Ok a) (Err e) (Ok n) both was said made = absurd (true≢false (sym both.1))
both_said start v w u h rest (Err e) (Ok b) (Ok n) both was said made = absurd (true≢false (sym both.0))
both_said start v w u h rest (Err e) (Err f) (Ok n) both was said made = absurd (true≢false (sym both.0))
both_said start v w u h rest all one (Err f) both was said made = tt

pub both_sent : (P : ℕ → Type 0) (total messages left left2 : ℕ) (all one sum : Result ℕ DeskFault) → OnOk sum (IsOk all × IsOk one) → IfOk sum (λ n. IfOk all (λ a. IfOk one (λ b. n ≡ a + b)))
    → IfOk all (λ a. a + left ≡ total) → IfOk one (λ b. (b ≡ messages) × P b) → left ≡ messages + left2 → IfOk sum (λ n. n + left2 ≡ total)
both_sent P total messages left left2 (Ok a) (Ok b) (Ok n) both adds was said next = omega (arith, adds, was, said.0, next)
both_sent P total messages left left2 (Ok a) (Err e) (Ok n) both adds was said next = absurd (true≢false (sym both.1))
both_sent P total messages left left2 (Err e) (Ok b) (Ok n) both adds was said next = absurd (true≢false (sym both.0))
both_sent P total messages left left2 (Err e) (Err f) (Ok n) both adds was said next = absurd (true≢false (sym both.0))
both_sent P total messages left left2 all one (Err f) both adds was said next = tt

-- the first fault, of those so far and of those that are left
pub first_so_far : (all sum : Result ℕ DeskFault) (h : Heard) (rest : List Heard) → result_err sum ≡ option_or (result_err all) (result_err h.sent)
    → option_or (result_err sum) (first_fault rest) ≡ option_or (result_err all) (first_fault (h ∷ rest))
first_so_far (Ok a) sum h rest first = ap (λ o. option_or o (first_fault rest)) first
first_so_far (Err e) sum h rest first = ap (λ o. option_or o (first_fault rest)) first

pub or_left : (a b : Bool) → a ≡ true → a || b ≡ true
or_left a b is = ap (λ c. c || b) is

pub or_right : (a b : Bool) → b ≡ true → a || b ≡ true
or_right true b is = refl
or_right false b is = is

pub joined_spent_by : {A B : Type 0} (a b : Bool) → A ⊎ B → (A → a ≡ true) → (B → b ≡ true) → a || b ≡ true
joined_spent_by a b (inl x) f h = or_left a b (f x)
joined_spent_by a b (inr y) f h = or_right a b (h y)

AllClient-append : (a b : List Item) → AllClient a → AllClient b → AllClient (a ++ b)
AllClient-append [] b p q = q
AllClient-append (x ∷ a) b p q = (p.0, AllClient-append a b p.1 q)

pub clients_on : (a b c : List Item) → AddsClients a b → AddsClients b c → AddsClients a c
clients_on a b c one two =
    (one.0 ++ two.0, two.1 ∙ ap (λ l. l ++ two.0) one.1 ∙ append_assoc a one.0 two.0, AllClient-append one.0 two.0 one.2 two.2)
