-- Which replies a desk has to a call of a client.
use Rattle.std.proofs.Common.{◌≡◌, ℕ, refl, List, true, false, sym, ap, ◌∙◌, subst, true≢false}
use Rattle.std.specs.Prelude.{Bool, not, Result, Ok, Err, IfOk, Option, Some, None, IsSome, if◌then◌else◌, ◌&&◌}
use Rattle.std.specs.List.{list_any, find}
use Rattle.serde_json.specs.Data.{Data}
use Rattle.lsp_desk.specs.declared.call.ClientReply.{ClientReply}
use Rattle.lsp_desk.specs.declared.call.ClientReply.TheVariants as code
use Rattle.lsp_desk.specs.declared.call.DeskFault.{DeskFault}
use Rattle.lsp_desk.specs.Call.{Call, Ask, Tell, Poll, NextId, call_has_float}
use Rattle.lsp_desk.specs.Reply.{Reply}
use Rattle.lsp_desk.specs.Reply as replies
use Rattle.lsp_desk.specs.Lives.{is_exited, holds_back}
use Rattle.lsp_desk.specs.Desk.{DeskState, KeptData, desk_step, polled, is_kept_for, is_awaited_by}
use Rattle.lsp_desk.specs.Shown.{show_client_reply}
use Rattle.lsp_desk.specs.Meaning.{Meaning, Calls, PollsOn}
use Rattle.lsp_desk.proofs.TraceLemmas.{own_fits}
use Rattle.lsp_shape.specs.Shape.{Shape}
use Rattle.lsp_ask.specs.declared.answers.Asked.{Asked}
use Rattle.lsp_ask.specs.Answers.{asked_of, answered_of}
use Rattle.lsp_ask.specs.Client.{AsksClean, IsAsked, UnlessFloat}
use Rattle.lsp_ask.specs.Shown.{show_asked}

-- the reply is the table's at some state
client_reply_is : {D : Type 0} (m : Meaning D) (old new : D) (call : Call) (reply : ClientReply) → Calls m show_client_reply old call (Ok reply) new → (mid : DeskState) × (show_client_reply reply ≡ (desk_step mid call).0)
client_reply_is m old new call reply p = own_fits (m.now old) (m.now new) p.trace (record { call = call; reply = Some (show_client_reply reply) }) p.grows.replays p.adds

-- the first where that holds, the second where the other does, and else the third
abbrev pub one_of : Bool → Bool → Reply × DeskState → Reply × DeskState → Reply × DeskState → Reply × DeskState
one_of held ended a b c = if held then a else (if ended then b else c)

-- ---- a notification

abbrev pub is_tell_reply : Reply → Bool
is_tell_reply replies.Sent = true
is_tell_reply replies.Suppressed = true
is_tell_reply replies.Exited = true
is_tell_reply _ = false

tell_replies : (held ended : Bool) (d s : DeskState) → is_tell_reply (one_of held ended (replies.Suppressed, d) (replies.Exited, d) (replies.Sent, s)).0 ≡ true
tell_replies true ended d s = refl
tell_replies false true d s = refl
tell_replies false false d s = refl

no_other : (r : ClientReply) → is_tell_reply (show_client_reply r) ≡ true → (r ≡ code.Sent → ⊥) → (r ≡ code.Suppressed → ⊥) → (r ≡ code.Exited → ⊥) → ⊥
no_other (code.Ticket n i) is sent suppressed exited = true≢false (sym is)
no_other code.Sent is sent suppressed exited = sent refl
no_other code.Suppressed is sent suppressed exited = suppressed refl
no_other code.NotInitialized is sent suppressed exited = true≢false (sym is)
no_other code.Exited is sent suppressed exited = exited refl
no_other (code.Answer r) is sent suppressed exited = true≢false (sym is)
no_other code.Awaited is sent suppressed exited = true≢false (sym is)
no_other code.Gone is sent suppressed exited = true≢false (sym is)
no_other (code.Number n) is sent suppressed exited = true≢false (sym is)

pub tells : {D : Type 0} (m : Meaning D) (old new : D) (method : List ℕ) (params : Data) (gated : Bool) (reply : ClientReply) → Calls m show_client_reply old (Tell method params gated) (Ok reply) new
    → (reply ≡ code.Sent → ⊥) → (reply ≡ code.Suppressed → ⊥) → (reply ≡ code.Exited → ⊥) → ⊥
tells m old new method params gated reply p =
    let is = client_reply_is m old new (Tell method params gated) reply p in
    no_other reply (ap is_tell_reply is.1 ∙ tell_replies (gated && holds_back is.0.life) (is_exited is.0.life) is.0 _)

-- ---- a request

ask_replies : (held ended : Bool) (d s : DeskState) (n : ℕ) (i : _) → IsSome (asked_of (one_of held ended (replies.NotInitialized, d) (replies.Exited, d) (replies.Ticket n i, s)).0)
ask_replies true ended d s n i = refl
ask_replies false true d s n i = refl
ask_replies false false d s n i = refl

pub asks : {D : Type 0} (m : Meaning D) (old new : D) (method : List ℕ) (params : Data) (gated : Bool) (reply : ClientReply) → Calls m show_client_reply old (Ask method params gated) (Ok reply) new
    → IsSome (asked_of (show_client_reply reply))
asks m old new method params gated reply p =
    let is = client_reply_is m old new (Ask method params gated) reply p in
    let P : Reply → Type 0 = λ r. IsSome (asked_of r) in
    subst P (sym is.1) (ask_replies (gated && holds_back is.0.life) (is_exited is.0.life) is.0 _ _ _)

unless : (P Q : Type 0) (b : Bool) → true ≡ not b → P → UnlessFloat b P Q
unless P Q false e p = p
unless P Q true e p = cc

-- one that holds no float is made
pub is_made : {D R : Type 0} (m : Meaning D) (old new : D) (call : Call) (result : Result (Asked R) DeskFault) → true ≡ not (call_has_float call) → IfOk result (λ asked. PollsOn m old new (AsksClean call (show_asked asked)))
    → IfOk result (λ asked. PollsOn m old new (IsAsked call (show_asked asked)))
is_made m old new made (Ok asked) clean p = record { trace = p.trace; grows = p.grows; holds = unless _ _ (call_has_float made) clean p.holds }
is_made m old new made (Err fault) clean p = p

-- ---- an answer

poll_replies : (s : Shape) (n : ℕ) (d : DeskState) (k : Option KeptData) → IsSome (answered_of s n (polled d n k).0)
poll_replies s n d None = at (list_any (is_awaited_by n) d.awaited)
  where
    at : (b : Bool) → IsSome (answered_of s n (if b then replies.Awaited else replies.Gone))
    at true = refl
    at false = refl
poll_replies s n d (Some k) = refl

pub polls : {D : Type 0} (m : Meaning D) (old new : D) (s : Shape) (n : ℕ) (reply : ClientReply) → Calls m show_client_reply old (Poll n) (Ok reply) new → IsSome (answered_of s n (show_client_reply reply))
polls m old new s n reply p =
    let is = client_reply_is m old new (Poll n) reply p in
    let P : Reply → Type 0 = λ r. IsSome (answered_of s n r) in
    subst P (sym is.1) (poll_replies s n is.0 (find (is_kept_for n) is.0.kept))

-- ---- an id

no_number : (r : ClientReply) (n : ℕ) → show_client_reply r ≡ replies.Number n → ((m : ℕ) → r ≡ code.Number m → ⊥) → ⊥
no_number (code.Ticket m i) n e none = cc
no_number code.Sent n e none = cc
no_number code.Suppressed n e none = cc
no_number code.NotInitialized n e none = cc
no_number code.Exited n e none = cc
no_number (code.Answer r) n e none = cc
no_number code.Awaited n e none = cc
no_number code.Gone n e none = cc
no_number (code.Number m) n e none = none m refl

pub draws : {D : Type 0} (m : Meaning D) (old new : D) (reply : ClientReply) → Calls m show_client_reply old NextId (Ok reply) new → ((n : ℕ) → reply ≡ code.Number n → ⊥) → ⊥
draws m old new reply p none = let is = client_reply_is m old new NextId reply p in no_number reply is.0.next_id is.1 none
