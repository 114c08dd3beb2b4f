-- What is delivered, as a history grows.
use Rattle.std.proofs.Common.{◌≡◌, ◌+◌, ◌%◌, ◌^◌, ℕ, true, false, List, [], ◌∷◌, ◌++◌, map, length, refl, sym, ap, ◌∙◌, arith, Option, Result, Ok, Err, true≢false}
use Rattle.std.proofs.Math.Nat.{mod-add-mod}
use Rattle.std.specs.List.{sum_by}
use Rattle.std.proofs.lemmas.List.{map-append}
use Rattle.std.proofs.lemmas.List.Sums.{sum_by-cons, sum_by-append}
use Rattle.lsp_desk.specs.declared.call.ClientCall.{ClientCall}
use Rattle.lsp_desk.specs.declared.call.ClientCall.TheVariants as client_calls
use Rattle.lsp_desk.specs.declared.call.ClientReply.{ClientReply}
use Rattle.lsp_desk.specs.declared.call.ServerCall.{ServerCall}
use Rattle.lsp_desk.specs.declared.call.ServerReply.{ServerReply}
use Rattle.lsp_desk.specs.declared.call.DeskFault.{DeskFault}
use Rattle.lsp_desk.specs.declared.call.DeskFault.TheVariants as faults
use Rattle.lsp_desk.specs.Shown.{show_client_call, show_server_call}
use Rattle.lsp_desk.specs.Call.{Call, is_client}
use Rattle.lsp_desk.specs.Call as calls
use Rattle.lsp_desk.specs.Reply.{Reply}
use Rattle.lsp_desk.specs.Trace.{DeskEntry}
use Rattle.lsp_shared.specs.declared.view.Asked.TheVariants as asked
use Rattle.lsp_shared.specs.declared.view.Item.{Item}
use Rattle.lsp_shared.specs.declared.view.View.{View}
use Rattle.lsp_shared.specs.Rule.{AllClient, call_of, reply_of, entry_of}
use Rattle.lsp_shared.specs.Steps.{Turned, AddsClients, Answered, reading, by_client, by_server}
use Rattle.lsp_shared.specs.Seats.{entries_seen}
use Rattle.lsp_callers.specs.Counted.{messages_in, handed_out, delivered_in}
use Rattle.lsp_callers.specs.Given.{is_take, messages_given}

-- a call of a server is no `Take`
pub client_delivers : (c : Call) (reply : Option Reply) → is_client c ≡ true → handed_out c reply ≡ 0
client_delivers (calls.Ask method params gated) reply is = refl
client_delivers (calls.Tell method params gated) reply is = refl
client_delivers (calls.Raw r) reply is = refl
client_delivers (calls.Poll ticket) reply is = refl
client_delivers calls.NextId reply is = refl
client_delivers calls.Look reply is = absurd (true≢false (sym is))
client_delivers (calls.Rise life) reply is = absurd (true≢false (sym is))
client_delivers calls.Fall reply is = absurd (true≢false (sym is))
client_delivers (calls.Answer r) reply is = absurd (true≢false (sym is))
client_delivers calls.Next reply is = absurd (true≢false (sym is))
client_delivers calls.Take reply is = absurd (true≢false (sym is))
client_delivers calls.Close reply is = absurd (true≢false (sym is))

pub clients_deliver : (xs : List Item) → AllClient xs → delivered_in (map entry_of xs) ≡ 0
clients_deliver [] all = refl
clients_deliver (x ∷ xs) all =
    let rest = clients_deliver xs all.1 in
    let here = client_delivers (call_of x.asked) (reply_of x.replied) all.0 in
    let both = sum_by-cons (λ (e : DeskEntry). handed_out e.call e.reply) (entry_of x) (map entry_of xs) in
    omega (arith, rest, here, both)

delivered_both : (xs ys : List Item) → delivered_in (map entry_of (xs ++ ys)) ≡ delivered_in (map entry_of xs) + delivered_in (map entry_of ys)
delivered_both xs ys = ap delivered_in (map-append entry_of xs ys) ∙ sum_by-append (λ (e : DeskEntry). handed_out e.call e.reply) (map entry_of xs) (map entry_of ys)

-- calls of servers deliver nothing
pub delivered_clients : (v w : View) → AddsClients v.seen w.seen → delivered_in (entries_seen w) ≡ delivered_in (entries_seen v)
delivered_clients v w adds =
    let both = delivered_both v.seen adds.0 in
    let none = clients_deliver adds.0 adds.2 in
    ap (λ l. delivered_in (map entry_of l)) adds.1 ∙ omega (arith, both, none)

-- and a call of the owner's as much as its reply says
pub delivered_turned : (v w : View) (item : Item) → v.owner ≡ true → Turned v item w → delivered_in (entries_seen w) ≡ delivered_in (entries_seen v) + handed_out (call_of item.asked) (reply_of item.replied)
delivered_turned v w item owner t =
    let one = delivered_both (v.seen ++ t.between) (item ∷ []) in
    let two = delivered_both v.seen t.between in
    let none = clients_deliver t.between (t.clients owner) in
    let last = sum_by-cons (λ (e : DeskEntry). handed_out e.call e.reply) (entry_of item) [] in
    ap (λ l. delivered_in (map entry_of l)) t.seen ∙ omega (arith, one, two, none, last)

-- ---- the count that a seat keeps

same_seen : (v w : View) (n k : ℕ) → n ≡ delivered_in (entries_seen v) % 2 ^ 64 → w ≡ reading v k → n ≡ delivered_in (entries_seen w) % 2 ^ 64
same_seen v w n k was is = was ∙ ap (λ (x : View). delivered_in (entries_seen x) % 2 ^ 64) (sym is)

counted_turned : (v w : View) (item : Item) (n : ℕ) → v.owner ≡ true → handed_out (call_of item.asked) (reply_of item.replied) ≡ 0 → Turned v item w
    → n ≡ delivered_in (entries_seen v) % 2 ^ 64 → n ≡ delivered_in (entries_seen w) % 2 ^ 64
counted_turned v w item n owner none t was =
    let same : delivered_in (entries_seen w) ≡ delivered_in (entries_seen v) = let d = delivered_turned v w item owner t in omega (arith, d, none) in
    was ∙ ap (λ (k : ℕ). k % 2 ^ 64) (sym same)

shown_client : (call : ClientCall) → is_client (show_client_call call) ≡ true
shown_client (client_calls.Ask method params gated) = refl
shown_client (client_calls.Tell method params gated) = refl
shown_client (client_calls.Raw r) = refl
shown_client (client_calls.Poll ticket) = refl
shown_client client_calls.NextId = refl

pub counted_client : (v w : View) (call : ClientCall) (result : Result ClientReply DeskFault) (n : ℕ) → v.owner ≡ true → Answered by_client (asked.Client call) v result w
    → n ≡ delivered_in (entries_seen v) % 2 ^ 64 → n ≡ delivered_in (entries_seen w) % 2 ^ 64
counted_client v w call (Ok reply) n owner t was = counted_turned v w _ n owner (client_delivers (show_client_call call) _ (shown_client call)) t was
counted_client v w call (Err faults.NoMemory) n owner t was = counted_turned v w _ n owner (client_delivers (show_client_call call) _ (shown_client call)) t was
counted_client v w call (Err (faults.Spent k)) n owner p was = same_seen v w n k was p.1

-- only a `Take` delivers anything
other_delivers : (c : Call) (reply : Option Reply) → is_take c ≡ false → handed_out c reply ≡ 0
other_delivers (calls.Ask method params gated) reply is = refl
other_delivers (calls.Tell method params gated) reply is = refl
other_delivers (calls.Raw r) reply is = refl
other_delivers (calls.Poll ticket) reply is = refl
other_delivers calls.NextId reply is = refl
other_delivers calls.Look reply is = refl
other_delivers (calls.Rise life) reply is = refl
other_delivers calls.Fall reply is = refl
other_delivers (calls.Answer r) reply is = refl
other_delivers calls.Next reply is = refl
other_delivers calls.Take reply is = absurd (true≢false is)
other_delivers calls.Close reply is = refl

take_delivers : (c : Call) (reply : Option Reply) → is_take c ≡ true → handed_out c reply ≡ messages_in reply
take_delivers (calls.Ask method params gated) reply is = absurd (true≢false (sym is))
take_delivers (calls.Tell method params gated) reply is = absurd (true≢false (sym is))
take_delivers (calls.Raw r) reply is = absurd (true≢false (sym is))
take_delivers (calls.Poll ticket) reply is = absurd (true≢false (sym is))
take_delivers calls.NextId reply is = absurd (true≢false (sym is))
take_delivers calls.Look reply is = absurd (true≢false (sym is))
take_delivers (calls.Rise life) reply is = absurd (true≢false (sym is))
take_delivers calls.Fall reply is = absurd (true≢false (sym is))
take_delivers (calls.Answer r) reply is = absurd (true≢false (sym is))
take_delivers calls.Next reply is = absurd (true≢false (sym is))
take_delivers calls.Take reply is = refl
take_delivers calls.Close reply is = absurd (true≢false (sym is))

pub counted_server : (v w : View) (call : ServerCall) (result : Result ServerReply DeskFault) (n : ℕ) → v.owner ≡ true → is_take (show_server_call call) ≡ false
    → Answered by_server (asked.Server call) v result w → n ≡ delivered_in (entries_seen v) % 2 ^ 64 → n ≡ delivered_in (entries_seen w) % 2 ^ 64
counted_server v w asks (Ok reply) n owner is t was = counted_turned v w _ n owner (other_delivers (show_server_call asks) _ is) t was
counted_server v w asks (Err faults.NoMemory) n owner is t was = counted_turned v w _ n owner (other_delivers (show_server_call asks) _ is) t was
counted_server v w asks (Err (faults.Spent k)) n owner is p was = same_seen v w n k was p.1

taken_turned : (v w : View) (item : Item) (n given : ℕ) → v.owner ≡ true → handed_out (call_of item.asked) (reply_of item.replied) ≡ given → Turned v item w
    → n ≡ delivered_in (entries_seen v) % 2 ^ 64 → (n + given) % 2 ^ 64 ≡ delivered_in (entries_seen w) % 2 ^ 64
taken_turned v w item n given owner is t was =
    let more : delivered_in (entries_seen v) + given ≡ delivered_in (entries_seen w) = let d = delivered_turned v w item owner t in omega (arith, d, is) in
    ap (λ (k : ℕ). (k + given) % 2 ^ 64) was ∙ mod-add-mod (delivered_in (entries_seen v)) (2 ^ 64) given ∙ ap (λ (k : ℕ). k % 2 ^ 64) more

none_more : (n m : ℕ) → n ≡ m % 2 ^ 64 → (n + 0) % 2 ^ 64 ≡ n
none_more n m is = grind (arith, is)

pub counted_take : (v w : View) (call : ServerCall) (result : Result ServerReply DeskFault) (n : ℕ) → v.owner ≡ true → is_take (show_server_call call) ≡ true
    → Answered by_server (asked.Server call) v result w → n ≡ delivered_in (entries_seen v) % 2 ^ 64 → (n + messages_given result) % 2 ^ 64 ≡ delivered_in (entries_seen w) % 2 ^ 64
counted_take v w asks (Ok reply) n owner is t was = taken_turned v w _ n _ owner (take_delivers (show_server_call asks) _ is) t was
counted_take v w asks (Err faults.NoMemory) n owner is t was = taken_turned v w _ n _ owner (take_delivers (show_server_call asks) _ is) t was
counted_take v w asks (Err (faults.Spent k)) n owner is p was = none_more n (delivered_in (entries_seen v)) was ∙ same_seen v w n k was p.1
