-- What stands in a desk's history after a talk.
use Rattle.std.proofs.Common.{◌≡◌, ◌≢◌, ◌+◌, ◌*◌, ◌^◌, ℕ, List, [], ◌∷◌, ◌++◌, map, length, get_or, Bool, true, false, cond, refl, sym, ap, ◌∙◌, subst, arith, append_assoc, append-nil, length-append, true≢false, Option, Some, None, Result, Ok, Err}
use Rattle.std.specs.Prelude.{IsPermutation, IsOk, OnOk}
use Rattle.std.specs.List.{sum_by}
use Rattle.std.proofs.lemmas.List.{get_or_at, length-map}
use Rattle.std.proofs.lemmas.List.Sums.{sum_by-cons, sum_by-append}
use Rattle.std.proofs.lemmas.List.Sorted.{IsPermutation-trans, IsPermutation-append_comm, IsPermutation-append_left, sum_by-IsPermutation}
use Rattle.lsp_desk.specs.Call.{Call, Take}
use Rattle.lsp_desk.specs.Reply.{Reply}
use Rattle.lsp_desk.specs.Desk.{DeskState, opening}
use Rattle.lsp_desk.specs.Flow.{put_in, taken_out, all_put, all_taken}
use Rattle.lsp_desk.specs.Trace.{DeskEntry, TraceEntry, Replays, IsReply, Fits, after, entries_of, owns, places, AllBelow}
use Rattle.lsp_desk.proofs.FlowLaws.{messages_pass_lem}
use Rattle.lsp_shared.specs.declared.view.Item.{Item}
use Rattle.lsp_shared.specs.declared.view.View.{View}
use Rattle.lsp_shared.specs.Rule.{run, IsLegal, entry_of, now_of}
use Rattle.lsp_shared.specs.Seats.{entries_seen}
use Rattle.lsp_callers.specs.declared.caller.Heard.{Heard}
use Rattle.lsp_callers.specs.Callers.{all_said_of, heard_shares}
use Rattle.lsp_callers.specs.Counted.{one_sent, messages_in}
use Rattle.lsp_callers.specs.Made.{no_entry, entries_at, entries_made}
use Rattle.lsp_callers.specs.Said.{said_by_all}
use Rattle.lsp_callers.proofs.MadeLemmas.{made_turned, entries_seen-more}
use Rattle.lsp_talk.specs.Hello.{HasServedHello}
use Rattle.lsp_talk.specs.Talk.{EndsTalk, HasTalked}
use Rattle.lsp_talk.proofs.QuietLemmas.{puts, takes, says, hands, IsQuiet, AreQuiet, sum_puts, sum_takes, quiet_says, quiet_puts, quiet_takes, said_says, said_puts, said_takes, said_hands}
use Rattle.lsp_talk.proofs.HelloLemmas.{hello_quiet}
use Rattle.lsp_talk.proofs.WholeLemmas.{whole_history}

-- ---- the session's own entries

own_at : (before : List DeskEntry) (trace : List TraceEntry) (n : ℕ) → length before ≡ n → entries_at (before ++ entries_of trace) (places n trace) ≡ owns trace
own_at before [] n long = refl
own_at before (t ∷ trace) n long =
    let next : length (before ++ t.entry ∷ []) ≡ n + 1 = length-append before (t.entry ∷ []) ∙ omega (arith, long) in
    let h = before ++ t.entry ∷ entries_of trace in
    let same : (before ++ t.entry ∷ []) ++ entries_of trace ≡ h = append_assoc before (t.entry ∷ []) (entries_of trace) in
    let rest : entries_at h (places (n + 1) trace) ≡ owns trace = ap (λ l. entries_at l (places (n + 1) trace)) (sym same) ∙ own_at (before ++ t.entry ∷ []) trace (n + 1) next in
    let here : get_or h n no_entry ≡ t.entry = get_or_at before t.entry (entries_of trace) no_entry n long in
    at t.own rest here
  where
    at : (own : Bool) → entries_at (before ++ t.entry ∷ entries_of trace) (places (n + 1) trace) ≡ owns trace → get_or (before ++ t.entry ∷ entries_of trace) n no_entry ≡ t.entry
        → entries_at (before ++ t.entry ∷ entries_of trace) (cond own (n ∷ places (n + 1) trace) (places (n + 1) trace)) ≡ cond own (t.entry ∷ owns trace) (owns trace)
    at true rest here = ap (λ e. e ∷ entries_at (before ++ t.entry ∷ entries_of trace) (places (n + 1) trace)) here ∙ ap (λ l. t.entry ∷ l) rest
    at false rest here = rest

hello_made : (v : View) (h : HasServedHello v) → entries_made v ≡ owns h.trace
hello_made v h = ap (λ l. entries_at l v.made) h.seen ∙ ap (entries_at (entries_of h.trace)) h.made ∙ own_at [] h.trace 0 refl

-- ---- a legal history

replays_of : (d : DeskState) (xs : List Item) → IsLegal d xs → Replays d (map entry_of xs) (run d xs)
replays_of d [] p = refl
replays_of d (x ∷ xs) p = (p.0, replays_of (after d (entry_of x)) xs p.1)

legal_last : (d : DeskState) (xs : List Item) (x : Item) → IsLegal d (xs ++ x ∷ []) → Fits (run d xs) (entry_of x) × (run d (xs ++ x ∷ []) ≡ after (run d xs) (entry_of x))
legal_last d [] x p = (p.0, refl)
legal_last d (y ∷ xs) x p = legal_last (after d (entry_of y)) xs x p.1

-- what the desk held is taken
record TookAll (d : DeskState) (e : DeskEntry) : Type 0 where
  quiet : IsQuiet e
  left : (after d e).outbox ≡ []

took_all : (d : DeskState) (e : DeskEntry) → e.call ≡ Take → e.reply ≢ None → Fits d e → TookAll d e
took_all d e is some fits = subst (TookAll d) same (by_call e.call e.reply is some fits)
  where
    by_reply : (reply : Option Reply) → reply ≢ None → IsReply d Take reply → TookAll d (record { call = Take; reply = reply })
    by_reply None some fits = absurd (some refl)
    by_reply (Some r) some fits = record {
      quiet = record {
        silent = ap (λ (x : Reply). one_sent (Some x)) fits;
        puts_none = ap (λ (x : Reply). length (put_in Take x)) fits;
        takes_handed = ap (λ (x : Reply). length (taken_out x)) fits ∙ sym (ap (λ (x : Reply). messages_in (Some x)) fits);
      };
      left = refl;
    }

    by_call : (asks : Call) (reply : Option Reply) → asks ≡ Take → reply ≢ None → IsReply d asks reply → TookAll d (record { call = asks; reply = reply })
    by_call asks reply is some fits = subst (λ (k : Call). TookAll d (record { call = k; reply = reply })) (sym is) (by_reply reply some (subst (λ (k : Call). IsReply d k reply) is fits))

    same : record { call = e.call; reply = e.reply } ≡ e
    same = refl

-- ---- the sums of the whole

sum_of : (f : DeskEntry → ℕ) (own said : List DeskEntry) (last : DeskEntry) → sum_by f ((own ++ said) ++ last ∷ []) ≡ sum_by f own + sum_by f said + f last
sum_of f own said last =
    let one = sum_by-append f (own ++ said) (last ∷ []) in
    let two = sum_by-append f own said in
    let three = sum_by-cons f last [] in
    omega (arith, one, two, three)

-- what is put in a desk that holds nothing in the end was taken out
passes : (v : View) → IsLegal opening v.seen → (now_of v.seen).outbox ≡ [] → length (all_put (entries_seen v)) ≡ length (all_taken (entries_seen v))
passes v legal left =
    ap length (messages_pass_lem opening (now_of v.seen) (entries_seen v) (replays_of opening v.seen legal))
    ∙ ap (λ l. length (all_taken (entries_seen v) ++ l)) left ∙ ap length (append-nil (all_taken (entries_seen v)))

record IsSum (clones messages : ℕ) (h : List DeskEntry) : Type 0 where
  sent : sum_by says h ≡ clones * messages
  put : sum_by puts h ≡ clones * messages
  same : sum_by takes h ≡ sum_by hands h

sums : (clones messages : ℕ) (own : List DeskEntry) (last : DeskEntry) (h : List DeskEntry) → AreQuiet own → IsQuiet last → IsPermutation ((own ++ said_by_all clones messages) ++ last ∷ []) h → IsSum clones messages h
sums clones messages own last h own_quiet last_quiet order =
    let said = said_by_all clones messages in
    let list = (own ++ said) ++ last ∷ [] in
    let over : (f : DeskEntry → ℕ) → sum_by f h ≡ sum_by f own + sum_by f said + f last = λ f. sum_by-IsPermutation f list h order ∙ sum_of f own said last in
    let s = over says in
    let p = over puts in
    let t = over takes in
    let k = over hands in
    let s1 = quiet_says own own_quiet in
    let p1 = quiet_puts own own_quiet in
    let t1 = quiet_takes own own_quiet in
    let s2 = said_says clones messages in
    let p2 = said_puts clones messages in
    let t2 = said_takes clones messages in
    let k2 = said_hands clones messages in
    let s3 = last_quiet.silent in
    let p3 = last_quiet.puts_none in
    let t3 = last_quiet.takes_handed in
    record {
      sent = s ∙ omega (arith, s1, s2, s3);
      put = p ∙ omega (arith, p1, p2, p3);
      same = t ∙ omega (arith, t1, t2, t3, k2) ∙ sym k;
    }

-- ---- the talk

pub ok_done : {A E : Type 0} (r : Result A E) (P : Type 0) → IsOk r → OnOk r P → P
ok_done (Ok x) P ok p = p
ok_done (Err e) P ok p = absurd (true≢false (sym ok))

pub talked : (clones messages : ℕ) (v w : View) (heard : List Heard) → HasServedHello v → EndsTalk v heard w → all_said_of heard ≡ said_by_all clones messages → v.share + heard_shares heard ≡ 2 ^ 63
    → HasTalked clones messages (entries_seen w)
talked clones messages v w heard hello ends said_is whole =
    let t = ends.turned in
    let last = entry_of ends.last in
    let own = owns hello.trace in
    let said = said_by_all clones messages in
    let h = entries_seen w in
    let before = ends.mid.seen ++ t.between in
    let more = ends.clients.0 ++ (t.between ++ ends.last ∷ []) in
    let own_quiet : AreQuiet own = hello_quiet hello.trace hello.serves in
    let made : entries_made w ≡ (own ++ said) ++ last ∷ [] =
    made_turned ends.mid w ends.last ends.inside t
    ∙ ap (λ l. l ++ last ∷ []) (ends.said ∙ ap (λ l. l ++ all_said_of heard) (hello_made v hello) ∙ ap (λ l. own ++ l) said_is) in
    let shares : ends.mid.share ≡ 2 ^ 63 = ends.shares ∙ whole in
    let long : length h ≡ length w.seen = length-map w.seen entry_of in
    let order : IsPermutation ((own ++ said) ++ last ∷ []) h =
    subst (λ l. IsPermutation l h) made
    (whole_history h w.made (subst (λ (n : ℕ). AllBelow n w.made) (sym long) t.inside) (λ x less. t.whole shares x (omega (arith, less, long)))) in
    let lastly = legal_last opening before ends.last (subst (IsLegal opening) t.seen t.legal) in
    let took = took_all (run opening before) last ends.asked ends.answered lastly.0 in
    let left : (now_of w.seen).outbox ≡ [] = ap (λ l. (now_of l).outbox) t.seen ∙ ap (λ (d : DeskState). d.outbox) lastly.1 ∙ took.left in
    let all = sums clones messages own last h own_quiet took.quiet order in
    let front : IsPermutation (said ++ (own ++ last ∷ [])) ((own ++ said) ++ last ∷ []) =
    subst (λ l. IsPermutation l ((own ++ said) ++ last ∷ [])) (append_assoc said own (last ∷ []))
    (IsPermutation-append_left (last ∷ []) (said ++ own) (own ++ said) (IsPermutation-append_comm said own)) in
    let silent : sum_by says (own ++ last ∷ []) ≡ 0 =
    (let one = sum_by-append says own (last ∷ []) in let two = sum_by-cons says last [] in let three = quiet_says own own_quiet in let four = took.quiet.silent in omega (arith, one, two, three, four)) in
    let grown : w.seen ≡ v.seen ++ more =
    t.seen ∙ append_assoc ends.mid.seen t.between (ends.last ∷ []) ∙ ap (λ l. l ++ (t.between ++ ends.last ∷ [])) ends.clients.1
    ∙ append_assoc v.seen ends.clients.0 (t.between ++ ends.last ∷ []) in
    record {
      others = own ++ last ∷ [];
      said = IsPermutation-trans (said ++ (own ++ last ∷ [])) ((own ++ said) ++ last ∷ []) h front order;
      silent = silent;
      trace = hello.trace;
      session = hello.serves;
      rest = map entry_of more;
      begins = entries_seen-more v w more grown ∙ ap (λ l. l ++ map entry_of more) hello.seen;
      sent = all.sent;
      delivered = sym all.same ∙ sym (sum_takes h) ∙ sym (passes w t.legal left) ∙ sum_puts h ∙ all.put;
    }
