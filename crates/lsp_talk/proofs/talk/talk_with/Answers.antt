-- What the callers said stands in the history, and the line is that of the history.
use Rattle.std.proofs.Common.{◌≡◌, ◌+◌, ◌*◌, ◌^◌, ◌<◌, ℕ, List, length, sym, ap, ◌∙◌, subst, arith, Result, Ok}
use Rattle.std.specs.Prelude.{IfOk}
use Rattle.std.specs.List.{AllZip}
use Rattle.atomic_table.specs.Seated.{TableId}
use Rattle.lsp_desk.specs.Trace.{DeskEntry}
use Rattle.lsp_shared.specs.declared.view.View.{View}
use Rattle.lsp_shared.specs.Seats.{seat_desk, entries_seen}
use Rattle.lsp_callers.specs.declared.caller.Idle.{Idle}
use Rattle.lsp_callers.specs.declared.caller.Heard.{Heard}
use Rattle.lsp_callers.specs.Callers.{AreHeardOn, ComesOf, all_said_of, messages_of, heard_shares}
use Rattle.lsp_callers.specs.Said.{said_by_all}
use Rattle.lsp_callers.specs.Counted.{sent_in, delivered_in}
use Rattle.lsp_callers.specs.Tallies.{tallied_view}
use Rattle.lsp_callers.proofs.HeardLemmas.{all_heard, all_said, all_shares, all_counted}
use Rattle.lsp_talk.specs.Hello.{HasServedHello}
use Rattle.lsp_talk.specs.Talk.{HasTalked, talk_line, WroteLine, WroteLinePart}
use Rattle.lsp_talk.proofs.LineLemmas.{no_line, few_said, line_is, wrote_line, wrote_part}
use Rattle.lsp_talk.proofs.TalkLemmas.{talked, ok_done}
use Rattle.lsp_talk.proofs.talk.talk_with.Given as given
use Rattle.lsp_talk.proofs.talk.talk_with.Goals as goal

comes : {A E : Type 0} (result : Result A E) (heard : A) (items : A → List Heard) (messages : ℕ) (callers : List Idle) → result ≡ Ok heard
    → IfOk result (λ h. AllZip (ComesOf messages) callers (items h)) → AllZip (ComesOf messages) callers (items heard)
comes {A} {E} result heard items messages callers is all = subst (λ (r : Result A E). IfOk r (λ h. AllZip (ComesOf messages) callers (items h))) is all

pub returns-in_default-heard-clause-part : goal.returns-in_default-heard-clause-part
returns-in_default-heard-clause-part g c = λ low. no_line _ (g.O.Sink.taken c.args.sink.now)

pub end-requires-clause-heard : goal.end-requires-clause-heard
end-requires-clause-heard g c κs within =
    let idle = c.in-Ok-idle_callers.ensures.idle in
    let callers = c.in-Ok-idle_callers.callers.items in
    let heard = c.in-Ok-heard.heard.items in
    let all = comes c.talk_beside-heard.result.0 c.in-Ok-heard.heard (λ h. h.items) c.args.messages callers c.in-Ok-heard.is c.talk_beside-heard.ensures.heard in
    subst (λ (d : TableId). AreHeardOn d heard) (sym (c.desk-desk.ensures ∙ c.in-Ok-idle_callers.ensures.kept.1)) (all_heard (seat_desk c.args.owner) c.args.messages 0 callers heard idle.0 all)

pub end-requires-clause-fits : goal.end-requires-clause-fits
end-requires-clause-fits g c κs within =
    let idle = c.in-Ok-idle_callers.ensures.idle in
    let callers = c.in-Ok-idle_callers.callers.items in
    let heard = c.in-Ok-heard.heard.items in
    let all = comes c.talk_beside-heard.result.0 c.in-Ok-heard.heard (λ h. h.items) c.args.messages callers c.in-Ok-heard.is c.talk_beside-heard.ensures.heard in
    subst (λ (n : ℕ). n < 2 ^ 64) (sym (all_counted c.args.messages callers heard all ∙ ap (λ (n : ℕ). n * c.args.messages) idle.1))
    (few_said c.args.clones c.args.messages c.requires.clones c.requires.messages)

-- where the talk has gone well, whether or not its line was written
module _ (g : given.Over) (c : goal.After-into_owner-in-Ok-end g) where
  abbrev history : List DeskEntry
  history = entries_seen (tallied_view c.end.new.tallied)

  has_talked : HasTalked c.args.clones c.args.messages history
  has_talked =
      let idle = c.in-Ok-idle_callers.ensures.idle in
      let callers = c.in-Ok-idle_callers.callers.items in
      let heard = c.in-Ok-heard.heard.items in
      let all = comes c.talk_beside-heard.result.0 c.in-Ok-heard.heard (λ h. h.items) c.args.messages callers c.in-Ok-heard.is c.talk_beside-heard.ensures.heard in
      let served = c.talk_beside-heard.ensures.served in
      let v = tallied_view c.sit-tallied.result in
      let sits = c.sit-tallied.ensures.0 in
      let w = tallied_view c.end.new.tallied in
      let many : 0 + length callers ≡ c.args.clones = (let l = idle.1 in omega (arith, l)) in
      let said : all_said_of heard ≡ said_by_all c.args.clones c.args.messages =
      all_said (seat_desk c.args.owner) c.args.messages 0 callers heard idle.0 all ∙ ap (λ (k : ℕ). said_by_all k c.args.messages) many in
      let whole : v.share + heard_shares heard ≡ 2 ^ 63 =
      (let one = served.keeps.share in let sat = ap (λ (x : View). x.share) sits in let two = ap (λ (x : View). x.share) (c.rest-tally.ensures.0 ∙ c.new-tallied.ensures.0) in let three = c.in-Ok-idle_callers.ensures.shares in
      let four = all_shares c.args.messages callers heard all in omega (arith, one, sat, two, three, four)) in
      talked c.args.clones c.args.messages v w heard
      (subst HasServedHello (sym sits) (ok_done c.talk_beside-heard.result.1.0 _ c.in-Ok-end.ensures.served served.done)) c.in-Ok-end.ensures.ended said whole

  counts : talk_line c.in-Ok-end.sent c.delivered.result ≡ talk_line (sent_in history) (delivered_in history)
  counts =
      let idle = c.in-Ok-idle_callers.ensures.idle in
      let callers = c.in-Ok-idle_callers.callers.items in
      let heard = c.in-Ok-heard.heard.items in
      let all = comes c.talk_beside-heard.result.0 c.in-Ok-heard.heard (λ h. h.items) c.args.messages callers c.in-Ok-heard.is c.talk_beside-heard.ensures.heard in
      let counted : messages_of heard ≡ c.args.clones * c.args.messages = all_counted c.args.messages callers heard all ∙ ap (λ (n : ℕ). n * c.args.messages) idle.1 in
      line_is c.args.clones c.args.messages c.in-Ok-end.sent c.delivered.result history has_talked
      (few_said c.args.clones c.args.messages c.requires.clones c.requires.messages) (c.in-Ok-end.ensures.sent ∙ counted) c.delivered.ensures

pub returns-in-Ok-end-clause-talked : goal.returns-in-Ok-end-clause-talked
returns-in-Ok-end-clause-talked g c = λ zero.
    subst (λ (x : View). HasTalked c.args.clones c.args.messages (entries_seen x)) (sym c.into_owner-in-Ok-end.ensures.0)
    (has_talked g c)

pub returns-in-Ok-end-clause-unwritten : goal.returns-in-Ok-end-clause-unwritten
returns-in-Ok-end-clause-unwritten g c = λ four.
    subst (λ (x : View). HasTalked c.args.clones c.args.messages (entries_seen x)) (sym c.into_owner-in-Ok-end.ensures.0)
    (has_talked g c)

pub returns-in-Ok-end-clause-wrote : goal.returns-in-Ok-end-clause-wrote
returns-in-Ok-end-clause-wrote g c = λ zero.
    let taken = g.O.Sink.taken c.args.sink.now in
    let taken_after = g.O.Sink.taken c.write_sums-status.new.sink in
    subst (λ (x : View). WroteLine (entries_seen x) taken taken_after) (sym c.into_owner-in-Ok-end.ensures.0)
    (wrote_line (history g c) _ taken taken_after (counts g c) (c.write_sums-status.ensures.wrote zero))

pub returns-in-Ok-end-clause-part : goal.returns-in-Ok-end-clause-part
returns-in-Ok-end-clause-part g c = λ low.
    let taken = g.O.Sink.taken c.args.sink.now in
    let taken_after = g.O.Sink.taken c.write_sums-status.new.sink in
    subst (λ (x : View). WroteLinePart (entries_seen x) taken taken_after) (sym c.into_owner-in-Ok-end.ensures.0)
    (wrote_part (history g c) _ taken taken_after (counts g c) (c.write_sums-status.ensures.part low))

pub returns-in-Ok-end-clause-whole : goal.returns-in-Ok-end-clause-whole
returns-in-Ok-end-clause-whole g c =
    let callers = c.in-Ok-idle_callers.callers.items in
    let heard = c.in-Ok-heard.heard.items in
    let all = comes c.talk_beside-heard.result.0 c.in-Ok-heard.heard (λ h. h.items) c.args.messages callers c.in-Ok-heard.is c.talk_beside-heard.ensures.heard in
    let one = c.talk_beside-heard.ensures.served.keeps.share in
    let sat = ap (λ (x : View). x.share) c.sit-tallied.ensures.0 in
    let two = ap (λ (x : View). x.share) (c.rest-tally.ensures.0 ∙ c.new-tallied.ensures.0) in
    let three = c.in-Ok-idle_callers.ensures.shares in
    let four = all_shares c.args.messages callers heard all in
    let five = c.end.ensures.shares in
    let six = ap (λ (x : View). x.share) c.into_owner-in-Ok-end.ensures.0 in
    λ some. omega (arith, one, sat, two, three, four, five, six)

pub returns-in-Err-clause-part : goal.returns-in-Err-clause-part
returns-in-Err-clause-part g c = λ low. no_line _ (g.O.Sink.taken c.args.sink.now)

pub returns-in-Err-clause-whole : goal.returns-in-Err-clause-whole
returns-in-Err-clause-whole g c =
    let callers = c.in-Ok-idle_callers.callers.items in
    let heard = c.in-Ok-heard.heard.items in
    let all = comes c.talk_beside-heard.result.0 c.in-Ok-heard.heard (λ h. h.items) c.args.messages callers c.in-Ok-heard.is c.talk_beside-heard.ensures.heard in
    let one = c.talk_beside-heard.ensures.served.keeps.share in
    let sat = ap (λ (x : View). x.share) c.sit-tallied.ensures.0 in
    let two = ap (λ (x : View). x.share) (c.rest-tally.ensures.0 ∙ c.new-tallied.ensures.0) in
    let three = c.in-Ok-idle_callers.ensures.shares in
    let four = all_shares c.args.messages callers heard all in
    let five = c.end.ensures.shares in
    let six = ap (λ (x : View). x.share) c.into_owner-in-Err.ensures.0 in
    λ some. omega (arith, one, sat, two, three, four, five, six)
