-- One seat more is taken in.
use Rattle.std.proofs.Common.{◌≡◌, ◌+◌, ◌∷◌, ◌++◌, sym, ap, ◌∙◌, subst, arith}
use Rattle.std.specs.Prelude.{OnOk}
use Rattle.std.specs.Option.{option_or}
use Rattle.std.specs.Result.{result_err}
use Rattle.std.proofs.lemmas.List.Sums.{sum_by-cons}
use Rattle.lsp_shared.specs.declared.view.View.{View}
use Rattle.lsp_shared.specs.Desks.{desk_id, rested_view}
use Rattle.lsp_shared.specs.Seats.{seat_view, seat_meaning}
use Rattle.lsp_callers.specs.declared.caller.Heard.{Heard}
use Rattle.lsp_callers.specs.Made.{entries_made}
use Rattle.lsp_callers.specs.Callers.{AreHeardOn, said_of, all_said_of, messages_of, heard_shares, first_fault}
use Rattle.lsp_callers.specs.Tallies.{tallied_view, tallied_spent}
use Rattle.lsp_callers.proofs.MadeLemmas.{made_joined}
use Rattle.lsp_callers.proofs.SaidLemmas.{both_said, both_sent, first_so_far, joined_spent_by, or_left, clients_on}
use Rattle.lsp_callers.proofs.threads.gather.Goals as goal

pub loop-heard-preserved : goal.loop-heard-preserved
loop-heard-preserved g c =
    let inv = c.loop-heard.invariant in
    let h = c.in-Some.heard in
    let rest = c.pop_front.new.self.items in
    let step : c.loop-heard.rest.items ≡ h ∷ rest = c.in-Some.ensures.items in
    let heard : AreHeardOn (desk_id c.args.desk.now) (h ∷ rest) = subst (AreHeardOn (desk_id c.args.desk.now)) step inv.heard in
    let v = tallied_view c.loop-heard.tallied in
    let w = seat_view c.sit.result in
    let u = tallied_view c.join.new.self in
    let sits : w ≡ rested_view h.seat = c.sit.ensures.0 in
    let made : entries_made u ≡ entries_made v ++ entries_made (rested_view h.seat) =
    made_joined v w u c.loop-heard.tallied.owner.rested.inside c.sit.result.rested.inside c.join.ensures.joined c.join.ensures.seen.0 c.join.ensures.seen.1
    ∙ ap (λ (x : View). entries_made v ++ entries_made x) sits in
    let share : u.share ≡ v.share + (rested_view h.seat).share = ap (λ (x : View). x.share) c.join.ensures.joined ∙ ap (λ (x : View). v.share + x.share) sits in
    let start = entries_made (tallied_view c.args.tallied.now) ++ all_said_of c.args.heard.items in
    record {
      heard = heard.1;
      said = both_said start v (rested_view h.seat) u h rest c.loop-heard.all h.sent c.added-all.result c.added-all.ensures.both
          (subst (λ l. OnOk c.loop-heard.all (entries_made v ++ all_said_of l ≡ start)) step inv.said) heard.0.said made;
      sent = both_sent (λ n. entries_made (rested_view h.seat) ≡ said_of h) (messages_of c.args.heard.items) h.messages (messages_of c.loop-heard.rest.items) (messages_of rest) c.loop-heard.all h.sent c.added-all.result
          c.added-all.ensures.both c.added-all.ensures.ok inv.sent heard.0.said (ap messages_of step ∙ sum_by-cons (λ (x : Heard). x.messages) h rest);
      fault = first_so_far c.loop-heard.all c.added-all.result h rest c.added-all.ensures.fault
          ∙ ap (λ l. option_or (result_err c.loop-heard.all) (first_fault l)) (sym step) ∙ inv.fault;
      spent = λ n is. c.join.ensures.spent ∙ joined_spent_by (tallied_spent c.loop-heard.tallied) (seat_meaning.spent c.sit.result) (c.added-all.ensures.err n is) (inv.spent n) (λ e. c.sit.ensures.2 ∙ heard.0.spent n e);
      stays = λ is. c.join.ensures.spent ∙ or_left (tallied_spent c.loop-heard.tallied) (seat_meaning.spent c.sit.result) (inv.stays is);
      shares = let all = ap heard_shares step ∙ sum_by-cons (λ (x : Heard). (rested_view x.seat).share) h rest in let s = inv.shares in omega (arith, share, all, s);
      clients = clients_on (tallied_view c.args.tallied.now).seen v.seen u.seen inv.clients c.join.ensures.clients;
      here = c.join.ensures.same ∙ inv.here;
    }
