-- What the steps of the items told come to: one item more, an exit, the end of what is told, and each error.
use Rattle.std.proofs.Common.{rules, arith, ◌≡◌, refl, length, true, false, true≢false, ap, ◌∙◌, [], ◌∷◌}
use Rattle.std.specs.Prelude.{is_some, Some, Err, Ok}
use Rattle.lsp_rpc.specs.Shown.{show_message}
use Rattle.lsp_frame.specs.Codec.{message, fault}
use Rattle.lsp_session.specs.Item as items
use Rattle.lsp_session.specs.Item.{show_item}
use Rattle.lsp_session.specs.Run.{Order}
use Rattle.lsp_session.specs.SessionView.{session_view, desk_of}
use Rattle.lsp_server.specs.declared.step.ServeError.TheVariants.{NoMemory}
use Rattle.lsp_server.specs.Items.{GivesNext}
use Rattle.lsp_server.specs.Consuming.{stops, consumer_outcome}
use Rattle.lsp_server.specs.ServerView.{standing, spot, see_serving}
use Rattle.lsp_server.proofs.CodecLemmas.{next_found, told_now}
use Rattle.lsp_server.proofs.RanLemmas.{ran_grown, grown_after}
use Rattle.lsp_server.proofs.GoingLemmas.{going_start, going_step, told_exit, told_part_none, told_part_step}
use Rattle.lsp_server.proofs.ServesLemmas.{did_no_step, did_told}
use Rattle.lsp_server.proofs.TakingLemmas.{shown_did}
use Rattle.lsp_server.proofs.serving.ServingConsumerSession.take.Goals as goal
use Rattle.lsp_server.proofs.serving.ServingConsumerSession.take.Goals.{in-Item, in-Fault}

pub returns-in_err-feed-clause-did : goal.returns-in_err-feed-clause-did
returns-in_err-feed-clause-did g c =
    let sem = g.H.Handlers.semantics in
    let m = g.D.Caller.meaning in
    let order : Order g.P.Pick.State = record { gives = g.P.Pick.gives; later = g.P.Pick.later } in
    let is : consumer_outcome c.from_residual.result ≡ stops NoMemory = search rules in
    rw is (shown_did (see_serving sem m g.P.Pick.state) _ _ _ _ _ _ (did_no_step sem g.met.H.Handlers.laws m order _ _ c.args.piece.now (g.O.Sink.taken c.args.sink.now) refl))

pub items-init : goal.items-init
items-init g c = record {
  going = going_start (standing g.H.Handlers.semantics g.D.Caller.meaning c.args.session.now (g.P.Pick.state c.args.self.now.pick.now) (g.O.Sink.taken c.args.sink.now)) c.feed.new.self (record { exited = c.requires.exited; lives = c.requires.lives });
  ready = record { running = c.requires.idle.running; taken = c.requires.idle.taken };
  rounds = refl;
  codec = refl;
  pick = refl;
  flushed = refl;
  beside = refl;
  count = refl;
}

pub returns-in_err-message-clause-did : goal.returns-in_err-message-clause-did
returns-in_err-message-clause-did g c =
    let sem = g.H.Handlers.semantics in
    let m = g.D.Caller.meaning in
    let order : Order g.P.Pick.State = record { gives = g.P.Pick.gives; later = g.P.Pick.later } in
    let a = spot sem m c.args.session.now (g.P.Pick.state c.args.self.now.pick.now) c.args.self.now.codec.now c.args.self.now.rounds in
    let b = spot sem m c.items.session (g.P.Pick.state c.items.self.pick.now) c.decode.new.self c.items.self.rounds in
    let part = told_part_none _ _ _ _ c.items.invariant.going in
    let is : consumer_outcome c.from_residual-in_err-message.result ≡ stops NoMemory = search rules in
    rw is (shown_did (see_serving sem m g.P.Pick.state) _ _ _ _ _ _ (did_told sem g.met.H.Handlers.laws m order a b (g.O.Sink.taken c.args.sink.now) (g.O.Sink.taken c.items.sink) (ran_grown _ _ _ c.items.invariant.going.ran)
    c.args.piece.now (Err NoMemory) c.items.invariant.rounds tt tt tt (rw c.in_ok-feed.ensures.ok at part) tt))

pub returns-in_err-write_step-clause-did : goal.returns-in_err-write_step-clause-did
returns-in_err-write_step-clause-did g c =
    let sem = g.H.Handlers.semantics in
    let m = g.D.Caller.meaning in
    let order : Order g.P.Pick.State = record { gives = g.P.Pick.gives; later = g.P.Pick.later } in
    let a = spot sem m c.args.session.now (g.P.Pick.state c.args.self.now.pick.now) c.args.self.now.codec.now c.args.self.now.rounds in
    let b = spot sem m c.write_step.new.session (g.P.Pick.state c.write_step.new.pick) c.decode.new.self c.items.self.rounds in
    let going = c.items.invariant.going in
    let next : GivesNext c.items.self.codec.now (Some (show_item c.match-branch-3.item)) c.decode.new.self = elim c.match-branch-3.branch [
      | in-Item w ↦ record {
        found = Some (message (show_message w.in-Item.message));
        shows = ap (λ i. Some (show_item i)) w.item-is;
        items = rw w.in-Item.is at c.in_ok-message.ensures.items;
        told = rw w.in-Item.is at c.in_ok-message.ensures.told;
      }
      | in-Fault w ↦ record {
        found = Some (fault w.in-Fault.fault);
        shows = ap (λ i. Some (show_item i)) w.item-is ∙ ap (λ code. Some (items.fault code)) w.code.ensures;
        items = rw w.in-Fault.is at c.in_ok-message.ensures.items;
        told = rw w.in-Fault.is at c.in_ok-message.ensures.told;
      }
    ] in
    let part = told_part_step _ _ _ _ going g.met.H.Handlers.laws c.decode.new.self (show_item c.match-branch-3.item) next (desk_of c.write_step.new.session) (g.O.Sink.taken c.write_step.new.sink) (rw c.items.invariant.rounds at c.in_err-write_step.ensures.steps.part) in
    let is : consumer_outcome c.from_residual-in_err-write_step.result ≡ stops c.in_err-write_step.field-0.0 = search rules in
    rw is (shown_did (see_serving sem m g.P.Pick.state) _ _ _ _ _ _ (did_told sem g.met.H.Handlers.laws m order a b (g.O.Sink.taken c.args.sink.now) (g.O.Sink.taken c.write_step.new.sink) (grown_after _ _ _ _ going.ran c.in_err-write_step.ensures.steps.grown)
    c.args.piece.now (Err c.in_err-write_step.field-0.0) c.items.invariant.rounds tt tt tt (rw c.in_ok-feed.ensures.ok at part) c.in_err-write_step.ensures.steps.session.spent))

pub returns-then-is_some-clause-did : goal.returns-then-is_some-clause-did
returns-then-is_some-clause-did g c =
    let sem = g.H.Handlers.semantics in
    let m = g.D.Caller.meaning in
    let order : Order g.P.Pick.State = record { gives = g.P.Pick.gives; later = g.P.Pick.later } in
    let a = spot sem m c.args.session.now (g.P.Pick.state c.args.self.now.pick.now) c.args.self.now.codec.now c.args.self.now.rounds in
    let b = spot sem m c.write_step.new.session (g.P.Pick.state c.write_step.new.pick) c.decode.new.self c.items.self.rounds in
    let going = c.items.invariant.going in
    let next : GivesNext c.items.self.codec.now (Some (show_item c.match-branch-3.item)) c.decode.new.self = elim c.match-branch-3.branch [
      | in-Item w ↦ record {
        found = Some (message (show_message w.in-Item.message));
        shows = ap (λ i. Some (show_item i)) w.item-is;
        items = rw w.in-Item.is at c.in_ok-message.ensures.items;
        told = rw w.in-Item.is at c.in_ok-message.ensures.told;
      }
      | in-Fault w ↦ record {
        found = Some (fault w.in-Fault.fault);
        shows = ap (λ i. Some (show_item i)) w.item-is ∙ ap (λ code. Some (items.fault code)) w.code.ensures;
        items = rw w.in-Fault.is at c.in_ok-message.ensures.items;
        told = rw w.in-Fault.is at c.in_ok-message.ensures.told;
      }
    ] in
    let noted : is_some (session_view sem m c.write_step.new.session).state.exited ≡ true = search rules in
    let ready = c.in_ok-write_step.ensures.steps.session.ready in
    let d = standing sem m c.write_step.new.session (g.P.Pick.state c.write_step.new.pick) (g.O.Sink.taken c.write_step.new.sink) in
    let ran = rw c.items.invariant.rounds at c.in_ok-write_step.ensures.steps.ok in
    let told = told_exit _ _ _ _ going g.met.H.Handlers.laws c.decode.new.self (show_item c.match-branch-3.item) next d ran noted in
    shown_did (see_serving sem m g.P.Pick.state) _ _ _ _ _ _ (did_told sem g.met.H.Handlers.laws m order a b (g.O.Sink.taken c.args.sink.now) (g.O.Sink.taken c.write_step.new.sink) (grown_after _ _ _ _ going.ran (ran_grown _ _ _ ran))
    c.args.piece.now (Ok true) c.items.invariant.rounds (rw c.in_ok-feed.ensures.ok at told) (record { running = ready.running; taken = ready.taken }) (λ is. absurd (true≢false is)) tt tt)

-- ---- one item more

pub items-smaller : goal.items-smaller
items-smaller g c =
    let next : GivesNext c.items.self.codec.now (Some (show_item c.match-branch-3.item)) c.decode.new.self = elim c.match-branch-3.branch [
      | in-Item w ↦ record {
        found = Some (message (show_message w.in-Item.message));
        shows = ap (λ i. Some (show_item i)) w.item-is;
        items = rw w.in-Item.is at c.in_ok-message.ensures.items;
        told = rw w.in-Item.is at c.in_ok-message.ensures.told;
      }
      | in-Fault w ↦ record {
        found = Some (fault w.in-Fault.fault);
        shows = ap (λ i. Some (show_item i)) w.item-is ∙ ap (λ code. Some (items.fault code)) w.code.ensures;
        items = rw w.in-Fault.is at c.in_ok-message.ensures.items;
        told = rw w.in-Fault.is at c.in_ok-message.ensures.told;
      }
    ] in
    let found = next_found c.items.self.codec.now c.decode.new.self (show_item c.match-branch-3.item) next in
    let told = ap length (told_now c.items.self.codec.now c.decode.new.self (found.0 ∷ []) found.2) in
    omega (arith, told)

pub items-preserved : goal.items-preserved
items-preserved g c =
    let sem = g.H.Handlers.semantics in
    let m = g.D.Caller.meaning in
    let next : GivesNext c.items.self.codec.now (Some (show_item c.match-branch-3.item)) c.decode.new.self = elim c.match-branch-3.branch [
      | in-Item w ↦ record {
        found = Some (message (show_message w.in-Item.message));
        shows = ap (λ i. Some (show_item i)) w.item-is;
        items = rw w.in-Item.is at c.in_ok-message.ensures.items;
        told = rw w.in-Item.is at c.in_ok-message.ensures.told;
      }
      | in-Fault w ↦ record {
        found = Some (fault w.in-Fault.fault);
        shows = ap (λ i. Some (show_item i)) w.item-is ∙ ap (λ code. Some (items.fault code)) w.code.ensures;
        items = rw w.in-Fault.is at c.in_ok-message.ensures.items;
        told = rw w.in-Fault.is at c.in_ok-message.ensures.told;
      }
    ] in
    let d = standing sem m c.write_step.new.session (g.P.Pick.state c.write_step.new.pick) (g.O.Sink.taken c.write_step.new.sink) in
    let unnoted : is_some (session_view sem m c.write_step.new.session).state.exited ≡ false = search rules in
    record {
      going = going_step _ _ _ _ c.items.invariant.going g.met.H.Handlers.laws c.decode.new.self (show_item c.match-branch-3.item) next d (rw c.items.invariant.rounds at c.in_ok-write_step.ensures.steps.ok) unnoted;
      ready = c.in_ok-write_step.ensures.steps.session.ready;
      rounds = c.items.invariant.rounds;
      codec = c.items.invariant.codec;
      pick = c.items.invariant.pick;
      flushed = search rules;
      beside = search rules;
      count = search rules;
    }
