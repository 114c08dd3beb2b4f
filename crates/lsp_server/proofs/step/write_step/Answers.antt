-- One step, with what was written of it.
use Rattle.std.proofs.Common.{rules, ◌≡◌, ◌<◌, ◌≤◌, ℕ, List, map, ◌∷◌, ◌++◌, [], length, get_or, refl, sym, ◌∙◌, ap, subst, false}
use Rattle.std.specs.Prelude.{Ok, Err}
use Rattle.std.specs.Io.KnownBytes.{Appends}
use Rattle.std.proofs.lemmas.List.{take_all}
use Rattle.lsp_rpc.specs.Shown.{show_message}
use Rattle.lsp_frame.specs.Codec.{frame_text, frames}
use Rattle.lsp_desk.specs.declared.life.Life.TheVariants.{Exited}
use Rattle.lsp_session.specs.Item.{show_item}
use Rattle.lsp_session.specs.Run.{Order, Step, is_exit}
use Rattle.lsp_session.specs.Session.{SessionView}
use Rattle.lsp_session.specs.SessionView.{session_view, desk_of}
use Rattle.lsp_server.specs.ServerView.{standing}
use Rattle.lsp_server.specs.Course.{picked}
use Rattle.lsp_server.specs.Steps.{StepPutsOut}
use Rattle.lsp_server.specs.Written.{IsPrefixOf, place, Ran, RanPart}
use Rattle.lsp_server.proofs.ErrorLemmas.{at_error}
use Rattle.lsp_server.proofs.FramesLemmas.{frames-more, message_float_free, shows_some, frames_none}
use Rattle.lsp_server.proofs.KnownLemmas.{appends_none}
use Rattle.lsp_server.proofs.RanLemmas.{ran_one, part_one, part_none, puts_out, stepped_lives}
use Rattle.lsp_server.proofs.step.write_step.Goals as goal

-- ---- the frames

pub push_message-requires : goal.push_message-requires
push_message-requires g c =
    let ms = c.take_out-out.result.items in
    let within : c.loop-message.message-index < length ms = search rules in
    let is : c.message-item.result ≡ get_or ms c.loop-message.message-index c.message-item.result = search rules in
    message_float_free ms c.loop-message.message-index c.message-item.result within is c.take_out-out.ensures.float_free

pub loop-message-preserved : goal.loop-message-preserved
loop-message-preserved g c =
    let ms = c.deref-message-items.result.now in
    let within : c.loop-message.message-index < length ms = search rules in
    let is : c.message-item.result ≡ get_or ms c.loop-message.message-index c.message-item.result = search rules in
    c.in-Ok-push_message.ensures.ok ∙ ap (λ l. l ++ frame_text (show_message c.message-item.result)) c.loop-message.invariant
    ∙ sym (frames-more ms c.loop-message.message-index c.message-item.result within is)

-- ---- the step failed

pub returns-in-Err-DeskSpent-clause-steps : goal.returns-in-Err-DeskSpent-clause-steps
returns-in-Err-DeskSpent-clause-steps g c =
    record {
      ok = search rules;
      part = part_none (standing g.H.Handlers.semantics g.D.Caller.meaning c.args.session.now (g.P.Pick.state c.args.pick.now) (g.O.Sink.taken c.args.sink.now)) (desk_of c.step.new.session) (show_item c.args.item ∷ []) c.in-Err-DeskSpent.ensures.failed;
      grown = search rules;
      session = search rules;
    }

pub returns-in-Err-NoMemory-clause-steps : goal.returns-in-Err-NoMemory-clause-steps
returns-in-Err-NoMemory-clause-steps g c =
    record {
      ok = search rules;
      part = part_none (standing g.H.Handlers.semantics g.D.Caller.meaning c.args.session.now (g.P.Pick.state c.args.pick.now) (g.O.Sink.taken c.args.sink.now)) (desk_of c.step.new.session) (show_item c.args.item ∷ []) c.in-Err-NoMemory.ensures.failed;
      grown = search rules;
      session = search rules;
    }

pub returns-clause-steps : goal.returns-clause-steps
returns-clause-steps g c =
    let sem = g.H.Handlers.semantics in
    let m = g.D.Caller.meaning in
    let order : Order g.P.Pick.State = record { gives = g.P.Pick.gives; later = g.P.Pick.later } in
    let ended : length c.deref-message-items.result.now ≤ c.loop-message.message-index = search rules in
    let items : c.deref-message-items.result.now ≡ c.take_out-out.result.items = search rules in
    let same : c.as_slice.result.now ≡ c.loop-message.room.items = search rules in
    let room : c.as_slice.result.now ≡ frames (map show_message c.take_out-out.result.items) = same ∙ c.loop-message.invariant ∙ ap (λ l. frames (map show_message l)) (take_all _ _ ended ∙ items) in
    let is : c.write_all-written.result ≡ Ok c.in_ok-written.field-0 = search rules in
    let takes : Appends (g.O.Sink.taken c.args.sink.now) (g.O.Sink.taken c.write_all-written.new.sink) c.as_slice.result.now = rw is at c.write_all-written.ensures.ok in
    let writes : Appends (g.O.Sink.taken c.args.sink.now) (g.O.Sink.taken c.write_all-written.new.sink) (frames (map show_message c.take_out-out.result.items)) = rw room at takes in
    record {
      ok = subst (λ (v : SessionView _ _ sem.Call sem.Task). Ran (Step sem order c.args.rounds) m (place (session_view sem m c.args.session.now) (g.P.Pick.state c.args.pick.now) (g.O.Sink.taken c.args.sink.now)) (show_item c.args.item ∷ [])
          (place v (g.P.Pick.state c.step.new.pick) (g.O.Sink.taken c.write_all-written.new.sink))) (sym c.take_out-out.ensures.rest)
          (ran_one sem m order c.args.rounds (g.O.Sink.taken c.args.sink.now) (g.O.Sink.taken c.write_all-written.new.sink) (session_view sem m c.args.session.now) (session_view sem m c.step.new.session)
          (g.P.Pick.state c.args.pick.now) (g.P.Pick.state c.step.new.pick) (show_item c.args.item) (map show_message c.take_out-out.result.items) c.in-Ok.ensures.ok c.requires.may.ready.taken c.take_out-out.ensures.taken writes);
      part = search rules;
      grown = search rules;
      session = search rules;
    }

pub returns-clause-lives : goal.returns-clause-lives
returns-clause-lives g c =
    let sem = g.H.Handlers.semantics in
    let m = g.D.Caller.meaning in
    let order : Order g.P.Pick.State = record { gives = g.P.Pick.gives; later = g.P.Pick.later } in
    subst (λ (v : SessionView _ _ sem.Call sem.Task). is_exit (sem.find (session_view sem m c.args.session.now).state.service) (show_item c.args.item) ≡ false → v.state.desk.life ≡ Exited → ⊥) (sym c.take_out-out.ensures.rest)
    (stepped_lives sem m order c.args.rounds g.met.H.Handlers.laws (session_view sem m c.args.session.now) (session_view sem m c.step.new.session)
    (g.P.Pick.state c.args.pick.now) (g.P.Pick.state c.step.new.pick) (show_item c.args.item) c.in-Ok.ensures.ok c.requires.may.alive)

-- ---- nothing was put out

pub returns-then-is_empty-clause-steps : goal.returns-then-is_empty-clause-steps
returns-then-is_empty-clause-steps g c =
    let sem = g.H.Handlers.semantics in
    let m = g.D.Caller.meaning in
    let order : Order g.P.Pick.State = record { gives = g.P.Pick.gives; later = g.P.Pick.later } in
    let taken = g.O.Sink.taken c.args.sink.now in
    let none = frames_none c.take_out-out.result.items _ c.take_out-out.result.ok.0 (sym c.is_empty.ensures ∙ c.if-is_empty.true) in
    let writes : Appends taken taken (frames (map show_message c.take_out-out.result.items)) = subst (λ (l : List ℕ). Appends taken taken l) (sym none) (appends_none taken) in
    record {
      ok = subst (λ (v : SessionView _ _ sem.Call sem.Task). Ran (Step sem order c.args.rounds) m (place (session_view sem m c.args.session.now) (g.P.Pick.state c.args.pick.now) taken) (show_item c.args.item ∷ [])
          (place v (g.P.Pick.state c.step.new.pick) taken)) (sym c.take_out-out.ensures.rest)
          (ran_one sem m order c.args.rounds taken taken (session_view sem m c.args.session.now) (session_view sem m c.step.new.session)
          (g.P.Pick.state c.args.pick.now) (g.P.Pick.state c.step.new.pick) (show_item c.args.item) (map show_message c.take_out-out.result.items) c.in-Ok.ensures.ok c.requires.may.ready.taken c.take_out-out.ensures.taken writes);
      part = search rules;
      grown = search rules;
      session = search rules;
    }

pub returns-then-is_empty-clause-lives : goal.returns-then-is_empty-clause-lives
returns-then-is_empty-clause-lives g c =
    let sem = g.H.Handlers.semantics in
    let m = g.D.Caller.meaning in
    let order : Order g.P.Pick.State = record { gives = g.P.Pick.gives; later = g.P.Pick.later } in
    subst (λ (v : SessionView _ _ sem.Call sem.Task). is_exit (sem.find (session_view sem m c.args.session.now).state.service) (show_item c.args.item) ≡ false → v.state.desk.life ≡ Exited → ⊥) (sym c.take_out-out.ensures.rest)
    (stepped_lives sem m order c.args.rounds g.met.H.Handlers.laws (session_view sem m c.args.session.now) (session_view sem m c.step.new.session)
    (g.P.Pick.state c.args.pick.now) (g.P.Pick.state c.step.new.pick) (show_item c.args.item) c.in-Ok.ensures.ok c.requires.may.alive)

-- ---- a message lacked memory

pub returns-in-Err-clause-steps : goal.returns-in-Err-clause-steps
returns-in-Err-clause-steps g c =
    let sem = g.H.Handlers.semantics in
    let m = g.D.Caller.meaning in
    let order : Order g.P.Pick.State = record { gives = g.P.Pick.gives; later = g.P.Pick.later } in
    let taken = g.O.Sink.taken c.args.sink.now in
    record {
      ok = search rules;
      part = subst (λ (v : SessionView _ _ sem.Call sem.Task). RanPart (Step sem order c.args.rounds) m (place (session_view sem m c.args.session.now) (g.P.Pick.state c.args.pick.now) taken) (show_item c.args.item ∷ []) v.desk taken)
          (sym c.take_out-out.ensures.rest)
          (part_one sem m order c.args.rounds taken taken (session_view sem m c.args.session.now) (session_view sem m c.step.new.session)
          (g.P.Pick.state c.args.pick.now) (g.P.Pick.state c.step.new.pick) (show_item c.args.item) (map show_message c.take_out-out.result.items) [] c.in-Ok.ensures.ok c.requires.may.ready.taken c.take_out-out.ensures.taken
          (frames (map show_message c.take_out-out.result.items), refl) (appends_none taken));
      grown = search rules;
      session = search rules;
    }

-- ---- the write failed

pub returns-in_err-written-clause-steps : goal.returns-in_err-written-clause-steps
returns-in_err-written-clause-steps g c =
    let sem = g.H.Handlers.semantics in
    let m = g.D.Caller.meaning in
    let order : Order g.P.Pick.State = record { gives = g.P.Pick.gives; later = g.P.Pick.later } in
    let ended : length c.deref-message-items.result.now ≤ c.loop-message.message-index = search rules in
    let items : c.deref-message-items.result.now ≡ c.take_out-out.result.items = search rules in
    let same : c.as_slice.result.now ≡ c.loop-message.room.items = search rules in
    let room : c.as_slice.result.now ≡ frames (map show_message c.take_out-out.result.items) = same ∙ c.loop-message.invariant ∙ ap (λ l. frames (map show_message l)) (take_all _ _ ended ∙ items) in
    let is : c.write_all-written.result ≡ Err c.in_err-written.field-0.0 = search rules in
    let part : (written : List ℕ) × IsPrefixOf written c.as_slice.result.now × Appends (g.O.Sink.taken c.args.sink.now) (g.O.Sink.taken c.write_all-written.new.sink) written = rw is at c.write_all-written.ensures.part in
    let p : (written : List ℕ) × IsPrefixOf written (frames (map show_message c.take_out-out.result.items)) × Appends (g.O.Sink.taken c.args.sink.now) (g.O.Sink.taken c.write_all-written.new.sink) written = rw room at part in
    record {
      ok = search rules;
      part = at_error c.from_residual.result (subst (λ (v : SessionView _ _ sem.Call sem.Task). RanPart (Step sem order c.args.rounds) m (place (session_view sem m c.args.session.now) (g.P.Pick.state c.args.pick.now) (g.O.Sink.taken c.args.sink.now)) (show_item c.args.item ∷ []) v.desk
          (g.O.Sink.taken c.write_all-written.new.sink)) (sym c.take_out-out.ensures.rest)
          (part_one sem m order c.args.rounds (g.O.Sink.taken c.args.sink.now) (g.O.Sink.taken c.write_all-written.new.sink) (session_view sem m c.args.session.now) (session_view sem m c.step.new.session)
          (g.P.Pick.state c.args.pick.now) (g.P.Pick.state c.step.new.pick) (show_item c.args.item) (map show_message c.take_out-out.result.items) p.0 c.in-Ok.ensures.ok c.requires.may.ready.taken c.take_out-out.ensures.taken p.1 p.2));
      grown = search rules;
      session = search rules;
    }

pub returns-in_err-written-clause-none : goal.returns-in_err-written-clause-none
returns-in_err-written-clause-none g c =
    let sem = g.H.Handlers.semantics in
    let m = g.D.Caller.meaning in
    let order : Order g.P.Pick.State = record { gives = g.P.Pick.gives; later = g.P.Pick.later } in
    let p = g.P.Pick.state c.args.pick.now in
    let p2 = g.P.Pick.state c.step.new.pick in
    at_error c.from_residual.result (λ _. subst (λ (v : SessionView _ _ sem.Call sem.Task). StepPutsOut sem order c.args.rounds (picked (session_view sem m c.args.session.now) p) (show_item c.args.item) (picked v p2)) (sym c.take_out-out.ensures.rest)
    (puts_out sem m order c.args.rounds (session_view sem m c.args.session.now) (session_view sem m c.step.new.session) p p2 (show_item c.args.item) (map show_message c.take_out-out.result.items)
    c.in-Ok.ensures.ok c.requires.may.ready.taken c.take_out-out.ensures.taken (shows_some c.take_out-out.result.items _ c.take_out-out.result.ok.0 (sym c.is_empty.ensures ∙ c.if-is_empty.false))))
