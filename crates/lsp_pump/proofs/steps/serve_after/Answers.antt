-- What was received is the beginning of what was sent, and the rest is on the ring or was kept back.
use Rattle.std.proofs.Common.{◌≡◌, List, ◌++◌, sym, ◌∙◌, ap, subst, true, false}
use Rattle.std.specs.Prelude.{Result, Bool, Ok, Err, Option, Some}
use Rattle.std.specs.Result.{result_err, IsErrAnd}
use Rattle.std.specs.Global.{Vec}
use Rattle.rtrb.specs.Ring.{sent, received, known_items}
use Rattle.lsp_session.specs.declared.item.Item.{Item}
use Rattle.lsp_server.specs.declared.step.ServeError.{ServeError}
use Rattle.lsp_pump.specs.Pieces.{all_items, back_items}
use Rattle.lsp_pump.specs.Steps.{MakesSteps}
use Rattle.lsp_pump.specs.Onward.{PumpsAfter}
use Rattle.lsp_pump.proofs.OnwardLemmas.{after_failed, after_exit, rest_failed, rest_exit, rest_on}
use Rattle.lsp_pump.proofs.steps.serve_after.Goals as goal

-- what was sent is what was received, and what is known to be on the ring
all_sent : {T : Type 0} (was now got got_now known : List T) → now ≡ was → got_now ++ known ≡ now → got_now ≡ got → was ≡ got ++ known
all_sent was now got got_now known same fifo looked = sym same ∙ sym fifo ∙ ap (λ l. l ++ known) looked

-- the error is handed on
told_error : {A E : Type 0} (r : Result A E) (e : E) (P : Option E → Type 0) → IsErrAnd r (λ x. x ≡ e) → P (Some e) → P (result_err r)
told_error (Ok x) e P is p = absurd is
told_error (Err x) e P is p = subst (λ k. P (Some k)) (sym is) p

pub returns-in_err-served : goal.returns-in_err-served
returns-in_err-served g c =
    let way = g.S.Steps.way in
    let source = g.I.Source in
    let reading = c.args.reading.now in
    let b = c.args.steps.now in
    let got = received c.args.pieces.now in
    let known = known_items c.slots_beside.new.self in
    let looked = c.slots_beside.ensures in
    let all = all_sent (sent reading.sender) (sent c.slots_beside.new.producer) got (received c.slots_beside.new.self) known looked.producer.1 looked.fifo looked.looked.1 in
    let e = c.in_err-served.field-0.0 in
    told_error c.from_residual.result e (λ o. PumpsAfter way c.args.rounds source.left source.faults c.args.reads reading (all_items got) c.args.served b o reading.source b) c.from_residual.ensures.1
    (λ start first read m. after_failed way c.args.rounds source.left source.faults c.args.reads reading got known all b e start first read
    (subst (λ (r : Result Bool ServeError). MakesSteps way c.args.rounds first (all_items got) r b) c.in_err-served.was m))

pub returns-then-branch : goal.returns-then-branch
returns-then-branch g c start first read m =
    let way = g.S.Steps.way in
    let b = c.args.steps.now in
    let got = received c.args.pieces.now in
    let known = known_items c.slots_beside.new.self in
    let looked = c.slots_beside.ensures in
    let all = all_sent (sent c.args.reading.now.sender) (sent c.slots_beside.new.producer) got (received c.slots_beside.new.self) known looked.producer.1 looked.fifo looked.looked.1 in
    after_exit way c.args.rounds g.I.Source.left g.I.Source.faults c.args.reads c.args.reading.now got known all b start first read
    (subst (λ (r : Result Bool ServeError). MakesSteps way c.args.rounds first (all_items got) r b) (c.in_ok-served.was ∙ ap Ok c.if-branch.true) m)

-- ---- what was not received

pub returns-in_err-serve_rest : goal.returns-in_err-serve_rest
returns-in_err-serve_rest g c =
    let way = g.S.Steps.way in
    let source = g.I.Source in
    let reading = c.args.reading.now in
    let b = c.args.steps.now in
    let d = c.serve_rest.new.steps in
    let got = received c.args.pieces.now in
    let known = known_items c.slots_beside.new.self in
    let looked = c.slots_beside.ensures in
    let all = all_sent (sent reading.sender) (sent c.slots_beside.new.producer) got (received c.slots_beside.new.self) known looked.producer.1 looked.fifo looked.looked.1 in
    let e = c.in_err-serve_rest.field-0.0 in
    let made : MakesSteps way c.args.rounds b (all_items known ++ back_items reading.back) (Err e) d =
    subst (λ (o : Option (Vec Item)). MakesSteps way c.args.rounds b (all_items known ++ back_items o) (Err e) d) c.take-back.ensures.value c.in_err-serve_rest.ensures in
    told_error c.from_residual-in_err-serve_rest.result e (λ o. PumpsAfter way c.args.rounds source.left source.faults c.args.reads reading (all_items got) c.args.served b o reading.source d)
    c.from_residual-in_err-serve_rest.ensures.1
    (λ start first read m. rest_failed way c.args.rounds source.left source.faults c.args.reads reading got known all b d e made start first read
    (subst (λ (r : Result Bool ServeError). MakesSteps way c.args.rounds first (all_items got) r b) (c.in_ok-served.was ∙ ap Ok c.if-branch.false) m))

pub returns-then-branch-2 : goal.returns-then-branch-2
returns-then-branch-2 g c start first read m =
    let way = g.S.Steps.way in
    let b = c.args.steps.now in
    let d = c.serve_rest.new.steps in
    let got = received c.args.pieces.now in
    let known = known_items c.slots_beside.new.self in
    let looked = c.slots_beside.ensures in
    let all = all_sent (sent c.args.reading.now.sender) (sent c.slots_beside.new.producer) got (received c.slots_beside.new.self) known looked.producer.1 looked.fifo looked.looked.1 in
    rest_exit way c.args.rounds g.I.Source.left g.I.Source.faults c.args.reads c.args.reading.now got known all b d
    (subst (λ (o : Option (Vec Item)). MakesSteps way c.args.rounds b (all_items known ++ back_items o) (Ok true) d) c.take-back.ensures.value (rw c.if-branch-2.true at c.in_ok-serve_rest.ensures)) start first read
    (subst (λ (r : Result Bool ServeError). MakesSteps way c.args.rounds first (all_items got) r b) (c.in_ok-served.was ∙ ap Ok c.if-branch.false) m)

pub returns : goal.returns
returns g c start first read m =
    let way = g.S.Steps.way in
    let b = c.args.steps.now in
    let d = c.serve_rest.new.steps in
    let got = received c.args.pieces.now in
    let known = known_items c.slots_beside.new.self in
    let looked = c.slots_beside.ensures in
    let all = all_sent (sent c.args.reading.now.sender) (sent c.slots_beside.new.producer) got (received c.slots_beside.new.self) known looked.producer.1 looked.fifo looked.looked.1 in
    rest_on way c.args.rounds g.I.Source.left g.I.Source.faults c.args.reads c.args.reading.now got known all b d c.finish.new.steps (result_err c.finish.result) c.finish.new.reading.source
    (subst (λ (o : Option (Vec Item)). MakesSteps way c.args.rounds b (all_items known ++ back_items o) (Ok false) d) c.take-back.ensures.value (rw c.if-branch-2.false at c.in_ok-serve_rest.ensures)) c.finish.ensures start first read
    (subst (λ (r : Result Bool ServeError). MakesSteps way c.args.rounds first (all_items got) r b) (c.in_ok-served.was ∙ ap Ok c.if-branch.false) m)
