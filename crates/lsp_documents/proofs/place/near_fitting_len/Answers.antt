use Rattle.std.proofs.Common.{◌≤◌, ◌+◌, length, inl, inr, ap, arith}
use Rattle.std.specs.Str.{chars}
use Rattle.std.proofs.lemmas.List.{length_push}
use Rattle.std.proofs.lemmas.Str.{encodes-chars}
use Rattle.std.proofs.lemmas.Iterator.{YieldsList-from_chars}
use Rattle.std.proofs.lemmas.Iterator.Consumers.{YieldsList-turn, YieldsList-end}
use Rattle.lsp_documents.specs.Lines.{units}
use Rattle.lsp_documents.proofs.FittingLemmas.{IsNext, stopped, at_end, passed_more, ends_10, ends_13, ends_none, bytes_within, bytes_more}
use Rattle.lsp_documents.proofs.place.near_fitting_len.Goals as goal
use Rattle.lsp_documents.proofs.place.near_fitting_len.Goals.{then-c-eq10-via-then-c-eq10, then-c-eq10-via-else-c-eq10+then-c-eq13, then-c-eq10-via-else-c-eq10+else-c-eq13+then-left-taken}

pub returns-then-c-eq10 : goal.returns-then-c-eq10
returns-then-c-eq10 c =
    let t = YieldsList-turn (YieldsList-from_chars c.args.text.now c.utf8.text cc) c.loop-c.yielded _ c.loop-c.yielded_by _ _ c.in-Some.c c.in-Some.is c.next.ensures.steps in
    let next : IsNext (chars c.args.text.now) (length c.loop-c.yielded) c.in-Some.c = record { within = t.0; is = t.1 } in
    stopped _ _ c.in-Some.c c.loop-c.len c.loop-c.left c.args.character c.loop-c.invariant next (elim c.then-c-eq10.branch [
      | then-c-eq10-via-then-c-eq10 w ↦ inl (ends_10 _ w.if-c-eq10.true)
      | then-c-eq10-via-else-c-eq10+then-c-eq13 w ↦ inl (ends_13 _ w.if-c-eq13.true)
      | then-c-eq10-via-else-c-eq10+else-c-eq13+then-left-taken w ↦ inr (omega (arith, w.if-left-taken.true, c.units_of-taken.ensures))
    ])

pub overflow_add-len : goal.overflow_add-len
overflow_add-len c =
    let t = YieldsList-turn (YieldsList-from_chars c.args.text.now c.utf8.text cc) c.loop-c.yielded _ c.loop-c.yielded_by _ _ c.in-Some.c c.in-Some.is c.next.ensures.steps in
    let next : IsNext (chars c.args.text.now) (length c.loop-c.yielded) c.in-Some.c = record { within = t.0; is = t.1 } in
    let more = bytes_more _ _ _ next in
    let all = bytes_within (chars c.args.text.now) (length c.loop-c.yielded + 1) in
    let whole = ap length (encodes-chars c.args.text.now c.utf8.text) in
    omega (arith, more, all, whole, c.loop-c.invariant.passed, c.len_utf8-len.ensures.len)

pub loop-c-preserved : goal.loop-c-preserved
loop-c-preserved c =
    let t = YieldsList-turn (YieldsList-from_chars c.args.text.now c.utf8.text cc) c.loop-c.yielded _ c.loop-c.yielded_by _ _ c.in-Some.c c.in-Some.is c.next.ensures.steps in
    let next : IsNext (chars c.args.text.now) (length c.loop-c.yielded) c.in-Some.c = record { within = t.0; is = t.1 } in
    let fits : units c.in-Some.c ≤ c.loop-c.left = omega (arith, c.units_of-taken.ensures) in
    let more = passed_more _ _ c.in-Some.c c.loop-c.len c.loop-c.left c.args.character c.loop-c.invariant next (ends_none _ c.if-c-eq10.false c.if-c-eq13.false) fits in
    rw (length_push, c.len_utf8-len.ensures.value, c.units_of-taken.ensures) more

pub returns : goal.returns
returns c =
    let t = YieldsList-end (YieldsList-from_chars c.args.text.now c.utf8.text cc) c.loop-c.yielded _ c.loop-c.yielded_by _ _ c.in-None.is c.next.ensures.steps in
    at_end (chars c.args.text.now) _ c.loop-c.len c.loop-c.left c.args.character c.loop-c.invariant t.1
