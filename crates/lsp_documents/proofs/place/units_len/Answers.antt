use Rattle.std.proofs.Common.{◌+◌, length, ap, ◌∙◌, arith}
use Rattle.std.specs.Str.{chars}
use Rattle.std.proofs.lemmas.Iterator.{YieldsList-from_chars}
use Rattle.std.proofs.lemmas.Iterator.Consumers.{YieldsList-turn, YieldsList-end}
use Rattle.std.proofs.lemmas.List.{length_push}
use Rattle.std.proofs.lemmas.Str.{encodes-chars}
use Rattle.lsp_documents.proofs.FittingLemmas.{IsNext}
use Rattle.lsp_documents.proofs.UnitLemmas.{units_more, units_within, units_all, units_all_le}
use Rattle.lsp_documents.proofs.place.units_len.Goals as goal

pub overflow_add-len : goal.overflow_add-len
overflow_add-len c =
    let t = YieldsList-turn (YieldsList-from_chars c.args.text.now c.utf8.text cc) c.loop-c.yielded _ c.loop-c.yielded_by _ _ c.in-Some.c c.in-Some.is c.next.ensures.steps in
    let next : IsNext (chars c.args.text.now) (length c.loop-c.yielded) c.in-Some.c = record { within = t.0; is = t.1 } in
    let more = units_more _ _ _ next in
    let all = units_within (chars c.args.text.now) (length c.loop-c.yielded + 1) in
    let whole = ap length (encodes-chars c.args.text.now c.utf8.text) in
    omega (arith, more, all, whole, c.loop-c.invariant, c.units_of-len.ensures)

pub loop-c-preserved : goal.loop-c-preserved
loop-c-preserved c =
    let t = YieldsList-turn (YieldsList-from_chars c.args.text.now c.utf8.text cc) c.loop-c.yielded _ c.loop-c.yielded_by _ _ c.in-Some.c c.in-Some.is c.next.ensures.steps in
    let next : IsNext (chars c.args.text.now) (length c.loop-c.yielded) c.in-Some.c = record { within = t.0; is = t.1 } in
    let more = units_more _ _ _ next in
    rw length_push (omega (arith, more, c.loop-c.invariant, c.units_of-len.ensures))

pub returns : goal.returns
returns c =
    let t = YieldsList-end (YieldsList-from_chars c.args.text.now c.utf8.text cc) c.loop-c.yielded _ c.loop-c.yielded_by _ _ c.in-None.is c.next.ensures.steps in
    let all = c.loop-c.invariant ∙ units_all (chars c.args.text.now) _ t.1 in
    record {
      value = all;
      bound = omega (arith, all, units_all_le (chars c.args.text.now), ap length (encodes-chars c.args.text.now c.utf8.text));
    }
