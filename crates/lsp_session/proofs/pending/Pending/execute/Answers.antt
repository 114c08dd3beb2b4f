-- An id that isn't live is put in.
use Rattle.std.proofs.Common.{◌≤◌, ◌+◌, ◌∙◌, sym, length, rules}
use Rattle.std.specs.Vec.{vec_capacity}
use Rattle.lsp_session.proofs.PendingLemmas.{apart_added, fits_added}
use Rattle.lsp_session.proofs.pending.Pending.execute.Goals as goal

pub invariant_of-self-2 : goal.invariant_of-self-2
invariant_of-self-2 c =
    let old = c.args.self.now.ids in
    let room : length old + 1 ≤ vec_capacity c.reserve.new.self = search rules in
    record {
      apart = apart_added c.push.result c.in-Some-Some.number c.args.id tt old c.push.new.self c.push.ensures.ok c.push.ensures.err c.args.self.now.apart (sym c.is_live.ensures ∙ c.if-is_live.false);
      empty = c.reserve.ensures.items ∙ c.args.self.now.empty;
      fits = fits_added c.push.result c.in-Some-Some.number c.args.id tt old c.push.new.self c.push.ensures.ok c.push.ensures.err _ room;
    }
