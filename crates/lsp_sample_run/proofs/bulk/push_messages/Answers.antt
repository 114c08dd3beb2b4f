-- One message more.
use Rattle.std.proofs.Common.{◌≡◌, ◌<◌, ◌++◌, ◌%◌, ℕ, refl, sym, subst, arith, rules}
use Rattle.std.proofs.lemmas.List.{append-nil}
use Rattle.lsp_sample_run.specs.Bulk.{bodies}
use Rattle.lsp_sample_run.proofs.BulkLemmas.{drawn_next, bodies_next}
use Rattle.lsp_sample_run.proofs.bulk.push_messages.Goals as goal

pub loop-k-init : goal.loop-k-init
loop-k-init c =
    let small : c.args.session.seed % 2147483648 < 2147483648 = search rules in
    record { small = small; is = refl; made = sym (append-nil c.args.input.now.items) }

pub loop-k-preserved : goal.loop-k-preserved
loop-k-preserved c =
    let is = drawn_next c.args.session.seed c.loop-k.k c.loop-k.x c.next-x.result c.loop-k.invariant.is c.next-x.ensures.value in
    record {
      small = c.next-x.ensures.small;
      is = is;
      made = bodies_next c.args.session.seed c.loop-k.k c.next-x.result c.args.input.now.items c.loop-k.input.items c.push_message.new.input.items c.loop-k.invariant.made is c.in_ok-push_message.ensures;
    }

pub returns : goal.returns
returns c =
    let all : c.loop-k.k ≡ c.args.session.count = omega arith in
    subst (λ (k : ℕ). c.loop-k.input.items ≡ c.args.input.now.items ++ bodies c.args.session.seed k) all c.loop-k.invariant.made
