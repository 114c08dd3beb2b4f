use Rattle.std.proofs.Common.{rules, ◌≡◌, ◌+◌, ◌<◌, length, true, false, Some, option_map, sym, ap, ◌∙◌, arith}
use Rattle.lsp_uri.specs.Cuts.{before, after}
use Rattle.lsp_uri.specs.Grammar.{is_h16}
use Rattle.lsp_uri.proofs.Groups.{width-stopped, width-more, groups-shorter}
use Rattle.lsp_uri.proofs.host.width.Goals as goal

pub returns-in-Some : goal.returns-in-Some
returns-in-Some c =
    let e : after 58 c.loop-tail.rest.now ≡ Some c.in-Some.field-0.now = sym c.cut.ensures.after ∙ ap (option_map (λ s. s.now)) c.in-Some.is in
    let h : is_h16 (before 58 c.loop-tail.rest.now) ≡ false = cc in
    ap (option_map (λ n. c.loop-tail.groups + n)) (sym (width-stopped c.args.ends_in_ipv4 c.loop-tail.rest.now c.in-Some.field-0.now e h)) ∙ c.loop-tail.invariant.1

pub loop-tail-preserved : goal.loop-tail-preserved
loop-tail-preserved c =
    let e : after 58 c.loop-tail.rest.now ≡ Some c.in-Some-2.tail.now = sym c.cut.ensures.after ∙ ap (option_map (λ s. s.now)) c.in-Some-2.is in
    let h : is_h16 (before 58 c.loop-tail.rest.now) ≡ true = cc in
    let less : length c.in-Some-2.tail.now < length c.loop-tail.rest.now = groups-shorter c.loop-tail.rest.now c.in-Some-2.tail.now e in
    (search rules, width-more c.args.ends_in_ipv4 c.loop-tail.rest.now c.in-Some-2.tail.now c.loop-tail.groups e h ∙ c.loop-tail.invariant.1, omega arith)
