-- What each thread takes along may go to it, and what it hands back may come back.
use denote.Param.Send.{sendable}
use Rattle.std.proofs.Common.{arith, rules, get_or, subst, sym}
use Rattle.std.proofs.Crossing as std
use Rattle.lsp_shared.specs.Desks.{desk_id}
use Rattle.lsp_shared.proofs.Crossing.{crosses}
use Rattle.lsp_callers.specs.declared.caller.Idle.{Idle}
use Rattle.lsp_callers.specs.Callers.{ComesOf}
use Rattle.lsp_callers.proofs.HeardLemmas.{idle_at, gives_all}
use Rattle.lsp_callers.proofs.caller.Plan.TheSendSync as plan
use Rattle.lsp_callers.proofs.threads.call_all.Goals as goal

pub map_vec-requires-send-J : goal.map_vec-requires-send-J
map_vec-requires-send-J g c κs within = search (sendable, crosses) depth 30

pub map_vec-requires-send-X : goal.map_vec-requires-send-X
map_vec-requires-send-X g c κs within = search (sendable, std.crosses, crosses) depth 60

pub map_vec-requires-sync-F : goal.map_vec-requires-sync-F
map_vec-requires-sync-F g c κs within = search (sendable, crosses, plan.the_sync) depth 30

pub map_vec-requires-after_bounds : goal.map_vec-requires-after_bounds
map_vec-requires-after_bounds g c κs within = λ i x less is.
    (idle_at (desk_id c.args.desk.now) 0 i x c.args.callers.items c.requires less is, (search (sendable, rules) depth 20, search (sendable, rules) depth 20))

pub returns : goal.returns
returns g c =
    let one = c.args.callers.ok.0 in
    let two = c.in_ok-map_vec.field-0.ok.0 in
    let long = c.in_ok-map_vec.ensures.len in
    gives_all c.args.plan.messages c.args.callers.items c.in_ok-map_vec.field-0.items (omega (arith, one, two, long))
    (λ i d e less.
    let gives = (c.in_ok-map_vec.ensures.each i e less).1 in
    subst (λ (x : Idle). ComesOf c.args.plan.messages x (get_or c.in_ok-map_vec.field-0.items i e)) (sym (gives.job_is d)) gives.call.met)
