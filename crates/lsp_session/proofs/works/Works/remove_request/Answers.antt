-- What is kept is a filter.
use Rattle.std.proofs.Common.{◌≡◌, refl, rules, not}
use Rattle.std.specs.Prelude.{filter}
use Rattle.std.proofs.lemmas.Fn.{filter_same}
use Rattle.lsp_rpc.specs.Shown.{show_id}
use Rattle.lsp_session.specs.Works.{is_work_of}
use Rattle.lsp_session.proofs.works.Works.remove_request.Goals as goal

pub returns : goal.returns
returns g c =
    let slots : c.retain.new.self.items ≡ filter (λ w. not (is_work_of (show_id c.args.id.now) w)) c.args.self.now.slots.items = filter_same _ _ _ (λ x b f' k. search rules) _ _ c.retain.ensures.filtered in
    let queue : c.retain-2.new.self.items ≡ filter (λ w. not (is_work_of (show_id c.args.id.now) w)) c.args.self.now.queue.items = filter_same _ _ _ (λ x b f' k. search rules) _ _ c.retain-2.ensures.filtered in
    rw (slots, queue) refl
