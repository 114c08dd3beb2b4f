-- What pumping a session comes to.
use Rattle.std.proofs.Common.{ap}
use Rattle.lsp_pump.proofs.OnwardLemmas.{on_ok_none}
use Rattle.lsp_pump.proofs.pumping.pump_session.Goals as goal

pub returns-clause-comes : goal.returns-clause-comes
returns-clause-comes g c = c.pump_steps.ensures

pub returns-clause-ready : goal.returns-clause-ready
returns-clause-ready g c = on_ok_none c.pump_steps.result.1 _ c.pump_steps.ensures.ready

pub returns-clause-same_sink : goal.returns-clause-same_sink
returns-clause-same_sink g c = ap (λ n. n.0.0) c.pump_steps.ensures.beside

pub returns-clause-same_held : goal.returns-clause-same_held
returns-clause-same_held g c = ap (λ n. n.0.1) c.pump_steps.ensures.beside

pub returns-clause-same_pick : goal.returns-clause-same_pick
returns-clause-same_pick g c = ap (λ n. n.1) c.pump_steps.ensures.beside
