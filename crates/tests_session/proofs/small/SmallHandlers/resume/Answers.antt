-- The poll makes no call on the desk.
use Rattle.lsp_session.specs.Table.{find_in}
use Rattle.lsp_session.specs.TableView.{methods_of}
use Rattle.tests_session.proofs.TrialLemmas.{trial_polls, trial_fails}
use Rattle.tests_session.proofs.small.SmallHandlers.resume.Goals as goal

pub returns-clause-resumed : goal.returns-clause-resumed
returns-clause-resumed g c = trial_polls g.D.Caller.meaning (λ small name. find_in 0 (methods_of small.table) name) c.args.self.now c.args._desk.now c.poll.result c.poll.ensures.clean

pub returns-clause-failed : goal.returns-clause-failed
returns-clause-failed g c = trial_fails g.D.Caller.meaning c.args._desk.now c.poll.result c.poll.ensures.wants
