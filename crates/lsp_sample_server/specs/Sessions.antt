-- The sample's sessions.
use Rattle.std.specs.Prelude.{◌≡◌, ⊤, []}
use Rattle.lsp_session.specs.Semantics.{Semantics}
use Rattle.lsp_session.specs.Run.{Order, order_by}
use Rattle.lsp_methods.specs.ServiceTable.{customs_of}
use Rattle.lsp_service.specs.declared.incoming.Incoming.{Incoming}
use Rattle.lsp_service.specs.declared.service.LspService.{LspService}
use Rattle.lsp_service.specs.Service.{KeptTask, service_semantics}
use Rattle.lsp_sample_server.specs.declared.task.SampleTask.{SampleTask}
use Rattle.lsp_sample_server.specs.declared.sample.Sample.{Sample}
use Rattle.lsp_sample_server.specs.Sample.{sample_semantics}

abbrev pub sample : Sample
sample = record {}

-- a service of the sample, without custom methods
pub record IsSampleService (service : LspService Sample) : Type 0 where
  pub server : service.server ≡ sample
  pub customs : customs_of service.table ≡ []

-- the calls are polled in order of admission
abbrev pub in_order : Order ⊤
in_order = order_by (λ _ n. 0) (λ p n. p)

-- the sample behind its methods, where a task in the code is no more than the server's, with its kind
abbrev pub service_of_sample : Semantics (LspService Sample) Incoming (KeptTask SampleTask)
service_of_sample = service_semantics sample_semantics (λ (t : KeptTask SampleTask). t.task) (λ (t : KeptTask SampleTask). t.kind)
