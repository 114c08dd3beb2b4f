-- What is written for the sample's replies.
use Rattle.std.proofs.Common.{◌≡◌, refl, ap}
use Rattle.std.specs.Prelude.{Ok, Err, if◌then◌else◌}
use Rattle.lsp_shape.specs.Write.{write}
use Rattle.lsp_initialize.specs.Server.{server_capabilities_row, server_capabilities_fields, initialize_result_row}
use Rattle.lsp_service.specs.Data.{mismatch}
use Rattle.lsp_sample_server.specs.Sample.{bare_result, bare_data}
use Rattle.lsp_sample_server.specs.Written.{SampleIsWritten}

pub bare_written : write initialize_result_row.shape bare_result ≡ bare_data
unfolding initialize_result_row server_capabilities_row server_capabilities_fields
bare_written = refl

pub written_so : SampleIsWritten
written_so = record {
  result_of_initialize = bare_written;
  initialize = refl;
  shutdown = refl;
  result = λ d h. ap (λ b. if b then mismatch else Ok d) h;
  error = λ e h. ap (λ b. if b then mismatch else Err e) h;
}
