-- Rows: registrations.
use Rattle.lsp_shape.specs.Row.{Row, any, fields, list, omitted, required, string, ◌&◌}
use Rattle.lsp_offer_work.specs.declared.registration.Registration.{Registration}
use Rattle.lsp_offer_work.specs.declared.registration.RegistrationParams.{RegistrationParams}
use Rattle.lsp_offer_work.specs.declared.registration.Unregistration.{Unregistration}
use Rattle.lsp_offer_work.specs.declared.registration.UnregistrationParams.{UnregistrationParams}

unfoldable pub registration_row : Row Registration
registration_row = fields (
    required "id" string (λ x. x.id) &
    required "method" string (λ x. x.method) &
    omitted "registerOptions" any (λ x. x.register_options))

unfoldable pub registration_params_row : Row RegistrationParams
registration_params_row = fields (
    required "registrations" (list registration_row) (λ x. x.registrations))

unfoldable pub unregistration_row : Row Unregistration
unregistration_row = fields (
    required "id" string (λ x. x.id) &
    required "method" string (λ x. x.method))

unfoldable pub unregistration_params_row : Row UnregistrationParams
unregistration_params_row = fields (
    required "unregisterations" (list unregistration_row) (λ x. x.unregisterations))
