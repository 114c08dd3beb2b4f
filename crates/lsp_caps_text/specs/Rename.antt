-- Rows: renaming.
use Rattle.lsp_shape.specs.Row.{Row, fields, i32, omitted, truth, ◌&◌}
use Rattle.lsp_caps_text.specs.declared.rename.RenameClientCapabilities.{RenameClientCapabilities}

unfoldable pub rename_client_capabilities_row : Row RenameClientCapabilities
rename_client_capabilities_row = fields (
    omitted "dynamicRegistration" truth (λ x. x.dynamic_registration) &
    omitted "prepareSupport" truth (λ x. x.prepare_support) &
    omitted "prepareSupportDefaultBehavior" i32 (λ x. x.prepare_support_default_behavior) &
    omitted "honorsChangeAnnotations" truth (λ x. x.honors_change_annotations))
