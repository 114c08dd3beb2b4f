-- Rows: hierarchies of calls and of types.
use Rattle.lsp_shape.specs.Plain.{Plain, choice}
use Rattle.lsp_shape.specs.Row.{Row, fields, flat, truth, union, variant, ◌&◌, ◌or◌}
use Rattle.lsp_names.specs.Progress.{work_done_progress_options_row}
use Rattle.lsp_base.specs.Registration.{static_registration_options_row, text_document_registration_options_row}
use Rattle.lsp_offer_lang.specs.declared.hierarchy.CallHierarchyOptions.{CallHierarchyOptions}
use Rattle.lsp_offer_lang.specs.declared.hierarchy.CallHierarchyServerCapability.{CallHierarchyServerCapability}
use Rattle.lsp_offer_lang.specs.declared.hierarchy.CallHierarchyServerCapability.TheVariants as call_hierarchy_server_capability
use Rattle.lsp_offer_lang.specs.declared.hierarchy.TypeHierarchyOptions.{TypeHierarchyOptions}
use Rattle.lsp_offer_lang.specs.declared.hierarchy.TypeHierarchyRegistrationOptions.{TypeHierarchyRegistrationOptions}

unfoldable pub call_hierarchy_options_row : Row CallHierarchyOptions
call_hierarchy_options_row = fields (
    flat work_done_progress_options_row (λ x. x.work_done_progress_options))

abbrev pub show_call_hierarchy_server_capability : CallHierarchyServerCapability → Plain
show_call_hierarchy_server_capability (call_hierarchy_server_capability.Simple x) = choice 0 (truth.shown x)
show_call_hierarchy_server_capability (call_hierarchy_server_capability.Options x) = choice 1 (call_hierarchy_options_row.shown x)

unfoldable pub call_hierarchy_server_capability_row : Row CallHierarchyServerCapability
call_hierarchy_server_capability_row = union (variant truth or variant call_hierarchy_options_row) show_call_hierarchy_server_capability

unfoldable pub type_hierarchy_options_row : Row TypeHierarchyOptions
type_hierarchy_options_row = fields (
    flat work_done_progress_options_row (λ x. x.work_done_progress_options))

unfoldable pub type_hierarchy_registration_options_row : Row TypeHierarchyRegistrationOptions
type_hierarchy_registration_options_row = fields (
    flat text_document_registration_options_row (λ x. x.text_document_registration_options) &
    flat type_hierarchy_options_row (λ x. x.type_hierarchy_options) &
    flat static_registration_options_row (λ x. x.static_registration_options))
