-- The words that contracts above this crate cite.
pub use Rattle.lsp_text.specs.declared.floats.Floats.{Floats}
pub use Rattle.lsp_text.specs.declared.floats.Floats.TheVariants.{Refused, Read}
pub use Rattle.lsp_frame.specs.declared.limits.Limits.{Limits}
pub use Rattle.lsp_frame.specs.declared.settings.CodecSettings.{CodecSettings}
pub use Rattle.lsp_frame.specs.Transitions.{Item, message, fault}
pub use Rattle.lsp_frame.specs.Items.{At, strict, start, start_by, more, with_item, items_at, told_at, items, items_by, told, told_by, IsWaiting, most_held, AreLimits, default_limits, default_settings}
pub use Rattle.lsp_frame.specs.Places.{ComesTo, HoldsEnd, IsStateAfter}
pub use Rattle.lsp_frame.specs.Frames.{frame_text, frames, IsWithin, IsReadBack}
pub use Rattle.lsp_frame.specs.Faults.{code_of_fault, text_of_fault}
pub use Rattle.lsp_frame.specs.Shown.{shown, DecodedIsFloatFree}
pub use Rattle.lsp_frame.specs.Calls.{CodecCall, fed, gave, finished, encoded, failed, GivesItem, LeadsBy, Leads, bytes_fed, items_given, messages_encoded}
