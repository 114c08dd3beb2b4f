-- An entry, and what is none.
use Rattle.std.proofs.Common.{◌∙◌, ap, refl}
use Rattle.std.specs.Prelude.{option_and_then, Err}
use Rattle.lsp_shape.specs.Read.{read}
use Rattle.lsp_lsif.specs.Entry.{entry_row}
use Rattle.lsp_index.proofs.lines.Search.take_text.Goals as goal

pub returns-in_ok-keep-in-Ok : goal.returns-in_ok-keep-in-Ok
returns-in_ok-keep-in-Ok c =
    let r = c.in-Ok.ensures.read in
    record { query = refl; good = refl; entry = c.in-Ok.entry; is = ap (option_and_then (read entry_row.shape)) r.1 ∙ r.2; kept = c.in_ok-keep-in-Ok.ensures }

pub returns-in-Err-Json : goal.returns-in-Err-Json
returns-in-Err-Json c = rw c.refuse.ensures.0 (c.refuse.ensures.1, ap (option_and_then (read entry_row.shape)) (c.in-Err-Json.ensures.json (ap Err c.in-Err-Json.field-0-is)))

pub returns-in-Err-Unfit : goal.returns-in-Err-Unfit
returns-in-Err-Unfit c =
    let r = c.in-Err-Unfit.ensures.unfit (ap Err c.in-Err-Unfit.field-0-is) in
    rw c.refuse-in-Err-Unfit.ensures.0 (c.refuse-in-Err-Unfit.ensures.1, ap (option_and_then (read entry_row.shape)) r.1 ∙ r.2)
