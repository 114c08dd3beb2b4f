-- The text of a result is read back.
use Rattle.std.proofs.Common.{rules, ◌≡◌, false}
use Rattle.std.specs.Prelude.{Ok, Err, OnOk, Result}
use Rattle.serde_json.specs.View.{view}
use Rattle.serde_json.specs.Written.{has_float}
use Rattle.lsp_rpc.proofs.Outlines.{reads_back_of}
use Rattle.lsp_rpc.proofs.write.push_body.Goals as goal

known : {T E P : Type 0} (r : Result T E) → P → OnOk r P
known (Ok x) fact = fact
known (Err e) fact = tt

pub returns-in_ok-text-in-Ok-clause-back : goal.returns-in_ok-text-in-Ok-clause-back
returns-in_ok-text-in-Ok-clause-back c =
    let text = c.in_ok-text-in-Ok.ensures in
    let clean : has_float (view c.in-Ok.value) ≡ false = search rules in
    known c.push_str-in-Ok.result (rw c.in-Ok.is (reads_back_of _ (view c.in-Ok.value) text.order clean text.reads_back))
