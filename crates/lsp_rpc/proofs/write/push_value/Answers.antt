use Rattle.serde_json.specs.View.{view}
use Rattle.std.specs.Prelude.{Ok, Err, OnOk, Result}
use Rattle.lsp_rpc.proofs.Outlines.{reads_back_of}
use Rattle.lsp_rpc.proofs.write.push_value.Goals as goal

known : {T E P : Type 0} (r : Result T E) → P → OnOk r P
known (Ok x) fact = fact
known (Err e) fact = tt

pub returns-clause-back : goal.returns-clause-back
returns-clause-back c =
    let text = c.in_ok-text.ensures in
    known c.push_str.result (reads_back_of _ (view c.args.value.now) text.order c.requires text.reads_back)
