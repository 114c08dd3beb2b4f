use Rattle.std.proofs.Common.{arith}
use Rattle.lsp_frame.proofs.Sections.{some_where_complete, none_where_short, none_where_partial, none_where_refused}
use Rattle.lsp_frame.proofs.head.head_of.Goals as goal

pub returns-then-len-block-clause-value : goal.returns-then-len-block-clause-value
returns-then-len-block-clause-value c =
    let e = rw c.in-Ok-Complete.field-0-is at c.in-Ok-Complete.ensures in
    some_where_complete c.args.block.now c.parse_headers.new.headers c.in-Ok-Complete.len c.in-Ok-Complete.count e.complete c.if-len-block.true (omega (arith, e.within.count_fits, c.parse_headers.auto.headers))

pub returns-else-len-block-clause-value : goal.returns-else-len-block-clause-value
returns-else-len-block-clause-value c =
    let e = rw c.in-Ok-Complete.field-0-is at c.in-Ok-Complete.ensures in
    none_where_short c.args.block.now c.parse_headers.new.headers c.in-Ok-Complete.len c.in-Ok-Complete.count e.found c.if-len-block.false

pub returns-in-Ok-Partial-clause-value : goal.returns-in-Ok-Partial-clause-value
returns-in-Ok-Partial-clause-value c =
    let e = rw c.in-Ok-Partial.field-0-is at c.in-Ok-Partial.ensures in
    none_where_partial c.args.block.now e.partial

pub returns-in-Err-clause-value : goal.returns-in-Err-clause-value
returns-in-Err-clause-value c = none_where_refused c.args.block.now c.in-Err.ensures.no_room
