use Rattle.std.proofs.Common.{refl}
use Rattle.serde_json.specs.View.{view}
use Rattle.lsp_shape.specs.declared.why.Wanted.TheVariants as wants
use Rattle.lsp_shape.proofs.Told.{wants_other, gave, gave_none}
use Rattle.lsp_offer_work.specs.WatchKind.{watch_kind_row}
use Rattle.lsp_offer_work.proofs.watch_kind.WatchKindWire.from_value.Goals as goal

pub returns-in-Some-clause-read : goal.returns-in-Some-clause-read
unfolding watch_kind_row
returns-in-Some-clause-read c = gave watch_kind_row.shown c.in_ok-kind.ensures c.in-Some.is

pub returns-in-None-clause-unfit : goal.returns-in-None-clause-unfit
unfolding watch_kind_row
returns-in-None-clause-unfit c =
    wants_other wants.Unsigned watch_kind_row.shape (view c.args.value.now) c.wanted.result c.wanted.ensures.refuses refl refl (gave_none watch_kind_row.shown c.in_ok-kind.ensures c.in-None.is)
