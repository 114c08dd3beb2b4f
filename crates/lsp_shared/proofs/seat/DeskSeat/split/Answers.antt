use Rattle.std.proofs.Common.{arith}
use Rattle.lsp_shared.proofs.Parting.{splits}
use Rattle.lsp_shared.proofs.seat.DeskSeat.split.Goals as goal

pub split_seat-seat-requires : goal.split_seat-seat-requires
split_seat-seat-requires g c = let s = c.args.self.now in (s.here, (let w = s.desk.now.words in omega arith), splits _ _ c.requires)
