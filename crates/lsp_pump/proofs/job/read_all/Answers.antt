-- One read more, and each end.
use Rattle.std.proofs.Common.{rules, arith, ◌≡◌, ◌≤◌, ◌+◌, List, ◌++◌, sym, ◌∙◌, ap, subst}
use Rattle.std.specs.Prelude.{None}
use Rattle.std.proofs.lemmas.List.{append-nil}
use Rattle.rtrb.specs.Ring.{sent}
use Rattle.lsp_session.specs.Item.{ItemData}
use Rattle.lsp_pump.specs.declared.job.Ended.TheVariants.{Open}
use Rattle.lsp_pump.specs.Pieces.{piece_items, all_items, back_items, some_float}
use Rattle.lsp_pump.specs.Reading.{TellsAll, HasRead}
use Rattle.lsp_server.proofs.KnownLemmas.{consumes_more}
use Rattle.lsp_frame.specs.Codec.{more}
use Rattle.lsp_pump.proofs.ReadingLemmas.{tells_more, counts_more, ended_after, ended_by, ends_open, ends_by_read, fresh_begun, stops_open}
use Rattle.lsp_pump.proofs.job.read_all.Goals as goal

pub loop-init : goal.loop-init
loop-init g c = (fresh_begun g.I.Source.left g.I.Source.faults c.args.reading.now c.requires.fresh, c.requires.fresh.made)

pub loop-preserved : goal.loop-preserved
loop-preserved g c =
    let left = g.I.Source.left in
    let start = c.args.reading.now in
    let inv = c.loop.invariant.0 in
    let o = c.in-Ok.ensures.told in
    let s = c.send.ensures.ring in
    let i = inv.ring in
    let none : c.send.result ≡ None = search rules in
    let all : all_items (sent c.loop.reading.sender) ++ piece_items c.in-Ok.piece ≡ all_items (sent c.send.new.sender) =
    sym c.send.ensures.sent ∙ ap (λ b. all_items (sent c.send.new.sender) ++ back_items b) none ∙ append-nil (all_items (sent c.send.new.sender)) in (
      record {
        ring = ((s.0.0 ∙ i.0.0, s.0.1 ∙ i.0.1, s.0.2 ∙ i.0.2, s.0.3 ∙ i.0.3), s.1 ∙ i.1);
        read = inv.read ++ o.read;
        gives = consumes_more (left start.source) (left c.loop.reading.source) (left c.read_piece.new.source) inv.read o.read inv.gives o.gives;
        tells = subst (λ (l : List ItemData). TellsAll (more start.codec (inv.read ++ o.read)) l c.read_piece.new.codec) all
            (tells_more start.codec c.loop.reading.codec c.read_piece.new.codec inv.read o.read (all_items (sent c.loop.reading.sender)) (piece_items c.in-Ok.piece) inv.tells o.tells);
        reads = counts_more inv.read o.read c.loop.reading.made inv.reads o.some o.short;
        unfailed = o.unfailed ∙ inv.unfailed;
        none = none;
      },
      ap (λ n. n + 1) c.loop.invariant.1,
    )

pub returns-then-exits : goal.returns-then-exits
returns-then-exits g c =
    let left = g.I.Source.left in
    let faults = g.I.Source.faults in
    let start = c.args.reading.now in
    let inv = c.loop.invariant.0 in
    let o = c.in-Ok.ensures.told in
    let s = c.send.ensures.ring in
    let i = inv.ring in
    let most : c.loop.reading.made + 1 ≤ c.args.reads = omega (arith, c.loop.invariant.1, c.loop-test.true) in
    record {
      ring = ((s.0.0 ∙ i.0.0, s.0.1 ∙ i.0.1, s.0.2 ∙ i.0.2, s.0.3 ∙ i.0.3), s.1 ∙ i.1);
      has = subst (λ (l : List ItemData). HasRead start.codec (left start.source) (left c.read_piece.new.source) (c.loop.reading.made + 1) l c.read_piece.new.codec Open) (sym c.send.ensures.sent)
          (ended_after start.codec (left start.source) (left c.loop.reading.source) inv.read (all_items (sent c.loop.reading.sender)) c.loop.reading.codec c.loop.reading.made inv.gives inv.tells inv.reads (left c.read_piece.new.source) (faults c.loop.reading.source) (faults c.read_piece.new.source) (piece_items c.in-Ok.piece) c.read_piece.new.codec Open o);
      ends = ends_open (left start.source) (left c.read_piece.new.source) (faults start.source) (faults c.read_piece.new.source) c.args.reads (c.loop.reading.made + 1) (o.unfailed ∙ inv.unfailed) most;
      float_free = c.send.ensures.float_free;
    }

pub returns-in-Err : goal.returns-in-Err
returns-in-Err g c =
    let left = g.I.Source.left in
    let faults = g.I.Source.faults in
    let start = c.args.reading.now in
    let inv = c.loop.invariant.0 in
    let e = c.in-Err.ensures.ended in
    let most : c.loop.reading.made + 1 ≤ c.args.reads = omega (arith, c.loop.invariant.1, c.loop-test.true) in
    let all : all_items (sent c.loop.reading.sender) ≡ all_items (sent c.loop.reading.sender) ++ back_items c.loop.reading.back =
    sym (append-nil (all_items (sent c.loop.reading.sender))) ∙ ap (λ b. all_items (sent c.loop.reading.sender) ++ back_items b) (sym inv.none) in
    record {
      ring = inv.ring;
      has = subst (λ (l : List ItemData). HasRead start.codec (left start.source) (left c.read_piece.new.source) (c.loop.reading.made + 1) l c.read_piece.new.codec c.in-Err.ended) all
          (ended_by start.codec (left start.source) (left c.loop.reading.source) inv.read (all_items (sent c.loop.reading.sender)) c.loop.reading.codec c.loop.reading.made inv.gives inv.tells inv.reads (left c.read_piece.new.source) (faults c.loop.reading.source) (faults c.read_piece.new.source) c.read_piece.new.codec c.in-Err.ended e);
      ends = ends_by_read c.loop.reading.codec c.read_piece.new.codec (left start.source) (left c.loop.reading.source) (left c.read_piece.new.source) inv.read (faults start.source) (faults c.loop.reading.source) (faults c.read_piece.new.source)
          c.args.reads (c.loop.reading.made + 1) c.in-Err.ended inv.gives e inv.unfailed most;
      float_free = ap (λ b. some_float (back_items b)) inv.none;
    }

pub returns : goal.returns
returns g c =
    stops_open g.I.Source.left g.I.Source.faults c.args.reading.now c.loop.reading c.args.reads c.loop.invariant.0 (omega (arith, c.loop.invariant.1, c.loop.auto.counter-end))
