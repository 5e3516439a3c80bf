use Rattle.std.proofs.Common.{rules, ◌≡◌, ◌+◌, ◌++◌, ◌∙◌, ap, [], Some, drop, arith}
use Rattle.yl_lexeme.specs.Kept.{key_unit_behind}
use Rattle.yl_marks.specs.Keys.{place_of}
use Rattle.yl_marks.specs.ByLine.{latest_of}
use Rattle.yl_marks.proofs.InLine.{kept_pieces, kept_suffices, kept_if_asked, all_read, pieces_step, latest_step, depth_step}
use Rattle.yl_marks.proofs.keys.line_pieces.Goals as goal

pub loop-i-preserved : goal.loop-i-preserved
loop-i-preserved g c =
    let e = c.loop-i.earlier in
    let p = c.piece_at-piece.result in
    let xs = c.args.tokens.now in
    let passed = key_unit_behind p.kind (place_of e.count p) c.loop-i.unit in
    let new = c.pass_if_asked.new.unit in
    let same : kept_pieces (e.count + 1) c.depth_behind.result (Some p) new (drop (c.loop-i.i + 1) xs) ≡ kept_pieces (e.count + 1) c.depth_behind.result (Some p) passed (drop (c.loop-i.i + 1) xs) =
    kept_if_asked _ _ _ c.loop-i.unit passed new xs c.last_value-last.result c.loop-i.i c.last_value-last.ensures c.in_ok-pass_if_asked.ensures in
    record {
      pieces = ap (λ ps. c.push.new.self.items ++ ps) same
          ∙ pieces_step e.count e.depth e.latest c.loop-i.unit xs c.loop-i.i _ p c.start.result c.depth_behind.result c.loop-i-test.true c.start.ensures c.piece_at-piece.ensures c.depth_behind.ensures.one
          c.loop-i.pieces.items c.push.new.self.items _ c.in_ok-push.ensures.items c.loop-i.invariant.pieces;
      len = search rules;
      count = search rules;
      depth = depth_step e.count e.depth e.latest c.loop-i.unit xs c.loop-i.i _ p c.start.result c.depth_behind.result c.loop-i-test.true c.start.ensures c.piece_at-piece.ensures c.depth_behind.ensures.one _ c.loop-i.invariant.depth;
      latest = ap (latest_of (Some p)) same
          ∙ latest_step e.count e.depth e.latest c.loop-i.unit xs c.loop-i.i _ p c.start.result c.depth_behind.result c.loop-i-test.true c.start.ensures c.piece_at-piece.ensures c.depth_behind.ensures.one _ c.loop-i.invariant.latest;
      most = search rules;
    }

pub returns-clause-pieces : goal.returns-clause-pieces
returns-clause-pieces g c =
    all_read _ _ _ _ c.args.tokens.now c.loop-i.i _ _ (omega arith) c.loop-i.invariant.pieces
    ∙ kept_suffices c.args.earlier.count c.args.earlier.depth c.args.earlier.latest [] c.args.tokens.now
