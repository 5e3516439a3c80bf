use Rattle.std.proofs.Common.{◌-◌, ◌∙◌, ap, sym, true, false, reverse, arith}
use Rattle.yl_events.proofs.Cutting.{none_at_end, unmarked_at_end, kind_at, marked_step, cut_step, one_more, beginnings_of, not_empty}
use Rattle.yl_events.proofs.cuts.documents.Goals as goal

pub loop-i-init : goal.loop-i-init
loop-i-init g c = record { marked = unmarked_at_end _ c.args.lexemes.now; starts = c.new-starts.ensures.items ∙ none_at_end _ c.args.lexemes.now }

pub loop-i-preserved-in-Continue-1 : goal.loop-i-preserved-in-Continue-1
loop-i-preserved-in-Continue-1 g c =
    let next = kind_at (λ x. x.lexeme.now.kind) c.args.lexemes.now (c.loop-i.i - 1) c.loop-i.i c.index-lexemes-i.result c.kind.result (omega arith) (omega arith) c.kind.ensures in
    let here = kind_at (λ x. x.lexeme.now.kind) c.args.lexemes.now (c.loop-i.i - 1 - 1) (c.loop-i.i - 1) c.index-lexemes-i-in-loop-i.result c.kind-in-loop-i.result (omega arith) (omega arith) c.kind-in-loop-i.ensures in
    let marked = marked_step _ _ _ _ _ next c.loop-i.invariant.marked c.starts_marked-is_marked.ensures in
    record {
      marked = marked;
      starts = one_more (c.loop-i.i - 1) _ _ c.loop-i.starts.items c.push.new.self.items
          (cut_step (c.loop-i.i - 1 - 1) (c.loop-i.i - 1) _ _ _ _ _ _ true (omega arith) here next marked c.if-ends_document.ensures)
          c.loop-i.invariant.starts c.in_ok-push.ensures.items;
    }

pub loop-i-preserved : goal.loop-i-preserved
loop-i-preserved g c =
    let next = kind_at (λ x. x.lexeme.now.kind) c.args.lexemes.now (c.loop-i.i - 1) c.loop-i.i c.index-lexemes-i.result c.kind.result (omega arith) (omega arith) c.kind.ensures in
    let here = kind_at (λ x. x.lexeme.now.kind) c.args.lexemes.now (c.loop-i.i - 1 - 1) (c.loop-i.i - 1) c.index-lexemes-i-in-loop-i.result c.kind-in-loop-i.result (omega arith) (omega arith) c.kind-in-loop-i.ensures in
    let marked = marked_step _ _ _ _ _ next c.loop-i.invariant.marked c.starts_marked-is_marked.ensures in
    record {
      marked = marked;
      starts = c.loop-i.invariant.starts ∙ ap reverse (sym
          (cut_step (c.loop-i.i - 1 - 1) (c.loop-i.i - 1) _ _ _ _ _ _ false (omega arith) here next marked c.if-ends_document.ensures));
    }

pub returns : goal.returns
returns g c = beginnings_of _ c.args.lexemes.now c.loop-i.i c.loop-i.starts.items _ c.reverse.new.self.items (not_empty _ c.if-is_empty.ensures) (omega arith) c.loop-i.invariant.starts c.in_ok-push-2.ensures.items c.reverse.ensures.items
