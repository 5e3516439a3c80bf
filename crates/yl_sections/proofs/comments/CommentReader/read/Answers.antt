use Rattle.std.proofs.Common.{◌≡◌, ◌++◌, ◌∙◌, ◌∷◌, [], List, Some, ap, append-nil, sym}
use Rattle.std.specs.Prelude.{option_map}
use Rattle.yl_text.specs.Finding.{FindingValue}
use Rattle.yl_lexeme.specs.Lexeme.{LexemeValue, PlacedCommentValue}
use Rattle.yl_sections.specs.Kept.{last_lexeme_end}
use Rattle.yl_sections.proofs.Lines.{on_ok}
use Rattle.yl_sections.proofs.RowJudging.{comment_is, comments_more, no_comment, none_shown}
use Rattle.yl_sections.proofs.comments.CommentReader.read.Goals as goal

pub returns-in_default : goal.returns-in_default
returns-in_default g c = λ rs at h.
    let old = c.args.self.now in
    comments_more c.args.config.now rs c.args.row.now old (record { last = c.last_end-self.result; found = old.found; kept = old.kept }) c.args.line [] at h
    (c.last_end-self.ensures ∙ ap (λ (ys : List LexemeValue). last_lexeme_end old.last c.args.line ys) c.lexemes.ensures)
    (no_comment c.args.line c.last_end-self.result _ c.comment.result _ c.in_default.is c.comment.ensures)
    (sym (ap (λ (fs : List FindingValue). old.found.items ++ fs) (none_shown c.args.config.now) ∙ append-nil old.found.items))
    (sym (append-nil old.kept.items))

pub returns : goal.returns
returns g c = λ rs at h.
    let old = c.args.self.now in
    let r = c.args.row.now in
    let comment : PlacedCommentValue = record { line = c.args.line; column = c.col.result; text = c.text.result.now; behind = c.column_in.result } in
    let there : r.entry.comment ≡ Some c.in-Some.comment.now = sym c.comment.ensures ∙ ap (option_map (λ x. x.now)) c.in-Some.is in
    on_ok c.push_addressed.result
    (λ pushed. comments_more c.args.config.now rs r old (record { last = c.last_end-self.result; found = c.append.new.self; kept = c.push_addressed.new.kept }) c.args.line (comment ∷ []) at h
    (c.last_end-self.ensures ∙ ap (λ (ys : List LexemeValue). last_lexeme_end old.last c.args.line ys) c.lexemes.ensures)
    (comment_is c.args.line c.last_end-self.result r.entry.comment c.in-Some.comment.now c.col.result c.text.result.now c.column_in.result there c.col.ensures c.text.ensures c.column_in.ensures)
    (c.in_ok-append.ensures.items ∙ ap (λ (fs : List FindingValue). old.found.items ++ fs) c.in_ok-found.ensures)
    pushed)
    c.push_addressed.ensures
