use Rattle.std.proofs.Common.{rules}
use Rattle.yl_marks.specs.Keys.{lexeme_at_line}
use Rattle.yl_lexeme_rules.proofs.LexemesLeft.{as_many_keys, document_read}
use Rattle.yl_lexeme_rules.proofs.lexemes.lexeme_problems.Goals as goal

pub split_at-requires-2 : goal.split_at-requires-2
split_at-requires-2 g c = as_many_keys (λ x. lexeme_at_line x.line x.lexeme.now) c.args.counted c.args.lexemes.now c.args.keys.now c.requires.counted c.requires.keys

pub returns : goal.returns
returns g c =
    document_read (λ x. lexeme_at_line x.line x.lexeme.now) c.args.counted c.args.lexemes.now c.split_at.result.0.now c.args.keys.now c.split_at-2.result.0.now
    c.args.options.now c.new-rules.result c.read_all.new.self c.new-problems.result.items c.read_all.new.problems.items c.finish.new.problems.items
    c.split_at.ensures.front c.split_at-2.ensures.front c.requires.keys (search rules) c.new-rules.ensures.version c.new-rules.ensures.whole
    c.in_ok-read_all.ensures.found c.in_ok-finish.ensures
