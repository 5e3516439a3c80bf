use Rattle.std.proofs.Common.{◌≡◌, ◌++◌, drop}
use Rattle.std.specs.Prelude.{codes, string_bytes}
use Rattle.std.specs.List.{items_where_true, join_by}
use Rattle.yl_lexeme_rules.specs.Truthy.{truthy_words}
use Rattle.yl_lexeme_rules.specs.WordList.{word_list}
use Rattle.yl_lexeme_rules.proofs.words.truthy_text.Given as goal

abbrev pub invariant-loop-i : goal.invariant-loop-i
invariant-loop-i g l =
    string_bytes l.text ++ word_list l.is_first (items_where_true (drop l.i l.words.allowed) (drop l.i truthy_words))
    ≡ codes "truthy value should be one of [" ++ join_by (λ w. w) (codes ", ") (items_where_true l.words.allowed truthy_words)
