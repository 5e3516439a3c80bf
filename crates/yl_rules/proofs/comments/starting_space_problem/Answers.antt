use Rattle.std.proofs.Common.{◌≡◌, ◌∙◌, ap, sym, refl, drop}
use Rattle.yl_rules.specs.LineLength.{hash_count}
use Rattle.yl_rules.specs.Comments.{lacks_space}
use Rattle.yl_rules.proofs.CommentLemmas.{none_lacking, one_lacking}
use Rattle.yl_rules.proofs.comments.starting_space_problem.Goals as goal

pub returns-then-not-lacks_space : goal.returns-then-not-lacks_space
returns-then-not-lacks_space g c =
    let same : c.lacks_space.result ≡ lacks_space c.args.options.now c.args.line c.args.col (drop (hash_count c.args.text.now) c.args.text.now) =
    rw (c.lacks_space.ensures, c.past.ensures, c.count_front-hashes.ensures, c.as_bytes-bytes.ensures.value) in
    none_lacking c.args.options.now c.args.line c.args.col c.args.text.now c.utf8.text (sym same ∙ c.if-not-lacks_space.true)

pub returns : goal.returns
returns g c =
    let same : c.lacks_space.result ≡ lacks_space c.args.options.now c.args.line c.args.col (drop (hash_count c.args.text.now) c.args.text.now) =
    rw (c.lacks_space.ensures, c.past.ensures, c.count_front-hashes.ensures, c.as_bytes-bytes.ensures.value) in
    let width : c.count_front-hashes.result ≡ hash_count c.args.text.now = c.count_front-hashes.ensures ∙ ap hash_count c.as_bytes-bytes.ensures.value in
    one_lacking c.args.options.now c.args.line c.args.col c.count_front-hashes.result c.args.text.now _ c.fixed.result c.utf8.text (sym same ∙ c.if-not-lacks_space.false) width refl c.fixed.ensures
