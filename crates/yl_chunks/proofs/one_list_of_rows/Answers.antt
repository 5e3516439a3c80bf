use Rattle.std.proofs.Common.{List, ℕ, sym, subst}
use Rattle.yl_text.specs.Lines.{IsLines, text_of}
use Rattle.yl_chunks.proofs.one_list_of_rows.Goals as goal

pub returns : goal.returns
returns g c =
    let ps = g.S.Lines.rows c.args._one.now in
    let qs = g.T.Lines.rows c.args._other.now in
    let Of : List ℕ → Type 0 = λ t. IsLines t qs in
    c.one_list_of_lines.ensures.unique (text_of ps) ps qs c.requires.one.lines (subst Of (sym c.requires.text) c.requires.other.lines)
