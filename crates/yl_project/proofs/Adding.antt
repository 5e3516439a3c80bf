-- Patterns added line by line and node by node.
use Rattle.std.proofs.Common.{◌≡◌, ◌≢◌, ℕ, Bool, true, false, List, [], ◌∷◌, Option, Some, None, Result, Ok, Err, OnOk, option_and_then, refl, ap, sym, ◌∙◌}
use Rattle.yl_text.specs.declared.position.Pos.{Pos}
use Rattle.yl_text.specs.declared.row.Break.{Break}
use Rattle.yl_text.specs.Lines.{RowValue, lines_of}
use Rattle.yl_events.specs.Event.{EventKindValue}
use Rattle.yl_settings.specs.Nodes.{Nodes, NoNode, Node}
use Rattle.yl_patterns.specs.declared.fault.PatternFault.{PatternFault}
use Rattle.yl_patterns.specs.declared.fault.PatternFault.TheVariants.{BadPattern}
use Rattle.yl_patterns.specs.Patterns as pattern
use Rattle.yl_patterns.specs.Patterns.{PatternValue, Line, Nothing, Bad, Says}
use Rattle.yl_project.specs.Answers.{Gives}
use Rattle.yl_project.specs.Texts.{after, block_lines, is_below, with_line, with_lines, with_text, with_texts}

-- what `add` of patterns says, as a line's pattern after others
pub added : {T : Type 0} (r : Result T PatternFault) (old new : List PatternValue) (line : Line)
    → OnOk r (new ≡ pattern.with_line old line) → OnOk r (line ≢ Bad) → (r ≡ Err BadPattern → line ≡ Bad) → Gives r new (after old line)
added (Ok x) old new Nothing ok good bad = ap Some (sym ok)
added (Ok x) old new Bad ok good bad = absurd (good refl)
added (Ok x) old new (Says p) ok good bad = ap Some (sym ok)
added (Err e) old new line ok good bad = λ is_bad. ap (after old) (bad (ap Err is_bad))

-- ---- lines

pub with_lines-first : (ps qs : List PatternValue) (line : RowValue) (more lines : List RowValue) → lines ≡ line ∷ more → with_line ps line.text ≡ Some qs
    → with_lines qs more ≡ with_lines ps lines
unfolding with_lines
with_lines-first ps qs line more lines are said =
    sym (ap (with_lines ps) are ∙ ap (option_and_then (λ os. with_lines os more)) said)

pub with_lines-fails : (ps : List PatternValue) (line : RowValue) (more lines : List RowValue) → lines ≡ line ∷ more → with_line ps line.text ≡ None → with_lines ps lines ≡ None
unfolding with_lines
with_lines-fails ps line more lines are said = ap (with_lines ps) are ∙ ap (option_and_then (λ os. with_lines os more)) said

pub with_lines-none : (ps : List PatternValue) (lines : List RowValue) → lines ≡ [] → with_lines ps lines ≡ Some ps
unfolding with_lines
with_lines-none ps lines are = ap (with_lines ps) are

pub block_lines-first : (column : ℕ) (line : RowValue) (more : List RowValue) → is_below column line.text ≡ true
    → block_lines column (line ∷ more) ≡ line ∷ block_lines column more
unfolding block_lines
block_lines-first column line more is = rw is refl

pub block_lines-stops : (column : ℕ) (line : RowValue) (more : List RowValue) → is_below column line.text ≡ false → block_lines column (line ∷ more) ≡ []
unfolding block_lines
block_lines-stops column line more is = rw is refl

pub block_lines-end : (column : ℕ) → block_lines column [] ≡ []
unfolding block_lines
block_lines-end column = refl

-- ---- nodes

pub with_texts-first : (lines : List RowValue) (column : ℕ) (kind : EventKindValue) (place : Option Pos) (inside more nodes : Nodes) (ps qs : List PatternValue)
    → nodes ≡ Node kind place inside more → with_text lines column kind place ps ≡ Some qs → with_texts lines column more qs ≡ with_texts lines column nodes ps
unfolding with_texts
with_texts-first lines column kind place inside more nodes ps qs are said =
    sym (ap (λ (o : Nodes). with_texts lines column o ps) are ∙ ap (option_and_then (with_texts lines column more)) said)

pub with_texts-fails : (lines : List RowValue) (column : ℕ) (kind : EventKindValue) (place : Option Pos) (inside more nodes : Nodes) (ps : List PatternValue)
    → nodes ≡ Node kind place inside more → with_text lines column kind place ps ≡ None → with_texts lines column nodes ps ≡ None
unfolding with_texts
with_texts-fails lines column kind place inside more nodes ps are said =
    ap (λ (o : Nodes). with_texts lines column o ps) are ∙ ap (option_and_then (with_texts lines column more)) said

pub with_texts-none : (lines : List RowValue) (column : ℕ) (nodes : Nodes) (ps : List PatternValue) → nodes ≡ NoNode → with_texts lines column nodes ps ≡ Some ps
unfolding with_texts
with_texts-none lines column nodes ps are = ap (λ (o : Nodes). with_texts lines column o ps) are
