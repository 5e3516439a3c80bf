-- The truthy words of a sequence, one by one.
use Rattle.std.proofs.Common.{◌≡◌, ℕ, suc, ◌+◌, ◌<◌, Bool, true, false, List, [], ◌∷◌, Option, Some, length, bytes_eq, if◌then◌else◌, sym, ap, arith}
use Rattle.yl_lexeme_rules.specs.declared.truthy.TruthyWords.{TruthyWords}
use Rattle.std.specs.List.{position_from}
use Rattle.yl_lexeme_rules.specs.Truthy.{truthy_index, truthy_words}
use Rattle.yl_text.specs.declared.position.Pos.{Pos}
use Rattle.yl_events.specs.Event.{EventKindValue}
use Rattle.yl_settings.specs.Nodes.{Nodes, NoNode, Node}
use Rattle.yl_settings.specs.Values.{with_word, words_beside}
use Rattle.yl_settings.specs.Words.{word}

index_one : (b : Bool) (i j n : ℕ) (later : Option ℕ) → (later ≡ Some j → j < i + 1 + n) → (if b then Some i else later) ≡ Some j → j < i + suc n
index_one true i j n later below here = let same : i ≡ j = cc in omega arith
index_one false i j n later below there = omega (arith, below there)

position-below : (i j : ℕ) (ws : List (List ℕ)) (w : List ℕ) → position_from (λ v. bytes_eq v w) i ws ≡ Some j → j < i + length ws
position-below i j [] w is = cc
position-below i j (x ∷ xs) w is = index_one (bytes_eq x w) i j (length xs) (position_from (λ v. bytes_eq v w) (i + 1) xs) (position-below (i + 1) j xs w) is

pub truthy_index-below : (w : List ℕ) (j : ℕ) → truthy_index w ≡ Some j → j < 18
truthy_index-below w j is = position-below 0 j truthy_words w is

-- of the first word, and then of the others
pub words_beside-first : (set : Option TruthyWords) (kind : EventKindValue) (place : Option Pos) (inside more nodes : Nodes) → nodes ≡ Node kind place inside more
    → words_beside (with_word set (truthy_index (word kind))) more ≡ words_beside set nodes
unfolding words_beside
words_beside-first set kind place inside more nodes are = sym (ap (words_beside set) are)

pub words_beside-none : (set : Option TruthyWords) (nodes : Nodes) → nodes ≡ NoNode → words_beside set nodes ≡ set
unfolding words_beside
words_beside-none set nodes are = ap (words_beside set) are
