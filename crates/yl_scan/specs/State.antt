-- Meaning: when two states are the same.
use Rattle.std.specs.Prelude.{◌≡◌, ◌↔◌, ℕ, Bool, true, false, ◌+◌, List, [], Option, Some, None, IsTrue}
use Rattle.std.specs.Prelude.{nat_eq}
use Rattle.std.specs.Cmp.{IsEquivalence, on_equiv, and_equiv}
use Rattle.std.specs.Cmp.{nat_eq_equiv}
use Rattle.std.specs.Cmp.Lexicographic.{nat_list_eq_equiv, lists_equiv}
use Rattle.std.specs.Ordering.{on, eq_of_both}
use lib.Pointwise.{pointwise}
use Rattle.yl_lexeme.specs.declared.lexeme.Style.TheVariants.{Plain, Single, Double, Literal, Folded}
use Rattle.yl_lexeme.specs.declared.lexeme.Kind.{Kind}
use Rattle.yl_lexeme.specs.declared.lexeme.Kind.TheVariants.{Directive, DocStart, DocEnd, Entry, Key, Value, Comma, SeqOpen, SeqClose, MapOpen, MapClose, Alias, Anchor, Tag, Scalar}
use Rattle.yl_row.specs.Entries.{LineStateValue, Stopped, Stands}

abbrev pub is_stopped : LineStateValue → Bool
is_stopped Stopped = true
is_stopped (Stands levels brackets last) = false

-- a number for each kind of lexeme
abbrev pub kind_number : Kind → ℕ
kind_number Directive = 0
kind_number DocStart = 1
kind_number DocEnd = 2
kind_number Entry = 3
kind_number Key = 4
kind_number Value = 5
kind_number Comma = 6
kind_number SeqOpen = 7
kind_number SeqClose = 8
kind_number MapOpen = 9
kind_number MapClose = 10
kind_number Alias = 11
kind_number Anchor = 12
kind_number Tag = 13
kind_number (Scalar Plain) = 14
kind_number (Scalar Single) = 15
kind_number (Scalar Double) = 16
kind_number (Scalar Literal) = 17
kind_number (Scalar Folded) = 18

abbrev pub last_number : Option Kind → ℕ
last_number None = 1
last_number (Some k) = kind_number k + 2

-- the parts of a state
abbrev pub levels_in : LineStateValue → List ℕ
levels_in Stopped = []
levels_in (Stands levels brackets last) = levels

abbrev pub brackets_in : LineStateValue → List Kind
brackets_in Stopped = []
brackets_in (Stands levels brackets last) = brackets

abbrev pub last_in : LineStateValue → ℕ
last_in Stopped = 0
last_in (Stands levels brackets last) = last_number last

-- whether two states are the same, by their parts
abbrev pub state_eq : LineStateValue → LineStateValue → Bool
state_eq = eq_of_both (on levels_in (pointwise nat_eq)) (eq_of_both (on brackets_in (pointwise (on kind_number nat_eq))) (on last_in nat_eq))

pub state_equivalence : IsEquivalence state_eq
state_equivalence = and_equiv (on_equiv levels_in nat_list_eq_equiv) (and_equiv (on_equiv brackets_in (lists_equiv (on_equiv kind_number nat_eq_equiv))) (on_equiv last_in nat_eq_equiv))

-- two states compare as equal if and only if they are the same
abbrev pub EqualsExactly : Type 0
EqualsExactly = (s t : LineStateValue) → IsTrue (state_eq s t) ↔ (s ≡ t)
