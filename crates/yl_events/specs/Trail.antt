-- Bridge: what is kept of the symbols of a document to determine the kind of a fault after them
-- (YAML 1.2.2, 9.1; 6.9 and 7.1; 7.4 and 8.2).
use Rattle.std.specs.Prelude.{ℕ, Bool, true, false, ◌||◌, if◌then◌else◌, List, [], ◌∷◌, take, drop}
use Rattle.yl_lexeme.specs.declared.lexeme.Kind.{Kind}
use Rattle.yl_marks.specs.declared.symbol.Symbol.{Symbol}
use Rattle.yl_marks.specs.declared.symbol.Symbol.TheVariants.{One}
use Rattle.yl_events.specs.declared.fault.ParseFault.{ParseFault}
use Rattle.yl_events.specs.declared.fault.ParseFault.TheVariants.{DocumentStartExpected, PropertiesGivenTwice}
use Rattle.yl_events.specs.Faults.{OpenCollections, open_behind, fault_in, front_len}

-- whether the latest symbol is a directive, whether the properties that end with it have an anchor
-- and a tag, and what is open
pub record TrailValue : Type 0 where
  pub at_directive : Bool
  pub with_anchor : Bool
  pub with_tag : Bool
  pub open_ones : OpenCollections

abbrev pub no_trail : TrailValue
no_trail = record { at_directive = false; with_anchor = false; with_tag = false; open_ones = record { depth = 0; blocks = [] } }

abbrev pub is_directive : Symbol → Bool
is_directive (One Kind.Directive i) = true
is_directive _ = false

-- one symbol more
abbrev pub anchor_behind : Bool → Symbol → Bool
anchor_behind had (One Kind.Anchor i) = true
anchor_behind had (One Kind.Tag i) = had
anchor_behind had _ = false

abbrev pub tag_behind : Bool → Symbol → Bool
tag_behind had (One Kind.Anchor i) = had
tag_behind had (One Kind.Tag i) = true
tag_behind had _ = false

abbrev pub trail_behind : TrailValue → Symbol → TrailValue
trail_behind t w = record {
  at_directive = is_directive w;
  with_anchor = anchor_behind t.with_anchor w;
  with_tag = tag_behind t.with_tag w;
  open_ones = open_behind t.open_ones w;
}

abbrev pub trail_after : TrailValue → List Symbol → TrailValue
trail_after t [] = t
trail_after t (w ∷ ws) = trail_after (trail_behind t w) ws

-- a second anchor or tag comes next, or an alias after properties
abbrev pub comes_twice : TrailValue → List Symbol → Bool
comes_twice t (One Kind.Anchor i ∷ ws) = t.with_anchor
comes_twice t (One Kind.Tag i ∷ ws) = t.with_tag
comes_twice t (One Kind.Alias i ∷ ws) = t.with_anchor || t.with_tag
comes_twice t _ = false

-- the kind of the fault, if these symbols come next
abbrev pub fault_behind : TrailValue → List Symbol → ParseFault
fault_behind t behind =
    if t.at_directive then DocumentStartExpected
    else if comes_twice t behind then PropertiesGivenTwice
    else fault_in t.open_ones behind

-- the kind of the fault at the lexeme with this index among the symbols that come next
abbrev pub fault_from : TrailValue → ℕ → List Symbol → ParseFault
fault_from t place ws = let n = front_len place ws in fault_behind (trail_after t (take n ws)) (drop n ws)
