-- Bridge: the value of the surroundings that a scanner keeps.
use Rattle.yl_lexeme.specs.declared.surroundings.Surroundings.{Surroundings}
use Rattle.yl_lexeme.specs.Known.{SurroundingsValue}

abbrev pub surroundings_value : {A : Type 0} → Surroundings A → SurroundingsValue
surroundings_value s = record {
  levels = s.levels;
  brackets = s.brackets;
  last = s.last;
  asks = s.asks;
  unit = s.unit.unit;
  outer = s.unit.outer;
  property = s.unit.property;
}
