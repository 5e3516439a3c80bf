-- Bridge: the summary that the code keeps of the elements before a place.
use Rattle.std.specs.Prelude.{Bool, true, false, not, ◌&&◌, ◌||◌, if◌then◌else◌, List, [], ◌∷◌, ◌++◌, Option, Some, None, option_to_list}
use Rattle.yl_lexeme.specs.Kept.{all_but_first, first_of}
use Rattle.yl_lexeme.specs.Lexeme.{is_entry, is_key, is_value}
use Rattle.yl_lexeme.specs.declared.lexeme.Kind.{Kind}
use Rattle.yl_marks.specs.declared.token.Token.{Token}
use Rattle.yl_indentation.specs.declared.element.Site.{Site}
use Rattle.yl_indentation.specs.declared.element.Element.{Element}
use Rattle.yl_indentation.specs.declared.element.Element.TheVariants.{Opening, Closing, Marker, OpeningBracket, ClosingBracket, Other, Nothing}
use Rattle.yl_indentation.specs.declared.context.OpenCollection.{OpenCollection}
use Rattle.yl_indentation.specs.declared.context.OpenCollection.TheVariants.{Block, Brackets}
use Rattle.yl_indentation.specs.declared.fact.Fact.{Fact}
use Rattle.yl_indentation.specs.Expected.{expectation_of_items}
use Rattle.yl_indentation.specs.Facts.{fact_at}

-- the open collections, the innermost first; the latest lexeme; and whether a block collection
-- opened directly before the place
pub record ContextValue : Type 0 where
  pub open_ones : List OpenCollection
  pub latest : Option Token
  pub just_opened : Bool

abbrev pub nothing_open : ContextValue
nothing_open = record { open_ones = []; latest = None; just_opened = false }

abbrev pub brackets : Site → OpenCollection
brackets site = Brackets site.indentation (expectation_of_items site)

abbrev pub is_entry_after : Kind → Bool → Bool
is_entry_after kind before = is_entry kind || (not (is_key kind || is_value kind) && before)

abbrev pub with_lexeme_in : Kind → OpenCollection → OpenCollection
with_lexeme_in kind (Block collection column in_entries) =
    Block collection column (is_entry_after kind in_entries)
with_lexeme_in kind (Brackets indentation items) = Brackets indentation items

abbrev pub with_lexeme : Kind → List OpenCollection → List OpenCollection
with_lexeme kind [] = []
with_lexeme kind (o ∷ os) = with_lexeme_in kind o ∷ os

abbrev pub open_after : Element → List OpenCollection → List OpenCollection
open_after (Opening collection column) os = Block collection column false ∷ os
open_after Closing os = all_but_first os
open_after (Marker site) os = []
open_after (OpeningBracket site) os = brackets site ∷ os
open_after (ClosingBracket site) os = all_but_first os
open_after (Other site) os = with_lexeme site.token.kind os
open_after Nothing os = os

abbrev pub latest_after : Element → Option Token → Option Token
latest_after (Opening collection column) before = before
latest_after Closing before = before
latest_after (Marker site) before = Some site.token
latest_after (OpeningBracket site) before = Some site.token
latest_after (ClosingBracket site) before = Some site.token
latest_after (Other site) before = Some site.token
latest_after Nothing before = before

abbrev pub is_opening : Element → Bool
is_opening (Opening collection column) = true
is_opening Closing = false
is_opening (Marker site) = false
is_opening (OpeningBracket site) = false
is_opening (ClosingBracket site) = false
is_opening (Other site) = false
is_opening Nothing = false

abbrev pub after : Element → ContextValue → ContextValue
after e c = record {
  open_ones = open_after e c.open_ones;
  latest = latest_after e c.latest;
  just_opened = is_opening e;
}

-- the innermost open collection, except one that opened directly before the place
abbrev pub around : Bool → List OpenCollection → Option OpenCollection
around just_opened os = if just_opened then first_of (all_but_first os) else first_of os

abbrev pub fact_here : ContextValue → Site → List Fact
fact_here c site = fact_at (option_to_list (around c.just_opened c.open_ones)) c.latest site

abbrev pub fact_in : ContextValue → Element → List Fact
fact_in c (Opening collection column) = []
fact_in c Closing = []
fact_in c (Marker site) = fact_here c site
fact_in c (OpeningBracket site) = fact_here c site
fact_in c (ClosingBracket site) = fact_here c site
fact_in c (Other site) = fact_here c site
fact_in c Nothing = []

abbrev pub facts_in : ContextValue → List Element → List Fact
facts_in c [] = []
facts_in c (e ∷ es) = fact_in c e ++ facts_in (after e c) es
