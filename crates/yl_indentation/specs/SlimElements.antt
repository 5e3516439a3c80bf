-- Bridge: elements without the surroundings that no rule uses.
use Rattle.std.specs.Prelude.{None}
use Rattle.yl_indentation.specs.declared.element.Site.{Site}
use Rattle.yl_indentation.specs.declared.element.Element.{Element}
use Rattle.yl_indentation.specs.declared.element.Element.TheVariants.{Opening, Closing, Marker, OpeningBracket, ClosingBracket, Other, Nothing}

-- a lexeme without its surroundings
abbrev pub slim_site : Site → Site
slim_site site = record { token = site.token; next = None; indentation = 0; counts = site.counts }

-- the surroundings of a lexeme matter only if it is an opening bracket
abbrev pub slim_element : Element → Element
slim_element (Opening collection column) = Opening collection column
slim_element Closing = Closing
slim_element (Marker site) = Marker (slim_site site)
slim_element (OpeningBracket site) = OpeningBracket site
slim_element (ClosingBracket site) = ClosingBracket (slim_site site)
slim_element (Other site) = Other (slim_site site)
slim_element Nothing = Nothing
