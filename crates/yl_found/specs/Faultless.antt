-- Meaning: sections as if none had a fault.
use Rattle.std.specs.Prelude.{List, None, map}
use Rattle.yl_sections.specs.Kept.{KeptValue}

-- a section as if it had no fault
abbrev pub faultless_one : KeptValue → KeptValue
faultless_one k = record k { fault = None }

-- sections as if none had a fault
abbrev pub faultless : List KeptValue → List KeptValue
faultless ks = map faultless_one ks
