-- Bridge: laws of the definitions of plain and block scalars.
use Rattle.std.specs.Prelude.{◌≡◌, ℕ, Bool, List}
use Rattle.yl_scalar.specs.PlainSteps.{plain}
use Rattle.yl_scalar.specs.PlainLines.{plain_scalar}
use Rattle.yl_scalar.specs.Block.{block}
use Rattle.yl_scalar.specs.BlockLines.{block_scalar}

-- a plain scalar that is read line by line is the one that is defined by the lines that it takes
abbrev pub PlainLaw : Type 0
PlainLaw = (flow : Bool) (least at : ℕ) (first : List ℕ) (lines : List (List ℕ)) → plain flow least at first lines ≡ plain_scalar flow least at first lines

-- so is a block scalar, with any header
abbrev pub BlockLaw : Type 0
BlockLaw = (least at : ℕ) (header : List ℕ) (lines : List (List ℕ)) → block least at header lines ≡ block_scalar least at header lines
