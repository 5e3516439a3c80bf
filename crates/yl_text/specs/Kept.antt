-- Bridge: the text and the break of a line, wherever its text is stored.
use Rattle.std.specs.Prelude.{ℕ, List, string_bytes}
use Rattle.yl_text.specs.declared.row.Break.{Break}
use Rattle.yl_text.specs.declared.row.KeptLine.{KeptLine}
use Rattle.yl_text.specs.declared.row.KeptLine.TheVariants.{Short, Long}

abbrev pub text_kept : {A : Type 0} → KeptLine A → List ℕ
text_kept (Short end text) = text.bytes
text_kept (Long end text) = string_bytes text

abbrev pub end_kept : {A : Type 0} → KeptLine A → Break
end_kept (Short end text) = end
end_kept (Long end text) = end
