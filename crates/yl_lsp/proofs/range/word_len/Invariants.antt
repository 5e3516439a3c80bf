use Rattle.std.proofs.Common.{◌≡◌, ◌++◌, length, take, drop}
use Rattle.std.specs.List.{take_while}
use Rattle.std.specs.Str.{chars}
use Rattle.yl_lsp.specs.Words.{without_colon}
use Rattle.yl_lsp.proofs.Spans.{goes_on}
use Rattle.yl_lsp.proofs.range.word_len.Given as goal

abbrev pub invariant-loop-c : goal.invariant-loop-c
invariant-loop-c l = record {
  len : l.len ≡ length l.yielded;
  kept : l.kept ≡ length (without_colon l.yielded);
  rest : take_while goes_on (take 256 (chars l.text)) ≡ l.yielded ++ take_while goes_on (drop (length l.yielded) (take 256 (chars l.text)));
}
