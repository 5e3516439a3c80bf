use Rattle.std.proofs.Common.{◌≡◌, ◌<◌, ◌≤◌, ◌^◌, length, drop}
use Rattle.yl_frames.specs.Header.{number_after}
use Rattle.yl_frames.proofs.field.number.Given as goal

abbrev pub invariant-loop-c : goal.invariant-loop-c
invariant-loop-c l = record {
  rest : number_after l.value (drop l.c-index l.word) ≡ number_after 0 l.word;
  bound : l.value < 10 ^ l.c-index;
  short : length l.word ≤ 10;
}
