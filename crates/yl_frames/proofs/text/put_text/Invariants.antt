use Rattle.std.proofs.Common.{◌≡◌, ◌∷◌, ◌-◌, ◌≤◌, take, drop}
use Rattle.json.specs.Print.{escape}
use Rattle.yl_frames.proofs.text.put_text.Given as goal

abbrev pub invariant-loop-i : goal.invariant-loop-i
invariant-loop-i g l = record {
  can : g.P.Pieces.can_put l.to;
  within : l.from ≤ l.i;
  put : g.P.Pieces.puts l.fn.to (34 ∷ escape (take l.from l.bytes)) l.to;
  plain : escape (take (l.i - l.from) (drop l.from l.bytes)) ≡ take (l.i - l.from) (drop l.from l.bytes);
}
