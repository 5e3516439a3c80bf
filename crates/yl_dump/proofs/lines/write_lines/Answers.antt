use Rattle.std.proofs.Common.{ℕ, List, true, subst}
use Rattle.std.specs.Prelude.{OnOk}
use Rattle.std.specs.Io.KnownBytes.{Appends}
use Rattle.yl_dump.proofs.Told.{states_all}
use Rattle.yl_dump.proofs.lines.write_lines.Goals as goal

pub returns : goal.returns
returns g c =
    subst (λ (t : List ℕ). OnOk c.write_states.result (Appends (g.W.Write.contents c.args.out.now) (g.W.Write.contents c.write_states.new.out) t))
    (states_all c.new-page.result c.args.text.now true c.new-scanner.result c.new-page.ensures c.new-scanner.ensures) c.write_states.ensures
