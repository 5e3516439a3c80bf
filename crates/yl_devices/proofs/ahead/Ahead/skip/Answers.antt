use Rattle.std.proofs.Common.{◌≡◌, ℕ, ◌+◌, ◌-◌, ◌≤◌, List, length, take, drop, ap, sym, ◌∙◌, arith, drop-drop, length-take}
use Rattle.std.proofs.lemmas.List.{drop-take}
use Rattle.yl_devices.proofs.ahead.Ahead.skip.Goals as goal

skipped : (xs view : List ℕ) (a e n : ℕ) → take (e - a) (drop a xs) ≡ view → n ≤ length view → take (e - (a + n)) (drop (a + n) xs) ≡ drop n view
skipped xs view a e n is most =
    let within : n ≤ e - a = omega (arith, length-take (e - a) (drop a xs), ap length is, most) in
    let whole : n + (e - (a + n)) ≡ e - a = omega (arith, within) in
    ap (take (e - (a + n))) (sym (drop-drop n a xs)) ∙ sym (drop-take n (e - (a + n)) (drop a xs)) ∙ ap (λ k. drop n (take k (drop a xs))) whole ∙ ap (drop n) is

pub returns : goal.returns
returns c = skipped c.self.inside.bytes c.args.self.now c.self.inside.at c.self.inside.end c.args.count c.self.view_is c.requires
