use Rattle.std.proofs.Common.{◌≡◌, ℕ, ◌+◌, ◌-◌, ◌^◌, ◌%◌, cond, leb, List, length, map, take, drop, replicate, ap, ◌∙◌, sym, w8, arith}
use Rattle.std.proofs.lemmas.Simd.{bitmask_splat, zip2_splat, length-chunk, chunk-fits, map-map}
use Rattle.std.proofs.lemmas.List.{length-map}
use Rattle.std.specs.Simd.Lanes.{chunk, mask_l, zip2, top}
use Rattle.yl_text.specs.Special.{is_special}
use Rattle.yl_text.proofs.Printable.{moved, flags_tell}
use Rattle.yl_text.proofs.special.special_lanes.Goals as goal

pub returns : goal.returns
returns c =
    let xs = chunk c.args.at 32 c.args.bytes.now in
    let long : length xs ≡ 32 = length-chunk c.args.at 32 c.args.bytes.now c.requires in
    let masked = bitmask_splat w8 leb (map moved xs) 32 160 (length-map xs moved ∙ long) (omega arith) in
    let told = flags_tell xs (chunk-fits w8 c.args.at 32 c.args.bytes.now c.type_inv.bytes) in
    let width : (c.args.at + 32) - c.args.at ≡ 32 = omega arith in
    ap (λ (v : List ℕ). mask_l (map (top 7) (zip2 (λ a b. cond (leb a b) 255 0) v (replicate 32 160))) % 2 ^ 64) (zip2_splat (λ (x y : ℕ). (x + (2 ^ 8 - y)) % 2 ^ 8) xs 32 127 long)
    ∙ masked ∙ ap mask_l (map-map (λ x. leb x 160) moved xs ∙ told)
    ∙ ap (λ (n : ℕ). mask_l (map is_special (take n (drop c.args.at c.args.bytes.now)))) (sym width)
