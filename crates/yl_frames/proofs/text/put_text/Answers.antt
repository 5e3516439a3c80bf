use Rattle.std.proofs.Common.{◌≡◌, ◌<◌, ◌∷◌, ◌++◌, ◌+◌, ◌∙◌, [], ℕ, List, length, get_or, arith, rules, tests, refl, subst, ap, false}
use Rattle.json.specs.Print.{escape, escape_byte, quoted}
use Rattle.yl_devices.proofs.Pieces.{on_err}
use Rattle.yl_frames.specs.Escapes.{is_special}
use Rattle.yl_frames.proofs.Outcomes.{fault_then, ok_then}
use Rattle.yl_frames.proofs.Escaped.{broken_at, byte_put, none_run, run_more, run_put, text_put}
use Rattle.yl_frames.proofs.text.put_text.Goals as goal

pub returns-in_err-put-clause-err : goal.returns-in_err-put-clause-err
returns-in_err-put-clause-err g c = on_err c.from_residual.result (g.met.P.Pieces.broken_before _ _ (34 ∷ []) (escape c.args.text.now ++ 34 ∷ []) c.in_err-put.ensures.err)

pub returns-in_err-put-2-clause-err : goal.returns-in_err-put-2-clause-err
returns-in_err-put-2-clause-err g c =
    let to = c.args.to.now in
    let new = c.put-in-loop-i.new.self in
    let bytes = c.as_bytes-bytes.result.now in
    let laws = g.met.P.Pieces in
    let h = c.loop-i.invariant in
    on_err c.from_residual-in_err-put-2.result (subst (λ (l : List ℕ). g.P.Pieces.breaks to (quoted l) new) c.as_bytes-bytes.ensures.value
    (broken_at (λ l. g.P.Pieces.breaks to l new) (λ xs ys b. laws.broken_before _ _ xs ys b) bytes c.loop-i.i
    (subst (λ (l : List ℕ). g.P.Pieces.breaks to l new) (run_put bytes c.loop-i.from c.loop-i.i h.within h.plain)
    (laws.broken_after _ _ _ _ _ h.put c.in_err-put-2.ensures.err))))

pub loop-i-preserved-then-not-is_special : goal.loop-i-preserved-then-not-is_special
loop-i-preserved-then-not-is_special g c =
    let h = c.loop-i.invariant in
    let bytes = c.as_bytes-bytes.result.now in
    let plain : is_special (get_or bytes c.loop-i.i 0) ≡ false = search (rules, tests) in
    record {
      can = h.can;
      within = omega arith;
      put = h.put;
      plain = run_more bytes c.loop-i.from c.loop-i.i 0 h.within (omega arith) plain h.plain;
    }

pub returns-in_err-put_escape-clause-err : goal.returns-in_err-put_escape-clause-err
returns-in_err-put_escape-clause-err g c =
    let to = c.args.to.now in
    let new = c.put_escape.new.to in
    let bytes = c.as_bytes-bytes.result.now in
    let laws = g.met.P.Pieces in
    let h = c.loop-i.invariant in
    let inside : c.loop-i.i < length bytes = omega arith in
    on_err c.from_residual-in_err-put_escape.result (subst (λ (l : List ℕ). g.P.Pieces.breaks to (quoted l) new) c.as_bytes-bytes.ensures.value
    (broken_at (λ l. g.P.Pieces.breaks to l new) (λ xs ys b. laws.broken_before _ _ xs ys b) bytes (c.loop-i.i + 1)
    (subst (λ (l : List ℕ). g.P.Pieces.breaks to l new) (ap (λ l. l ++ escape_byte (get_or bytes c.loop-i.i 0)) (run_put bytes c.loop-i.from c.loop-i.i h.within h.plain) ∙ byte_put bytes c.loop-i.i 0 inside)
    (laws.broken_after _ _ _ _ _ (laws.joined _ _ _ _ _ h.put c.in_ok-put-2.ensures.ok) c.in_err-put_escape.ensures.err))))

pub loop-i-preserved : goal.loop-i-preserved
loop-i-preserved g c =
    let to = c.args.to.now in
    let bytes = c.as_bytes-bytes.result.now in
    let laws = g.met.P.Pieces in
    let h = c.loop-i.invariant in
    let inside : c.loop-i.i < length bytes = omega arith in
    record {
      can = search rules;
      within = omega arith;
      put = subst (λ (l : List ℕ). g.P.Pieces.puts to l c.put_escape.new.to) (ap (λ l. l ++ escape_byte (get_or bytes c.loop-i.i 0)) (run_put bytes c.loop-i.from c.loop-i.i h.within h.plain) ∙ byte_put bytes c.loop-i.i 0 inside)
          (laws.joined _ _ _ _ _ (laws.joined _ _ _ _ _ h.put c.in_ok-put-2.ensures.ok) c.in_ok-put_escape.ensures.ok);
      plain = none_run bytes (c.loop-i.i + 1);
    }

pub returns-in_err-put-3-clause-err : goal.returns-in_err-put-3-clause-err
returns-in_err-put-3-clause-err g c =
    let to = c.args.to.now in
    let new = c.put-2.new.self in
    let bytes = c.as_bytes-bytes.result.now in
    let laws = g.met.P.Pieces in
    let end : c.loop-i.i ≡ length bytes = omega arith in
    let within = rw end at c.loop-i.invariant.within in
    let plain = rw end at c.loop-i.invariant.plain in
    on_err c.from_residual-in_err-put-3.result (subst (λ (l : List ℕ). g.P.Pieces.breaks to (quoted l) new) c.as_bytes-bytes.ensures.value
    (broken_at (λ l. g.P.Pieces.breaks to l new) (λ xs ys b. laws.broken_before _ _ xs ys b) bytes (length bytes)
    (subst (λ (l : List ℕ). g.P.Pieces.breaks to l new) (run_put bytes c.loop-i.from (length bytes) within plain)
    (laws.broken_after _ _ _ _ _ c.loop-i.invariant.put c.in_err-put-3.ensures.err))))

pub returns-clause-ok : goal.returns-clause-ok
returns-clause-ok g c =
    let to = c.args.to.now in
    let new = c.put-3.new.self in
    let bytes = c.as_bytes-bytes.result.now in
    let laws = g.met.P.Pieces in
    let end : c.loop-i.i ≡ length bytes = omega arith in
    let within = rw end at c.loop-i.invariant.within in
    let plain = rw end at c.loop-i.invariant.plain in
    ok_then c.put-3.result c.put-3.ensures.ok (λ q. subst (λ (l : List ℕ). g.P.Pieces.puts to (quoted l) new) c.as_bytes-bytes.ensures.value
    (subst (λ (l : List ℕ). g.P.Pieces.puts to l new) (text_put bytes c.loop-i.from (length bytes) refl within plain)
    (laws.joined _ _ _ _ _ (laws.joined _ _ _ _ _ c.loop-i.invariant.put c.in_ok-put-3.ensures.ok) q)))

pub returns-clause-err : goal.returns-clause-err
returns-clause-err g c =
    let to = c.args.to.now in
    let new = c.put-3.new.self in
    let bytes = c.as_bytes-bytes.result.now in
    let laws = g.met.P.Pieces in
    let end : c.loop-i.i ≡ length bytes = omega arith in
    let within = rw end at c.loop-i.invariant.within in
    let plain = rw end at c.loop-i.invariant.plain in
    fault_then c.put-3.result c.put-3.ensures.err (λ q. subst (λ (l : List ℕ). g.P.Pieces.breaks to (quoted l) new) c.as_bytes-bytes.ensures.value
    (subst (λ (l : List ℕ). g.P.Pieces.breaks to l new) (text_put bytes c.loop-i.from (length bytes) refl within plain)
    (laws.broken_after _ _ _ _ _ (laws.joined _ _ _ _ _ c.loop-i.invariant.put c.in_ok-put-3.ensures.ok) q)))
