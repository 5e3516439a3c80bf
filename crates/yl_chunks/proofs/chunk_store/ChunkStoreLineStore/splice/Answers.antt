use Rattle.std.proofs.Common.{◌≡◌, ℕ, ◌+◌, ◌≤◌, ◌∙◌, ◌++◌, List, length, take, drop, ap, sym, subst, arith}
use Rattle.std.specs.List.{splice}
use Rattle.std.proofs.lemmas.List.{length-append}
use Rattle.std.proofs.lemmas.List.Concat.{flat_map-append}
use Rattle.yl_text.specs.Lines.{RowValue, row_bytes, text_of}
use Rattle.yl_text.specs.Store.{AreLines}
use Rattle.yl_text.proofs.Edited.{length-lines}
use Rattle.yl_chunks.proofs.Pieces.{in_two, part_le}
use Rattle.yl_chunks.proofs.chunk_store.ChunkStoreLineStore.splice.Goals as goal

-- the bytes of the rows after an edit, and those of the rows that go
spliced_bytes : (ps ns : List RowValue) (a b : ℕ) → length (text_of (splice ps a b ns)) + length (text_of (take b ps)) ≡ length (text_of ps) + length (text_of ns) + length (text_of (take a ps))
spliced_bytes ps ns a b =
    let whole = ap length (in_two row_bytes ps b) ∙ length-append (text_of (take b ps)) (text_of (drop b ps)) in
    let parts = ap length (flat_map-append row_bytes (take a ps) (ns ++ drop b ps)) ∙ length-append (text_of (take a ps)) (text_of (ns ++ drop b ps)) in
    let behind = ap length (flat_map-append row_bytes ns (drop b ps)) ∙ length-append (text_of ns) (text_of (drop b ps)) in
    omega (arith, whole, parts, behind)

-- as many rows as that come in
few : (ps ns : List RowValue) (a b : ℕ) → AreLines (splice ps a b ns) → length ns ≤ length (text_of (splice ps a b ns)) + 1
few ps ns a b h = omega (arith, length-lines (splice ps a b ns) h.lines.ended, length-append (take a ps) (ns ++ drop b ps), length-append ns (drop b ps))

pub overflow_sub-bytes : goal.overflow_sub-bytes
overflow_sub-bytes g c =
    let same = ap (λ u. length (text_of u)) c.self.view_is in
    omega (arith, c.bytes_between.ensures, c.self.invariant.1, same, part_le row_bytes c.args.self.now c.args.b)

pub splice-requires-clause-few : goal.splice-requires-clause-few
splice-requires-clause-few g c =
    omega (arith, length-lines c.self.inside.rows.items c.self.invariant.0.lines.ended, c.self.invariant.0.short, few c.args.self.now c.args.rows.now.items c.args.a c.args.b c.requires.lines, c.requires.lines.short, c.args.rows.now.ok.0)

pub invariant_of-self-2 : goal.invariant_of-self-2
invariant_of-self-2 g c =
    let ps = c.args.self.now in
    let ns = c.args.rows.now.items in
    let is : c.splice.new.self.items ≡ splice ps c.args.a c.args.b ns = c.in_ok-splice.ensures.ok ∙ ap (λ u. splice u c.args.a c.args.b ns) c.self.view_is in (
      subst AreLines (sym is) c.requires.lines,
      omega (arith, ap (λ u. length (text_of u)) is, spliced_bytes ps ns c.args.a c.args.b, c.bytes_between.ensures, c.bytes_of.ensures, ap (λ u. length (text_of u)) c.deref.ensures.value, c.self.invariant.1, ap (λ u. length (text_of u)) c.self.view_is, part_le row_bytes ps c.args.b),
    )
