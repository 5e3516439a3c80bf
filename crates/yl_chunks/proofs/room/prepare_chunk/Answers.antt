use Rattle.std.proofs.Common.{◌≡◌, ℕ, ◌+◌, ◌<◌, ◌≤◌, ◌∙◌, List, Vec, Some, ap, sym, subst, set, length, slice_get, vec_len, vec_capacity, arith}
use Rattle.std.proofs.Math.Seq.{map-set_same}
use Rattle.std.proofs.lemmas.List.{get_or-set_same}
use Rattle.std.proofs.lemmas.Option.{get_or_from_slice_get}
use Rattle.std.proofs.lemmas.Result.{on_ok_weaker}
use Rattle.yl_chunks.proofs.room.prepare_chunk.Goals as goal

-- what is told of the one that was put there
held : {X : Type 0} (P : X → Type 0) (xs : List X) (j : ℕ) (y : X) → j < length xs → P y → (x : X) → slice_get (set xs j y) j ≡ Some x → P x
held P xs j y l h x at = subst P (sym (get_or-set_same xs j y y l) ∙ get_or_from_slice_get (set xs j y) j x y at) h

pub returns-clause-same : goal.returns-clause-same
returns-clause-same g c = map-set_same (λ v. v.items) c.args.chunks.now.items c.args.j c.try_reserve.new.self c.index_mut.result.now (c.try_reserve.ensures.items ∙ ap (λ v. v.items) c.index_mut.ensures.value)

pub returns-clause-room : goal.returns-clause-room
returns-clause-room g c =
    let y = c.try_reserve.new.self in
    let e = c.try_reserve.ensures in
    let l : c.args.j < length c.args.chunks.now.items = omega (arith, c.requires.within, c.args.chunks.now.ok.0) in
    let P : Vec g.row.T.Denot g.row.A.Denot → Type 0 = λ v. vec_len v + c.args.count ≤ vec_capacity v in
    on_ok_weaker c.try_reserve.result (held P c.args.chunks.now.items c.args.j y l) e.ok
