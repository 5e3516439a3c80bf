-- What want of memory leaves of the documents.
use Rattle.std.proofs.Common.{◌≡◌, ℕ, Bool, true, false, cond, List, [], ◌∷◌, Option, None, Some, refl, ap}
use Rattle.std.specs.Prelude.{bytes_eq}
use Rattle.yl_units.specs.declared.encoding.Encoding.{Encoding}
use Rattle.yl_config.specs.declared.config.Config.{Config}
use Rattle.yl_lsp.specs.Params.{ChangeValue, OpenedValue}
use Rattle.yl_workspace.specs.declared.cause.Cause.TheVariants.{OutOfMemory}
use Rattle.yl_workspace.specs.Documents.{DocumentValue, changed, document_at, lost, opened, with_document}

absent_front : (uri : List ℕ) (other : DocumentValue → DocumentValue) (d : DocumentValue) (ds : List DocumentValue) (b : Bool) → cond b (Some d) (document_at uri ds) ≡ None
    → (document_at uri ds ≡ None → with_document uri other ds ≡ ds) → cond b (other d ∷ ds) (d ∷ with_document uri other ds) ≡ d ∷ ds
absent_front uri other d ds true n h = absurd (some_none n)
  where
    some_none : Some d ≡ None → ⊥
    some_none e = cc
absent_front uri other d ds false n h = ap (λ l. d ∷ l) (h n)

absent : (uri : List ℕ) (other : DocumentValue → DocumentValue) (ds : List DocumentValue) → document_at uri ds ≡ None → with_document uri other ds ≡ ds
absent uri other [] n = refl
absent uri other (d ∷ ds) n = absent_front uri other d ds (bytes_eq d.uri uri) n (absent uri other ds)

pub opened_absent : (c : Option Config) (o : OpenedValue) (ds : List DocumentValue) → document_at o.uri ds ≡ None → opened c (false ∷ []) o ds ≡ ds
opened_absent c o ds n = absent o.uri _ ds n

pub changed_without_memory : (e : Encoding) (uri version : List ℕ) (cs : List ChangeValue) (ds : List DocumentValue) → changed e (false ∷ []) uri version cs ds ≡ lost OutOfMemory uri ds
changed_without_memory e uri version cs ds = refl
