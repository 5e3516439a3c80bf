-- A document that is opened, in a list.
use Rattle.std.proofs.Common.{◌≡◌, ℕ, Bool, true, false, cond, List, [], ◌∷◌, ◌++◌, drop, set, get_or, refl, ◌∙◌, ap, Option, Some, None, Result, Ok, Err}
use Rattle.std.proofs.lemmas.Slice.Eq.{bytes_eq-Decides}
use Rattle.std.specs.Prelude.{is_some, OnErr}
use Rattle.std.specs.Str.{bytes_eq}
use Rattle.yl_config.specs.declared.config.Config.{Config}
use Rattle.yl_lsp.specs.Params.{OpenedValue}
use Rattle.yl_workspace.specs.declared.cause.Cause.TheVariants.{OutOfMemory}
use Rattle.yl_workspace.specs.Changes.{is_granted}
use Rattle.yl_workspace.specs.Documents.{DocumentValue, document_at, put_document, lost_document, opened_document, opened, lost}
use Rattle.yl_workspace.specs.Shown.{opened_again}
use Rattle.yl_workspace.proofs.Lists.{found, with_found, with_missing, put_found, put_missing, document_found}

abbrev Docs : Type 0
Docs = List DocumentValue

pub opened_found : (config : Option Config) (grants : List Bool) (o : OpenedValue) (ds : Docs) (i : ℕ) (d0 : DocumentValue) → found o.uri ds ≡ Some i
    → opened config grants o ds ≡ set ds i (opened_again config grants o (get_or ds i d0))
opened_found config grants o ds i d0 e =
    let new = opened_document config (is_granted (drop 1 grants)) o in
    elim (is_granted grants) as (λ b. cond b (put_document new ds) (lost OutOfMemory o.uri ds) ≡ set ds i (cond b new (lost_document OutOfMemory (get_or ds i d0)))) [
      | true ↦ put_found new o.uri ds i refl e
      | false ↦ with_found o.uri (lost_document OutOfMemory) ds i d0 e
    ]

pub opened_new : (config : Option Config) (granted : Bool) (o : OpenedValue) (ds : Docs) → found o.uri ds ≡ None → opened config (true ∷ granted ∷ []) o ds ≡ ds ++ opened_document config granted o ∷ []
opened_new config granted o ds e = put_missing (opened_document config granted o) o.uri ds refl e

pub opened_not : (config : Option Config) (o : OpenedValue) (ds : Docs) → found o.uri ds ≡ None → opened config (false ∷ []) o ds ≡ ds
opened_not config o ds e = with_missing o.uri (lost_document OutOfMemory) ds e

-- ---- it is there
same_uri : (xs : List ℕ) → bytes_eq xs xs ≡ true
same_uri xs = (bytes_eq-Decides xs xs).1 refl

pub put_there : (new : DocumentValue) (ds : Docs) → document_at new.uri (put_document new ds) ≡ Some new
put_there new [] = ap (λ b. cond b (Some new) None) (same_uri new.uri)
put_there new (d ∷ ds) =
    elim (bytes_eq d.uri new.uri) as (λ b. (bytes_eq d.uri new.uri ≡ b) → document_at new.uri (cond b (new ∷ ds) (d ∷ put_document new ds)) ≡ Some new) [
      | true ↦ λ e. ap (λ b. cond b (Some new) (document_at new.uri ds)) (same_uri new.uri)
      | false ↦ λ e. ap (λ b. cond b (Some d) (document_at new.uri (put_document new ds))) e ∙ put_there new ds
    ] refl

pub lost_there : (uri : List ℕ) (ds : Docs) → is_some (document_at uri ds) ≡ true → is_some (document_at uri (lost OutOfMemory uri ds)) ≡ true
lost_there uri [] h = h
lost_there uri (d ∷ ds) h =
    elim (bytes_eq d.uri uri) as (λ b. (bytes_eq d.uri uri ≡ b) → is_some (cond b (Some d) (document_at uri ds)) ≡ true → is_some (document_at uri (cond b (lost_document OutOfMemory d ∷ ds) (d ∷ lost OutOfMemory uri ds))) ≡ true) [
      | true ↦ λ e k. ap (λ b. is_some (cond b (Some (lost_document OutOfMemory d)) (document_at uri ds))) e
      | false ↦ λ e k. ap (λ b. is_some (cond b (Some d) (document_at uri (lost OutOfMemory uri ds)))) e ∙ lost_there uri ds k
    ] refl h

pub opened_there : (config : Option Config) (grants : List Bool) (o : OpenedValue) (ds : Docs) (i : ℕ) (d0 : DocumentValue) → found o.uri ds ≡ Some i → is_some (document_at o.uri (opened config grants o ds)) ≡ true
opened_there config grants o ds i d0 e =
    let new = opened_document config (is_granted (drop 1 grants)) o in
    elim (is_granted grants) as (λ b. is_some (document_at o.uri (cond b (put_document new ds) (lost OutOfMemory o.uri ds))) ≡ true) [
      | true ↦ ap (λ r. is_some r) (put_there new ds)
      | false ↦ lost_there o.uri ds (ap (λ r. is_some r) (document_found o.uri ds i d0 e))
    ]

pub new_there : (config : Option Config) (granted : Bool) (o : OpenedValue) (ds : Docs) → is_some (document_at o.uri (opened config (true ∷ granted ∷ []) o ds)) ≡ true
new_there config granted o ds = ap (λ r. is_some r) (put_there (opened_document config granted o) ds)

pub on_err : {T E : Type 0} (r : Result T E) (P : Type 0) → P → OnErr r P
on_err (Ok x) P p = tt
on_err (Err e) P p = p
