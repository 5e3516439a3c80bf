-- What methods ask for.
use Rattle.std.proofs.Common.{◌≡◌, ℕ, Bool, true, false, cond, List, Option, refl, ◌∙◌}
use Rattle.std.specs.Prelude.{bytes_eq, codes}
use Rattle.std.specs.Option.{option_map_or}
use Rattle.json.specs.Json.{Json}
use Rattle.yl_lsp.specs.Params.{changed_settings}
use Rattle.yl_server.specs.Requests.{Initialize, Shutdown, Unknown, request_of, Sets, Starts, Refreshes, Exits, Passed, changes, closes, notice_of, notice_with, opens, tells_of_files}

then_is : {A : Type 0} (b : Bool) (x y : A) → b ≡ true → cond b x y ≡ x
then_is true x y h = refl
then_is false x y h = cc

else_is : {A : Type 0} (b : Bool) (x y : A) → b ≡ false → cond b x y ≡ y
else_is true x y h = cc
else_is false x y h = refl

pub is_initialize : (m : List ℕ) (p : Option Json) → bytes_eq m (codes "initialize") ≡ true → request_of m p ≡ Initialize p
is_initialize m p h = then_is _ _ _ h

pub is_shutdown : (m : List ℕ) (p : Option Json) → bytes_eq m (codes "initialize") ≡ false → bytes_eq m (codes "shutdown") ≡ true → request_of m p ≡ Shutdown
is_shutdown m p h g = else_is _ _ _ h ∙ then_is _ _ _ g

pub is_unknown : (m : List ℕ) (p : Option Json) → bytes_eq m (codes "initialize") ≡ false → bytes_eq m (codes "shutdown") ≡ false → request_of m p ≡ Unknown
is_unknown m p h g = else_is _ _ _ h ∙ else_is _ _ _ g

pub is_exit : (m : List ℕ) (p : Option Json) → bytes_eq m (codes "exit") ≡ true → notice_of m p ≡ Exits
is_exit m p h = then_is _ _ _ h

pub is_other : (m : List ℕ) (p : Option Json) → bytes_eq m (codes "exit") ≡ false → notice_of m p ≡ option_map_or (notice_with m) p Passed
is_other m p h = else_is _ _ _ h

pub is_open : (m : List ℕ) (j : Json) → bytes_eq m (codes "textDocument/didOpen") ≡ true → notice_with m j ≡ opens j
is_open m j h = then_is _ _ _ h

pub is_change : (m : List ℕ) (j : Json) → bytes_eq m (codes "textDocument/didOpen") ≡ false → bytes_eq m (codes "textDocument/didChange") ≡ true → notice_with m j ≡ changes j
is_change m j h g = else_is _ _ _ h ∙ then_is _ _ _ g

pub is_close : (m : List ℕ) (j : Json) → bytes_eq m (codes "textDocument/didOpen") ≡ false → bytes_eq m (codes "textDocument/didChange") ≡ false → bytes_eq m (codes "textDocument/didClose") ≡ true → notice_with m j ≡ closes j
is_close m j h g k = else_is _ _ _ h ∙ (else_is _ _ _ g ∙ then_is _ _ _ k)

pub is_settings : (m : List ℕ) (j : Json) → bytes_eq m (codes "textDocument/didOpen") ≡ false → bytes_eq m (codes "textDocument/didChange") ≡ false → bytes_eq m (codes "textDocument/didClose") ≡ false
    → bytes_eq m (codes "workspace/didChangeConfiguration") ≡ true → notice_with m j ≡ Sets (changed_settings j)
is_settings m j h g k l = else_is _ _ _ h ∙ (else_is _ _ _ g ∙ (else_is _ _ _ k ∙ then_is _ _ _ l))

pub is_start : (m : List ℕ) (j : Json) → bytes_eq m (codes "textDocument/didOpen") ≡ false → bytes_eq m (codes "textDocument/didChange") ≡ false → bytes_eq m (codes "textDocument/didClose") ≡ false
    → bytes_eq m (codes "workspace/didChangeConfiguration") ≡ false → bytes_eq m (codes "initialized") ≡ true → notice_with m j ≡ Starts
is_start m j h g k l n = else_is _ _ _ h ∙ (else_is _ _ _ g ∙ (else_is _ _ _ k ∙ (else_is _ _ _ l ∙ then_is _ _ _ n)))

pub is_refresh : (m : List ℕ) (j : Json) → bytes_eq m (codes "textDocument/didOpen") ≡ false → bytes_eq m (codes "textDocument/didChange") ≡ false → bytes_eq m (codes "textDocument/didClose") ≡ false
    → bytes_eq m (codes "workspace/didChangeConfiguration") ≡ false → bytes_eq m (codes "initialized") ≡ false → tells_of_files m ≡ true → notice_with m j ≡ Refreshes
is_refresh m j h g k l n o = else_is _ _ _ h ∙ (else_is _ _ _ g ∙ (else_is _ _ _ k ∙ (else_is _ _ _ l ∙ (else_is _ _ _ n ∙ then_is _ _ _ o))))

pub is_none : (m : List ℕ) (j : Json) → bytes_eq m (codes "textDocument/didOpen") ≡ false → bytes_eq m (codes "textDocument/didChange") ≡ false → bytes_eq m (codes "textDocument/didClose") ≡ false
    → bytes_eq m (codes "workspace/didChangeConfiguration") ≡ false → bytes_eq m (codes "initialized") ≡ false → tells_of_files m ≡ false → notice_with m j ≡ Passed
is_none m j h g k l n o = else_is _ _ _ h ∙ (else_is _ _ _ g ∙ (else_is _ _ _ k ∙ (else_is _ _ _ l ∙ (else_is _ _ _ n ∙ else_is _ _ _ o))))
