use Rattle.std.proofs.Common.{◌≡◌, ◌∙◌, List, [], ◌∷◌, None, subst, sym}
use Rattle.yl_server.specs.declared.governed.Governed.{Governed}
use Rattle.yl_server.specs.Folders.{config_at_first, fault_at_first}
use Rattle.yl_server.specs.Machine.{ServerValue}
use Rattle.yl_server.proofs.Folders.{first_named, first_unnamed}
use Rattle.yl_server.proofs.server.Server.found_at_first.Goals as goal

pub returns-then-is_some : goal.returns-then-is_some
returns-then-is_some g c =
    let config = c.self.inside.config in
    let h = first_named c.self.inside.standard config (sym c.is_some.ensures ∙ c.if-is_some.true) in
    let P : ServerValue → Type 0 = λ t. (found : List Governed) × (config ≡ config_at_first t.standard t.config found) × (None ≡ fault_at_first t.config found) in
    subst P c.self.view_is ([], h.0, h.1)

pub returns : goal.returns
returns g c =
    let config = c.self.inside.config in
    let asked = c.of_document-found.result in
    let h = first_unnamed c.self.inside.standard config asked (sym c.is_some.ensures ∙ c.if-is_some.false) in
    let P : ServerValue → Type 0 = λ t. (found : List Governed) × (c.judged_at_first.result ≡ config_at_first t.standard t.config found) × (c.fault_in.result ≡ fault_at_first t.config found) in
    subst P c.self.view_is (asked ∷ [], c.judged_at_first.ensures ∙ h.0, c.fault_in.ensures ∙ h.1)
