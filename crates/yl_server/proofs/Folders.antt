-- What is found of documents, one after another.
use Rattle.std.proofs.Common.{◌≡◌, ℕ, ◌+◌, ◌<◌, ◌≤◌, zero, suc, Bool, true, false, List, [], ◌∷◌, ◌++◌, length, take, drop, Option, None, Some, is_some, refl, sym, ap, ◌∙◌}
use Rattle.std.specs.Prelude.{◌||◌}
use Rattle.std.specs.Option.{option_map_or, option_or}
use Rattle.yl_config.specs.declared.config.Config.{Config}
use Rattle.yl_workspace.specs.Documents.{DocumentValue, configured, configured_document, with_document_at}
use Rattle.yl_workspace.proofs.Lists.{each_done, each_step, with_index}
use Rattle.yl_server.specs.declared.governed.Governed.{Governed}
use Rattle.yl_server.specs.declared.settings.SettingFault.{SettingFault}
use Rattle.yl_server.specs.Folders.{config_at_first, fault_anew, fault_at_first, fault_in, first_fault, governed_document, governed_each, is_changed, judged, judged_anew}

-- ---- one document

same_at : (i : ℕ) (ds : List DocumentValue) → with_document_at i (λ d. d) ds ≡ ds
same_at i [] = refl
same_at zero (d ∷ ds) = refl
same_at (suc i) (d ∷ ds) = ap (λ (l : List DocumentValue). d ∷ l) (same_at i ds)

abbrev at_by : ℕ → Bool → Option (Option Config) → List DocumentValue → List DocumentValue
at_by i granted o ds = with_document_at i (λ d. option_map_or (λ c. configured_document c granted d) o d) ds

pub governed_at : (i : ℕ) (g : Governed) (config : Option Config) (granted : Bool) (ds new : List DocumentValue) → Some config ≡ judged g → new ≡ with_document_at i (configured_document config granted) ds
    → new ≡ with_document_at i (governed_document g granted) ds
governed_at i g config granted ds new h n = n ∙ ap (λ (o : Option (Option Config)). at_by i granted o ds) h

pub governed_not : (i : ℕ) (g : Governed) (granted : Bool) (ds : List DocumentValue) → None ≡ judged g → ds ≡ with_document_at i (governed_document g granted) ds
governed_not i g granted ds h = sym (same_at i ds) ∙ ap (λ (o : Option (Option Config)). at_by i granted o ds) h

-- ---- one more

or_assoc : (a b c : Bool) → ((a || b) || c) ≡ (a || (b || c))
or_assoc true b c = refl
or_assoc false b c = refl

first_assoc : {A : Type 0} (a b c : Option A) → option_or (option_or a b) c ≡ option_or a (option_or b c)
first_assoc None b c = refl
first_assoc (Some x) b c = refl

abbrev pub IsRefreshedTo : (i : ℕ) → (start now : List DocumentValue) → (changed : Bool) → Option SettingFault → Type 0
IsRefreshedTo i start now changed f =
    (rest : List Governed) (grants : List Bool) → (found : List Governed) × (all : List Bool) × (take i now ++ governed_each rest grants (drop i now) ≡ governed_each found all start)
    × ((changed || is_changed rest) ≡ is_changed found) × (option_or f (first_fault rest) ≡ first_fault found)

pub one_more : (i : ℕ) (g : Governed) (granted : Bool) (d0 : DocumentValue) (start xs ys : List DocumentValue) (a b : Bool) (e f : Option SettingFault) → i < length xs → ys ≡ with_document_at i (governed_document g granted) xs
    → b ≡ (a || is_some (judged g)) → f ≡ option_or e (fault_in g) → IsRefreshedTo i start xs a e → IsRefreshedTo (i + 1) start ys b f
one_more i g granted d0 start xs ys a b e f l y c q h rest grants =
    let before = h (g ∷ rest) (granted ∷ grants) in
    let set = y ∙ with_index i (governed_document g granted) xs d0 l in (
      before.0,
      before.1,
      each_step (governed_each (g ∷ rest) (granted ∷ grants)) (governed_each rest grants) (governed_document g granted) (λ d ds. refl) xs ys i d0 l set ∙ before.2,
      ap (λ x. x || is_changed rest) c ∙ or_assoc a (is_some (judged g)) (is_changed rest) ∙ before.3,
      ap (λ x. option_or x (first_fault rest)) q ∙ first_assoc e (fault_in g) (first_fault rest) ∙ before.4,
    )

or_false : (b : Bool) → (b || false) ≡ b
or_false true = refl
or_false false = refl

or_none : {A : Type 0} (o : Option A) → option_or o None ≡ o
or_none None = refl
or_none (Some x) = refl

pub all_found : (i : ℕ) (start now : List DocumentValue) (changed : Bool) (f : Option SettingFault) → length now ≤ i → IsRefreshedTo i start now changed f
    → (found : List Governed) × (grants : List Bool) × (now ≡ governed_each found grants start) × (changed ≡ is_changed found) × (f ≡ first_fault found)
all_found i start now changed f l h =
    let done = h [] [] in
    (done.0, done.1, each_done (governed_each [] []) refl now i l ∙ done.2, sym (or_false changed) ∙ done.3, sym (or_none f) ∙ done.4)

-- ---- where the settings name a configuration, or none

pub first_named : (standard : Config) (config : Option Config) → is_some config ≡ true → (config ≡ config_at_first standard config []) × (None ≡ fault_at_first config [])
first_named standard None h = cc
first_named standard (Some c) h = (refl, refl)

pub first_unnamed : (standard : Config) (config : Option Config) (g : Governed) → is_some config ≡ false
    → (config_at_first standard None (g ∷ []) ≡ config_at_first standard config (g ∷ [])) × (fault_in g ≡ fault_at_first config (g ∷ []))
first_unnamed standard None g h = (refl, refl)
first_unnamed standard (Some c) g h = cc

pub anew_named : (config : Option Config) (grants : List Bool) (ds : List DocumentValue) → is_some config ≡ true → (configured config grants ds ≡ judged_anew config [] grants ds) × (None ≡ fault_anew config [])
anew_named None grants ds h = cc
anew_named (Some c) grants ds h = (refl, refl)

pub anew_unnamed : (config : Option Config) (found : List Governed) (grants : List Bool) (ds : List DocumentValue) → is_some config ≡ false
    → (governed_each found grants ds ≡ judged_anew config found grants ds) × (first_fault found ≡ fault_anew config found)
anew_unnamed None found grants ds h = (refl, refl)
anew_unnamed (Some c) found grants ds h = cc
