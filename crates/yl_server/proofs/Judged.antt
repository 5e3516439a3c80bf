-- A server whose documents are judged anew.
use Rattle.std.proofs.Common.{◌≡◌, ℕ, Bool, true, false, List, [], Option, None, is_some, ap, ◌∙◌}
use Rattle.std.specs.Prelude.{unwrap_or}
use Rattle.yl_config.specs.declared.config.Config.{Config}
use Rattle.yl_lsp.specs.declared.presentation.Presentation.{Presentation}
use Rattle.yl_workspace.specs.Documents.{DocumentValue, configured}
use Rattle.yl_server.specs.declared.governed.Governed.{Governed}
use Rattle.yl_server.specs.declared.settings.SettingFault.{SettingFault}
use Rattle.yl_server.specs.Folders.{fault_anew, first_fault, governed_each, judged_anew}
use Rattle.yl_server.specs.Machine.{ServerValue, with_most, with_setting}
use Rattle.yl_server.proofs.Folders.{anew_named, anew_unnamed}

abbrev pub at_most : ℕ → Presentation → Presentation
at_most n how = record how { most = n }

abbrev pub judged_to : (how : Presentation) → Option Config → List DocumentValue → ServerValue → ServerValue
judged_to how config ds s = record s { how = how; config = config; documents = ds }

abbrev pub IsJudged : (old new : ServerValue) → Option Config → (most : Option ℕ) → Option SettingFault → Type 0
IsJudged old new config most f = (granted : List Bool) × (found : List Governed) × (new ≡ with_setting granted found config old.file most old) × (f ≡ fault_anew config found)

judged_so : (old s : ServerValue) (config : Option Config) (most : Option ℕ) (n : ℕ) (grants : List Bool) (found : List Governed) (ds : List DocumentValue) → s ≡ old → n ≡ unwrap_or most s.how.most
    → ds ≡ judged_anew config found grants s.documents → judged_to (at_most n s.how) config ds s ≡ with_setting grants found config old.file most old
judged_so old s config most n grants found ds i m d =
    ap (λ (k : ℕ). judged_to (at_most k s.how) config ds s) m
    ∙ (ap (λ (l : List DocumentValue). judged_to (with_most most s.how) config l s) d
    ∙ ap (λ (t : ServerValue). with_setting grants found config t.file most t) i)

pub judged_named : (old s : ServerValue) (config : Option Config) (most : Option ℕ) (n : ℕ) (grants : List Bool) (ds : List DocumentValue) → s ≡ old → is_some config ≡ true → n ≡ unwrap_or most s.how.most
    → ds ≡ configured config grants s.documents → IsJudged old (judged_to (at_most n s.how) config ds s) config most None
judged_named old s config most n grants ds i h m d =
    let a = anew_named config grants s.documents h in
    (grants, [], judged_so old s config most n grants [] ds i m (d ∙ a.0), a.1)

pub judged_unnamed : (old s : ServerValue) (config : Option Config) (most : Option ℕ) (n : ℕ) (grants : List Bool) (found : List Governed) (ds : List DocumentValue) (f : Option SettingFault) → s ≡ old → is_some config ≡ false
    → n ≡ unwrap_or most s.how.most → ds ≡ governed_each found grants s.documents → f ≡ first_fault found → IsJudged old (judged_to (at_most n s.how) config ds s) config most f
judged_unnamed old s config most n grants found ds f i h m d q =
    let a = anew_unnamed config found grants s.documents h in
    (grants, found, judged_so old s config most n grants found ds i m (d ∙ a.0), q ∙ a.1)
