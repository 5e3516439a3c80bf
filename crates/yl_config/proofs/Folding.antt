-- Folds over the entries of a mapping, entry by entry.
use Rattle.std.proofs.Common.{◌≡◌, List, [], ◌∷◌, ◌++◌, Option, Some, None, refl, ◌∙◌, ap, sym}
use Rattle.std.specs.List.{flat_map}
use Rattle.yl_text.specs.declared.finding.RuleId.{RuleId}
use Rattle.yl_config.specs.declared.misfit.Misfit.{Misfit}
use Rattle.yl_config.specs.Misfits.{earliest, earlier}
use Rattle.yl_settings.specs.Nodes.{EntryValue}
use Rattle.yl_config.specs.Settings.{Settings, with_option, with_options, with_rule, with_rules, with_entry, with_entries}

pub earliest-++ : (first : Option Misfit) (xs ys : List Misfit) → earliest first (xs ++ ys) ≡ earliest (earliest first xs) ys
unfolding earliest
earliest-++ first [] ys = refl
earliest-++ first (x ∷ xs) ys = earliest-++ (Some (earlier first x)) xs ys

pub earliest-none : (first : Option Misfit) → earliest first [] ≡ first
unfolding earliest
earliest-none first = refl

-- of one entry, and then of the others
pub earliest-entries : (f : EntryValue → List Misfit) (first : Option Misfit) (e : EntryValue) (more es : List EntryValue) → es ≡ e ∷ more
    → earliest (earliest first (f e)) (flat_map f more) ≡ earliest first (flat_map f es)
earliest-entries f first e more es are = sym (ap (λ (o : List EntryValue). earliest first (flat_map f o)) are ∙ earliest-++ first (f e) (flat_map f more))

pub earliest-no_entry : (f : EntryValue → List Misfit) (first : Option Misfit) (es : List EntryValue) → es ≡ [] → earliest first (flat_map f es) ≡ first
earliest-no_entry f first es are = ap (λ (o : List EntryValue). earliest first (flat_map f o)) are ∙ earliest-none first

pub with_options-entries : (rule : RuleId) (s : Settings) (e : EntryValue) (more es : List EntryValue) → es ≡ e ∷ more
    → with_options rule more (with_option rule e s) ≡ with_options rule es s
unfolding with_options
with_options-entries rule s e more es are = sym (ap (λ (o : List EntryValue). with_options rule o s) are)

pub with_options-no_entry : (rule : RuleId) (s : Settings) (es : List EntryValue) → es ≡ [] → with_options rule es s ≡ s
unfolding with_options
with_options-no_entry rule s es are = ap (λ (o : List EntryValue). with_options rule o s) are

pub with_rules-entries : (base s : Settings) (e : EntryValue) (more es : List EntryValue) → es ≡ e ∷ more
    → with_rules base more (with_rule base e s) ≡ with_rules base es s
unfolding with_rules
with_rules-entries base s e more es are = sym (ap (λ (o : List EntryValue). with_rules base o s) are)

pub with_rules-no_entry : (base s : Settings) (es : List EntryValue) → es ≡ [] → with_rules base es s ≡ s
unfolding with_rules
with_rules-no_entry base s es are = ap (λ (o : List EntryValue). with_rules base o s) are

pub with_entries-entries : (base s : Settings) (e : EntryValue) (more es : List EntryValue) → es ≡ e ∷ more
    → with_entries base more (with_entry base e s) ≡ with_entries base es s
unfolding with_entries
with_entries-entries base s e more es are = sym (ap (λ (o : List EntryValue). with_entries base o s) are)

pub with_entries-no_entry : (base s : Settings) (es : List EntryValue) → es ≡ [] → with_entries base es s ≡ s
unfolding with_entries
with_entries-no_entry base s es are = ap (λ (o : List EntryValue). with_entries base o s) are
