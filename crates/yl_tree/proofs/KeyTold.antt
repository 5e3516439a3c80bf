-- What a rule on keys finds at a key that its test forbids.
use Rattle.std.proofs.Common.{◌≡◌, ℕ, List, ◌++◌, Bool, true, codes, Option, Some}
use Rattle.yl_text.specs.declared.finding.RuleId.{RuleId}
use Rattle.yl_text.specs.Finding.{FindingValue}
use Rattle.yl_events.specs.Event.{EventValue}
use Rattle.yl_tree.specs.Keys.{earlier_keys}
use Rattle.yl_tree.specs.KeyRules.{key_finding}
use Rattle.yl_tree.specs.Messages.{name_finding}

pub key_told : (test : List (List ℕ) → List ℕ → Bool) (rule : RuleId) (front : List ℕ)
    (before : List EventValue) (e : EventValue) (key : Option (List ℕ)) (name : List ℕ)
    (found told new : List FindingValue) → Some name ≡ key
    → test (earlier_keys before) name ≡ true
    → told ≡ name_finding rule e.place front name (codes "\" in mapping")
    → new ≡ found ++ told → new ≡ found ++ key_finding test rule front before e key
key_told test rule front before e key name found told new key_is forbidden told_is new_is =
    rw (new_is, told_is, ← key_is, forbidden)
