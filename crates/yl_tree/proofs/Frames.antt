-- An event that starts a collection, and what the open collections say of a key.
use Rattle.std.proofs.Common.{◌≡◌, ℕ, List, [], refl, sym, ◌∙◌, ap, Bool, true, false, ◌&&◌, Option}
use Rattle.std.specs.Prelude.{if◌then◌else◌}
use Rattle.std.specs.List.{list_any}
use Rattle.yl_events.specs.Event.{EventValue}
use Rattle.yl_tree.specs.Keys.{earlier_keys, is_collection_start, is_collection_end, is_mapping_start, name_of}
use Rattle.yl_tree.specs.OpenNodes.{OpenNodes, opened, with_node_in, with_event, collections_behind}
use Rattle.yl_tree.proofs.Keys.{earlier}

-- ---- an event that starts a collection

pub with_start : (e : EventValue) (s : OpenNodes) (is_mapping : Bool) (name : Option (List ℕ)) → is_collection_end e.kind ≡ false → is_collection_start e.kind ≡ true
    → is_mapping ≡ is_mapping_start e.kind → name ≡ name_of e → opened is_mapping (with_node_in name s) ≡ with_event e s
with_start e s is_mapping name off on mapping_is name_is = rw (off, on, mapping_is, name_is) refl

-- ---- where a key comes next or not

module _ (against : List ℕ → List ℕ → Bool) (q : List ℕ) (before : List EventValue) (m d : Bool) (m_is : m ≡ (collections_behind before).innermost.is_mapping) (d_is : d ≡ (collections_behind before).innermost.is_key_next) where
  at_test : (b : Bool) → (m && d) ≡ b → earlier_keys before ≡ (if b then (collections_behind before).innermost.keys else [])
  at_test b e =
      let same : ((collections_behind before).innermost.is_mapping && (collections_behind before).innermost.is_key_next) ≡ b = ap (λ (x : Bool). x && (collections_behind before).innermost.is_key_next) (sym m_is) ∙ ap (λ (x : Bool). m && x) (sym d_is) ∙ e in
      earlier before ∙ ap (λ (x : Bool). if x then (collections_behind before).innermost.keys else []) same

  pub no_key_next : (m && d) ≡ false → false ≡ list_any (λ key. against key q) (earlier_keys before)
  no_key_next e = sym (ap (list_any (λ key. against key q)) (at_test false e))

  pub key_next : (r : Bool) → (m && d) ≡ true → r ≡ list_any (λ key. against key q) (collections_behind before).innermost.keys → r ≡ list_any (λ key. against key q) (earlier_keys before)
  key_next r e is = is ∙ sym (ap (list_any (λ key. against key q)) (at_test true e))
