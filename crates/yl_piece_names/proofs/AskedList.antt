-- The names that a run asks for, one after another.
use Rattle.std.specs.Prelude.{if◌then◌else◌, nat_le, ◌↔◌, Contains}
use Rattle.std.proofs.Common.{◌≡◌, inl, inr, ℕ, zero, suc, ◌≤◌, arith, List, [], ◌∷◌, ◌++◌, reverse, Bool, true, false, refl, sym, ◌∙◌, ap, subst, append_assoc, append-nil, Option, Some, None}
use Rattle.std.proofs.lemmas.Bool.{and_from, and_parts, leb-true, le-leb}
use Rattle.std.proofs.lemmas.List.{reverse-append}
use Rattle.std.proofs.lemmas.List.Elements.{Contains-append_cases, Contains-append_right}
use Rattle.yl_text.specs.Finding.{at_each}
use Rattle.yl_events.specs.Event.{EventValue}
use Rattle.yl_tree.specs.Keys.{name_of}
use Rattle.yl_tree.specs.OpenNodes.{OpenNodes}
use Rattle.yl_pieces.specs.KeysOfRuns.{height, is_before_key, lowest, run_alone}
use Rattle.yl_pieces.specs.DuplicatesOfRuns.{AsksFor}
use Rattle.yl_piece_names.specs.Asked.{AskedName, asked_by, asked_names, is_asking}

-- what the events `back` of a run ask for, behind `front`
abbrev pub asked_after : OpenNodes → List EventValue → List EventValue → List AskedName
asked_after s front [] = []
asked_after s front (e ∷ back) = asked_by s front (name_of e) ++ asked_after s (front ++ e ∷ []) back

module _ (s : OpenNodes) where
  listed : (before es : List EventValue) → at_each (λ before e after. asked_by s (reverse before) (name_of e)) before es ≡ asked_after s (reverse before) es
  listed before [] = refl
  listed before (e ∷ es) =
      ap (λ xs. asked_by s (reverse before) (name_of e) ++ xs) (listed (e ∷ before) es ∙ ap (λ front. asked_after s front es) (reverse-append (e ∷ []) before))

  pub asked_is : (es : List EventValue) → asked_names s es ≡ asked_after s [] es
  asked_is es = listed [] es

  pub asked_of_both : (f front back : List EventValue) → asked_after s f (front ++ back) ≡ asked_after s f front ++ asked_after s (f ++ front) back
  asked_of_both f [] back = ap (λ g. asked_after s g back) (sym (append-nil f))
  asked_of_both f (e ∷ front) back =
      ap (λ xs. asked_by s f (name_of e) ++ xs) (asked_of_both (f ++ e ∷ []) front back)
      ∙ ap (λ g. asked_by s f (name_of e) ++ (asked_after s (f ++ e ∷ []) front ++ asked_after s g back)) (append_assoc f (e ∷ []) front)
      ∙ sym (append_assoc (asked_by s f (name_of e)) (asked_after s (f ++ e ∷ []) front) (asked_after s (f ++ e ∷ front) back))

  -- ---- what the run asks for is in the list

  asked_here : (front : List EventValue) (key : EventValue) (name : List ℕ) → name_of key ≡ Some name → is_asking s front ≡ true
      → asked_by s front (name_of key) ≡ record { height = height (run_alone s front); name = name } ∷ []
  asked_here front key name named asks =
      ap (asked_by s front) named ∙ ap (λ (b : Bool). if b then record { height = height (run_alone s front); name = name } ∷ [] else []) asks

  one : (a : AskedName) (xs ys : List AskedName) → xs ≡ a ∷ [] → Contains (xs ++ ys) a
  one a xs ys e = subst (λ zs. Contains (zs ++ ys) a) (sym e) (0, omega arith, refl)

  is_listed : (es : List EventValue) (h : ℕ) (name : List ℕ) → AsksFor s es h name → Contains (asked_names s es) (record { height = h; name = name })
  is_listed es h name asks =
      let a : AskedName = record { height = h; name = name } in
      let fits : nat_le (height (run_alone s asks.front)) (lowest s asks.front) ≡ true =
      le-leb (height (run_alone s asks.front)) (lowest s asks.front) (let is : height (run_alone s asks.front) ≡ h = asks.is_within in let most : h ≤ lowest s asks.front = asks.lasts in omega (arith, is, most)) in
      let here : asked_by s asks.front (name_of asks.key) ≡ a ∷ [] =
      asked_here asks.front asks.key name asks.is_named (and_from (is_before_key (run_alone s asks.front)) (nat_le (height (run_alone s asks.front)) (lowest s asks.front)) asks.is_key fits)
      ∙ ap (λ n. record { height = n; name = name } ∷ []) asks.is_within in
      subst (λ xs. Contains xs a)
      (sym (asked_is es ∙ ap (asked_after s []) asks.is_run ∙ asked_of_both [] asks.front (asks.key ∷ asks.back)))
      (Contains-append_right (asked_after s [] asks.front) (asked_after s asks.front (asks.key ∷ asks.back)) a
      (one a (asked_by s asks.front (name_of asks.key)) (asked_after s (asks.front ++ asks.key ∷ []) asks.back) here))

  -- ---- what is in the list the run asks for

  only_one : (x a : AskedName) → Contains (x ∷ []) a → x ≡ a
  only_one x a (zero, below, is) = is
  only_one x a (suc k, below, is) = absurd (omega (arith, below))

  none_in : (a : AskedName) → Contains [] a → ⊥
  none_in a (k, below, is) = omega (arith, below)

  asks_here : (es front : List EventValue) (e : EventValue) (back : List EventValue) (a : AskedName) (name : Option (List ℕ)) → es ≡ front ++ e ∷ back → name_of e ≡ name
      → Contains (asked_by s front name) a → AsksFor s es a.height a.name
  asks_here es front e back a None is named h = absurd (none_in a h)
  asks_here es front e back a (Some name) is named h = by_test (is_asking s front) refl h
    where
      by_test : (b : Bool) → is_asking s front ≡ b → Contains (if b then record { height = height (run_alone s front); name = name } ∷ [] else []) a → AsksFor s es a.height a.name
      by_test false off h = absurd (none_in a h)
      by_test true on h =
          let parts = and_parts (is_before_key (run_alone s front)) (nat_le (height (run_alone s front)) (lowest s front)) on in
          subst (λ b. AsksFor s es b.height b.name) (only_one (record { height = height (run_alone s front); name = name }) a h)
          (record {
            front = front;
            key = e;
            back = back;
            is_run = is;
            is_named = named;
            is_key = parts.0;
            is_within = refl;
            lasts = leb-true (height (run_alone s front)) (lowest s front) parts.1;
          })

  asks_from : (es front back : List EventValue) (a : AskedName) → es ≡ front ++ back → Contains (asked_after s front back) a → AsksFor s es a.height a.name
  asks_from es front [] a is h = absurd (none_in a h)
  asks_from es front (e ∷ back) a is h =
      elim (Contains-append_cases (asked_by s front (name_of e)) (asked_after s (front ++ e ∷ []) back) a h) [
        | inl k ↦ asks_here es front e back a (name_of e) is refl k
        | inr k ↦ asks_from es (front ++ e ∷ []) back a (is ∙ sym (append_assoc front (e ∷ []) back)) k
      ]

  pub list_tells : (es : List EventValue) (h : ℕ) (name : List ℕ) → AsksFor s es h name ↔ Contains (asked_names s es) (record { height = h; name = name })
  list_tells es h name =
      (is_listed es h name, λ k. asks_from es [] es (record { height = h; name = name }) refl (subst (λ xs. Contains xs (record { height = h; name = name })) (asked_is es) k))
