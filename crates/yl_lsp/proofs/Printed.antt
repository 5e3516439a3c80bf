-- JSON as it is printed, before what follows it.
use Rattle.std.proofs.Common.{◌≡◌, ℕ, Bool, true, false, List, [], ◌∷◌, ◌++◌, refl, sym, ap, ◌∙◌, append-nil, append_assoc}
use Rattle.json.specs.Token.{Token}
use Rattle.json.specs.Json.{Json, null, boolean, number, string, array, object, Items, no_items, item, Members, no_members, member}
use Rattle.json.specs.Print.{print, print_from, quoted}
use Rattle.json.specs.Tree.{json_tokens, items_tokens, members_tokens}

-- what stands before a value or a member, after another one or not
abbrev pub comma : Bool → List ℕ
comma true = 44 ∷ []
comma false = []

abbrev mutual
  -- a value, and what follows it
  pub json_then : Json → List ℕ → List ℕ
  json_then null rest = 110 ∷ 117 ∷ 108 ∷ 108 ∷ rest
  json_then (boolean true) rest = 116 ∷ 114 ∷ 117 ∷ 101 ∷ rest
  json_then (boolean false) rest = 102 ∷ 97 ∷ 108 ∷ 115 ∷ 101 ∷ rest
  json_then (number s) rest = s ++ rest
  json_then (string s) rest = quoted s ++ rest
  json_then (array js) rest = 91 ∷ items_then false js rest
  json_then (object ms) rest = 123 ∷ members_then false ms rest

  pub items_then : Bool → Items → List ℕ → List ℕ
  items_then after no_items rest = 93 ∷ rest
  items_then after (item j js) rest = comma after ++ json_then j (items_then true js rest)

  pub members_then : Bool → Members → List ℕ → List ℕ
  members_then after no_members rest = 125 ∷ rest
  members_then after (member k j ms) rest = comma after ++ (quoted k ++ (58 ∷ json_then j (members_then true ms rest)))

-- a key has its colon
keyed : (k : List ℕ) (xs ys : List ℕ) → xs ≡ ys → (quoted k ++ (58 ∷ [])) ++ xs ≡ quoted k ++ (58 ∷ ys)
keyed k xs ys e = append_assoc (quoted k) (58 ∷ []) xs ∙ ap (λ l. quoted k ++ (58 ∷ l)) e

mutual
  unfolding print_from

  json_printed : (after : Bool) (j : Json) (ts : List Token) → print_from after (json_tokens j ++ ts) ≡ comma after ++ json_then j (print_from true ts)
  json_printed true null ts = refl
  json_printed false null ts = refl
  json_printed true (boolean true) ts = refl
  json_printed true (boolean false) ts = refl
  json_printed false (boolean true) ts = refl
  json_printed false (boolean false) ts = refl
  json_printed true (number s) ts = refl
  json_printed false (number s) ts = refl
  json_printed true (string s) ts = refl
  json_printed false (string s) ts = refl
  json_printed true (array js) ts = ap (λ l. 44 ∷ 91 ∷ l) (items_printed false js ts)
  json_printed false (array js) ts = ap (λ l. 91 ∷ l) (items_printed false js ts)
  json_printed true (object ms) ts = ap (λ l. 44 ∷ 123 ∷ l) (members_printed false ms ts)
  json_printed false (object ms) ts = ap (λ l. 123 ∷ l) (members_printed false ms ts)

  items_printed : (after : Bool) (js : Items) (ts : List Token) → print_from after (items_tokens js ++ ts) ≡ items_then after js (print_from true ts)
  items_printed true no_items ts = refl
  items_printed false no_items ts = refl
  items_printed after (item j js) ts =
      ap (print_from after) (append_assoc (json_tokens j) (items_tokens js) ts) ∙ json_printed after j (items_tokens js ++ ts)
      ∙ ap (λ l. comma after ++ json_then j l) (items_printed true js ts)

  members_printed : (after : Bool) (ms : Members) (ts : List Token) → print_from after (members_tokens ms ++ ts) ≡ members_then after ms (print_from true ts)
  members_printed true no_members ts = refl
  members_printed false no_members ts = refl
  members_printed true (member k j ms) ts =
      ap (λ l. 44 ∷ l) (keyed k _ _ (ap (print_from false) (append_assoc (json_tokens j) (members_tokens ms) ts) ∙ json_printed false j (members_tokens ms ++ ts)
      ∙ ap (json_then j) (members_printed true ms ts)))
  members_printed false (member k j ms) ts =
      keyed k _ _ (ap (print_from false) (append_assoc (json_tokens j) (members_tokens ms) ts) ∙ json_printed false j (members_tokens ms ++ ts)
      ∙ ap (json_then j) (members_printed true ms ts))

pub printed : (j : Json) → print (json_tokens j) ≡ json_then j []
unfolding print_from
printed j = ap (print_from false) (sym (append-nil (json_tokens j))) ∙ json_printed false j []
