-- Folds over nodes and entries, one after another.
use Rattle.std.proofs.Common.{◌≡◌, ℕ, Bool, true, false, not, List, [], ◌∷◌, ◌++◌, ◌||◌, ◌&&◌, cond, Option, Some, None, IfSome, OnOk, Result, Ok, Err, codes, is_some, refl, ap, sym, ◌∙◌}
use Rattle.std.specs.Option.{option_map}
use Rattle.yl_text.specs.declared.position.Pos.{Pos}
use Rattle.yl_text.specs.Lines.{RowValue}
use Rattle.yl_events.specs.Event.{EventKindValue}
use Rattle.yl_settings.specs.Nodes.{Nodes, NoNode, Node, ItemValue, EntryValue}
use Rattle.yl_config.specs.declared.misfit.Misfit.{Misfit}
use Rattle.yl_config.specs.Misfits.{at_key, earliest, place_or}
use Rattle.yl_config.proofs.Folding.{earliest-++, earliest-none}
use Rattle.yl_project.specs.Misfits.{beside_misfits, each_name_misfits, is_key, name_misfits, text_misfits, texts_misfits, unless}
use Rattle.yl_config.specs.declared.misfit.MisfitKind.TheVariants.{BadValue}
use Rattle.yl_project.specs.Named.{with_name, with_names}
use Rattle.yl_project.specs.Said.{last_value}

-- what is so at one answer is so at the other
pub at_ok : {T E P Q : Type 0} (r : Result T E) → (P → Q) → OnOk r P → OnOk r Q
at_ok (Ok x) f h = f h
at_ok (Err e) f h = h

-- what is noted of one part and then of another
pub in_turn : (old first last : Option Misfit) (xs ys : List Misfit) → first ≡ earliest old xs → last ≡ earliest first ys → last ≡ earliest old (xs ++ ys)
in_turn old first last xs ys is then = then ∙ (ap (λ (o : Option Misfit). earliest o ys) is ∙ sym (earliest-++ old xs ys))

-- ---- what does not fit

pub noted_else : (first : Option Misfit) (b : Bool) (misfits : List Misfit) → b ≡ false → first ≡ earliest first (cond b misfits [])
noted_else first b misfits is = sym (ap (λ (o : Bool). earliest first (cond o misfits [])) is ∙ earliest-none first)

pub earliest_append : (first : Option Misfit) (xs ys : List Misfit) → earliest first (xs ++ ys) ≡ earliest (earliest first xs) ys
earliest_append first xs ys = earliest-++ first xs ys

-- where all fits, nothing is noted
pub noted_nothing : (first : Option Misfit) (fits : Bool) (misfits : List Misfit) → fits ≡ true → earliest first (unless fits misfits) ≡ first
noted_nothing first fits misfits is = ap (λ (b : Bool). earliest first (unless b misfits)) is ∙ earliest-none first

pub texts-first : (lines : List RowValue) (column : ℕ) (key : Pos) (first : Option Misfit) (kind : EventKindValue) (place : Option Pos) (inside more nodes : Nodes)
    → nodes ≡ Node kind place inside more
    → earliest (earliest first (text_misfits lines column key kind place)) (texts_misfits lines column key more) ≡ earliest first (texts_misfits lines column key nodes)
unfolding texts_misfits
texts-first lines column key first kind place inside more nodes are =
    sym (ap (λ (o : Nodes). earliest first (texts_misfits lines column key o)) are
    ∙ earliest-++ first (text_misfits lines column key kind place) (texts_misfits lines column key more))

pub texts-none : (lines : List RowValue) (column : ℕ) (key : Pos) (first : Option Misfit) (nodes : Nodes) → nodes ≡ NoNode
    → earliest first (texts_misfits lines column key nodes) ≡ first
unfolding texts_misfits
texts-none lines column key first nodes are = ap (λ (o : Nodes). earliest first (texts_misfits lines column key o)) are ∙ earliest-none first

pub names-first : (key : Pos) (first : Option Misfit) (kind : EventKindValue) (place : Option Pos) (inside more nodes : Nodes) → nodes ≡ Node kind place inside more
    → earliest (earliest first (name_misfits BadValue key kind place)) (each_name_misfits key more) ≡ earliest first (each_name_misfits key nodes)
unfolding each_name_misfits
names-first key first kind place inside more nodes are =
    sym (ap (λ (o : Nodes). earliest first (each_name_misfits key o)) are
    ∙ earliest-++ first (name_misfits BadValue key kind place) (each_name_misfits key more))

pub names-none : (key : Pos) (first : Option Misfit) (nodes : Nodes) → nodes ≡ NoNode → earliest first (each_name_misfits key nodes) ≡ first
unfolding each_name_misfits
names-none key first nodes are = ap (λ (o : Nodes). earliest first (each_name_misfits key o)) are ∙ earliest-none first

pub beside-first : (mapping : Pos) (ignores names : Bool) (first : Option Misfit) (e : EntryValue) (more es : List EntryValue) (i n : Bool) → es ≡ e ∷ more
    → i ≡ (ignores || is_key (codes "ignore") e) → n ≡ (names || is_key (codes "ignore-from-file") e)
    → earliest (earliest first (unless (not ((is_key (codes "ignore") e && names) || (is_key (codes "ignore-from-file") e && ignores))) (at_key BadValue (place_or mapping e.key_place))))
    (beside_misfits mapping i n more)
    ≡ earliest first (beside_misfits mapping ignores names es)
unfolding beside_misfits
beside-first mapping ignores names first e more es i n are is ns =
    let here = unless (not ((is_key (codes "ignore") e && names) || (is_key (codes "ignore-from-file") e && ignores))) (at_key BadValue (place_or mapping e.key_place)) in
    let j = ignores || is_key (codes "ignore") e in
    let m = names || is_key (codes "ignore-from-file") e in
    ap (λ (b : Bool). earliest (earliest first here) (beside_misfits mapping b n more)) is
    ∙ (ap (λ (b : Bool). earliest (earliest first here) (beside_misfits mapping j b more)) ns
    ∙ sym (ap (λ (o : List EntryValue). earliest first (beside_misfits mapping ignores names o)) are ∙ earliest-++ first here (beside_misfits mapping j m more)))

pub beside-none : (mapping : Pos) (ignores names : Bool) (first : Option Misfit) (es : List EntryValue) → es ≡ [] → earliest first (beside_misfits mapping ignores names es) ≡ first
unfolding beside_misfits
beside-none mapping ignores names first es are = ap (λ (o : List EntryValue). earliest first (beside_misfits mapping ignores names o)) are ∙ earliest-none first

-- ---- values and names

-- a value taken or left, as definitions have it
pub mapped : {X Y : Type 0} (f : X → Y) (b : Bool) (x : X) (before : Option X) → option_map f (cond b (Some x) before) ≡ cond b (Some (f x)) (option_map f before)
mapped f true x before = refl
mapped f false x before = refl

pub kept : {X : Type 0} (P : X → Type 0) (b : Bool) (x : X) (before : Option X) → P x → IfSome before P → IfSome (cond b (Some x) before) P
kept P true x before h k = h
kept P false x before h k = k

pub last_value-first : (name : List ℕ) (before : Option ItemValue) (e : EntryValue) (more es : List EntryValue) → es ≡ e ∷ more
    → last_value name (cond (is_key name e) (Some e.value) before) more ≡ last_value name before es
unfolding last_value
last_value-first name before e more es are = sym (ap (last_value name before) are)

pub last_value-none : (name : List ℕ) (before : Option ItemValue) (es : List EntryValue) → es ≡ [] → last_value name before es ≡ before
unfolding last_value
last_value-none name before es are = ap (last_value name before) are

pub with_names-first : (names : List (List ℕ)) (kind : EventKindValue) (place : Option Pos) (inside more nodes : Nodes) → nodes ≡ Node kind place inside more
    → with_names (with_name names kind) more ≡ with_names names nodes
unfolding with_names
with_names-first names kind place inside more nodes are = sym (ap (with_names names) are)

pub with_names-none : (names : List (List ℕ)) (nodes : Nodes) → nodes ≡ NoNode → with_names names nodes ≡ names
unfolding with_names
with_names-none names nodes are = ap (with_names names) are

pub is_some-map : {X Y : Type 0} (f : X → Y) (o : Option X) → is_some (option_map f o) ≡ is_some o
is_some-map f None = refl
is_some-map f (Some x) = refl
