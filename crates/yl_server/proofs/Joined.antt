-- Replies in two parts.
use Rattle.std.proofs.Common.{◌≡◌, ℕ, ◌+◌, ◌<◌, List, [], ◌∷◌, ◌++◌, map, take, drop, length, get_or, Option, Result, Ok, Err, sym, ap, ◌∙◌, subst, add-one}
use Rattle.std.proofs.Math.Seq.{take-suc}
use Rattle.std.proofs.lemmas.List.{map-append, take-append-drop}
use Rattle.std.specs.Prelude.{OnOk, IfErr}
use Rattle.std.specs.Result.{IsErrAnd}
use Rattle.yl_frames.specs.Sending.{Sink}
use Rattle.yl_frames.specs.declared.output.Output.{Output}
use Rattle.yl_frames.specs.declared.output.SendFault.{SendFault}
use Rattle.yl_server.specs.Messages.{MessageValue}
use Rattle.yl_server.specs.Steps.{AreCut, AreSent, sink}
use Rattle.yl_server.proofs.Sending.{cut_after, cut_before, sent_more}
use Rattle.yl_server.proofs.Replied.{if_err_map, on_ok_map}

-- ---- two parts

pub both_sent : {W : Type 0} (contents : W → Option (List ℕ)) (old mid new : Output W) (xs ys zs : List MessageValue) → zs ≡ xs ++ ys → AreSent (sink contents old mid) xs → AreSent (sink contents mid new) ys
    → AreSent (sink contents old new) zs
both_sent contents old mid new xs ys zs e h k = subst (AreSent (sink contents old new)) (sym e) (sent_more _ _ _ _ _ _ xs ys h k)

pub sent_then : {W T E : Type 0} (contents : W → Option (List ℕ)) (old mid new : Output W) (xs ys zs : List MessageValue) (r : Result T E) → zs ≡ xs ++ ys → AreSent (sink contents old mid) xs
    → OnOk r (AreSent (sink contents mid new) ys) → OnOk r (AreSent (sink contents old new) zs)
sent_then contents old mid new xs ys zs r e h k = on_ok_map r (both_sent contents old mid new xs ys zs e h) k

-- the second is cut
pub second_cut : {W : Type 0} (contents : W → Option (List ℕ)) (old mid new : Output W) (xs ys zs : List MessageValue) (f : SendFault) → zs ≡ xs ++ ys → AreSent (sink contents old mid) xs → AreCut (sink contents mid new) ys f
    → AreCut (sink contents old new) zs f
second_cut contents old mid new xs ys zs f e h k = subst (λ l. AreCut (sink contents old new) l f) (sym e) (cut_after _ _ _ _ _ _ xs ys f h k)

pub cut_then : {W T : Type 0} (contents : W → Option (List ℕ)) (old mid new : Output W) (xs ys zs : List MessageValue) (r : Result T SendFault) → zs ≡ xs ++ ys → AreSent (sink contents old mid) xs
    → IfErr r (AreCut (sink contents mid new) ys) → IfErr r (AreCut (sink contents old new) zs)
cut_then contents old mid new xs ys zs r e h k =
    if_err_map (AreCut (sink contents mid new) ys) (AreCut (sink contents old new) zs) r (λ f x. second_cut contents old mid new xs ys zs f e h x) k

-- ---- the exit of a `?`

exit_gives : {T E : Type 0} (P : E → Type 0) (r : Result T E) (e : E) → IsErrAnd r (λ x. x ≡ e) → P e → IfErr r P
exit_gives P (Ok x) e h p = tt
exit_gives P (Err x) e h p = subst P (sym h) p

-- the first part is cut
pub first_cut : {T : Type 0} (d : Sink) (xs ys zs : List MessageValue) (r : Result T SendFault) (f : SendFault) → zs ≡ xs ++ ys → IsErrAnd r (λ x. x ≡ f) → AreCut d xs f → IfErr r (AreCut d zs)
first_cut d xs ys zs r f e h k = exit_gives (AreCut d zs) r f h (subst (λ l. AreCut d l f) (sym e) (cut_before d xs ys f k))

-- ---- one after another

-- the messages of so many, and then that of the next
pub map_more : {A B : Type 0} (f : A → B) (xs : List A) (i : ℕ) (x : A) → i < length xs → x ≡ get_or xs i x → map f (take (i + 1) xs) ≡ map f (take i xs) ++ f x ∷ []
map_more f xs i x h e = rw (add-one, take-suc xs i x h, map-append) (ap (λ y. map f (take i xs) ++ f y ∷ []) (sym e))

-- and then those of the rest
pub map_whole : {A B : Type 0} (f : A → B) (xs : List A) (i : ℕ) (x : A) → i < length xs → x ≡ get_or xs i x → map f xs ≡ (map f (take i xs) ++ f x ∷ []) ++ map f (drop (i + 1) xs)
map_whole f xs i x h e = ap (map f) (sym (take-append-drop (i + 1) xs)) ∙ (map-append f (take (i + 1) xs) (drop (i + 1) xs) ∙ ap (λ l. l ++ map f (drop (i + 1) xs)) (map_more f xs i x h e))
