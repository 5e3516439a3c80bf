-- Messages that are sent one after another.
use Rattle.std.proofs.Common.{◌≡◌, ℕ, ◌<◌, List, [], ◌∷◌, ◌++◌, Option, None, Some, refl, sym, ap, ◌∙◌, subst, append-nil, append_assoc}
use Rattle.std.proofs.KnownBytes.{Appends-trans}
use Rattle.std.specs.Io.KnownBytes.{Appends, Keeps}
use Rattle.yl_devices.specs.Written.{AppendsFront}
use Rattle.yl_frames.specs.Frames.{framed}
use Rattle.yl_frames.specs.Sending.{Sink, IsSendFault}
use Rattle.yl_frames.specs.declared.output.SendFault.{SendFault}
use Rattle.yl_frames.specs.declared.output.SendFault.TheVariants.{Write, TooLong}
use Rattle.yl_workspace.specs.Computed.{report}
use Rattle.yl_rpc.specs.Answers.{json_text}
use Rattle.yl_server.specs.Messages.{MessageValue}
use Rattle.yl_server.specs.Steps.{AreCut, AreSent, HasFailed}
use Rattle.yl_server.specs.Written.{Reports, message_json, written}

abbrev pub text_of : MessageValue → List ℕ
text_of m = json_text (message_json report m)

pub written_append : (tells : Reports) (xs ys : List MessageValue) → written tells (xs ++ ys) ≡ written tells xs ++ written tells ys
written_append tells [] ys = refl
written_append tells (m ∷ ms) ys =
    ap (λ l. framed (json_text (message_json tells m)) ++ l) (written_append tells ms ys) ∙ sym (append_assoc (framed (json_text (message_json tells m))) (written tells ms) (written tells ys))

written_one : (m : MessageValue) → written report (m ∷ []) ≡ framed (text_of m)
written_one m = append-nil (framed (text_of m))

abbrev pub sink_of : (a b : Option (List ℕ)) (m n : ℕ) → Sink
sink_of a b m n = record { before = a; now = b; failures_before = m; failures_now = n }

-- ---- nothing, and one message

pub none_appended : (a : Option (List ℕ)) → Appends a a []
none_appended None = tt
none_appended (Some xs) = sym (append-nil xs)

pub none_sent : (a : Option (List ℕ)) (m : ℕ) → AreSent (sink_of a a m m) []
none_sent a m = record { appends = none_appended a; quiet = refl }

pub one_sent : (d : Sink) (m : MessageValue) (body : List ℕ) → body ≡ text_of m → Appends d.before d.now (framed body) → d.failures_now ≡ d.failures_before → AreSent d (m ∷ [])
one_sent d m body e h q = record { appends = subst (Appends d.before d.now) (ap framed e ∙ sym (written_one m)) h; quiet = q }

kept_appended : (a b : Option (List ℕ)) → Keeps a b → Appends a b []
kept_appended None b h = tt
kept_appended (Some xs) None h = h
kept_appended (Some xs) (Some ys) h = h ∙ sym (append-nil xs)

pub one_cut : (d : Sink) (m : MessageValue) (body : List ℕ) (f : SendFault) → body ≡ text_of m → IsSendFault d body f → AreCut d (m ∷ []) f
one_cut d m body Write e h = record { begins = subst (AppendsFront d.before d.now) (ap framed e ∙ sym (written_one m)) h.0; failed = h.1 }
one_cut d m body TooLong e h =
    record { begins = record { front = []; rest = written report (m ∷ []); whole = refl; appends = kept_appended d.before d.now h.1 }; failed = tt }

-- ---- some after others

pub sent_more : (a b c : Option (List ℕ)) (m n k : ℕ) (xs ys : List MessageValue) → AreSent (sink_of a b m n) xs → AreSent (sink_of b c n k) ys → AreSent (sink_of a c m k) (xs ++ ys)
sent_more a b c m n k xs ys h g = record {
  appends = subst (Appends a c) (sym (written_append report xs ys)) (Appends-trans a b c _ _ h.appends g.appends);
  quiet = g.quiet ∙ h.quiet;
}

pub front_after : (a b c : Option (List ℕ)) (xs ys : List ℕ) → Appends a b xs → AppendsFront b c ys → AppendsFront a c (xs ++ ys)
front_after a b c xs ys p q = record {
  front = xs ++ q.front;
  rest = q.rest;
  whole = ap (λ l. xs ++ l) q.whole ∙ sym (append_assoc xs q.front q.rest);
  appends = Appends-trans a b c xs q.front p q.appends;
}

front_longer : (a b : Option (List ℕ)) (xs ys : List ℕ) → AppendsFront a b xs → AppendsFront a b (xs ++ ys)
front_longer a b xs ys h = record { front = h.front; rest = h.rest ++ ys; whole = ap (λ l. l ++ ys) h.whole ∙ append_assoc h.front h.rest ys; appends = h.appends }

failed_later : (a b c : Option (List ℕ)) (m n k : ℕ) (f : SendFault) → n ≡ m → HasFailed (sink_of b c n k) f → HasFailed (sink_of a c m k) f
failed_later a b c m n k Write e h = subst (λ (x : ℕ). x < k) e h
failed_later a b c m n k TooLong e h = tt

pub cut_after : (a b c : Option (List ℕ)) (m n k : ℕ) (xs ys : List MessageValue) (f : SendFault) → AreSent (sink_of a b m n) xs → AreCut (sink_of b c n k) ys f → AreCut (sink_of a c m k) (xs ++ ys) f
cut_after a b c m n k xs ys f h g = record {
  begins = subst (AppendsFront a c) (sym (written_append report xs ys)) (front_after a b c _ _ h.appends g.begins);
  failed = failed_later a b c m n k f h.quiet g.failed;
}

pub cut_before : (d : Sink) (xs ys : List MessageValue) (f : SendFault) → AreCut d xs f → AreCut d (xs ++ ys) f
cut_before d xs ys f h = record { begins = subst (AppendsFront d.before d.now) (sym (written_append report xs ys)) (front_longer d.before d.now _ _ h.begins); failed = h.failed }
