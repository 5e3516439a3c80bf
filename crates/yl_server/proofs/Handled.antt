-- What is decided, and then sent.
use Rattle.std.proofs.Common.{◌≡◌, ℕ, true, false, List, [], ◌∷◌, Option, None, Some, Result, Ok, Err, refl, sym, ap, ◌∙◌, subst}
use Rattle.std.specs.Prelude.{bytes_eq, codes, IfErr, IfOk, OnOk}
use Rattle.std.specs.Option.{option_map_or}
use Rattle.std.specs.Str.{IsUtf8}
use Rattle.json.specs.Json.{Json, document}
use Rattle.yl_frames.specs.Sending.{Sink}
use Rattle.yl_frames.specs.declared.output.SendFault.{SendFault}
use Rattle.yl_rpc.specs.Bodies.{IsUnread}
use Rattle.yl_rpc.specs.Calls.{CallValue, IdValue, Request, Notification, Response, Invalid, call_of}
use Rattle.yl_rpc.specs.Surrogates.{mended}
use Rattle.yl_rpc.specs.declared.body.BodyFault.{BodyFault}
use Rattle.yl_rpc.specs.declared.body.BodyFault.TheVariants as unread
use Rattle.yl_server.specs.declared.phase.Phase.{Phase}
use Rattle.yl_server.specs.declared.phase.Phase.TheVariants.{Waiting, Running, Stopped}
use Rattle.yl_server.specs.declared.reply.Reply.{Reply}
use Rattle.yl_server.specs.declared.settings.Found.TheVariants.{Unreadable}
use Rattle.yl_server.specs.Bodies.{IsFound, IsCame, noticed_settings, requested_settings, settings_taken, text_set}
use Rattle.yl_server.specs.Events.{Came, Read, NoJson, Dropped, Event}
use Rattle.yl_server.specs.Machine.{ServerValue, Stepped, answered, exit_by, exit_of, missed, no_request_words, noticed, quiet, status_in, step}
use Rattle.yl_rpc.specs.declared.answers.Code.TheVariants.{InvalidRequest}
use Rattle.yl_server.specs.Messages.{MessageValue, Refused}
use Rattle.yl_server.specs.Replies.{IsReplied, messages_of}
use Rattle.yl_server.specs.Requests.{NoticeValue, Exits, Passed, notice_of, notice_with, request_of}
use Rattle.yl_server.specs.Steps.{AreCut, AreSent, IsBodyMet, IsDone, IsHandled, IsHandlingCut, IsMet, unread_answer}
use Rattle.yl_server.proofs.Methods.{is_exit, is_other}

-- ---- sent

pub done : (new : ServerValue) (r : Reply) (t : Stepped) (d : Sink) → IsReplied new r t → AreSent d (messages_of new r) → IsDone new d t
done new r t d h s = record { server = h.0; messages = subst (AreSent d) h.1 s }

pub cut : (new : ServerValue) (r : Reply) (t : Stepped) (d : Sink) (f : SendFault) → IsReplied new r t → AreCut d (messages_of new r) f → AreCut d t.1 f
cut new r t d f h s = subst (λ (ms : List MessageValue). AreCut d ms f) h.1 s

-- so where it was sent, or was not
pub reply_done : {X : Type 0} (q : Result X SendFault) (new : ServerValue) (r : Reply) (t : Stepped) (d : Sink) → IsReplied new r t → OnOk q (AreSent d (messages_of new r)) → IfOk q (λ x. IsDone new d t)
reply_done (Ok x) new r t d h s = done new r t d h s
reply_done (Err f) new r t d h s = tt

pub reply_cut : {X : Type 0} (q : Result X SendFault) (new : ServerValue) (r : Reply) (t : Stepped) (d : Sink) → IsReplied new r t → IfErr q (AreCut d (messages_of new r)) → IfErr q (AreCut d t.1)
reply_cut (Ok x) new r t d h s = tt
reply_cut (Err f) new r t d h s = cut new r t d f h s

pub handled : (body : List ℕ) (old new : ServerValue) (r : Reply) (d : Sink) (ended : Option ℕ) → IsBodyMet body old new r ended → AreSent d (messages_of new r) → IsHandled body old new d ended
handled body old new r d ended h s = record { event = h.event; is = h.is; does = done new r (step h.event old) d h.replied s; ends = h.ends }

pub handling_cut : (body : List ℕ) (old new : ServerValue) (r : Reply) (d : Sink) (ended : Option ℕ) (f : SendFault) → IsBodyMet body old new r ended → AreCut d (messages_of new r) f → IsHandlingCut body old d f
handling_cut body old new r d ended f h s = record { event = h.event; is = h.is; cut = cut new r (step h.event old) d f h.replied s }

-- ---- bodies

pub body_met : (body : List ℕ) (old new : ServerValue) (r : Reply) (ended : Option ℕ) (call : CallValue) (j : Json) → IsUtf8 (mended body) → document (mended body) ≡ Some j → call ≡ call_of j
    → IsMet (Read call) old new r ended → IsBodyMet body old new r ended
body_met body old new r ended call j u e is h = record {
  event = h.event;
  is = record {
    came = subst (IsCame body) (sym h.taken.came_is) (j, u, e, is);
    found = subst (λ (came : Came). IsFound (text_set (settings_taken came old.phase)) h.event.found) (sym h.taken.came_is) h.taken.found;
  };
  replied = h.replied;
  ends = h.ends ∙ ap (λ came. exit_of came old.phase) (sym h.taken.came_is);
}

no_value : (body : List ℕ) (old new : ServerValue) (r : Reply) (fault : BodyFault) → unread_answer fault ≡ unread_answer unread.NoJson → IsCame body NoJson → IsReplied new r (missed (unread_answer fault) old) → IsBodyMet body old new r None
unfolding step
no_value body old new r fault same came h = record {
  event = record { came = NoJson; granted = []; found = Unreadable; governed = [] };
  is = record { came = came; found = tt };
  replied = subst (λ (m : MessageValue). IsReplied new r (missed m old)) same h;
  ends = refl;
}

no_memory : (body : List ℕ) (old new : ServerValue) (r : Reply) → IsReplied new r (missed (unread_answer unread.Memory) old) → IsBodyMet body old new r None
unfolding step
no_memory body old new r h = record {
  event = record { came = Dropped; granted = []; found = Unreadable; governed = [] };
  is = record { came = tt; found = tt };
  replied = h;
  ends = refl;
}

pub body_missed : (body : List ℕ) (room : ℕ) (fault : BodyFault) (old new : ServerValue) (r : Reply) → IsUnread (mended body) room fault → IsReplied new r (missed (unread_answer fault) old) → IsBodyMet body old new r None
body_missed body room unread.NoJson old new r u h = no_value body old new r unread.NoJson refl u.0 h
body_missed body room unread.TooDeep old new r u h = no_value body old new r unread.TooDeep refl u.0 h
body_missed body room unread.Memory old new r u h = no_memory body old new r h

-- ---- calls

pub request_met : (e : Event) (id : IdValue) (m : List ℕ) (params : Option Json) (old new : ServerValue) (r : Reply) → IsFound (text_set (requested_settings (request_of m params) old.phase)) e.found
    → IsReplied new r (answered e id (request_of m params) old.phase old) → IsMet (Read (Request id m params)) old new r None
unfolding step
request_met e id m params old new r f h = record {
  event = record { came = Read (Request id m params); granted = e.granted; found = e.found; governed = e.governed };
  taken = record { came_is = refl; found = f };
  replied = h;
  ends = refl;
}

pub notice_met : (e : Event) (m : List ℕ) (params : Option Json) (old new : ServerValue) (r : Reply) → bytes_eq m (codes "exit") ≡ false
    → IsFound (text_set (noticed_settings (option_map_or (notice_with m) params Passed) old.phase)) e.found
    → exit_by (option_map_or (notice_with m) params Passed) old.phase ≡ None
    → IsReplied new r (noticed e (option_map_or (notice_with m) params Passed) old.phase old) → IsMet (Read (Notification m params)) old new r None
unfolding step
notice_met e m params old new r other f n h =
    let is : notice_of m params ≡ option_map_or (notice_with m) params Passed = is_other m params other in
    record {
      event = record { came = Read (Notification m params); granted = e.granted; found = e.found; governed = e.governed };
      taken = record { came_is = refl; found = subst (λ (x : NoticeValue). IsFound (text_set (noticed_settings x old.phase)) e.found) (sym is) f };
      replied = subst (λ (x : NoticeValue). IsReplied new r (noticed e x old.phase old)) (sym is) h;
      ends = sym (ap (λ x. exit_by x old.phase) is ∙ n);
    }

quiet_exit : (e : Event) (phase : Phase) (s : ServerValue) → noticed e Exits phase s ≡ quiet s
quiet_exit e Waiting s = refl
quiet_exit e Running s = refl
quiet_exit e Stopped s = refl

none_taken : (phase : Phase) → text_set (noticed_settings Exits phase) ≡ None
none_taken Waiting = refl
none_taken Running = refl
none_taken Stopped = refl

pub exit_met : (m : List ℕ) (params : Option Json) (old new : ServerValue) (r : Reply) (status : ℕ) → bytes_eq m (codes "exit") ≡ true → status ≡ status_in old.phase → IsReplied new r (quiet old)
    → IsMet (Read (Notification m params)) old new r (Some status)
unfolding step
exit_met m params old new r status exit st h =
    let is : notice_of m params ≡ Exits = is_exit m params exit in
    let e : Event = record { came = Read (Notification m params); granted = []; found = Unreadable; governed = [] } in
    record {
      event = e;
      taken = record { came_is = refl; found = subst (λ (t : Option (List ℕ)). IsFound t Unreadable) (sym (ap (λ x. text_set (noticed_settings x old.phase)) is ∙ none_taken old.phase)) tt };
      replied = subst (λ (t : Stepped). IsReplied new r t) (sym (ap (λ x. noticed e x old.phase old) is ∙ quiet_exit e old.phase old)) h;
      ends = ap Some st ∙ sym (ap (λ x. exit_by x old.phase) is);
    }

pub response_met : (old new : ServerValue) (r : Reply) → IsReplied new r (quiet old) → IsMet (Read Response) old new r None
unfolding step
response_met old new r h = record {
  event = record { came = Read Response; granted = []; found = Unreadable; governed = [] };
  taken = record { came_is = refl; found = tt };
  replied = h;
  ends = refl;
}

invalid_call : (id : IdValue) (old new : ServerValue) (r : Reply) → IsReplied new r (old, Refused id InvalidRequest no_request_words ∷ []) → IsMet (Read (Invalid id)) old new r None
unfolding step
invalid_call id old new r h = record {
  event = record { came = Read (Invalid id); granted = []; found = Unreadable; governed = [] };
  taken = record { came_is = refl; found = tt };
  replied = h;
  ends = refl;
}

pub invalid_met : (call : CallValue) (id : IdValue) (old new : ServerValue) (r : Reply) → call ≡ Invalid id → IsReplied new r (old, Refused id InvalidRequest no_request_words ∷ []) → IsMet (Read call) old new r None
invalid_met call id old new r is h = subst (λ (x : CallValue). IsMet (Read x) old new r None) (sym is) (invalid_call id old new r h)
