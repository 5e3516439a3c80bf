-- A run goes on by one message, and ends.
use Rattle.std.proofs.Common.{◌≡◌, ℕ, ◌+◌, ◌-◌, ◌^◌, ◌<◌, List, [], ◌∷◌, ◌++◌, Option, None, Some, inl, inr, refl, sym, ap, ◌∙◌, subst, append-nil, append_assoc, arith, length-append}
use Rattle.std.proofs.KnownBytes.{Appends-trans}
use Rattle.std.specs.Io.KnownBytes.{Appends}
use Rattle.yl_config.specs.declared.config.Config.{Config}
use Rattle.yl_frames.specs.Frames.{Body, next_body}
use Rattle.yl_frames.specs.Sending.{Sink}
use Rattle.yl_frames.specs.declared.output.SendFault.{SendFault}
use Rattle.yl_frames.specs.declared.output.SendFault.TheVariants as send
use Rattle.yl_workspace.specs.Computed.{ReportIsComputed, report}
use Rattle.yl_workspace.proofs.Reported.{reporter}
use Rattle.yl_rpc.specs.Calls.{Request, Notification, Response, Invalid}
use Rattle.yl_server.specs.declared.phase.Phase.{Phase}
use Rattle.yl_server.specs.declared.phase.Phase.TheVariants.{Waiting, Running, Stopped}
use Rattle.yl_server.specs.declared.serving.ServeFault.{ServeFault}
use Rattle.yl_server.specs.declared.serving.ServeFault.TheVariants as fault
use Rattle.yl_server.specs.Bodies.{IsEvent}
use Rattle.yl_server.specs.Events.{Came, Read, NoJson, Dropped, Event}
use Rattle.yl_server.specs.Machine.{ServerValue, started, step, after, sent, exit_by, exit_of, noticed, stepped}
use Rattle.yl_server.specs.Requests.{NoticeValue, Opens, Changes, Spoils, Closes, Sets, Starts, Refreshes, Exits as Asks, Passed, notice_of}
use Rattle.yl_server.specs.Serving.{WereTaken, AreBodies, AreEvents, Failures, HasServed, HasBegun, IsNext, IsServed, IsServeFault}
use Rattle.yl_server.specs.SoFar.{SoFar}
use Rattle.yl_server.specs.Turns.{Takes, IsMessage, IsMessageCut, IsTurn, IsTurnFault}
use Rattle.yl_server.specs.Written.{written}
use Rattle.yl_server.proofs.Sending.{none_appended, sink_of, written_append}

-- ---- the machine

after-push : (es : List Event) (e : Event) (s : ServerValue) → after (es ++ e ∷ []) s ≡ (step e (after es s)).0
after-push [] e s = refl
after-push (x ∷ xs) e s = after-push xs e (step x s).0

sent-push : (es : List Event) (e : Event) (s : ServerValue) → sent (es ++ e ∷ []) s ≡ sent es s ++ (step e (after es s)).1
sent-push [] e s = append-nil (step e s).1
sent-push (x ∷ xs) e s = ap (λ l. (step x s).1 ++ l) (sent-push xs e (step x s).0) ∙ sym (append_assoc (step x s).1 (sent xs (step x s).0) (step e (after xs (step x s).0)).1)

events-push : (bodies : List (List ℕ)) (es : List Event) (body : List ℕ) (e : Event) (s : ServerValue) → AreEvents bodies es s → IsEvent body e (after es s).phase → exit_of e.came (after es s).phase ≡ None
    → AreEvents (bodies ++ body ∷ []) (es ++ e ∷ []) s
events-push [] [] body e s h is n = (is, n, tt)
events-push [] (x ∷ xs) body e s h is n = absurd h
events-push (b ∷ bs) [] body e s h is n = absurd h
events-push (b ∷ bs) (x ∷ xs) body e s h is n = (h.0, h.1, events-push bs xs body e (step x s).0 h.2 is n)

-- ---- bytes

bodies-push : (xs mid rest : List ℕ) (bodies : List (List ℕ)) (body : List ℕ) → AreBodies xs bodies mid → next_body mid ≡ Body body rest → AreBodies xs (bodies ++ body ∷ []) rest
bodies-push xs mid rest [] body h n = (rest, ap next_body h ∙ n, refl)
bodies-push xs mid rest (b ∷ bs) body h n = (h.0, h.1, bodies-push h.0 mid rest bs body h.2 n)

taken-push : (given mid rest : Option (List ℕ)) (bodies : List (List ℕ)) (body : List ℕ) → WereTaken given mid bodies → Takes mid rest body → WereTaken given rest (bodies ++ body ∷ [])
taken-push None mid rest bodies body h t = tt
taken-push (Some xs) None rest bodies body h t = absurd h
taken-push (Some xs) (Some ys) None bodies body h t = absurd t
taken-push (Some xs) (Some ys) (Some zs) bodies body h t = bodies-push xs ys zs bodies body h t

taken_nothing : (given : Option (List ℕ)) → WereTaken given given []
taken_nothing None = tt
taken_nothing (Some xs) = refl

next_of : (place left : Option (List ℕ)) (body : List ℕ) → Takes place left body → IsNext place body
next_of None left body t = tt
next_of (Some xs) None body t = absurd t
next_of (Some xs) (Some ys) body t = (ys, t)

-- ---- so far

pub so_far_started : (c : Config) (given before : Option (List ℕ)) → SoFar 0 c given given before before (started c)
so_far_started c given before = record {
  bodies = [];
  events = [];
  counted = refl;
  read = taken_nothing given;
  are = tt;
  server = refl;
  appends = none_appended before;
}

pub so_far_begun : (c : Config) (given place before : Option (List ℕ)) (s : ServerValue) → place ≡ given → s ≡ started c → SoFar 0 c given place before before s
so_far_begun c given place before s p e =
    subst (SoFar 0 c given place before before) (sym e) (subst (λ (x : Option (List ℕ)). SoFar 0 c given x before before (started c)) (sym p) (so_far_started c given before))

-- a message is met at what the events before it leave
met_there : (place left : Option (List ℕ)) (s t new : ServerValue) (d : Sink) (ended : Option ℕ) → s ≡ t → IsMessage place left s new d ended → IsMessage place left t new d ended
met_there place left s t new d ended e h = subst (λ (x : ServerValue). IsMessage place left x new d ended) e h

cut_there : (place left : Option (List ℕ)) (s t : ServerValue) (d : Sink) (f : SendFault) → s ≡ t → IsMessageCut place left s d f → IsMessageCut place left t d f
cut_there place left s t d f e h = subst (λ (x : ServerValue). IsMessageCut place left x d f) e h

pub so_far_more : (count : ℕ) (c : Config) (given mid rest before then now : Option (List ℕ)) (m n : ℕ) (s new : ServerValue) → SoFar count c given mid before then s
    → IsMessage mid rest s new (sink_of then now m n) None → SoFar (count + 1) c given rest before now new
so_far_more count c given mid rest before then now m n s new f h =
    let t = after f.events (started c) in
    let g = met_there mid rest s t new (sink_of then now m n) None f.server h in
    record {
      bodies = f.bodies ++ g.body ∷ [];
      events = f.events ++ g.event ∷ [];
      counted = omega (arith, length-append f.events (g.event ∷ []), f.counted);
      read = taken-push given mid rest f.bodies g.body f.read g.taken;
      are = events-push f.bodies f.events g.body g.event (started c) f.are g.is (sym g.ends);
      server = g.does.server ∙ sym (after-push f.events g.event (started c));
      appends = subst (Appends before now) (sym (ap (written report) (sent-push f.events g.event (started c)) ∙ written_append report (sent f.events (started c)) (step g.event t).1))
          (Appends-trans before then now _ _ f.appends g.does.messages.appends);
    }

pub quiet_more : (place left : Option (List ℕ)) (s new : ServerValue) (a b : Option (List ℕ)) (m n : ℕ) (ended : Option ℕ) → IsMessage place left s new (sink_of a b m n) ended → n ≡ m
quiet_more place left s new a b m n ended h = h.does.messages.quiet

-- ---- the end

abbrev has_served : ReportIsComputed → (count : ℕ) (c : Config) (given place before now : Option (List ℕ)) (s : ServerValue) → SoFar count c given place before now s → HasServed c (record { given = given; before = before; now = now })
has_served computed count c given place before now s f = record {
  reporters = λ config. reporter computed config;
  bodies = f.bodies;
  events = f.events;
  place = place;
  read = f.read;
  are = f.are;
  written = f.appends;
}

-- what sends nothing leaves a run as it was
abbrev same_so_far : (count : ℕ) (c : Config) (given place before then now : Option (List ℕ)) (s : ServerValue) → SoFar count c given place before then s → Appends then now [] → SoFar count c given place before now s
same_so_far count c given place before then now s f h = record {
  bodies = f.bodies;
  events = f.events;
  counted = f.counted;
  read = f.read;
  are = f.are;
  server = f.server;
  appends = subst (Appends before now) (append-nil (written report (sent f.events (started c)))) (Appends-trans before then now _ _ f.appends h);
}

by_notice : (e : Event) (n : NoticeValue) (p : Phase) (s : ServerValue) (status : ℕ) → exit_by n p ≡ Some status → (noticed e n p s).1 ≡ []
by_notice e Asks Waiting s status h = refl
by_notice e Asks Running s status h = refl
by_notice e Asks Stopped s status h = refl
by_notice e (Opens o) p s status h = cc
by_notice e (Changes uri version cs) p s status h = cc
by_notice e (Spoils uri) p s status h = cc
by_notice e (Closes uri) p s status h = cc
by_notice e (Sets settings) p s status h = cc
by_notice e Starts p s status h = cc
by_notice e Refreshes p s status h = cc
by_notice e Passed p s status h = cc

by_came : (e : Event) (came : Came) (s : ServerValue) (status : ℕ) → exit_of came s.phase ≡ Some status → (stepped e came s).1 ≡ []
by_came e (Read (Request id method params)) s status h = cc
by_came e (Read (Notification method params)) s status h = by_notice e (notice_of method params) s.phase s status h
by_came e (Read Response) s status h = cc
by_came e (Read (Invalid id)) s status h = cc
by_came e NoJson s status h = cc
by_came e Dropped s status h = cc

exit_is_quiet : (e : Event) (s : ServerValue) (status : ℕ) → exit_of e.came s.phase ≡ Some status → (step e s).1 ≡ []
unfolding step
exit_is_quiet e s status h = by_came e e.came s status h

exited : ReportIsComputed → (count : ℕ) (c : Config) (given place left before then now : Option (List ℕ)) (m n : ℕ) (s new : ServerValue) (status : ℕ) → (f : SoFar count c given place before then s)
    → IsMessage place left (after f.events (started c)) new (sink_of then now m n) (Some status) → IsServed c (record { given = given; before = before; now = now }) status
exited computed count c given place left before then now m n s new status f g =
    let quiet : Appends then now [] = subst (Appends then now) (ap (written report) (exit_is_quiet g.event (after f.events (started c)) status (sym g.ends))) g.does.messages.appends in
    record {
      run = has_served computed count c given place before now s (same_so_far count c given place before then now s f quiet);
      ended = inr (record { body = g.body; event = g.event; next = next_of place left g.body g.taken; is = g.is; exits = sym g.ends });
    }

one_status : (status : ℕ) → (let a : Option ℕ = Some status in a ≡ Some 1) → status ≡ 1
one_status status e = cc

pub all_served : ReportIsComputed → (count : ℕ) (c : Config) (given place left before then now : Option (List ℕ)) (m n : ℕ) (s new : ServerValue) (status : ℕ) → SoFar count c given place before then s
    → IsTurn place left s new (sink_of then now m n) (Some status) → IsServed c (record { given = given; before = before; now = now }) status
all_served computed count c given place left before then now m n s new status f turn = elim turn [
  | inl h ↦ exited computed count c given place left before then now m n s new status f (met_there place left s (after f.events (started c)) new (sink_of then now m n) (Some status) f.server h)
  | inr h ↦ record {
    run = has_served computed count c given place before now s (same_so_far count c given place before then now s f h.sent.appends);
    ended = inl (h.last, one_status status h.ends);
  }
]

has_begun : ReportIsComputed → (count : ℕ) (c : Config) (given place left before then now : Option (List ℕ)) (m n : ℕ) (s : ServerValue) (f : SendFault) → SoFar count c given place before then s
    → IsMessageCut place left s (sink_of then now m n) f → HasBegun c (record { given = given; before = before; now = now })
has_begun computed count c given place left before then now m n s fault f h =
    let t = after f.events (started c) in
    let g = cut_there place left s t (sink_of then now m n) fault f.server h in
    record {
      reporters = λ config. reporter computed config;
      bodies = f.bodies;
      events = f.events;
      place = place;
      read = f.read;
      are = f.are;
      body = g.body;
      event = g.event;
      next = next_of place left g.body g.taken;
      is = g.is;
      between = then;
      earlier = f.appends;
      begun = g.cut.begins;
    }

writer_failed : (a b : Option (List ℕ)) (place left : Option (List ℕ)) (m n : ℕ) (s : ServerValue) → IsMessageCut place left s (sink_of a b m n) send.Write → m < n
writer_failed a b place left m n s h = h.cut.failed

-- a message ended the run
pub stopped : ReportIsComputed → (f : ServeFault) (count : ℕ) (c : Config) (given place left before then now : Option (List ℕ)) (s : ServerValue) (n : Failures) (reads writes : ℕ) → reads ≡ n.reads_before → writes ≡ n.writes_before
    → SoFar count c given place before then s → IsTurnFault place left reads n.reads_after s (sink_of then now writes n.writes_after) f
    → IsServeFault c n (record { given = given; before = before; now = now }) f
stopped computed fault.Read count c given place left before then now s n reads writes r w f h =
    (subst (λ (x : ℕ). x < n.reads_after) r h.0, has_served computed count c given place before now s (same_so_far count c given place before then now s f h.1.appends))
stopped computed fault.Header count c given place left before then now s n reads writes r w f h =
    (has_served computed count c given place before now s (same_so_far count c given place before then now s f h.1.appends), inl h.0)
stopped computed fault.Write count c given place left before then now s n reads writes r w f h =
    (subst (λ (x : ℕ). x < n.writes_after) w (writer_failed then now place left writes n.writes_after s h), has_begun computed count c given place left before then now writes n.writes_after s send.Write f h)
stopped computed fault.TooLong count c given place left before then now s n reads writes r w f h = has_begun computed count c given place left before then now writes n.writes_after s send.TooLong f h

-- as many messages were read as are counted
pub counted_out : ReportIsComputed → (count : ℕ) (c : Config) (given place before now : Option (List ℕ)) (s : ServerValue) (n : Failures) → SoFar count c given place before now s → count ≡ 2 ^ 64 - 1
    → IsServeFault c n (record { given = given; before = before; now = now }) fault.Header
counted_out computed count c given place before now s n f e = (has_served computed count c given place before now s f, inr (f.counted ∙ e))
