-- How a transaction stands is told as the answer to an Ask about it, in form; so what a client tells the administrator
-- is of the transaction that it was asked about.
use Rattle.std.proofs.Common.{[], ◌≡◌, ℕ, true, List, ◌∷◌, ◌++◌, fold, Option, Some, None, refl, sym, ap, ◌∙◌}
use Rattle.std.proofs.Common.{subst, eqb-true, append_assoc, length}
use Rattle.std.specs.List.{AllByRecursion as Every}
use Rattle.qc_list.specs.Vocabulary.{In}
use Rattle.qc_list.proofs.Members.{every-In, every-at}
use Rattle.qc_core.specs.declared.actor.Actor.{Actor}
use Rattle.qc_core.specs.declared.actor.Actor.TheVariants as actors_of
use Rattle.qc_core.specs.Vocabulary.{ActorMove, actor_does, moved}
use Rattle.qc_core.proofs.AdminTurns.{IsSentByAdmin}
use Rattle.qc_decl.specs.declared.declaration.Declaration.{Declaration}
use Rattle.qc_epoch.specs.Vocabulary.{Admin, Asking, Closing, Doing, Installing, Question, Resting, is_number}
use Rattle.qc_msg.specs.Vocabulary.{Deed, Falls, Rises, Sends, Takes, Tells, WasSentTo, Writes, deeds_as, envelopes}
use Rattle.qc_msg.specs.Vocabulary.{quiet, sends_as, sends_of, tells_of, turn_deeds, Answered, answer_in, verdict_in}
use Rattle.qc_msg.specs.declared.record.Record.{Record}
use Rattle.qc_msg.specs.declared.step.Fall.{Fall}
use Rattle.qc_msg.specs.declared.step.Fall.TheVariants as causes
use Rattle.qc_msg.specs.declared.turn.Appended.{Appended}
use Rattle.qc_msg.specs.declared.turn.Appended.TheVariants.{Done, Failed, Stopped}
use Rattle.qc_msg.specs.declared.message.Answer.{Answer}
use Rattle.qc_msg.specs.declared.message.Envelope.{Envelope}
use Rattle.qc_msg.specs.declared.message.Message.{Message}
use Rattle.qc_msg.specs.declared.message.Message.TheVariants as messages
use Rattle.qc_msg.specs.declared.step.Input.{Input}
use Rattle.qc_msg.specs.declared.step.Input.TheVariants as inputs
use Rattle.qc_msg.specs.declared.turn.Turn.{Turn}
use Rattle.qc_stamp.specs.declared.stamp.TxId.{TxId}
use Rattle.laws_bounds.specs.Vocabulary.{NumberKeeps}
use Rattle.laws_bounds.proofs.ActorsInForm.{IsToldFor}
use Rattle.laws_bounds.proofs.ActorsWithin.{IsOfPost}
use Rattle.laws_bounds.proofs.AdminQuestions.{AreLined, questions_in}
use Rattle.laws_bounds.proofs.AdminsAsked.{AdminAsked, DoingAsked, QuestionAsked, AsksAt, sent_each_asked}
use Rattle.laws_bounds.proofs.AdminsInForm.{IsToldIn, MessageToldIn, ToldForm}
use Rattle.laws_bounds.proofs.Forms.{VerdictInForm}
use Rattle.laws_bounds.proofs.TurnsPosted.{admin_turn, client_turn, down_turn, site_turn}
use Rattle.laws_bounds.proofs.AnswersToAsks.{AnswerTold, MessageTold, MailTold, TurnTold, ActorAsked, VerdictTold}
use Rattle.laws_bounds.proofs.AnswersSaid.{quiet_told}
use Rattle.std.specs.Prelude.{MatchOption}
use Rattle.laws_bounds.proofs.Options.{match_weaker}
use Rattle.qc_msg.specs.declared.message.Outcome.{Outcome}

module _ (ms : List Envelope) where
  -- what the administrator is told is of the transaction that was asked about

  numbered_asked : (number : ℕ) (tx : TxId) (o : Option ℕ) → is_number number o ≡ true
      → NumberKeeps (AsksAt ms) tx o → AsksAt ms tx number
  numbered_asked number tx None is keeps = absurd (let never : ⊥ = cc in never)
  numbered_asked number tx (Some n) is keeps =
      subst (λ (k : ℕ). AsksAt ms tx k) (eqb-true n number is) keeps

  same_ask : (t u : TxId) (n : ℕ) → AsksAt ms t n → AsksAt ms u n → t ≡ u
  same_ask t u n one other =
      asks_one t u (sym one.2 ∙ ap (λ (e : Envelope). e.message) (some_one one.0 other.0 (sym one.1 ∙ other.1))
      ∙ other.2)
    where
      some_one : (e f : Envelope) → Some e ≡ Some f → e ≡ f
      some_one e f is = (let same : e ≡ f = cc in same)

      asks_one : (t u : TxId) → messages.Ask t ≡ messages.Ask u → t ≡ u
      asks_one t u is = (let same : t ≡ u = cc in same)

  asked_in : (m : Admin) → AdminAsked ms m → (q : Question) → In q (questions_in m.doing)
      → NumberKeeps (AsksAt ms) q.tx q.number
  asked_in m asked = by m.doing asked.doing
    where
      by : (d : Doing) → DoingAsked ms d → (q : Question) → In q (questions_in d)
          → NumberKeeps (AsksAt ms) q.tx q.number
      by Resting keeps q among = absurd among
      by (Closing epoch calls round shuts) keeps q among = absurd among
      by (Asking epoch shuts questions) keeps q among =
          (every-In (λ (u : Question). QuestionAsked ms u) q questions keeps.2 among).1
      by (Installing closed awaits calls installed) keeps q among = absurd among

  answered_told : (m : Admin) (number : ℕ) (answer : Answer) → AnswerTold ms number answer → AdminAsked ms m
      → IsToldIn m number (Some answer)
  answered_told m number answer told asked q among is = by (verdict_in answer) told
    where
      keeps : AsksAt ms q.tx number
      keeps = numbered_asked number q.tx q.number is (asked_in m asked q among)

      by : (o : Option Outcome) → MatchOption o (Unit {0}) (VerdictTold ms number) → ToldForm q.tx o
      by None told = tt
      by (Some verdict) told =
          subst (λ (t : TxId). VerdictInForm t verdict) (same_ask told.0 q.tx number told.1 keeps) told.2

  message_told : (m : Admin) (message : Message) → MessageTold ms message → AdminAsked ms m → MessageToldIn m message
  message_told m message told asked =
      match_weaker (λ (a : Answered). AnswerTold ms a.to a.answer) (λ (a : Answered). IsToldIn m a.to (Some a.answer))
      (answer_in message) (λ a is. answered_told m a.to a.answer is asked) told

  pub given_told : (decl : Declaration) (v : Actor) (a : ℕ) (g : Input) → WasSentTo a ms g → MailTold ms ms
      → ActorAsked ms v
      → IsToldFor decl v g
  given_told decl (actors_of.Site s) a g sent told asked = tt
  given_told decl (actors_of.Client c) a g sent told asked = tt
  given_told decl (actors_of.Admin m) a (inputs.Called command) sent told asked = tt
  given_told decl (actors_of.Admin m) a (inputs.Got e) sent told asked =
      message_told m e.message (every-at (λ (x : Envelope). MessageTold ms x.message) ms e.number e told sent.0) asked
  given_told decl (actors_of.Admin m) a (inputs.Lost number) sent told asked = tt
  given_told decl actors_of.Down a g sent told asked = tt

-- a post leaves a turn, or nothing

pub posts_told : (decl : Declaration) (a : ℕ) (ms : List Envelope) (m : ActorMove) (ds : List Deed) → Every IsOfPost ds
    → TurnTold ms m.turn → TurnTold ms (fold (actor_does decl a) m ds).turn
posts_told decl a ms m [] all told = told
posts_told decl a ms m (Takes g ∷ ds) all told = absurd all.0
posts_told decl a ms m (Writes written ∷ ds) all told = posts_told decl a ms m ds all.1 told
posts_told decl a ms m (Sends number to message ∷ ds) all told =
    posts_told decl a ms (actor_does decl a m (Sends number to message)) ds all.1 told
posts_told decl a ms m (Tells reply ∷ ds) all told = posts_told decl a ms m ds all.1 told
posts_told decl a ms m (Falls cause pending ∷ ds) all told =
    posts_told decl a ms (moved actors_of.Down quiet) ds all.1 (quiet_told ms)
posts_told decl a ms m (Rises rs ∷ ds) all told = absurd all.0

-- once a turn is posted each Ask of it has a number

abbrev pub AreReady : Actor → Turn → Type 0
AreReady (actors_of.Site s) turn = Unit {0}
AreReady (actors_of.Client c) turn = Unit {0}
AreReady (actors_of.Admin m) turn = AreLined (questions_in m.doing) turn.sends × Every IsSentByAdmin turn.sends
AreReady actors_of.Down turn = Unit {0}

written_asked : (decl : Declaration) (a : ℕ) (before : List Envelope) (v : Actor) (t turn : Turn)
    → AreReady v turn → ActorAsked (before ++ envelopes a (length before) turn.sends) v
    → ActorAsked (before ++ envelopes a (length before) turn.sends)
    (fold (actor_does decl a) (moved v t) (turn_deeds (length before) turn)).actor
written_asked decl a before (actors_of.Site s) t turn lined asked =
    subst (λ (m : ActorMove). ActorAsked (before ++ envelopes a (length before) turn.sends) m.actor)
    (sym (site_turn decl a (record { site = s; turn = t }) (length before) turn)) tt
written_asked decl a before (actors_of.Client c) t turn lined asked =
    subst (λ (m : ActorMove). ActorAsked (before ++ envelopes a (length before) turn.sends) m.actor)
    (sym (client_turn decl a (record { client = c; turn = t }) (length before) turn)) tt
written_asked decl a before (actors_of.Admin m) t turn lined asked =
    subst (λ (m : ActorMove). ActorAsked (before ++ envelopes a (length before) turn.sends) m.actor)
    (sym (admin_turn decl a (record { admin = m; turn = t }) (length before) turn))
    (sent_each_asked a before m turn.sends (length before) refl lined.1 lined.0 asked)
written_asked decl a before actors_of.Down t turn lined asked =
    subst (λ (m : ActorMove). ActorAsked (before ++ envelopes a (length before) turn.sends) m.actor)
    (sym (down_turn decl a t (length before) turn)) tt

falls_down : (decl : Declaration) (a : ℕ) (ds : List Deed) (m : ActorMove) (cause : Fall) (pending : Option Record)
    → (fold (actor_does decl a) m (ds ++ Falls cause pending ∷ [])).actor ≡ actors_of.Down
falls_down decl a [] m cause pending = refl
falls_down decl a (d ∷ ds) m cause pending = falls_down decl a ds (actor_does decl a m d) cause pending

pub posted_asked : (decl : Declaration) (a : ℕ) (before : List Envelope) (v : Actor) (t turn : Turn) (end : Appended)
    → AreReady v turn → ActorAsked (before ++ envelopes a (length before) (sends_as end turn)) v
    → ActorAsked (before ++ envelopes a (length before) (sends_as end turn))
    (fold (actor_does decl a) (moved v t) (deeds_as end (length before) turn)).actor
posted_asked decl a before v t turn Done lined asked = written_asked decl a before v t turn lined asked
posted_asked decl a before v t turn Failed lined asked =
    subst (λ (x : Actor). ActorAsked (before ++ envelopes a (length before) turn.failed_sends) x)
    (sym (ap (λ (ds : List Deed). (fold (actor_does decl a) (moved v t) ds).actor)
    (sym (append_assoc (sends_of (length before) turn.failed_sends) (tells_of turn.failed_told)
    (Falls causes.Disk turn.write ∷ [])))
    ∙ falls_down decl a (sends_of (length before) turn.failed_sends ++ tells_of turn.failed_told)
    (moved v t) causes.Disk turn.write)) tt
posted_asked decl a before v t turn Stopped lined asked =
    subst (λ (x : Actor). ActorAsked (before ++ []) x)
    (sym (falls_down decl a (tells_of turn.failed_told) (moved v t) causes.Stop turn.write)) tt
