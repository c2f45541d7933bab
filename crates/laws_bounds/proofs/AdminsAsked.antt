-- Each question of the administrator with a number has its Ask in mail at that place.
use Rattle.std.proofs.Common.{◌≡◌, ℕ, ◌+◌, cond, is_none, List, [], ◌∷◌, ◌++◌, length, Option, Some, None, slice_get}
use Rattle.std.proofs.Common.{refl, sym, ap, ◌∙◌, subst, append_assoc, length-append, arith}
use Rattle.std.specs.List.{AllByRecursion as Every}
use Rattle.qc_list.proofs.Members.{every-weaker}
use Rattle.qc_admin.specs.Vocabulary.{sent_each}
use Rattle.qc_core.proofs.AdminTurns.{IsOfAdmin, IsSentByAdmin}
use Rattle.qc_decl.specs.declared.declaration.Declaration.{Declaration}
use Rattle.qc_entry.specs.declared.line.Line.{Line}
use Rattle.qc_entry.specs.declared.record.Prepared.{Prepared}
use Rattle.qc_epoch.specs.Vocabulary.{Admin, Asking, Closing, Doing, Installing, Question, Resting, ShutSite}
use Rattle.qc_epoch.specs.Vocabulary.{admin_takes, numbered_first, requested, sent_one}
use Rattle.qc_msg.specs.declared.payload.EpochStart.{EpochStart}
use Rattle.laws_turns.proofs.Places.{slice_get-last}
use Rattle.qc_msg.specs.Vocabulary.{envelopes}
use Rattle.qc_msg.specs.declared.message.Answer.{Answer}
use Rattle.qc_msg.specs.declared.message.Envelope.{Envelope}
use Rattle.qc_msg.specs.declared.message.Message.{Message}
use Rattle.qc_msg.specs.declared.message.Message.TheVariants as messages
use Rattle.qc_msg.specs.declared.message.Outcome.{Outcome}
use Rattle.qc_msg.specs.declared.step.Input.{Input}
use Rattle.qc_msg.specs.declared.turn.Posting.{Posting}
use Rattle.qc_stamp.specs.declared.stamp.TxId.{TxId}
use Rattle.laws_bounds.specs.AdminParts as parts
use Rattle.laws_bounds.specs.Vocabulary.{AnyNumber, NumberKeeps}
use Rattle.laws_bounds.proofs.AdminKeeps.{FirstKeeps, admin_keeps, admin_sends_keep}
use Rattle.laws_bounds.proofs.AdminProperties.{AdminMoveKeeps, GivenKeeps, Keeping, Properties, ShutCame}
use Rattle.laws_bounds.proofs.AdminQuestions.{AreLined, first_unnumbered, questions_in}
use Rattle.laws_bounds.proofs.AdminCases.{given_cases, shut_keeps}
use Rattle.qc_list.proofs.Places.{slice_get-more}

-- the message of this number is the Ask about a transaction
abbrev pub AsksAt : List Envelope → TxId → ℕ → Type 0
AsksAt ms tx n = (f : Envelope) × (slice_get ms n ≡ Some f) × (f.message ≡ messages.Ask tx)

pub asks_more : (ms ns : List Envelope) (tx : TxId) (n : ℕ) → AsksAt ms tx n → AsksAt (ms ++ ns) tx n
asks_more ms ns tx n asks = (asks.0, slice_get-more ms ns n asks.0 asks.1, asks.2)

abbrev AnyClock : ℕ → Type 0
AnyClock clock = Unit {0}

abbrev AnyLines : List Line → Type 0
AnyLines lines = Unit {0}

abbrev AnyPromise : Prepared → Type 0
AnyPromise p = Unit {0}

abbrev AnyVerdict : TxId → Outcome → Type 0
AnyVerdict tx verdict = Unit {0}

abbrev AnyEpoch : ℕ → Type 0
AnyEpoch epoch = Unit {0}

-- any properties, and one of the numbers
abbrev numbered : (TxId → ℕ → Type 0) → Properties
numbered Number = record {
  Clock = AnyClock;
  Lines = AnyLines;
  Promise = AnyPromise;
  Verdict = AnyVerdict;
  Epoch = AnyEpoch;
  Number = Number;
}

keeping : Keeping AnyClock AnyLines AnyPromise AnyVerdict
keeping = record {
  first = tt;
  later = λ x y here there. tt;
  stamped = λ tx stamp here. tt;
  none = tt;
  both = λ xs ys here there. tt;
  promised = λ p stamp has here. tt;
  agree = λ t u verdict same here. tt;
}

any_promises : (ps : List Prepared) → Every AnyPromise ps
any_promises [] = tt
any_promises (p ∷ ps) = (tt, any_promises ps)

module _ (Number : TxId → ℕ → Type 0) where
  shut_came : (answer : Option Answer) → ShutCame (numbered Number) answer
  shut_came answer =
      shut_keeps (numbered Number) (λ (answer : Option Answer). Unit {0})
      (λ clock log prepared here. (tt, tt, any_promises prepared)) answer tt

  any_told : (tx : TxId) (told : Option Outcome)
      → parts.ToldKeeps AnyClock AnyLines AnyPromise AnyVerdict AnyEpoch Number tx told
  any_told tx None = tt
  any_told tx (Some verdict) = tt

  given_keeps : (m : Admin) (g : Input) → GivenKeeps (numbered Number) m g
  given_keeps m g =
      given_cases (numbered Number) m (λ (g : Input). Unit {0}) (λ number here. tt)
      (λ e to answer here. record { shut = shut_came (Some answer); told = λ q among is. any_told q.tx _ }) g tt

-- a state has any property that is none, so the walk tells how Asks are lined

any_shuts : (ss : List ShutSite) → parts.ShutsKeep AnyClock AnyLines AnyPromise AnyVerdict AnyEpoch AnyNumber ss
any_shuts [] = tt
any_shuts (s ∷ ss) = (record { clock = tt; log = tt; prepared = any_promises s.prepared }, any_shuts ss)

any_number : (tx : TxId) (o : Option ℕ) → NumberKeeps AnyNumber tx o
any_number tx None = tt
any_number tx (Some n) = tt

any_taken : (tx : TxId) (taken : Option (Option Outcome))
    → parts.TakenKeeps AnyClock AnyLines AnyPromise AnyVerdict AnyEpoch AnyNumber tx taken
any_taken tx None = tt
any_taken tx (Some None) = tt
any_taken tx (Some (Some verdict)) = tt

any_questions : (qs : List Question) → parts.QuestionsKeep AnyClock AnyLines AnyPromise AnyVerdict AnyEpoch AnyNumber qs
any_questions [] = tt
any_questions (q ∷ qs) = ((any_taken q.tx q.taken, any_number q.tx q.number), any_questions qs)

any_decided : (o : Option EpochStart) → parts.DecidedKeeps AnyClock AnyLines AnyPromise AnyVerdict AnyEpoch AnyNumber o
any_decided None = tt
any_decided (Some d) = record { epoch_is = tt; clock_is = tt; lines_are = tt }

any_doing : (d : Doing) → parts.DoingKeeps AnyClock AnyLines AnyPromise AnyVerdict AnyEpoch AnyNumber d
any_doing Resting = tt
any_doing (Closing epoch calls round shuts) = (tt, any_shuts shuts)
any_doing (Asking epoch shuts questions) = (tt, any_shuts shuts, any_questions questions)
any_doing (Installing closed awaits calls installed) = tt

pub takes_lined : (decl : Declaration) (m : Admin) (g : Input)
    → AreLined (questions_in (admin_takes decl m g).admin.doing) (admin_takes decl m g).turn.sends
takes_lined decl m g =
    (admin_keeps (numbered AnyNumber) keeping decl m
    (record { decided = any_decided m.decided; doing = any_doing m.doing }) g (given_keeps AnyNumber m g)).lined

module _ (ms : List Envelope) where
  abbrev pub AdminAsked : Admin → Type 0
  AdminAsked m = parts.AdminKeeps AnyClock AnyLines AnyPromise AnyVerdict AnyEpoch (AsksAt ms) m

  abbrev pub DoingAsked : Doing → Type 0
  DoingAsked d = parts.DoingKeeps AnyClock AnyLines AnyPromise AnyVerdict AnyEpoch (AsksAt ms) d

  abbrev pub QuestionAsked : Question → Type 0
  QuestionAsked q = parts.QuestionKeeps AnyClock AnyLines AnyPromise AnyVerdict AnyEpoch (AsksAt ms) q

  pub any_decided_asked : (o : Option EpochStart)
      → parts.DecidedKeeps AnyClock AnyLines AnyPromise AnyVerdict AnyEpoch (AsksAt ms) o
  any_decided_asked None = tt
  any_decided_asked (Some d) = record { epoch_is = tt; clock_is = tt; lines_are = tt }

  pub admin_takes_asked : (decl : Declaration) (m : Admin) (g : Input) → AdminAsked m
      → AdminMoveKeeps (numbered (AsksAt ms)) (admin_takes decl m g)
  admin_takes_asked decl m g w =
      admin_keeps (numbered (AsksAt ms)) keeping decl m w g
      (given_keeps (AsksAt ms) m g)

-- more mail

module _ (ms ns : List Envelope) where
  shut_more : (s : ShutSite) → parts.ShutKeeps AnyClock AnyLines AnyPromise AnyVerdict AnyEpoch (AsksAt ms) s
      → parts.ShutKeeps AnyClock AnyLines AnyPromise AnyVerdict AnyEpoch (AsksAt (ms ++ ns)) s
  shut_more s w = record { clock = tt; log = tt; prepared = any_promises s.prepared }

  taken_more : (tx : TxId) (taken : Option (Option Outcome))
      → parts.TakenKeeps AnyClock AnyLines AnyPromise AnyVerdict AnyEpoch (AsksAt (ms ++ ns)) tx taken
  taken_more tx None = tt
  taken_more tx (Some None) = tt
  taken_more tx (Some (Some verdict)) = tt

  number_more : (tx : TxId) (o : Option ℕ) → NumberKeeps (AsksAt ms) tx o → NumberKeeps (AsksAt (ms ++ ns)) tx o
  number_more tx None here = tt
  number_more tx (Some n) here = asks_more ms ns tx n here

  shuts_more : (shuts : List ShutSite)
      → parts.ShutsKeep AnyClock AnyLines AnyPromise AnyVerdict AnyEpoch (AsksAt ms) shuts
      → parts.ShutsKeep AnyClock AnyLines AnyPromise AnyVerdict AnyEpoch (AsksAt (ms ++ ns)) shuts
  shuts_more =
      every-weaker (parts.ShutKeeps AnyClock AnyLines AnyPromise AnyVerdict AnyEpoch (AsksAt ms))
      (parts.ShutKeeps AnyClock AnyLines AnyPromise AnyVerdict AnyEpoch (AsksAt (ms ++ ns))) shut_more

  doing_more : (d : Doing) → parts.DoingKeeps AnyClock AnyLines AnyPromise AnyVerdict AnyEpoch (AsksAt ms) d
      → parts.DoingKeeps AnyClock AnyLines AnyPromise AnyVerdict AnyEpoch (AsksAt (ms ++ ns)) d
  doing_more Resting here = tt
  doing_more (Closing epoch calls round shuts) here = (tt, shuts_more shuts here.1)
  doing_more (Asking epoch shuts questions) here = (
    tt,
    shuts_more shuts here.1,
    every-weaker (parts.QuestionKeeps AnyClock AnyLines AnyPromise AnyVerdict AnyEpoch (AsksAt ms))
        (parts.QuestionKeeps AnyClock AnyLines AnyPromise AnyVerdict AnyEpoch (AsksAt (ms ++ ns)))
        (λ q keeps. (taken_more q.tx q.taken, number_more q.tx q.number keeps.1)) questions here.2,
  )
  doing_more (Installing closed awaits calls installed) here = tt

  decided_more : (o : Option EpochStart)
      → parts.DecidedKeeps AnyClock AnyLines AnyPromise AnyVerdict AnyEpoch (AsksAt (ms ++ ns)) o
  decided_more None = tt
  decided_more (Some d) = record { epoch_is = tt; clock_is = tt; lines_are = tt }

  pub admin_asked_more : (m : Admin) → AdminAsked ms m → AdminAsked (ms ++ ns) m
  admin_asked_more m w = record { decided = decided_more m.decided; doing = doing_more m.doing w.doing }

-- as the Asks of a turn get their numbers

lined_first : (qs : List Question) (p : Posting) (ps : List Posting) (u : Question) → AreLined qs (p ∷ ps)
    → first_unnumbered qs ≡ Some u → p.message ≡ messages.Ask u.tx
lined_first [] p ps u lined is = absurd (let never : ⊥ = cc in never)
lined_first (q ∷ qs) p ps u lined is = at q.number refl (λ lined is. lined_first qs p ps u lined is) lined is
  where
    at : (o : Option ℕ) → q.number ≡ o
        → (AreLined qs (p ∷ ps) → first_unnumbered qs ≡ Some u → p.message ≡ messages.Ask u.tx)
        → AreLined (record q { number = o } ∷ qs) (p ∷ ps)
        → cond (is_none o) (Some q) (first_unnumbered qs) ≡ Some u → p.message ≡ messages.Ask u.tx
    at None same rest lined is =
        lined.0 ∙ ap (λ (v : Question). messages.Ask v.tx) (let same : q ≡ u = cc in same)
    at (Some n) same rest lined is = rest lined is

lined_next : (qs : List Question) (p : Posting) (ps : List Posting) (number : ℕ) → AreLined qs (p ∷ ps)
    → AreLined (numbered_first qs number) ps
lined_next [] p ps number lined = tt
lined_next (q ∷ qs) p ps number lined = at q.number (λ lined. lined_next qs p ps number lined) lined
  where
    at : (o : Option ℕ) → (AreLined qs (p ∷ ps) → AreLined (numbered_first qs number) ps)
        → AreLined (record q { number = o } ∷ qs) (p ∷ ps)
        → AreLined (cond (is_none o) (record q { number = Some number } ∷ qs)
        (record q { number = o } ∷ numbered_first qs number)) ps
    at None rest lined = lined.1
    at (Some n) rest lined = rest lined

doing_next : (d : Doing) (p : Posting) (ps : List Posting) (number to : ℕ) → AreLined (questions_in d) (p ∷ ps)
    → AreLined (questions_in (requested d number to)) ps
doing_next Resting p ps number to lined = tt
doing_next (Closing epoch calls round shuts) p ps number to lined = tt
doing_next (Asking epoch shuts qs) p ps number to lined = lined_next qs p ps number lined
doing_next (Installing closed awaits calls installed) p ps number to lined = tt

one_next : (m : Admin) (message : Message) (p : Posting) (ps : List Posting) (number to : ℕ) → IsOfAdmin message
    → AreLined (questions_in m.doing) (p ∷ ps) → AreLined (questions_in (sent_one m number to message).doing) ps
one_next m (messages.Request tx epoch life want) p ps number to is lined = absurd is
one_next m (messages.Answer request answer) p ps number to is lined = absurd is
one_next m (messages.Decision tx verdict) p ps number to is lined = absurd is
one_next m (messages.Inquiry tx) p ps number to is lined = absurd is
one_next m (messages.Ask tx) p ps number to is lined = doing_next m.doing p ps number to lined
one_next m (messages.Close epoch) p ps number to is lined = doing_next m.doing p ps number to lined
one_next m (messages.Install start) p ps number to is lined = doing_next m.doing p ps number to lined

pub sent_each_asked : (a : ℕ) (before : List Envelope) (m : Admin) (ps : List Posting) (k : ℕ) → k ≡ length before
    → Every IsSentByAdmin ps → AreLined (questions_in m.doing) ps → AdminAsked (before ++ envelopes a k ps) m
    → AdminAsked (before ++ envelopes a k ps) (sent_each m k ps)
sent_each_asked a before m [] k place all lined w = w
sent_each_asked a before m (p ∷ ps) k place all lined w =
    subst (λ (ms : List Envelope). AdminAsked ms (sent_each (sent_one m k p.to p.message) (k + 1) ps)) same
    (sent_each_asked a (before ++ e ∷ []) (sent_one m k p.to p.message) ps (k + 1)
    (let longer : length (before ++ e ∷ []) ≡ length before + 1 = length-append before (e ∷ []) in
    omega (arith, place, longer))
    all.1 (one_next m p.message p ps k p.to all.0 lined)
    (subst (λ (ms : List Envelope). AdminAsked ms (sent_one m k p.to p.message)) (sym same)
    (admin_sends_keep (numbered (AsksAt (before ++ envelopes a k (p ∷ ps)))) m k p.to p.message first w)))
  where
    e : Envelope
    e = record { number = k; from = a; to = p.to; message = p.message }

    same : (before ++ e ∷ []) ++ envelopes a (k + 1) ps ≡ before ++ envelopes a k (p ∷ ps)
    same = append_assoc before (e ∷ []) (envelopes a (k + 1) ps)

    here : slice_get (before ++ envelopes a k (p ∷ ps)) k ≡ Some e
    here =
        ap (λ (ms : List Envelope). slice_get ms k) (sym same)
        ∙ slice_get-more (before ++ e ∷ []) (envelopes a (k + 1) ps) k e
        (ap (λ (n : ℕ). slice_get (before ++ e ∷ []) n) place ∙ slice_get-last before e)

    first : FirstKeeps (numbered (AsksAt (before ++ envelopes a k (p ∷ ps)))) (questions_in m.doing) k
    first = λ u is. (e, here, lined_first (questions_in m.doing) p ps u lined is)
