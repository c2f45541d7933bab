-- What a turn answers in a run with falls: the message that was taken before it, and nothing as an actor rises; where a
-- site's record isn't written, it doesn't say that it has forgotten.
use Rattle.std.proofs.Common.{◌≡◌, ◌≤◌, ℕ, Bool, true, List, [], ◌∷◌, ◌++◌, inl, inr, Option, Some, None, slice_get}
use Rattle.std.proofs.Common.{refl, sym, ap, ◌∙◌, subst}
use Rattle.std.proofs.lemmas.List.Sums.{fold-append}
use Rattle.laws_votes.proofs.Inputs.{TookAt, taken_at}
use Rattle.qc_core.proofs.Answers.{answers_rising, answers_taken}
use Rattle.qc_core.proofs.OpenedInputs.{Opened, opened}
use Rattle.qc_core.proofs.Written.{IsAnswerTo, IsAnsweredTo, NoAnswer}
use Rattle.qc_core.specs.Vocabulary.{IsLawfulWithFalls, MayReach, is_up, up_at}
use Rattle.qc_decl.specs.Vocabulary.{actors}
use Rattle.qc_decl.specs.declared.declaration.Declaration.{Declaration}
use Rattle.qc_entry.specs.declared.record.Prepared.{Prepared}
use Rattle.laws_guarantees.proofs.ForgettingAnswers.{Forgets, same_answer}
use Rattle.qc_link.specs.Vocabulary.{most_actors}
use Rattle.qc_list.specs.Vocabulary.{In}
use Rattle.qc_list.proofs.Members.{every-In}
use Rattle.laws_turns.proofs.Lived.{actors_live_in_runs_with_falls}
use Rattle.laws_turns.specs.Vocabulary.{LivesIn}
use Rattle.qc_msg.proofs.GrownMail.{mail-append}
use Rattle.qc_msg.specs.Vocabulary.{Answered, Deed, Entry, Takes, WasSentTo, answer_in, deeds, heard_in, mail, marked}
use Rattle.qc_msg.specs.Vocabulary.{sends_as}
use Rattle.qc_msg.specs.declared.message.Answer.{Answer}
use Rattle.qc_msg.specs.declared.message.Answer.TheVariants as answers
use Rattle.qc_msg.specs.declared.message.Envelope.{Envelope}
use Rattle.qc_msg.specs.declared.message.Message.{Message}
use Rattle.qc_msg.specs.declared.message.Message.TheVariants as messages
use Rattle.qc_msg.specs.declared.message.Outcome.{Outcome}
use Rattle.qc_msg.specs.declared.message.Outcome.TheVariants as outcomes
use Rattle.qc_msg.specs.declared.message.Want.{Want}
use Rattle.qc_msg.specs.declared.message.Want.TheVariants.{Append, Prepare, Read}
use Rattle.qc_msg.specs.declared.record.Record.{Record}
use Rattle.qc_msg.specs.declared.step.Input.{Input}
use Rattle.qc_msg.specs.declared.step.Input.TheVariants as given
use Rattle.qc_msg.specs.declared.step.Step.TheVariants as steps
use Rattle.qc_msg.specs.declared.turn.Posting.{Posting}
use Rattle.qc_msg.specs.declared.turn.Turn.{Turn}
use Rattle.qc_script.specs.Vocabulary.{RunsWithFalls}
use Rattle.qc_script.specs.declared.script.Script.{Script}
use Rattle.qc_site.proofs.RequestCases.{append_cases, close_cases, prepare_cases, read_cases, request_cases}
use Rattle.qc_site.proofs.Cases.{install_cases}
use Rattle.qc_site.specs.Vocabulary.{SiteMove, SiteState, answering, finishes, grants, joins, passed, prepared_of}
use Rattle.qc_site.specs.Vocabulary.{site_at, site_takes}
use Rattle.qc_stamp.specs.declared.stamp.Stamp.{Stamp}
use Rattle.qc_stamp.specs.declared.stamp.TxId.{TxId}
use Rattle.qc_list.proofs.Places.{slice_get-more}
use Rattle.qc_msg.proofs.DeedsGrow.{deeds-rise}

-- what a site sends where its record isn't written

abbrev NeverForgets : SiteMove → Type 0
NeverForgets m = (p : Posting) (n : ℕ) (x : Answer) → In p m.turn.failed_sends → p.message ≡ messages.Answer n x
    → Forgets x → ⊥

at_fault : (from number : ℕ) (p : Posting) (n : ℕ) (x : Answer) → In p (answering from number answers.Fault ∷ [])
    → p.message ≡ messages.Answer n x → Forgets x → ⊥
at_fault from number p n x (inl same) is forgets =
    subst Forgets (sym (same_answer number n answers.Fault x (sym (ap (λ (q : Posting). q.message) same) ∙ is)).1)
    forgets
at_fault from number p n x (inr never) is forgets = never

grants_never : (decl : Declaration) (s : SiteState) (from number : ℕ) (tx : TxId) (want : Want)
    → NeverForgets (grants decl s from number tx want)
grants_never decl s from number tx (Read read) =
    read_cases NeverForgets decl s from number tx read (λ free p n x among is forgets. among)
    (λ c clash p n x among is forgets. among)
grants_never decl s from number tx (Append object view own) =
    append_cases NeverForgets decl s from number tx object view own (λ free p n x among is forgets. among)
    (λ c clash p n x among is forgets. among)
grants_never decl s from number tx Prepare =
    prepare_cases NeverForgets s from number tx (λ p n x among is forgets. among)
    (λ held stands p n x among is forgets. among) (λ held made. at_fault from number)

joins_never : (s : SiteState) (tx : TxId) (stamp : Stamp) (o : Option Prepared) → NeverForgets (joins s tx stamp o)
joins_never s tx stamp None p n x among is forgets = among
joins_never s tx stamp (Some q) p n x among is forgets = among

finishes_never : (s : SiteState) (tx : TxId) (verdict : Outcome) → NeverForgets (finishes s tx verdict)
finishes_never s tx (outcomes.Committed stamp) = joins_never s tx stamp (prepared_of s.prepared tx)
finishes_never s tx outcomes.Aborted = λ p n x among is forgets. among
finishes_never s tx outcomes.Active = λ p n x among is forgets. among

at_never : (decl : Declaration) (s : SiteState) (from number : ℕ) (m : Message)
    → NeverForgets (site_at decl s from number m)
at_never decl s from number (messages.Request tx epoch life want) =
    request_cases NeverForgets decl s from number tx epoch life want (λ p n x among is forgets. among)
    (λ fault is p n x among same forgets. among) (λ is. grants_never decl s from number tx want)
at_never decl s from number (messages.Answer to answer) = λ p n x among is forgets. among
at_never decl s from number (messages.Decision tx verdict) = finishes_never s tx verdict
at_never decl s from number (messages.Inquiry tx) = λ p n x among is forgets. among
at_never decl s from number (messages.Ask tx) = λ p n x among is forgets. among
at_never decl s from number (messages.Close epoch) =
    close_cases NeverForgets s from number epoch (λ answer p n x among is forgets. among)
    (λ near later. at_fault from number)
at_never decl s from number (messages.Install start) =
    install_cases NeverForgets s from number start.epoch start.clock start.lines
    (λ answer p n x among is forgets. among)
    (λ later fits. at_fault from number)

pub fails_never : (decl : Declaration) (s : SiteState) (g : Input) → NeverForgets (site_takes decl s g)
fails_never decl s (given.Called command) p n x among is forgets = among
fails_never decl s (given.Got e) p n x among is forgets =
    at_never decl (passed s e.message) e.from e.number e.message p n x among is forgets
fails_never decl s (given.Lost number) p n x among is forgets = among

-- an answer of a turn is to the message that was taken: it was sent to the actor under this number
pub record IsOfTaken (h : List Entry) (b number : ℕ) : Type 0 where
  pub envelope : Envelope
  pub sent : slice_get (mail h) number ≡ Some envelope
  pub to : envelope.to ≡ b
  pub up : is_up (deeds b [] h) ≡ true

answered_to : (g : Input) (p : Posting) (n : ℕ) (x : Answer) → IsAnswerTo g p → p.message ≡ messages.Answer n x
    → (e : Envelope) × (g ≡ given.Got e) × (n ≡ e.number)
answered_to g p n x is message = by g (subst (λ (m : Message). IsAnsweredTo (heard_in g) p.to (answer_in m)) message is)
  where
    by : (g : Input) → IsAnsweredTo (heard_in g) p.to (Some (record { to = n; answer = x }))
        → (e : Envelope) × (g ≡ given.Got e) × (n ≡ e.number)
    by (given.Called command) never = absurd never
    by (given.Got e) k = (e, refl, k.0)
    by (given.Lost number) never = absurd never

module _ (decl : Declaration) (script : Script) (fits : ℕ → List Record → Type 0)
    (few : actors decl ≤ most_actors) where
  abbrev IsRun : List Entry → List Bool → Type 0
  IsRun h inputs = RunsWithFalls (IsLawfulWithFalls decl) fits decl script h inputs

  pub answers_of_taken : (h : List Entry) (inputs : List Bool) → IsRun h inputs → (b : ℕ) (turn : Turn)
      → slice_get inputs b ≡ Some true → IsLawfulWithFalls decl b (deeds b [] h) turn
      → (p : Posting) (n : ℕ) (x : Answer) → In p (sends_as turn.append turn) → p.message ≡ messages.Answer n x
      → IsOfTaken h b n
  answers_of_taken h inputs run b turn taken law p n x among message =
      found k.0 (subst (λ (g : Input). WasSentTo b (mail m.older) g) k.1 m.sent)
      (subst (MayReach (is_up o.before)) k.1 o.reach) k.2
    where
      lived : LivesIn decl b h true
      lived = actors_live_in_runs_with_falls decl script fits few h inputs run b true taken

      o : Opened (deeds b [] h)
      o = opened decl b (deeds b [] h) true lived.above lived.lives refl

      m : TookAt decl script fits h b o.before o.given
      m = taken_at decl script fits h inputs run b o.before o.given [] o.is

      k : (e : Envelope) × (o.given ≡ given.Got e) × (n ≡ e.number)
      k = answered_to o.given p n x (every-In (IsAnswerTo o.given) p (sends_as turn.append turn)
          (answers_taken decl b o.before o.given turn
          (subst (λ (ds : List Deed). IsLawfulWithFalls decl b ds turn) o.is law)) among) message

      found : (e : Envelope) → (slice_get (mail m.older) e.number ≡ Some e) × (e.to ≡ b) → is_up o.before ≡ true
          → n ≡ e.number → IsOfTaken h b n
      found e sent up same = record {
        envelope = e;
        sent = ap (slice_get (mail h)) same ∙ subst (λ (ms : List Envelope). slice_get ms e.number ≡ Some e)
            (sym (mail-append m.older m.more) ∙ ap mail m.grows)
            (slice_get-more (mail m.older) (mail m.more) e.number e sent.0);
        to = sent.1;
        up = ap is_up o.is ∙ fold-append up_at true o.before (Takes o.given ∷ []) ∙ up;
      }

-- as it rises, an actor answers nothing
pub rise_answers_nothing : (decl : Declaration) (c : ℕ) (h : List Entry) (records : List Record) (turn : Turn)
    → IsLawfulWithFalls decl c (deeds c [] (h ++ marked c (steps.Rose records) ∷ [])) turn
    → (p : Posting) (n : ℕ) (x : Answer) → In p (sends_as turn.append turn) → p.message ≡ messages.Answer n x → ⊥
rise_answers_nothing decl c h records turn law p n x among message =
    none_some (answer_in p.message) (record { to = n; answer = x })
    (every-In NoAnswer p (sends_as turn.append turn)
    (answers_rising decl c (deeds c [] h) records turn
    (subst (λ (ds : List Deed). IsLawfulWithFalls decl c ds turn) (deeds-rise c h records) law)) among)
    (ap answer_in message)
  where
    none_some : (o : Option Answered) (a : Answered) → o ≡ None → o ≡ Some a → ⊥
    none_some o a none some = let both : None ≡ Some a = sym none ∙ some in let never : ⊥ = cc in never
