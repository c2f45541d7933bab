-- In each undisturbed run each answer fits its request, by what its site was sent before.
use Rattle.std.proofs.Common.{[], ◌≡◌, ℕ, ◌+◌, ◌-◌, ◌==◌, Bool, true, List, ◌∷◌, ◌++◌, length, Some, slice_get, refl}
use Rattle.std.proofs.Common.{sym, ap, ◌∙◌, subst, arith, eqb-true, Option, None}
use Rattle.std.specs.List.{AllByRecursion as Every}
use Rattle.std.proofs.lemmas.List.{append_assoc}
use Rattle.std.proofs.lemmas.List.Elements.{filter_map-append}
use Rattle.std.proofs.lemmas.List.Sums.{fold-append}
use Rattle.qc_list.specs.Vocabulary.{In}
use Rattle.qc_list.proofs.Members.{In-last, In-passes, every-append, every-weaker, every-front}
use Rattle.qc_core.specs.Vocabulary.{IsLawful}
use Rattle.qc_decl.specs.Vocabulary.{controller}
use Rattle.qc_decl.specs.declared.declaration.Declaration.{Declaration}
use Rattle.qc_msg.specs.declared.message.Answer.{Answer}
use Rattle.qc_msg.specs.declared.message.Envelope.{Envelope}
use Rattle.qc_msg.specs.declared.message.Message.{Message}
use Rattle.qc_msg.specs.declared.step.Input.{Input}
use Rattle.qc_msg.specs.declared.step.Input.TheVariants as inputs
use Rattle.qc_msg.specs.declared.step.Step.TheVariants as steps
use Rattle.qc_msg.specs.declared.turn.Posting.{Posting}
use Rattle.qc_msg.specs.declared.turn.Turn.{Turn}
use Rattle.qc_msg.specs.Vocabulary.{Deed, Entry, Takes, by, deeds, envelopes, mail, posted, quiet, Answered, Requested}
use Rattle.qc_msg.specs.Vocabulary.{answer_in}
use Rattle.qc_msg.proofs.GrownMail.{mail-append, mail-posted, mail-taken}
use Rattle.qc_script.specs.Vocabulary.{Runs, phase_of}
use Rattle.qc_script.specs.Runs.{begins, takes, posts, phase, control}
use Rattle.qc_script.specs.declared.script.Script.{Script}
use Rattle.qc_site.specs.Vocabulary.{SiteMove, new_site, site_after, site_does, site_takes}
use Rattle.qc_site.specs.Site as sites
use Rattle.laws_atomic.proofs.FirstSites.{TakesCalm, after_at_first}
use Rattle.qc_client.specs.Vocabulary.{ClientMove, client_after, client_does, moved, new_client}
use Rattle.laws_turns.proofs.Numbered.{AreNumbered, control_silent, mail-silent, phase_silent, run_numbered}
use Rattle.laws_turns.proofs.Bounding.{lawful_turn}
use Rattle.laws_guarantees.specs.Vocabulary.{AnswersFit, Arrives, Fits, IfAnswered, IsAnswered, IsFirst, IsUndisturbed}
use Rattle.laws_guarantees.specs.Vocabulary.{sent_before, sent_to, taken, taken_by, taken_in}
use Rattle.laws_guarantees.proofs.ClientWords.{AreClientWords, IsClientWord, client_words}
use Rattle.laws_guarantees.proofs.FirstDeeds.{FirstGiven}
use Rattle.laws_guarantees.proofs.FirstAccounts.{TakesFirst}
use Rattle.laws_guarantees.proofs.FirstRuns.{given_first, lives_and_epochs_are_the_first, takes_first}
use Rattle.laws_guarantees.proofs.FirstSites.{deeds_calm}
use Rattle.laws_guarantees.proofs.Fitting.{AnswersTo, FitsMessage, IfAnswers, fits_on}
use Rattle.laws_guarantees.proofs.Held.{held_open}
use Rattle.laws_guarantees.proofs.Opened.{IsAtTake, opened}
use Rattle.laws_guarantees.proofs.Passing.{no_request_is_lost}
use Rattle.laws_guarantees.proofs.AnswersLater.{in_middle, split_at, SayFitting, fitting_envelopes, word_fits}
use Rattle.laws_guarantees.proofs.AnswersLater.{all_later}
use Rattle.laws_guarantees.proofs.MessageCases.{asking_cases}
use Rattle.std.specs.Prelude.{MatchOption}
use Rattle.laws_atomic.proofs.Heard.{took_sent}

module _ (decl : Declaration) (script : Script) (calm : IsUndisturbed script) where
  module _ (older : List Entry) (before : List Bool) (run : Runs (IsLawful decl) decl script older before) (b : ℕ)
      (turn : Turn) (is_opened : slice_get before b ≡ Some true)
      (lawful : IsLawful decl b (deeds b [] older) turn) where
    at : IsAtTake decl b (deeds b [] older)
    at = opened decl script older before run b is_opened

    hears_first : FirstGiven at.given
    hears_first =
        given_first older b at.given (lives_and_epochs_are_the_first decl script older before run)
        (subst (In (Takes at.given)) (sym at.is) (In-last (Takes at.given) at.before))

    before_calm : Every TakesCalm at.before
    before_calm =
        deeds_calm at.before
        (every-front TakesFirst at.before (Takes at.given ∷ [])
        (subst (Every TakesFirst) at.is
        (takes_first older b (lives_and_epochs_are_the_first decl script older before run))))

    arrives : Arrives script b older
    arrives = no_request_is_lost decl script older before calm.lossless run b

    -- the open input: what the site took before it is what was sent to it before
    module _ (e : Envelope) (got : at.given ≡ inputs.Got e) where
      sent : In e (mail older)
      sent =
          took_sent b [] older e
          (subst (In (Takes (inputs.Got e))) (sym (at.is ∙ ap (λ (g : Input). at.before ++ Takes g ∷ []) got))
          (In-last (Takes (inputs.Got e)) at.before))

      split : sent_to b (mail older) ≡ taken_in at.before ++ e ∷ arrives.ready
      split =
          sym arrives.in_order
          ∙ ap (λ (ds : List Deed). taken_in ds ++ arrives.ready) at.is
          ∙ ap (λ (v : List Envelope). v ++ arrives.ready) (filter_map-append taken_by at.before (Takes at.given ∷ []))
          ∙ ap (λ (g : Input). (taken_in at.before ++ taken_in (Takes g ∷ [])) ++ arrives.ready) got
          ∙ append_assoc (taken_in at.before) (e ∷ []) arrives.ready

      earlier : sent_before b e.number (mail older) ≡ taken_in at.before
      earlier =
          split_at (λ (x : Envelope). x.to == b) (mail older) 0 e.number (taken_in at.before) arrives.ready e
          (run_numbered (IsLawful decl) decl script older before run) split
          (let same : e.number ≡ 0 + e.number = omega arith in same)

      own : e.to ≡ b
      own =
          eqb-true e.to b
          (In-passes (λ (x : Envelope). x.to == b) e (mail older)
          (in_middle (taken_in at.before) arrives.ready e (sent_to b (mail older)) split))

      first : IsFirst e.message
      first = subst FirstGiven got hears_first

      fits : AnswersTo (taken_in at.before) e.number e.message
          (site_takes decl (site_after decl b at.before).site (inputs.Got e))
      fits =
          fits_on decl (taken_in at.before) b (site_after decl b at.before).site e
          (after_at_first decl b at.before before_calm) (held_open decl b at.before before_calm) first

      answered : (answer : Answer) (number : ℕ) → number ≡ e.number → (m : Message) → e.message ≡ m
          → FitsMessage (taken_in at.before) m answer → IsAnswered (mail older) b number answer
      answered answer number same m = asking_cases
          (λ m o. e.message ≡ m
          → MatchOption o ⊥ (λ (q : Requested). Fits (taken_in at.before) q.tx q.want answer)
          → IsAnswered (mail older) b number answer)
          (λ m is never. absurd never)
          (λ tx epoch life want is fit. record {
            request = e;
            among = sent;
            number_is = sym same;
            site_is = own;
            tx = tx;
            epoch = epoch;
            life = life;
            want = want;
            is = is;
            fits = subst (λ (v : List Envelope). Fits v tx want answer)
                (sym (ap (λ (k : ℕ). sent_before b k (mail older)) same ∙ earlier)) fit;
          }) m

      one : (m : Message) → IfAnswers (taken_in at.before) e.number e.message m → IfAnswered (mail older) b m
      one m = by (answer_in m)
        where
          by : (o : Option Answered) → MatchOption o (Unit {0})
              (λ (a : Answered). (a.to ≡ e.number) × FitsMessage (taken_in at.before) e.message a.answer)
              → MatchOption o (Unit {0}) (λ (a : Answered). IsAnswered (mail older) b a.to a.answer)
          by None r = tt
          by (Some a) r = answered a.answer a.to r.0 e.message refl r.1

      hears : SayFitting (mail older) b (site_takes decl (site_after decl b at.before).site (inputs.Got e)).turn.sends
      hears =
          every-weaker (λ (p : Posting). IfAnswers (taken_in at.before) e.number e.message p.message)
          (λ (p : Posting). IfAnswered (mail older) b p.message) (λ p. one p.message)
          (site_takes decl (site_after decl b at.before).site (inputs.Got e)).turn.sends fits

    by_input : (g : Input) → at.given ≡ g
        → SayFitting (mail older) b (site_takes decl (site_after decl b at.before).site g).turn.sends
    by_input (inputs.Called command) is = tt
    by_input (inputs.Got e) is = hears e is
    by_input (inputs.Lost number) is = tt

    by_site : SayFitting (mail older) b (site_after decl b (deeds b [] older)).turn.sends
    by_site =
        subst (λ (m : SiteMove). SayFitting (mail older) b m.turn.sends)
        (sym (ap (site_after decl b) at.is
        ∙ fold-append (site_does decl) (sites.moved (new_site b) quiet) at.before (Takes at.given ∷ [])))
        (by_input at.given refl)

    by_client : SayFitting (mail older) b (client_after decl (b - decl.sites) (deeds b [] older)).turn.sends
    by_client =
        every-weaker (λ (p : Posting). IsClientWord p.message) (λ (p : Posting). IfAnswered (mail older) b p.message)
        (λ p. word_fits (mail older) b p.message) (client_after decl (b - decl.sites) (deeds b [] older)).turn.sends
        (subst (λ (m : ClientMove). AreClientWords m.turn.sends)
        (sym (ap (client_after decl (b - decl.sites)) at.is
        ∙ fold-append (client_does decl) (moved (new_client (b - decl.sites)) quiet) at.before
        (Takes at.given ∷ [])))
        (client_words decl (client_after decl (b - decl.sites) at.before).client at.given hears_first))

    says : SayFitting (mail older) b turn.sends
    says =
        lawful_turn (λ (t : Turn). SayFitting (mail older) b t.sends) decl b (deeds b [] older) turn lawful
        (λ is. by_site) (λ is named. by_client)

  pub run_answered : (h : List Entry) (open_inputs : List Bool) → Runs (IsLawful decl) decl script h open_inputs
      → AnswersFit (mail h)
  run_answered h open_inputs begins = tt
  run_answered h open_inputs (takes a taken before older run free ready) =
      subst AnswersFit (sym (mail-taken older a taken)) (run_answered older before run)
  run_answered h open_inputs (posts a turn before older run taken lawful) =
      let numbered : AreNumbered 0 (mail older) = run_numbered (IsLawful decl) decl script older before run in
      let new : List Envelope = envelopes a (length (mail older)) turn.sends in
      subst AnswersFit
      (sym (mail-append older (by a (posted (length (mail older)) turn))
      ∙ ap (λ (v : List Envelope). mail older ++ v) (mail-posted a (length (mail older)) turn)))
      (every-append (λ (e : Envelope). IfAnswered (mail older ++ envelopes a (length (mail older)) turn.sends) e.from
      e.message) (mail older) (envelopes a (length (mail older)) turn.sends)
      (all_later (mail older) (envelopes a (length (mail older)) turn.sends) numbered (mail older)
      (run_answered older before run))
      (all_later (mail older) (envelopes a (length (mail older)) turn.sends) numbered
      (envelopes a (length (mail older)) turn.sends)
      (fitting_envelopes (mail older) a (length (mail older)) turn.sends (says older before run a turn taken lawful))))
  run_answered h open_inputs (phase before older run none done rests more) =
      subst AnswersFit
      (sym (mail-silent older (controller decl) (steps.Phase (phase_of older + 1))
      (phase_silent (phase_of older + 1)))) (run_answered older before run)
  run_answered h open_inputs (control line lines step before older run left is) =
      subst AnswersFit (sym (mail-silent older (controller decl) step (control_silent line step is)))
      (run_answered older before run)

pub answers_fit_their_requests : (decl : Declaration) (script : Script) → IsUndisturbed script
    → (h : List Entry) (open_inputs : List Bool) → Runs (IsLawful decl) decl script h open_inputs → AnswersFit (mail h)
answers_fit_their_requests decl script calm h open_inputs run = run_answered decl script calm h open_inputs run
