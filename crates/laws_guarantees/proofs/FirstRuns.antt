-- In each run no message names another life or epoch than the first.
use Rattle.std.proofs.Common.{◌≡◌, ℕ, ◌+◌, ◌-◌, Bool, true, false, List, [], ◌∷◌, ◌++◌, length, Some, slice_get, refl}
use Rattle.std.proofs.Common.{sym, ap, ◌∙◌, subst}
use Rattle.std.specs.Prelude.{slice_set}
use Rattle.std.specs.List.{AllByRecursion as Every}
use Rattle.std.proofs.lemmas.List.Sums.{fold-append}
use Rattle.qc_list.specs.Vocabulary.{In}
use Rattle.qc_list.proofs.Members.{In-last, every-In, every-append, every-from_In, every-front, every-back}
use Rattle.qc_core.specs.Vocabulary.{IsLawful}
use Rattle.qc_decl.specs.Vocabulary.{controller, is_client, is_site}
use Rattle.qc_decl.specs.declared.declaration.Declaration.{Declaration}
use Rattle.qc_msg.specs.declared.message.Envelope.{Envelope}
use Rattle.qc_msg.specs.declared.message.Message.{Message}
use Rattle.qc_msg.specs.declared.message.Message.TheVariants as messages
use Rattle.qc_msg.specs.declared.step.Input.{Input}
use Rattle.qc_msg.specs.declared.step.Input.TheVariants as inputs
use Rattle.qc_msg.specs.declared.step.Step.TheVariants as steps
use Rattle.qc_msg.specs.declared.turn.Posting.{Posting}
use Rattle.qc_msg.specs.declared.turn.Turn.{Turn}
use Rattle.qc_msg.specs.Vocabulary.{Deed, Entry, Falls, Rises, Sends, Takes, Tells, Writes, by, deeds, envelopes, mail}
use Rattle.qc_msg.specs.Vocabulary.{posted, quiet, sends_of, tells_of, turn_deeds, writes_of}
use Rattle.qc_msg.proofs.GrownMail.{mail-append, mail-posted, mail-taken}
use Rattle.qc_msg.proofs.Growth.{deeds-posted}
use Rattle.qc_script.specs.Vocabulary.{Runs, phase_of}
use Rattle.qc_script.specs.Runs.{begins, takes, posts, phase, control}
use Rattle.qc_script.specs.declared.script.Script.{Script}
use Rattle.qc_site.specs.Vocabulary.{SiteMove, new_site, site_after, site_does}
use Rattle.qc_site.specs.Site as sites
use Rattle.laws_atomic.proofs.FirstSites.{TakesCalm, after_at_first}
use Rattle.qc_client.specs.Vocabulary.{ClientMove, client_after, client_does, moved, new_client}
use Rattle.laws_turns.specs.Vocabulary.{ActsIn}
use Rattle.laws_turns.proofs.Acted.{actors_take_and_post_by_turns}
use Rattle.laws_turns.proofs.Numbered.{control_silent, mail-silent, phase_silent}
use Rattle.laws_due.proofs.Courses.{deeds_of_clients_are_by_rows}
use Rattle.laws_due.specs.Vocabulary.{AreByRows}
use Rattle.qc_promise.specs.Vocabulary.{new_account}
use Rattle.laws_turns.proofs.Bounding.{lawful_turn, turn-posts}
use Rattle.laws_turns.proofs.ClientsWithin.{IsPost}
use Rattle.laws_guarantees.specs.Vocabulary.{AreFirst, IsFirst}
use Rattle.laws_guarantees.proofs.ClientWords.{AreClientWords, IsClientWord, client_words}
use Rattle.laws_guarantees.proofs.FirstDeeds.{FirstGiven}
use Rattle.laws_guarantees.proofs.FirstAccounts.{RequestIsFirst, SendsFirst, TakesFirst, deeds_first, new_first}
use Rattle.laws_guarantees.proofs.FirstSites.{deeds_calm, site_first}
use Rattle.laws_guarantees.proofs.Opened.{IsAtTake, opened}
use Rattle.laws_atomic.proofs.Heard.{took_sent}
use Rattle.qc_list.proofs.Places.{slice_get-set_same}

abbrev SayFirst : List Posting → Type 0
SayFirst ps = Every (λ (p : Posting). IsFirst p.message) ps

first_envelopes : (a n : ℕ) (ps : List Posting) → SayFirst ps → AreFirst (envelopes a n ps)
first_envelopes a n [] all = tt
first_envelopes a n (p ∷ ps) all = (all.0, first_envelopes a (n + 1) ps all.1)

-- what an actor took is of the mail

pub given_first : (h : List Entry) (a : ℕ) (g : Input) → AreFirst (mail h) → In (Takes g) (deeds a [] h) → FirstGiven g
given_first h a (inputs.Called command) all among = tt
given_first h a (inputs.Got e) all among =
    every-In (λ (e : Envelope). IsFirst e.message) e (mail h) all (took_sent a [] h e among)
given_first h a (inputs.Lost number) all among = tt

deed_first : (h : List Entry) (a : ℕ) (d : Deed) → AreFirst (mail h) → In d (deeds a [] h) → TakesFirst d
deed_first h a (Takes g) all among = given_first h a g all among
deed_first h a (Writes written) all among = tt
deed_first h a (Sends number to message) all among = tt
deed_first h a (Tells reply) all among = tt
deed_first h a (Falls cause pending) all among = tt
deed_first h a (Rises records) all among = tt

pub takes_first : (h : List Entry) (a : ℕ) → AreFirst (mail h) → Every TakesFirst (deeds a [] h)
takes_first h a all = every-from_In TakesFirst (deeds a [] h) (λ d among. deed_first h a d all among)

post_first : (ds : List Deed) → Every IsPost ds → Every TakesFirst ds
post_first [] all = tt
post_first (Takes g ∷ ds) all = absurd all.0
post_first (Writes written ∷ ds) all = (tt, post_first ds all.1)
post_first (Sends number to message ∷ ds) all = (tt, post_first ds all.1)
post_first (Tells reply ∷ ds) all = (tt, post_first ds all.1)
post_first (Falls cause pending ∷ ds) all = (tt, post_first ds all.1)
post_first (Rises records ∷ ds) all = (tt, post_first ds all.1)

-- what a turn says

said_first : (m : Message) → RequestIsFirst m → IsClientWord m → IsFirst m
said_first (messages.Request tx epoch life want) first word = first
said_first (messages.Answer to answer) first never = absurd never
said_first (messages.Decision tx verdict) first word = tt
said_first (messages.Inquiry tx) first never = absurd never
said_first (messages.Ask tx) first never = absurd never
said_first (messages.Close epoch) first never = absurd never
said_first (messages.Install start) first never = absurd never

all_said : (n : ℕ) (ps : List Posting) (more : List Deed) → Every SendsFirst (sends_of n ps ++ more) → AreClientWords ps
    → SayFirst ps
all_said n [] more first words = tt
all_said n (p ∷ ps) more first words = (said_first p.message first.0 words.0, all_said (n + 1) ps more first.1 words.1)

turn_said : (n : ℕ) (turn : Turn) → Every SendsFirst (turn_deeds n turn) → AreClientWords turn.sends
    → SayFirst turn.sends
turn_said n turn first words = all_said n turn.sends (tells_of turn.told)
    (every-back SendsFirst (writes_of turn.write) (sends_of n turn.sends ++ tells_of turn.told) first) words

module _ (decl : Declaration) (script : Script) where
  module _ (older : List Entry) (before : List Bool) (run : Runs (IsLawful decl) decl script older before)
      (all : AreFirst (mail older)) (b : ℕ) (turn : Turn) (taken : slice_get before b ≡ Some true)
      (lawful : IsLawful decl b (deeds b [] older) turn) where
    at : IsAtTake decl b (deeds b [] older)
    at = opened decl script older before run b taken

    hears_first : FirstGiven at.given
    hears_first = given_first older b at.given all
        (subst (In (Takes at.given)) (sym at.is) (In-last (Takes at.given) at.before))

    before_calm : Every TakesCalm at.before
    before_calm = deeds_calm at.before (every-front TakesFirst at.before (Takes at.given ∷ [])
        (subst (Every TakesFirst) at.is (takes_first older b all)))

    next : Runs (IsLawful decl) decl script (older ++ by b (posted (length (mail older)) turn))
        (slice_set before b false)
    next = posts b turn before older run taken lawful

    by_site : is_site decl b ≡ true → SayFirst (site_after decl b (deeds b [] older)).turn.sends
    by_site is =
        subst (λ (m : SiteMove). SayFirst m.turn.sends)
        (sym (ap (site_after decl b) at.is ∙ fold-append (site_does decl) (sites.moved (new_site b) quiet) at.before
        (Takes at.given ∷ [])))
        (site_first decl b (site_after decl b at.before).site at.given
        (after_at_first decl b at.before before_calm) hears_first)

    words : AreClientWords (client_after decl (b - decl.sites) (deeds b [] older)).turn.sends
    words =
        subst (λ (m : ClientMove). AreClientWords m.turn.sends)
        (sym (ap (client_after decl (b - decl.sites)) at.is
        ∙ fold-append (client_does decl) (moved (new_client (b - decl.sites)) quiet) at.before
        (Takes at.given ∷ [])))
        (client_words decl (client_after decl (b - decl.sites) at.before).client at.given hears_first)

    by_client : is_client decl b ≡ true → turn ≡ (client_after decl (b - decl.sites) (deeds b [] older)).turn
        → SayFirst turn.sends
    by_client named its =
        let acts : ActsIn decl b (older ++ by b (posted (length (mail older)) turn)) false =
        actors_take_and_post_by_turns decl script (older ++ by b (posted (length (mail older)) turn))
        (slice_set before b false) next b false (slice_get-set_same before b false true taken) in
        let grown : deeds b [] (older ++ by b (posted (length (mail older)) turn)) ≡ deeds b [] older ++ turn_deeds
        (length (mail older)) turn = deeds-posted b (length (mail older)) older turn in
        let takes : Every TakesFirst (deeds b [] older ++ turn_deeds (length (mail older)) turn) =
        every-append TakesFirst (deeds b [] older) (turn_deeds (length (mail older)) turn) (takes_first older b all)
        (post_first (turn_deeds (length (mail older)) turn) (turn-posts (length (mail older)) turn)) in
        let sends : Every SendsFirst (deeds b [] older ++ turn_deeds (length (mail older)) turn) =
        deeds_first decl (new_account (b - decl.sites)) (deeds b [] older ++ turn_deeds (length (mail older)) turn)
        (new_first (b - decl.sites))
        (subst (λ (ds : List Deed). AreByRows decl (new_account (b - decl.sites)) ds) grown
        (deeds_of_clients_are_by_rows decl b named (deeds b [] (older ++ by b (posted (length (mail older)) turn)))
        false acts.above
        acts.acts)) takes in
        turn_said (length (mail older)) turn (every-back SendsFirst (deeds b [] older)
        (turn_deeds (length (mail older)) turn) sends)
        (subst (λ (t : Turn). AreClientWords t.sends) (sym its) words)

    says : SayFirst turn.sends
    says = lawful_turn (λ (t : Turn). turn ≡ t → SayFirst turn.sends) decl b (deeds b [] older) turn lawful
        (λ is its. subst (λ (t : Turn). SayFirst t.sends) (sym its) (by_site is))
        (λ is named its. by_client named its) refl

  pub lives_and_epochs_are_the_first : (h : List Entry) (open_inputs : List Bool)
      → Runs (IsLawful decl) decl script h open_inputs
      → AreFirst (mail h)
  lives_and_epochs_are_the_first h open_inputs begins = tt
  lives_and_epochs_are_the_first h open_inputs (takes a taken before older run free ready) =
      subst AreFirst (sym (mail-taken older a taken)) (lives_and_epochs_are_the_first older before run)
  lives_and_epochs_are_the_first h open_inputs (posts a turn before older run taken lawful) =
      subst AreFirst (sym (mail-append older (by a (posted (length (mail older)) turn))
      ∙ ap (λ (v : List Envelope). mail older ++ v) (mail-posted a (length (mail older)) turn)))
      (every-append (λ (e : Envelope). IsFirst e.message) (mail older) (envelopes a (length (mail older)) turn.sends)
      (lives_and_epochs_are_the_first older before run)
      (first_envelopes a (length (mail older)) turn.sends
      (says older before run (lives_and_epochs_are_the_first older before run) a turn taken lawful)))
  lives_and_epochs_are_the_first h open_inputs (phase before older run none done calm more) =
      subst AreFirst (sym (mail-silent older (controller decl) (steps.Phase (phase_of older + 1))
      (phase_silent (phase_of older + 1)))) (lives_and_epochs_are_the_first older before run)
  lives_and_epochs_are_the_first h open_inputs (control line lines step before older run left is) =
      subst AreFirst (sym (mail-silent older (controller decl) step (control_silent line step is)))
      (lives_and_epochs_are_the_first older before run)
