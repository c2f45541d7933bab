-- What the administrator becomes, sends and writes has its property where what he takes has, for each property that a
-- decision keeps; the numbers of his messages change nothing of it, and he has it as he rises.
use Rattle.std.specs.Prelude.{MatchOption}
use Rattle.std.proofs.Common.{◌≡◌, ◌&&◌, refl, ℕ, ◌+◌, ◌==◌, nat_le, Bool, true, false, cond, is_none, List, [], ◌∷◌}
use Rattle.std.proofs.Common.{fold, map, length, take, Option, Some, None}
use Rattle.std.specs.List.{AllByRecursion as Every}
use Rattle.std.proofs.lemmas.Bool.{leb-true}
use Rattle.qc_decl.specs.Vocabulary.{most_record_bytes}
use Rattle.qc_decl.specs.declared.declaration.Declaration.{Declaration}
use Rattle.qc_epoch.specs.Vocabulary.{Admin, AdminMove, Asking, Closing, Doing, Installing, Question, Resting, ShutSite}
use Rattle.qc_epoch.specs.Vocabulary.{all_taken, decision, first_doubt, in_asked_order, is_number, most_asks, moved}
use Rattle.qc_epoch.specs.Vocabulary.{outcome_in, questions_of, standing_of, taken_for, with_installed, with_shut_of}
use Rattle.qc_epoch.specs.Conduct as admins
use Rattle.qc_msg.specs.Vocabulary.{epoch_length, quiet, sending, site_called, without_call}
use Rattle.qc_msg.specs.declared.call.Call.{Call}
use Rattle.qc_msg.specs.declared.message.Answer.{Answer}
use Rattle.qc_msg.specs.declared.message.Message.{Message}
use Rattle.qc_msg.specs.declared.reply.Half.TheVariants as halves
use Rattle.qc_msg.specs.declared.reply.Reply.{Reply}
use Rattle.qc_msg.specs.declared.reply.Reply.TheVariants as replies
use Rattle.qc_msg.specs.declared.step.Command.{Command}
use Rattle.qc_msg.specs.declared.step.Input.{Input}
use Rattle.qc_msg.specs.declared.step.Input.TheVariants as inputs
use Rattle.qc_msg.specs.declared.turn.Posting.{Posting}
use Rattle.qc_plan.specs.Vocabulary.{RoundState, asking_all, note, verdict, wanted}
use Rattle.qc_plan.specs.declared.standing.Verdict.{Verdict as Verdict_of_round}
use Rattle.qc_plan.specs.declared.standing.Verdict.TheVariants as verdicts
use Rattle.qc_admin.specs.Vocabulary.{is_unasked}
use Rattle.qc_admin.proofs.Numbered.{all_unasked}
use Rattle.qc_list.specs.Vocabulary.{In}
use Rattle.qc_msg.specs.declared.record.Record.{Record}
use Rattle.qc_recover.specs.Admins as rulings
use Rattle.qc_msg.specs.Vocabulary.{Answered, answer_in}
use Rattle.qc_msg.specs.declared.payload.EpochStart.{EpochStart}
use Rattle.qc_msg.specs.Vocabulary.{decide_in, epoch_in, request_in, wants_answer}
use Rattle.laws_bounds.proofs.Options.{map_or}
use Rattle.laws_bounds.proofs.AdminProperties.{Keeping, Properties, StartKeeps, DecidedKeeps, ShutsKeep, ToldKeeps}
use Rattle.laws_bounds.proofs.AdminProperties.{QuestionsKeep, DoingKeeps, AdminKeeps, SendsKeep, AdminMoveKeeps}
use Rattle.laws_bounds.proofs.AdminProperties.{CameKeeps, CommandKeeps, MessageKeeps, GivenKeeps}
use Rattle.laws_bounds.proofs.AdminQuestions.{AreLined, asks_lined, first_unnumbered, none_lined, questions_in}
use Rattle.laws_bounds.proofs.AdminWalks.{ArePromised, all_taken_keep, asked_order, asks_keep, closes_keep}
use Rattle.laws_bounds.proofs.AdminWalks.{decided_keeps, installs_keep, questions_added, questions_promised, shut_added}

module _ (K : Properties) where
  -- his turns

  module _ (keeping : Keeping K.Clock K.Lines K.Promise K.Verdict) (decl : Declaration) (m : Admin)
      (w : AdminKeeps K m) where
    abbrev Goes : AdminMove → Type 0
    Goes move = AdminMoveKeeps K move

    silent : Goes (moved m quiet)
    silent = record { admin = w; sends = tt; lined = none_lined (questions_in m.doing); write = tt }

    replied : (reply : Reply) → Goes (admins.replies_with m reply)
    replied reply = record { admin = record { decided = w.decided; doing = tt }; sends = tt; lined = tt; write = tt }

    -- something runs
    runs : (d : Doing) (ps : List Posting) → DoingKeeps K d → SendsKeep K ps → AreLined (questions_in d) ps
        → Goes (moved (admins.doing m d) (sending ps))
    runs d ps here all lined =
        record { admin = record { decided = w.decided; doing = here }; sends = all; lined = lined; write = tt }

    waits : (d : Doing) → DoingKeeps K d → Goes (moved (admins.doing m d) quiet)
    waits d here = record {
      admin = record { decided = w.decided; doing = here };
      sends = tt;
      lined = none_lined (questions_in d);
      write = tt;
    }

    decides_goes : (d : EpochStart) (closed : List ℕ) → DecidedKeeps K (Some d) → Goes (admins.decides decl m d closed)
    decides_goes d closed here = by (nat_le (epoch_length d.lines) most_record_bytes) refl
      where
        by : (b : Bool) → nat_le (epoch_length d.lines) most_record_bytes ≡ b
            → Goes (cond b
            (moved (record { epoch = d.epoch; decided = Some d; doing = admins.installing decl closed })
            (admins.decide_turn decl d)) (admins.replies_with m replies.Fault))
        by true fits = record {
          admin = record { decided = here; doing = tt };
          sends = installs_keep K d (admins.all_sites decl) here;
          lined = tt;
          write = (here, leb-true (epoch_length d.lines) most_record_bytes fits);
        }
        by false fits = replied replies.Fault

    settles_goes : (epoch : ℕ) (shuts : List ShutSite) (qs : List Question) → K.Epoch epoch → ShutsKeep K shuts
        → QuestionsKeep K qs
        → Goes (admins.settles decl m epoch shuts qs)
    settles_goes epoch shuts qs is told all = by (first_doubt qs)
      where
        by : (o : Option Question) → Goes (admins.settles_by decl m epoch shuts qs o)
        by (Some q) = replied (replies.InDoubt q.tx q.site)
        by None =
            decides_goes (decision epoch shuts qs) (map (λ (s : ShutSite). s.site) shuts)
            (decided_keeps K keeping epoch shuts qs is told all)

    asks_goes : (epoch : ℕ) (shuts : List ShutSite) (qs : List Question) → K.Epoch epoch → ShutsKeep K shuts
        → QuestionsKeep K qs
        → ArePromised K qs → is_unasked qs ≡ true → Goes (admins.asks decl m epoch shuts qs)
    asks_goes epoch shuts qs is told all promised fresh = by (length qs == 0)
      where
        by : (b : Bool) → Goes (cond b (admins.settles decl m epoch shuts qs)
            (moved (admins.doing m (Asking epoch shuts qs)) (sending (map (admins.ask_of decl) (take most_asks qs)))))
        by true = settles_goes epoch shuts qs is told all
        by false =
            runs (Asking epoch shuts qs) (map (admins.ask_of decl) (take most_asks qs)) (is, told, all)
            (asks_keep K decl most_asks qs promised) (asks_lined decl most_asks qs fresh)

    closes_goes : (epoch : ℕ) (calls : List Call) (round : RoundState) (shuts : List ShutSite) → K.Epoch epoch
        → ShutsKeep K shuts
        → Goes (admins.closes decl m epoch calls round shuts)
    closes_goes epoch calls round shuts is told = by (verdict round)
      where
        by : (v : Verdict_of_round) → Goes (admins.closes_by decl m epoch calls round shuts v)
        by verdicts.Waiting =
            runs (Closing epoch calls (asking_all round (wanted round)) shuts)
            (map (admins.close_of epoch) (wanted round))
            (is, told) (closes_keep K epoch (wanted round) is) tt
        by verdicts.Met =
            let first : ShutsKeep K (in_asked_order round.asked shuts) = asked_order K round.asked shuts told in
            asks_goes epoch (in_asked_order round.asked shuts)
            (questions_of (in_asked_order round.asked shuts)) is first
            (questions_added K [] (in_asked_order round.asked shuts) tt)
            (questions_promised K [] (in_asked_order round.asked shuts) first tt)
            (all_unasked [] (in_asked_order round.asked shuts) refl)
        by (verdicts.Closed e site) = silent
        by (verdicts.Clash tx site) = silent
        by (verdicts.Short got need) = replied (replies.Quorum halves.Close got need)

    again_goes : (o : Option EpochStart) → DecidedKeeps K o → Goes (admins.again decl m o)
    again_goes None here = replied (replies.Order m.epoch)
    again_goes (Some d) here =
        runs (admins.installing decl []) (admins.install_sends decl d) tt
        (installs_keep K d (admins.all_sites decl) here) tt

    moves_goes : (number : ℕ) → K.Epoch number → Goes (admins.moves_to decl m number)
    moves_goes number is = by (number == m.epoch) (number == m.epoch + 1)
      where
        by : (x y : Bool) → Goes (cond x (admins.again decl m m.decided)
            (cond y (admins.closes decl m number [] (admins.close_round decl m.epoch) [])
            (admins.replies_with m (replies.Order m.epoch))))
        by true y = again_goes m.decided w.decided
        by false true = closes_goes number [] (admins.close_round decl m.epoch) [] is tt
        by false false = replied (replies.Order m.epoch)

    called_goes : (command : Command) → CommandKeeps K command → Goes (admins.called decl m command)
    called_goes command here =
        map_or Goes K.Epoch (admins.moves_to decl m) (moved m quiet) (epoch_in command) here silent moves_goes

    asking_goes : (epoch : ℕ) (shuts : List ShutSite) (qs : List Question) → K.Epoch epoch → ShutsKeep K shuts
        → QuestionsKeep K qs
        → Goes (admins.asking_takes decl m epoch shuts qs)
    asking_goes epoch shuts qs is told all = by (all_taken qs)
      where
        by : (b : Bool) → Goes (cond b (admins.settles decl m epoch shuts qs)
            (moved (admins.doing m (Asking epoch shuts qs)) quiet))
        by true = settles_goes epoch shuts qs is told all
        by false = waits (Asking epoch shuts qs) (is, told, all)

    installed_goes : (closed awaits : List ℕ) (calls : List Call) (installed : List ℕ)
        → Goes (admins.installed_by m closed awaits calls installed)
    installed_goes closed awaits calls installed = by (length calls == 0)
      where
        by : (b : Bool) → Goes (cond b (admins.replies_with m
            (replies.Moved (admins.site_set closed) (admins.site_set installed)))
            (moved (admins.doing m (Installing closed awaits calls installed)) quiet))
        by true = replied (replies.Moved (admins.site_set closed) (admins.site_set installed))
        by false = waits (Installing closed awaits calls installed) tt

    answered_goes : (number : ℕ) (answer : Option Answer) → CameKeeps K m number answer
        → Goes (admins.answered decl m number answer)
    answered_goes number answer here = by m.doing w.doing here.told
      where
        closing : (epoch : ℕ) (calls : List Call) (round : RoundState) (shuts : List ShutSite) (o : Option ℕ)
            → K.Epoch epoch → ShutsKeep K shuts
            → Goes (admins.closing_takes decl m epoch calls round shuts number answer o)
        closing epoch calls round shuts None is told = silent
        closing epoch calls round shuts (Some site) is told =
            closes_goes epoch (without_call calls number) (note round site (standing_of answer))
            (with_shut_of shuts site answer) is
            (shut_added K shuts site answer here.shut told)

        installing : (closed awaits : List ℕ) (calls : List Call) (installed : List ℕ) (o : Option ℕ)
            → Goes (admins.installing_takes m closed awaits calls installed number answer o)
        installing closed awaits calls installed None = silent
        installing closed awaits calls installed (Some site) =
            installed_goes closed awaits (without_call calls number) (with_installed installed site answer)

        by : (d : Doing) → DoingKeeps K d
            → ((q : Question) → In q (questions_in d) → is_number number q.number ≡ true
            → ToldKeeps K q.tx (outcome_in answer))
            → Goes (admins.answered_in decl m d number answer)
        by Resting keeps came = silent
        by (Closing epoch calls round shuts) keeps came =
            closing epoch calls round shuts (site_called calls number) keeps.0 keeps.1
        by (Asking epoch shuts qs) keeps came =
            asking_goes epoch shuts (map (taken_for number (outcome_in answer)) qs) keeps.0 keeps.1
            (all_taken_keep K number (outcome_in answer) qs came keeps.2)
        by (Installing closed awaits calls installed) keeps came =
            installing closed awaits calls installed (site_called calls number)

    -- that a request is lost tells nothing
    lost : (number : ℕ) → CameKeeps K m number None
    lost number = record { shut = tt; told = λ q among is. tt }

    heard_goes : (message : Message) → MessageKeeps K m message → Goes (admins.heard decl m message)
    heard_goes message here =
        map_or Goes (λ (a : Answered). CameKeeps K m a.to (Some a.answer))
        (λ (a : Answered). admins.answered decl m a.to (Some a.answer)) (moved m quiet) (answer_in message) here
        silent (λ a came. answered_goes a.to (Some a.answer) came)

    -- one input
    pub admin_keeps : (g : Input) → GivenKeeps K m g → Goes (admins.admin_takes decl m g)
    admin_keeps (inputs.Called command) here = called_goes command here
    admin_keeps (inputs.Got e) here = heard_goes e.message here
    admin_keeps (inputs.Lost number) here = answered_goes number None (lost number)

  -- the numbers of his messages change nothing of it

  -- that number does for the question that gets it
  abbrev pub FirstKeeps : List Question → ℕ → Type 0
  FirstKeeps qs number = (u : Question) → first_unnumbered qs ≡ Some u → K.Number u.tx number

  numbered_keep : (qs : List Question) (number : ℕ) → FirstKeeps qs number → QuestionsKeep K qs
      → QuestionsKeep K (admins.numbered_first qs number)
  numbered_keep [] number here all = tt
  numbered_keep (q ∷ qs) number here all = by (is_none q.number) here (λ later. numbered_keep qs number later all.1)
    where
      by : (b : Bool) → ((u : Question) → cond b (Some q) (first_unnumbered qs) ≡ Some u → K.Number u.tx number)
          → (FirstKeeps qs number → QuestionsKeep K (admins.numbered_first qs number))
          → QuestionsKeep K (cond b (record q { number = Some number } ∷ qs) (q ∷ admins.numbered_first qs number))
      by true here rest = ((all.0.0, here q refl), all.1)
      by false here rest = (all.0, rest here)

  requested_keeps : (d : Doing) (number to : ℕ) → FirstKeeps (questions_in d) number → DoingKeeps K d
      → DoingKeeps K (admins.requested d number to)
  requested_keeps Resting number to first here = tt
  requested_keeps (Closing epoch calls round shuts) number to first here = here
  requested_keeps (Asking epoch shuts qs) number to first here = (here.0, here.1, numbered_keep qs number first here.2)
  requested_keeps (Installing closed awaits calls installed) number to first here = tt

  pub admin_sends_keep : (m : Admin) (number to : ℕ) (message : Message) → FirstKeeps (questions_in m.doing) number
      → AdminKeeps K m → AdminKeeps K (admins.sent_one m number to message)
  admin_sends_keep m number to message first w = by (wants_answer message && is_none (request_in message))
    where
      by : (b : Bool) → AdminKeeps K (cond b (admins.doing m (admins.requested m.doing number to)) m)
      by true = record { decided = w.decided; doing = requested_keeps m.doing number to first w.doing }
      by false = w

  -- as he rises he is what his last decision says

  abbrev pub RecordKeeps : Record → Type 0
  RecordKeeps r = MatchOption (decide_in r) (Unit {0}) (λ (i : EpochStart). StartKeeps K i.epoch i.clock i.lines)

  decision_keeps : (k : Option EpochStart) (r : Record) → RecordKeeps r → DecidedKeeps K k
      → DecidedKeeps K (rulings.keeps k r)
  decision_keeps k r here keeps =
      map_or (DecidedKeeps K) (λ (i : EpochStart). StartKeeps K i.epoch i.clock i.lines)
      (λ (i : EpochStart). Some i) k (decide_in r) here keeps
      (λ i is. is)

  decisions_keep : (k : Option EpochStart) (rs : List Record) → Every RecordKeeps rs → DecidedKeeps K k
      → DecidedKeeps K (fold rulings.keeps k rs)
  decisions_keep k [] all keeps = keeps
  decisions_keep k (r ∷ rs) all keeps = decisions_keep (rulings.keeps k r) rs all.1 (decision_keeps k r all.0 keeps)

  pub admin_risen_keeps : (rs : List Record) → Every RecordKeeps rs → AdminKeeps K (rulings.admin_of rs)
  admin_risen_keeps rs all = record { decided = decisions_keep None rs all tt; doing = tt }
