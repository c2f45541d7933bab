-- What his calls rely on holds of him whatever he takes.
use Rattle.std.proofs.Common.{◌≡◌, ℕ, ◌+◌, ◌^◌, ◌≤◌, ◌<◌, ◌==◌, Bool, true, false, cond, List, [], ◌∷◌, length, map}
use Rattle.std.proofs.Common.{take, Option, Some, None, refl, sym, subst, eqb-true, arith}
use Rattle.std.specs.Prelude.{nat_le}
use Rattle.qc_decl.specs.declared.declaration.Declaration.{Declaration}
use Rattle.qc_decl.specs.Vocabulary.{IsAccepted, most_record_bytes}
use Rattle.qc_msg.specs.declared.call.Call.{Call}
use Rattle.qc_msg.specs.declared.message.Answer.{Answer}
use Rattle.qc_msg.specs.declared.message.Answer.TheVariants as answers
use Rattle.qc_msg.specs.declared.message.Message.{Message}
use Rattle.qc_msg.specs.declared.message.Message.TheVariants as messages
use Rattle.qc_msg.specs.declared.step.Command.{Command}
use Rattle.qc_msg.specs.declared.step.Command.TheVariants as commands
use Rattle.qc_msg.specs.declared.step.Input.{Input}
use Rattle.qc_msg.specs.declared.step.Input.TheVariants as inputs
use Rattle.qc_msg.specs.declared.reply.Reply.TheVariants as replies
use Rattle.qc_msg.specs.Vocabulary.{calls_from, epoch_length, quiet, sending, site_called, without_call}
use Rattle.qc_plan.specs.declared.standing.Verdict.{Verdict}
use Rattle.qc_plan.specs.declared.standing.Verdict.TheVariants as verdicts
use Rattle.qc_plan.specs.Vocabulary.{RoundState, note, verdict}
use Rattle.qc_front.specs.Vocabulary.{sites_called}
use Rattle.qc_front.proofs.Awaited.{sites_stay}
use Rattle.qc_epoch.specs.Vocabulary.{Admin, Asking, Closing, Doing, Installing, Question, Resting, ShutSite}
use Rattle.qc_epoch.specs.Vocabulary.{admin_takes, again, all_sites, all_taken, answered_in, ask_of, asking_takes, asks}
use Rattle.qc_epoch.specs.Vocabulary.{called, close_round, closes, closes_by, closing_takes, decide_turn, decides}
use Rattle.qc_epoch.specs.Vocabulary.{decision, doing, first_doubt, heard, in_asked_order, installing, installing_takes}
use Rattle.qc_epoch.specs.Vocabulary.{most_asks, moved, moves_to, outcome_in, questions_of, replies_with, settles}
use Rattle.qc_epoch.specs.Vocabulary.{settles_by, site_set, standing_of, taken_for, with_installed, with_shut_of}
use Rattle.qc_msg.specs.declared.payload.EpochStart.{EpochStart}
use Rattle.qc_admin.specs.Vocabulary.{AdminFits, AnswerFits, AreSites, DoingFits, GivenFits, InstallsFit, MessageFits}
use Rattle.qc_admin.specs.Vocabulary.{ShutsFit, numbered, sent, sites_in}
use Rattle.qc_admin.proofs.Bits.{last_bit, taken_bit}
use Rattle.qc_admin.proofs.Moves.{last_fits, shut_last}
use Rattle.qc_admin.proofs.RoundBits.{closed_bits, note_fits, round_begins, row_sites}
use Rattle.qc_front.proofs.Numbering.{from_sites}

-- Installs begin

installs_begin : (decl : Declaration) (closed : List ℕ) → IsAccepted decl → site_set closed < 2 ^ 16
    → InstallsFit closed (all_sites decl) [] []
installs_begin decl closed accepted set = record {
  closed_set = set;
  sites_are = row_sites decl.sites accepted.sites;
  told = omega arith;
  none = λ e. refl;
}

decides_fit : (decl : Declaration) (m : Admin) (d : EpochStart) (closed : List ℕ) → IsAccepted decl
    → site_set closed < 2 ^ 16 → AdminFits (decides decl m d closed).admin
decides_fit decl m d closed accepted set = by (nat_le (epoch_length d.lines) most_record_bytes)
  where
    by : (t : Bool) → AdminFits (cond t (moved
        (record { epoch = d.epoch; decided = Some d; doing = installing decl closed }) (decide_turn decl d))
        (replies_with m replies.Fault)).admin
    by true = installs_begin decl closed accepted set
    by false = tt

settles_fit : (decl : Declaration) (m : Admin) (epoch : ℕ) (shuts : List ShutSite) (questions : List Question)
    → IsAccepted decl
    → site_set (map (λ (s : ShutSite). s.site) shuts) < 2 ^ 16 → AdminFits (settles decl m epoch shuts questions).admin
settles_fit decl m epoch shuts questions accepted set = by (first_doubt questions)
  where
    by : (o : Option Question) → AdminFits (settles_by decl m epoch shuts questions o).admin
    by (Some q) = tt
    by None = decides_fit decl m (decision epoch shuts questions) (map (λ (s : ShutSite). s.site) shuts) accepted set

asks_fit : (decl : Declaration) (m : Admin) (epoch : ℕ) (shuts : List ShutSite) (questions : List Question)
    → IsAccepted decl
    → site_set (map (λ (s : ShutSite). s.site) shuts) < 2 ^ 16 → AdminFits (asks decl m epoch shuts questions).admin
asks_fit decl m epoch shuts questions accepted set = by (length questions == 0)
  where
    by : (t : Bool) → AdminFits (cond t (settles decl m epoch shuts questions)
        (moved (doing m (Asking epoch shuts questions)) (sending (map (ask_of decl) (take most_asks questions))))).admin
    by true = settles_fit decl m epoch shuts questions accepted set
    by false = set

-- a round goes on, or ends
closes_fit : (decl : Declaration) (m : Admin) (epoch : ℕ) (calls : List Call) (round : RoundState)
    (shuts : List ShutSite) → IsAccepted decl → AdminFits m
    → AreSites (sites_in round) → ShutsFit shuts → AdminFits (closes decl m epoch calls round shuts).admin
closes_fit decl m epoch calls round shuts accepted was are fit = by (verdict round)
  where
    by : (v : Verdict) → AdminFits (closes_by decl m epoch calls round shuts v).admin
    by verdicts.Waiting = (subst AreSites (sym (sites_stay round)) are, fit)
    by verdicts.Met = asks_fit decl m epoch (in_asked_order round.asked shuts)
        (questions_of (in_asked_order round.asked shuts)) accepted (closed_bits round shuts are)
    by (verdicts.Closed e site) = was
    by (verdicts.Clash tx site) = was
    by (verdicts.Short got need) = tt

-- commands

again_fits : (decl : Declaration) (m : Admin) (o : Option EpochStart) → IsAccepted decl
    → AdminFits (again decl m o).admin
again_fits decl m None accepted = tt
again_fits decl m (Some d) accepted = installs_begin decl [] accepted (omega arith)

moves_fit : (decl : Declaration) (m : Admin) (number : ℕ) → IsAccepted decl → AdminFits m
    → AdminFits (moves_to decl m number).admin
moves_fit decl m number accepted was = by (number == m.epoch) (number == m.epoch + 1)
  where
    by : (same next : Bool) → AdminFits (cond same (again decl m m.decided)
        (cond next (closes decl m number [] (close_round decl m.epoch) [])
        (replies_with m (replies.Order m.epoch)))).admin
    by true next = again_fits decl m m.decided accepted
    by false true = closes_fit decl m number [] (close_round decl m.epoch) [] accepted was
        (round_begins decl m.epoch accepted) tt
    by false false = tt

called_fits : (decl : Declaration) (m : Admin) (command : Command) → IsAccepted decl → AdminFits m
    → AdminFits (called decl m command).admin
called_fits decl m commands.Begin accepted was = was
called_fits decl m (commands.Do object inv) accepted was = was
called_fits decl m commands.Commit accepted was = was
called_fits decl m commands.Abort accepted was = was
called_fits decl m (commands.Epoch number) accepted was = moves_fit decl m number accepted was

-- answers

installed_bits : (installed : List ℕ) (site : ℕ) (answer : Option Answer)
    → site_set (with_installed installed site answer) ≤ site_set installed + 2 ^ site
installed_bits installed site None = omega arith
installed_bits installed site (Some (answers.Granted grant)) = omega arith
installed_bits installed site (Some (answers.Clash holder inv event)) = omega arith
installed_bits installed site (Some (answers.Closed epoch)) = omega arith
installed_bits installed site (Some (answers.Behind epoch)) = omega arith
installed_bits installed site (Some (answers.Restarted life)) = omega arith
installed_bits installed site (Some answers.Stale) = omega arith
installed_bits installed site (Some answers.Fault) = omega arith
installed_bits installed site (Some (answers.Yes clock)) = omega arith
installed_bits installed site (Some (answers.Shut snapshot)) = omega arith
installed_bits installed site (Some answers.Installed) = let last = last_bit site installed in omega (arith, last)
installed_bits installed site (Some (answers.Answered verdict)) = omega arith

no_sites : (calls : List Call) → (length calls == 0) ≡ false → sites_called calls ≡ [] → ⊥
no_sites [] some none = let never : ⊥ = cc in never
no_sites (c ∷ cs) some none = let never : ⊥ = cc in never

installing_fits : (m : Admin) (closed awaits : List ℕ) (calls : List Call) (installed : List ℕ) (number : ℕ)
    (answer : Option Answer) → AdminFits m
    → InstallsFit closed awaits (sites_called calls) installed
    → AdminFits (installing_takes m closed awaits calls installed number answer (site_called calls number)).admin
installing_fits m closed awaits calls installed number answer was fit = by (site_called calls number) refl
  where
    by : (o : Option ℕ) → site_called calls number ≡ o
        → AdminFits (installing_takes m closed awaits calls installed number answer o).admin
    by None is = was
    by (Some site) is = left (length (without_call calls number) == 0) refl
      where
        left : (t : Bool) → (length (without_call calls number) == 0) ≡ t
            → AdminFits (cond t (replies_with m (replies.Moved (site_set closed)
            (site_set (with_installed installed site answer))))
            (moved (doing m (Installing closed awaits (without_call calls number)
            (with_installed installed site answer))) quiet)).admin
        left true none = tt
        left false some = record {
          closed_set = fit.closed_set;
          sites_are = fit.sites_are;
          told =
              let bit = taken_bit number site calls is in
              let more = installed_bits installed site answer in
              let room : site_set installed + site_set (sites_called calls) < 2 ^ 16 = fit.told in
              omega (arith, bit, more, room);
          none = λ e. absurd (no_sites (without_call calls number) some e);
        }

asking_fits : (decl : Declaration) (m : Admin) (epoch : ℕ) (shuts : List ShutSite) (questions : List Question)
    → IsAccepted decl
    → site_set (map (λ (s : ShutSite). s.site) shuts) < 2 ^ 16
    → AdminFits (asking_takes decl m epoch shuts questions).admin
asking_fits decl m epoch shuts questions accepted set = by (all_taken questions)
  where
    by : (t : Bool) → AdminFits (cond t (settles decl m epoch shuts questions)
        (moved (doing m (Asking epoch shuts questions)) quiet)).admin
    by true = settles_fit decl m epoch shuts questions accepted set
    by false = set

answered_fits : (decl : Declaration) (m : Admin) (runs : Doing) (number : ℕ) (answer : Option Answer) → IsAccepted decl
    → AdminFits m → DoingFits runs → AnswerFits answer
    → AdminFits (answered_in decl m runs number answer).admin
answered_fits decl m Resting number answer accepted was fits told = was
answered_fits decl m (Closing epoch calls round shuts) number answer accepted was fits told =
    by (site_called calls number)
  where
    by : (o : Option ℕ) → AdminFits (closing_takes decl m epoch calls round shuts number answer o).admin
    by None = was
    by (Some site) =
        closes_fit decl m epoch (without_call calls number) (note round site (standing_of answer))
        (with_shut_of shuts site answer) accepted was
        (note_fits round site (standing_of answer) fits.0)
        (subst ShutsFit (sym (shut_last shuts site answer)) (last_fits shuts site answer fits.1 told))
answered_fits decl m (Asking epoch shuts questions) number answer accepted was fits told =
    asking_fits decl m epoch shuts (map (taken_for number (outcome_in answer)) questions) accepted fits
answered_fits decl m (Installing closed awaits calls installed) number answer accepted was fits told =
    installing_fits m closed awaits calls installed number answer was fits

heard_fits : (decl : Declaration) (m : Admin) (message : Message) → IsAccepted decl → AdminFits m → MessageFits message
    → AdminFits (heard decl m message).admin
heard_fits decl m (messages.Request tx epoch life want) accepted was told = was
heard_fits decl m (messages.Answer to answer) accepted was told =
    answered_fits decl m m.doing to (Some answer) accepted was was told
heard_fits decl m (messages.Decision tx verdict) accepted was told = was
heard_fits decl m (messages.Inquiry tx) accepted was told = was
heard_fits decl m (messages.Ask tx) accepted was told = was
heard_fits decl m (messages.Close epoch) accepted was told = was
heard_fits decl m (messages.Install start) accepted was told = was

pub takes_fit : (decl : Declaration) (m : Admin) (input : Input) → IsAccepted decl → AdminFits m → GivenFits input
    → AdminFits (admin_takes decl m input).admin
takes_fit decl m (inputs.Called command) accepted was told = called_fits decl m command accepted was
takes_fit decl m (inputs.Got envelope) accepted was told = heard_fits decl m envelope.message accepted was told
takes_fit decl m (inputs.Lost number) accepted was told = answered_fits decl m m.doing number None accepted was was tt

-- numbers

numbered_fits : (runs : Doing) (first : ℕ) → DoingFits runs → DoingFits (numbered runs first)
numbered_fits Resting first fits = tt
numbered_fits (Closing epoch calls round shuts) first fits = fits
numbered_fits (Asking epoch shuts questions) first fits = fits
numbered_fits (Installing closed awaits [] installed) first fits =
    let nothing : installed ≡ [] = fits.none refl in
    subst (λ (sites : List ℕ). InstallsFit closed awaits sites installed) (sym (from_sites first awaits))
    (subst (InstallsFit closed awaits awaits) (sym nothing)
    (record {
      closed_set = fits.closed_set;
      sites_are = fits.sites_are;
      told = (let are : AreSites awaits = fits.sites_are in let set : site_set awaits < 2 ^ 16 = are.set in
          let none : ◌≡◌ {A = ℕ} (site_set []) 0 = refl in omega (arith, set, none));
      none = λ e. refl;
    }))
numbered_fits (Installing closed awaits (c ∷ cs) installed) first fits = by (length (c ∷ cs) == 0) refl
  where
    by : (t : Bool) → (length (c ∷ cs) == 0) ≡ t
        → InstallsFit closed awaits (sites_called (cond t (calls_from first awaits) (c ∷ cs))) installed
    by true is = absurd (let none : length (c ∷ cs) ≡ 0 = eqb-true (length (c ∷ cs)) 0 is in
        let never : ⊥ = omega arith in never)
    by false is = fits

pub sent_fits : (m : Admin) (first : ℕ) → AdminFits m → AdminFits (sent m first)
sent_fits m first fits = numbered_fits m.doing first fits
