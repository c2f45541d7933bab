-- Nothing is due of the administrator at rest; his account has a command just while one runs.
use Rattle.std.proofs.Common.{[], ◌≡◌, ℕ, ◌==◌, ◌&&◌, Bool, true, false, cond, List, ◌∷◌, length, fold, Option, Some}
use Rattle.std.proofs.Common.{None, refl, sym, ap, ◌∙◌}
use Rattle.std.specs.Prelude.{is_some, option_and_then}
use Rattle.std.specs.Option.{option_map_or}
use Rattle.qc_core.specs.Vocabulary.{MayTake, is_running, runs_at}
use Rattle.qc_decl.specs.declared.declaration.Declaration.{Declaration}
use Rattle.qc_msg.specs.declared.message.Message.{Message}
use Rattle.qc_msg.specs.declared.record.Record.{Record}
use Rattle.qc_msg.specs.declared.reply.Reply.TheVariants as replies
use Rattle.qc_msg.specs.declared.step.Command.{Command}
use Rattle.qc_msg.specs.declared.step.Input.{Input}
use Rattle.qc_msg.specs.declared.step.Input.TheVariants as inputs
use Rattle.qc_msg.specs.Vocabulary.{Answered, Deed, Falls, Rises, Sends, Takes, Tells, Writes}
use Rattle.qc_msg.specs.declared.payload.EpochStart.{EpochStart}
use Rattle.qc_msg.specs.Vocabulary.{answer_in, asking_in, closing_in, decide_in, epoch_in, installing_in}
use Rattle.qc_stamp.specs.declared.stamp.TxId.{TxId}
use Rattle.qc_promise.specs.Vocabulary.{AdminAccount, AdminWant, Ask, Close, Install, IsAdminFree, admin_account}
use Rattle.qc_promise.specs.Vocabulary.{admin_account_at, admin_counted, admin_due, admin_heard, admin_row, admin_sent}
use Rattle.qc_promise.specs.Vocabulary.{admin_written, all_answered, asks, calls_ask, calls_close, calls_install}
use Rattle.qc_promise.specs.Vocabulary.{close_row, closed_sites, closes, commanded, decide_due, decided_for}
use Rattle.qc_promise.specs.Vocabulary.{decided_met, decided_of, decided_row, decision_due, doubt_row, epoch_row}
use Rattle.qc_promise.specs.Vocabulary.{first_doubt, if_called_for, installs, moved_row, new_admin_account}
use Rattle.qc_promise.specs.Vocabulary.{promised_once, site_set}
use Rattle.qc_epoch.specs.Vocabulary.{Admin, Asking, Closing, Doing, Installing, Question, Resting, ShutSite}
use Rattle.qc_epoch.specs.Deciding as deciding
use Rattle.laws_due.proofs.AdminRequests.{all_taken}
use Rattle.laws_due.proofs.AdminDecisions.{answered_is}
use Rattle.laws_due.proofs.AdminInstalls.{installed_of}
use Rattle.laws_due.proofs.AdminStages.{IsAsking, Rests, Stage, Ties, WhyClosing, again_decided, again_row_is}
use Rattle.laws_due.proofs.AdminStages.{asked_about, next_decided, next_row}
use Rattle.laws_due.proofs.AdminStages as stages
use Rattle.laws_due.proofs.AdminAgreements.{agree}
use Rattle.laws_due.proofs.AdminQuestions.{asked_of, promised_distinct}

-- nothing is due at rest

module _ (decl : Declaration) (d : AdminAccount) (up : d.up ≡ true) where
  resting_row : Rests d → admin_due decl d false ≡ None
  resting_row rests = by d.command refl
    where
      by : (c : Option Command) → d.command ≡ c → option_and_then (admin_row decl d false) c ≡ None
      by None is = refl
      by (Some c) is =
          let none : epoch_in c ≡ None = sym (ap (option_and_then epoch_in) is) ∙ rests.commanded_none in
          ap (λ (b : Bool). cond b (option_and_then (epoch_row decl d false) (epoch_in c)) (Some replies.Down)) up
          ∙ ap (option_and_then (epoch_row decl d false)) none

  resting_decided : Rests d → d.written ≡ decide_due decl d
  resting_decided rests =
      rests.unwritten
      ∙ sym (ap (λ (b : Bool). cond b (option_and_then (decided_for decl d) (commanded d)) None) up
      ∙ ap (option_and_then (decided_for decl d)) rests.commanded_none)

  asking_row : {epoch : ℕ} {shuts : List ShutSite} {questions : List Question} → IsAsking decl d epoch shuts questions
      → all_answered d ≡ false
  asking_row s =
      sym (answered_is d (asks d) (asked_about d) (asked_of (promised_once d) (asks d))
      (agree (promised_once d) (asks d) (promised_distinct (closes d)) (s.met).about_promised))
      ∙ ap deciding.all_taken (sym s.questions_are) ∙ s.open_still

  moved_none : (sites : List ℕ) → all_taken (installs d) ≡ false → moved_row decl d sites ≡ None
  moved_none sites open_still =
      ap (λ (b : Bool). cond ((length (installs d) == decl.sites) && b)
      (Some (replies.Moved (site_set sites) (site_set (installed_of (installs d))))) None) open_still
      ∙ by (length (installs d) == decl.sites)
    where
      by : (b : Bool)
          → cond (b && false) (Some (replies.Moved (site_set sites) (site_set (installed_of (installs d))))) None ≡ None
      by true = refl
      by false = refl

  installing_row : (closed : List ℕ) → all_taken (installs d) ≡ false → WhyClosing decl d closed
      → admin_due decl d false ≡ None
  installing_row closed open_still (stages.decided w) =
      next_row decl d up w.epoch w.command w.next false
      ∙ ap (close_row decl d false) (w.settled).met
      ∙ ap (λ (b : Bool). cond b (doubt_row decl d false (first_doubt d)) None) (w.settled).answered
      ∙ ap (doubt_row decl d false) (w.settled).doubt
      ∙ ap (λ (b : Bool). cond b (decided_row decl d false) (Some replies.Fault)) (w.settled).fits
      ∙ ap (λ (o : Option EpochStart). cond (is_some o) (moved_row decl d (closed_sites d)) None) (w.settled).written
      ∙ moved_none (closed_sites d) open_still
  installing_row closed open_still (stages.again w) =
      again_row_is decl d up w.epoch w.command w.same w.known false ∙ moved_none [] open_still

  installing_decided : (closed : List ℕ) → WhyClosing decl d closed → d.written ≡ decide_due decl d
  installing_decided closed (stages.decided w) =
      (w.settled).written
      ∙ sym (next_decided decl d up w.epoch w.command w.next
      ∙ ap (decided_met d) (w.settled).met
      ∙ ap (λ (b : Bool). cond b (decided_of d (first_doubt d)) None) (w.settled).answered
      ∙ ap (decided_of d) (w.settled).doubt
      ∙ ap (λ (b : Bool). cond b (Some (decision_due d)) None) (w.settled).fits)
  installing_decided closed (stages.again w) = w.unwritten ∙ sym (again_decided decl d up w.epoch w.command w.same)

  stage_row : (n : ℕ) (x : Doing) → Stage decl n d x → admin_due decl d false ≡ None
  stage_row n Resting s = resting_row s
  stage_row n (Closing epoch calls round shuts) s =
      next_row decl d up epoch ((s.0).moves).command ((s.0).moves).next false ∙ ap (close_row decl d false) (s.0).waits
  stage_row n (Asking epoch shuts questions) s =
      next_row decl d up epoch (s.moves).command (s.moves).next false ∙ ap (close_row decl d false) (s.met).met
      ∙ ap (λ (b : Bool). cond b (doubt_row decl d false (first_doubt d)) None) (asking_row s)
  stage_row n (Installing closed awaited calls installed) s = installing_row closed s.open_still s.why

  stage_decided : (n : ℕ) (x : Doing) → Stage decl n d x → d.written ≡ decide_due decl d
  stage_decided n Resting s = resting_decided s
  stage_decided n (Closing epoch calls round shuts) s =
      ((s.0).moves).unwritten
      ∙ sym (next_decided decl d up epoch ((s.0).moves).command ((s.0).moves).next ∙ ap (decided_met d) (s.0).waits)
  stage_decided n (Asking epoch shuts questions) s =
      (s.moves).unwritten
      ∙ sym (next_decided decl d up epoch (s.moves).command (s.moves).next ∙ ap (decided_met d) (s.met).met
      ∙ ap (λ (b : Bool). cond b (decided_of d (first_doubt d)) None) (asking_row s))
  stage_decided n (Installing closed awaited calls installed) s = installing_decided closed s.why

pub ties_row : (decl : Declaration) (n : ℕ) (d : AdminAccount) (m : Admin) → Ties decl n d m
    → admin_due decl d false ≡ None
ties_row decl n d m ties = stage_row decl d (ties.base).up n m.doing ties.stage

pub ties_decided : (decl : Declaration) (n : ℕ) (d : AdminAccount) (m : Admin) → Ties decl n d m
    → d.written ≡ decide_due decl d
ties_decided decl n d m ties = stage_decided decl d (ties.base).up n m.doing ties.stage

-- his account has a command just while one runs

module _ (decl : Declaration) where
  pub heard_command : (d : AdminAccount) (message : Message) → (admin_heard d message).command ≡ d.command
  heard_command d message = by (answer_in message)
    where
      by : (o : Option Answered)
          → (option_map_or (λ (a : Answered). admin_counted d a.to (Some a.answer)) o d).command ≡ d.command
      by None = refl
      by (Some a) = refl

  pub written_command : (d : AdminAccount) (r : Record) → (admin_written d r).command ≡ d.command
  written_command d r = by (decide_in r)
    where
      by : (o : Option EpochStart)
          → (option_map_or (λ (i : EpochStart). record d { written = Some i }) o d).command ≡ d.command
      by None = refl
      by (Some i) = refl

  called_command : (b : Bool) (d : AdminAccount) (number to : ℕ) (want : AdminWant)
      → (if_called_for b d number to want).command ≡ d.command
  called_command true d number to want = refl
  called_command false d number to want = refl

  pub sent_command : (d : AdminAccount) (number to : ℕ) (message : Message)
      → (admin_sent decl d number to message).command ≡ d.command
  sent_command d number to message = by (closing_in message) (asking_in message) (installing_in message)
    where
      by : (c : Option ℕ) (a : Option TxId) (i : Option EpochStart)
          → (option_map_or (λ (k : ℕ). if_called_for (calls_close decl d to k) d number to Close)
          c
          (option_map_or (λ (tx : TxId). if_called_for (calls_ask decl d to tx) d number to (Ask tx)) a
          (option_map_or (λ (x : EpochStart). if_called_for (calls_install d to x) d number to Install) i d))).command
          ≡ d.command
      by (Some k) a i = called_command (calls_close decl d to k) d number to Close
      by None (Some tx) i = called_command (calls_ask decl d to tx) d number to (Ask tx)
      by None None (Some x) = called_command (calls_install d to x) d number to Install
      by None None None = refl

  pub runs_step : (d : AdminAccount) (b : Bool) (x : Deed) → b ≡ is_some d.command
      → runs_at b x ≡ is_some (admin_account_at decl d x).command
  runs_step d b (Takes (inputs.Called command)) is = refl
  runs_step d b (Takes (inputs.Got envelope)) is =
      is ∙ ap (λ (c : Option Command). is_some c) (sym (heard_command d envelope.message))
  runs_step d b (Takes (inputs.Lost number)) is = is
  runs_step d b (Writes r) is = is ∙ ap (λ (c : Option Command). is_some c) (sym (written_command d r))
  runs_step d b (Sends number to message) is =
      is ∙ ap (λ (c : Option Command). is_some c) (sym (sent_command d number to message))
  runs_step d b (Tells reply) is = refl
  runs_step d b (Falls cause pending) is = refl
  runs_step d b (Rises kept) is = refl

  runs_all : (ds : List Deed) (d : AdminAccount) (b : Bool) → b ≡ is_some d.command
      → fold runs_at b ds ≡ is_some (fold (admin_account_at decl) d ds).command
  runs_all [] d b is = is
  runs_all (x ∷ ds) d b is = runs_all ds (admin_account_at decl d x) (runs_at b x) (runs_step d b x is)

  pub running_is : (ds : List Deed) → is_running ds ≡ is_some (admin_account decl ds).command
  running_is ds = runs_all ds new_admin_account false refl

  free_command : (o : Option Command) → is_some o ≡ false → o ≡ None
  free_command None is = refl
  free_command (Some c) is = absurd (let never : ⊥ = cc in never)

  pub free_for : (ds : List Deed) (g : Input) → MayTake ds g → IsAdminFree (admin_account decl ds) g
  free_for ds (inputs.Called command) may = free_command (admin_account decl ds).command (sym (running_is ds) ∙ may)
  free_for ds (inputs.Got envelope) may = tt
  free_for ds (inputs.Lost number) may = tt
