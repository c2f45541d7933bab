-- A command of the administrator, where none runs; and any input of his.
use Rattle.std.proofs.Common.{◌≡◌, ◌≢◌, ◌≤◌, ℕ, ◌+◌, ◌==◌, Bool, true, false, cond, [], length, Option, Some, None}
use Rattle.std.proofs.Common.{option_map, refl, sym, ap, ◌∙◌, subst, arith, eq-eqb, eqb-true}
use Rattle.std.specs.Prelude.{is_some, option_and_then}
use Rattle.std.specs.List.{range_with_len}
use Rattle.std.specs.Option.{option_or, option_map_or}
use Rattle.std.proofs.lemmas.List.{length-map}
use Rattle.qc_decl.specs.declared.declaration.Declaration.{Declaration}
use Rattle.qc_plan.specs.Vocabulary.{RoundState}
use Rattle.qc_msg.specs.declared.message.Message.{Message}
use Rattle.qc_msg.specs.declared.reply.Reply.TheVariants as replies
use Rattle.qc_msg.specs.declared.step.Command.{Command}
use Rattle.qc_msg.specs.declared.step.Command.TheVariants as commands
use Rattle.qc_msg.specs.declared.step.Input.{Input}
use Rattle.qc_msg.specs.declared.step.Input.TheVariants as inputs
use Rattle.qc_msg.specs.Vocabulary.{epoch_in, quiet, Answered, answer_in}
use Rattle.qc_msg.specs.declared.payload.EpochStart.{EpochStart}
use Rattle.qc_promise.specs.Vocabulary.{AdminAccount, IsAdminFree, admin_heard, admin_taken, decided_epoch, decided_now}
use Rattle.qc_promise.specs.Vocabulary.{installs, site_set, admin_counted}
use Rattle.qc_epoch.specs.Vocabulary.{Admin, Asking, Closing, Doing, Installing, Resting, admin_takes, doing}
use Rattle.qc_epoch.specs.Vocabulary.{install_of, install_sends, installing, moved, replies_with}
use Rattle.qc_epoch.specs.Conduct as conduct
use Rattle.laws_due.proofs.AdminCloses.{fresh_is}
use Rattle.laws_due.proofs.AdminDecisions.{started}
use Rattle.laws_due.proofs.AdminStages.{Base, IsAsked, Numbered, Rests, Stage, Ties, WhyClosing, epoch_of}
use Rattle.laws_due.proofs.AdminStages.{order_decided, order_row}
use Rattle.laws_due.proofs.AdminStages as stages
use Rattle.laws_due.proofs.AdminGoes.{Goes, quiet_goes, sends_goes, stage_later, tells_goes}
use Rattle.laws_due.proofs.AdminClosing.{closes_goes}
use Rattle.laws_due.proofs.AdminDeciding.{length_range}
use Rattle.laws_due.proofs.AdminTurns.{answers_go}
use Rattle.laws_due.proofs.AdminInstallSends.{InstallsSent, installs_sent}
use Rattle.laws_turns.proofs.ClientCases.{command_cases}

-- the account once a command is called

abbrev pub called_now : AdminAccount → Command → AdminAccount
called_now d command = record d { command = Some command; requests = []; written = None }

module _ (decl : Declaration) (some : (decl.sites == 0) ≡ false) (first : ℕ) (d : AdminAccount) (m : Admin)
    (base : Base d m) (rests : Rests d) where
  before : decided_now d ≡ d.decided
  before = ap (λ (o : Option EpochStart). option_or o d.decided) rests.unwritten

  base_now : (command : Command) (x : Doing) → Base (called_now d command) (doing m x)
  base_now command x = record {
    up = base.up;
    decided = sym before ∙ base.decided;
    epoch = base.epoch ∙ ap epoch_of before;
  }

  base_called : (command : Command) → Base (called_now d command) m
  base_called command = let b : Base (called_now d command) (doing m m.doing) = base_now command m.doing in
      record { up = b.up; decided = b.decided; epoch = b.epoch }

  -- the decided epoch is installed again

  order_goes : (k : ℕ) → k ≢ decided_epoch d + 1 → (k ≡ decided_epoch d → is_some d.decided ≡ false)
      → Goes decl first (called_now d (commands.Epoch k)) (replies_with m (replies.Order m.epoch))
  order_goes k other unknown =
      tells_goes decl first (called_now d (commands.Epoch k)) m (replies.Order m.epoch) (base_called (commands.Epoch k))
      (order_row decl (called_now d (commands.Epoch k)) base.up k refl other unknown false
      ∙ ap (λ (n : ℕ). Some (replies.Order n)) (sym (base_called (commands.Epoch k)).epoch))
      (sym (order_decided decl (called_now d (commands.Epoch k)) base.up k refl other))

  again_goes : (k : ℕ) → k ≡ decided_epoch d → (o : Option EpochStart) → m.decided ≡ o
      → Goes decl first (called_now d (commands.Epoch k)) (conduct.again decl m o)
  again_goes k same None is =
      order_goes k (λ next. omega (arith, next, same))
      (λ again. ap (λ (v : Option EpochStart). is_some v)
      ((base_called (commands.Epoch k)).decided ∙ ap (option_map started) is))
  again_goes k same (Some dd) is =
      sends_goes decl first (called_now d (commands.Epoch k)) (doing m (installing decl []))
      (install_sends decl dd) sent.end sent.is sent.due
      (subst (λ (x : Admin). Ties decl (first + length (install_sends decl dd)) sent.end x)
      (sym (sent.admin m [] (range_with_len 0 decl.sites) [])) (record {
        base = record {
          up = (sent.frame).up ∙ base.up;
          decided = now ∙ sym known ∙ (base_called (commands.Epoch k)).decided;
          epoch = (base_called (commands.Epoch k)).epoch ∙ ap epoch_of (known ∙ sym now);
        };
        stage = record {
          why = stages.again (record {
            epoch = k;
            command = (sent.frame).command;
            same = same ∙ ap epoch_of (sym (sent.frame).decided);
            unwritten = (sent.frame).written;
            known = ap (λ (v : Option EpochStart). is_some v) ((sent.frame).decided ∙ known);
            closed_none = refl;
          });
          calls_are = refl;
          all = (let count : length (installs sent.end) ≡ 0 + decl.sites = sent.all in omega (arith, count));
          installed_are = ap site_set (sym sent.installed_same);
          numbers = subst (λ (n : ℕ). Numbered (first + n) (installs sent.end))
              (sym (length-map (range_with_len 0 decl.sites) (install_of dd) ∙ length_range 0 decl.sites)) sent.numbers;
          open_still = sent.open_still ∙ ap (λ (b : Bool). cond b true false) some;
        };
      }))
    where
      known : d.decided ≡ Some (started dd)
      known = (base_called (commands.Epoch k)).decided ∙ ap (option_map started) is

      of_epoch : k ≡ dd.epoch
      of_epoch = same ∙ ap epoch_of known

      sent : InstallsSent decl dd first 0 decl.sites (called_now d (commands.Epoch k))
      sent = installs_sent decl dd decl.sites first first 0 (called_now d (commands.Epoch k)) (omega arith)
          (ap (λ (n : ℕ). Some n) of_epoch) known refl (record { below = tt; apart = tt })

      now : decided_now sent.end ≡ Some (started dd)
      now = (λ i. option_or ((sent.frame).written i) ((sent.frame).decided i)) ∙ known

  -- the next one is closed for

  next_goes : (k : ℕ) → k ≡ decided_epoch d + 1
      → Goes decl first (called_now d (commands.Epoch k))
      (conduct.closes decl m k [] (conduct.close_round decl m.epoch) [])
  next_goes k next =
      subst (λ (r : RoundState). Goes decl first (called_now d (commands.Epoch k)) (conduct.closes decl m k [] r []))
      (sym (ap (conduct.close_round decl) (base_called (commands.Epoch k)).epoch ∙ fresh_is decl (decided_epoch d)))
      (closes_goes decl some first (called_now d (commands.Epoch k)) m k (base_called (commands.Epoch k))
      (record { command = refl; next = next; unwritten = refl; installs_none = refl }) refl first (omega arith) [] []
      (record {
        calls_are = refl;
        shuts_are = λ site. refl;
        sites = refl;
        numbers = record { below = tt; apart = tt };
      }))

  moves_goes : (k : ℕ) → Goes decl first (called_now d (commands.Epoch k)) (conduct.moves_to decl m k)
  moves_goes k = by (k == m.epoch) refl (k == m.epoch + 1) refl
    where
      epoch_is : m.epoch ≡ decided_epoch d
      epoch_is = (base_called (commands.Epoch k)).epoch

      by : (b : Bool) → (k == m.epoch) ≡ b → (c : Bool) → (k == m.epoch + 1) ≡ c
          → Goes decl first (called_now d (commands.Epoch k))
          (cond b (conduct.again decl m m.decided)
          (cond c (conduct.closes decl m k [] (conduct.close_round decl m.epoch) [])
          (replies_with m (replies.Order m.epoch))))
      by true same c other = again_goes k (eqb-true k m.epoch same ∙ epoch_is) m.decided refl
      by false same true next = next_goes k (eqb-true k (m.epoch + 1) next ∙ ap (λ (n : ℕ). n + 1) epoch_is)
      by false same false next =
          order_goes k
          (λ is. (let no : true ≡ false = sym (eq-eqb k (m.epoch + 1) (is ∙ ap (λ (n : ℕ). n + 1) (sym epoch_is)))
          ∙ next in let never : ⊥ = cc in never))
          (λ is. absurd (let no : true ≡ false = sym (eq-eqb k m.epoch (is ∙ sym epoch_is))
          ∙ same in let never : ⊥ = cc in never))

  -- of what no run asks him for he does nothing
  nothing_goes : (command : Command) → option_and_then epoch_in (Some command) ≡ None → m.doing ≡ Resting
      → Goes decl first (called_now d command) (moved m quiet)
  nothing_goes command none is =
      quiet_goes decl first (called_now d command) m
      (record {
        base = base_called command;
        stage =
            subst (Stage decl first (called_now d command)) (sym is)
            (record { commanded_none = none; unwritten = refl });
      })

  pub called_goes : (command : Command) → m.doing ≡ Resting
      → Goes decl first (called_now d command) (conduct.called decl m command)
  called_goes command is =
      command_cases (λ (c : Command). Goes decl first (called_now d c) (conduct.called decl m c))
      (λ c none. subst (λ (o : Option ℕ). Goes decl first (called_now d c)
      (option_map_or (conduct.moves_to decl m) o (moved m quiet))) (sym none) (nothing_goes c none is))
      moves_goes command

-- any input

module _ (decl : Declaration) (some : (decl.sites == 0) ≡ false) (n first : ℕ) (low : n ≤ first) (d : AdminAccount)
    (m : Admin) (ties : Ties decl n d m) where
  still : Ties decl first d m
  still = record { base = ties.base; stage = stage_later decl n first d m.doing low ties.stage }

  heard_goes : (message : Message) → Goes decl first (admin_heard d message) (conduct.heard decl m message)
  heard_goes message = by (answer_in message)
    where
      by : (o : Option Answered)
          → Goes decl first (option_map_or (λ (a : Answered). admin_counted d a.to (Some a.answer)) o d)
          (option_map_or (λ (a : Answered). conduct.answered decl m a.to (Some a.answer)) o (moved m quiet))
      by None = quiet_goes decl first d m still
      by (Some a) = answers_go decl some first d m ties.base a.to (Some a.answer) n low m.doing refl ties.stage

  -- a command comes where he rests

  commanded_goes : (command : Command) → d.command ≡ None → (x : Doing) → m.doing ≡ x → Stage decl n d x
      → Goes decl first (called_now d command) (conduct.called decl m command)
  commanded_goes command free Resting is s = called_goes decl some first d m ties.base s command is
  commanded_goes command free (Closing epoch calls round shuts) is s =
      absurd (let asked : IsAsked d epoch = ((s.0).moves).command in let never : ⊥ = cc in never)
  commanded_goes command free (Asking epoch shuts questions) is s =
      absurd (let asked : IsAsked d epoch = (s.moves).command in let never : ⊥ = cc in never)
  commanded_goes command free (Installing closed awaited calls installed) is s = absurd (by s.why)
    where
      by : WhyClosing decl d closed → ⊥
      by (stages.decided w) = let asked : IsAsked d w.epoch = w.command in let never : ⊥ = cc in never
      by (stages.again w) = let asked : IsAsked d w.epoch = w.command in let never : ⊥ = cc in never

  pub takes_go : (g : Input) → IsAdminFree d g → Goes decl first (admin_taken d g) (admin_takes decl m g)
  takes_go (inputs.Called command) free = commanded_goes command free m.doing refl ties.stage
  takes_go (inputs.Got envelope) free = heard_goes envelope.message
  takes_go (inputs.Lost number) free = answers_go decl some first d m ties.base number None n low m.doing refl
      ties.stage
