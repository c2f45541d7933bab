-- An answer to the administrator, or that one is lost: what he posts for it is due, and the tie holds after it.
use Rattle.std.proofs.Common.{◌≡◌, ◌≤◌, ℕ, ◌==◌, false, Option, sym, subst}
use Rattle.qc_decl.specs.declared.declaration.Declaration.{Declaration}
use Rattle.qc_msg.specs.declared.message.Answer.{Answer}
use Rattle.qc_promise.specs.Vocabulary.{AdminAccount, admin_counted}
use Rattle.qc_epoch.specs.Vocabulary.{Admin, Asking, Closing, Doing, Installing, Resting}
use Rattle.qc_epoch.specs.Conduct as conduct
use Rattle.laws_due.proofs.AdminStages.{Base, Stage}
use Rattle.laws_due.proofs.AdminGoes.{Goes, quiet_goes}
use Rattle.laws_due.proofs.AdminCounts.{base_counted, rests_counted}
use Rattle.laws_due.proofs.AdminCloseTurns.{closing_takes}
use Rattle.laws_due.proofs.AdminAskTurns.{asking_takes}
use Rattle.laws_due.proofs.AdminInstallTurns.{installing_takes}

module _ (decl : Declaration) (some : (decl.sites == 0) ≡ false) (first : ℕ) (d : AdminAccount) (m : Admin)
    (base : Base d m) where
  -- an answer, or that a request is lost

  pub answers_go : (number : ℕ) (answer : Option Answer) (n : ℕ) → n ≤ first → (x : Doing) → m.doing ≡ x
      → Stage decl n d x → Goes decl first (admin_counted d number answer) (conduct.answered_in decl m x number answer)
  answers_go number answer n low Resting is s =
      quiet_goes decl first (admin_counted d number answer) m
      (record {
        base = base_counted d m base number answer;
        stage =
            subst (Stage decl first (admin_counted d number answer)) (sym is) (rests_counted d number answer s);
      })
  answers_go number answer n low (Closing epoch calls round shuts) is s =
      closing_takes decl some first d m base number answer n low epoch calls round shuts is s.0 s.1
  answers_go number answer n low (Asking epoch shuts questions) is s =
      asking_takes decl some first d m base number answer epoch shuts questions s
  answers_go number answer n low (Installing closed awaited calls installed) is s =
      installing_takes decl some first d m base number answer n low closed awaited calls installed is s
