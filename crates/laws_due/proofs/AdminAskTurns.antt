-- An answer to an Ask of the administrator's, or that one is lost: once each is answered or lost, the epoch is settled.
use Rattle.std.proofs.Common.{◌≡◌, ◌≤◌, ℕ, ◌==◌, Bool, true, false, cond, List, [], length, map, drop, take, Option}
use Rattle.std.proofs.Common.{refl, sym, ap, ◌∙◌, subst}
use Rattle.qc_decl.specs.declared.declaration.Declaration.{Declaration}
use Rattle.qc_plan.specs.Vocabulary.{verdict}
use Rattle.qc_msg.specs.declared.message.Answer.{Answer}
use Rattle.qc_msg.specs.Vocabulary.{quiet}
use Rattle.qc_promise.specs.Vocabulary.{AdminAccount, AdminRequest, admin_counted, asks, closes, decided_epoch}
use Rattle.qc_promise.specs.Vocabulary.{most_questions, promised_once}
use Rattle.qc_epoch.specs.Vocabulary.{Admin, Asking, Question, ShutSite, doing, moved, outcome_in, taken_for}
use Rattle.qc_epoch.specs.Conduct as conduct
use Rattle.qc_epoch.specs.Deciding as deciding
use Rattle.laws_due.proofs.AdminRequests.{all_taken, length_taken, taken_already}
use Rattle.laws_due.proofs.AdminCloses.{round_of}
use Rattle.laws_due.proofs.AdminShuts.{shuts_of}
use Rattle.laws_due.proofs.AdminDecisions.{answered_is}
use Rattle.laws_due.proofs.AdminStages.{Base, IsAsking, IsMet, asked_about}
use Rattle.laws_due.proofs.AdminGoes.{Goes, quiet_goes}
use Rattle.laws_due.proofs.AdminDeciding.{settles_goes}
use Rattle.laws_due.proofs.AdminTaken.{asked_all_taken}
use Rattle.laws_due.proofs.AdminAgreements.{agree}
use Rattle.laws_due.proofs.AdminQuestions.{AreAbout, about_taken, asked_of, asked_taken, promised_distinct, promised_of}
use Rattle.laws_due.proofs.AdminCounts.{asks_taken, base_counted, closes_taken, moves_counted}

module _ (decl : Declaration) (some : (decl.sites == 0) ≡ false) (first : ℕ) (d : AdminAccount) (m : Admin)
    (base : Base d m) (number : ℕ) (answer : Option Answer) where
  abbrev counted : AdminAccount
  counted = admin_counted d number answer

  abbrev told : List Question
  told = asked_of (promised_once counted) (asks counted)

  pub asking_takes : (epoch : ℕ) (shuts : List ShutSite) (questions : List Question)
      → IsAsking decl d epoch shuts questions
      → Goes decl first counted (conduct.asking_takes decl m epoch shuts
      (map (taken_for number (outcome_in answer)) questions))
  asking_takes epoch shuts questions s =
      subst (λ (v : List ShutSite). Goes decl first counted
      (conduct.asking_takes decl m epoch v (map (taken_for number (outcome_in answer)) questions))) (sym shuts_now)
      (subst (λ (v : List Question). Goes decl first counted
      (conduct.asking_takes decl m epoch (shuts_of (closes counted)) v)) (sym questions_now)
      (by (deciding.all_taken told) refl))
    where
      closed_same : closes counted ≡ closes d
      closed_same = closes_taken d number answer ∙ taken_already number answer (closes d) (s.met).closed

      shuts_now : shuts ≡ shuts_of (closes counted)
      shuts_now = s.shuts_are ∙ ap shuts_of (sym closed_same)

      questions_now : map (taken_for number (outcome_in answer)) questions ≡ told
      questions_now =
          ap (map (taken_for number (outcome_in answer))) s.questions_are
          ∙ asked_taken number answer (promised_once d) (asks d)
          ∙ (λ i. asked_of (promised_of (sym closed_same i)) (sym (asks_taken d number answer) i))

      none_left_now : drop (length (asks counted)) (take most_questions (promised_once counted)) ≡ []
      none_left_now =
          (λ i. drop ((ap (λ (v : List AdminRequest). length v) (asks_taken d number answer)
          ∙ length_taken number answer (asks d)) i) (take most_questions (promised_of (closed_same i)))) ∙ s.none_left

      met_now : IsMet decl counted
      met_now = record {
        met = ap (λ (cs : List AdminRequest). verdict (round_of decl (decided_epoch d) cs)) closed_same ∙ (s.met).met;
        closed = ap all_taken closed_same ∙ (s.met).closed;
        about_promised =
            subst (λ (cs : List AdminRequest). AreAbout (promised_of cs) (asks counted)) (sym closed_same)
            (subst (AreAbout (promised_once d)) (sym (asks_taken d number answer))
            (about_taken number answer (promised_once d) (asks d) (s.met).about_promised));
        few = subst (λ (k : ℕ). k ≤ most_questions)
            (sym (ap (λ (v : List AdminRequest). length v) (asks_taken d number answer)
            ∙ length_taken number answer (asks d))) (s.met).few;
      }

      by : (b : Bool) → deciding.all_taken told ≡ b
          → Goes decl first counted (cond b
          (conduct.settles decl m epoch (shuts_of (closes counted)) told)
          (moved (doing m (Asking epoch (shuts_of (closes counted)) told)) quiet))
      by true is =
          settles_goes decl some first counted m epoch (base_counted d m base number answer)
          (moves_counted d number answer epoch s.moves) met_now
          (asked_all_taken most_questions (promised_once counted) (asks counted) met_now.few met_now.about_promised is)
          (sym (answered_is counted (asks counted) (asked_about counted) told
          (agree (promised_once counted) (asks counted) (promised_distinct (closes counted)) met_now.about_promised))
          ∙ is)
      by false is =
          quiet_goes decl first counted
          (doing m (Asking epoch (shuts_of (closes counted)) told))
          (record {
            base = record { up = base.up; decided = base.decided; epoch = base.epoch };
            stage = record {
              moves = moves_counted d number answer epoch s.moves;
              met = met_now;
              shuts_are =
                  refl;
              questions_are = refl;
              open_still = is;
              none_left = none_left_now;
            };
          })
