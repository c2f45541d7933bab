-- An answer to a Close of the administrator's, or that one is lost: the round goes on, or he stays as he was.
use Rattle.std.proofs.Common.{◌≡◌, ◌≤◌, ℕ, ◌==◌, false, List, [], ◌++◌, drop, Option, Some, None, refl, sym, ap}
use Rattle.std.proofs.Common.{◌∙◌, subst}
use Rattle.qc_decl.specs.declared.declaration.Declaration.{Declaration}
use Rattle.qc_plan.specs.Vocabulary.{RoundState, note, verdict, wanted}
use Rattle.qc_msg.specs.declared.call.Call.{Call}
use Rattle.qc_msg.specs.declared.message.Answer.{Answer}
use Rattle.qc_msg.specs.Vocabulary.{site_called, without_call}
use Rattle.qc_promise.specs.Vocabulary.{AdminAccount, AdminRequest, admin_counted, asks, close_round, closes}
use Rattle.qc_promise.specs.Vocabulary.{decided_epoch, fresh_round}
use Rattle.qc_epoch.specs.Vocabulary.{Admin, Closing, ShutSite, standing_of, with_shut_of}
use Rattle.qc_epoch.specs.Conduct as conduct
use Rattle.laws_due.specs.Vocabulary.{AreApart}
use Rattle.laws_due.proofs.AdminRequests.{IsCalled, called, calls_taken, length_taken, none_called, map_taken, sites_of}
use Rattle.laws_due.proofs.AdminRequests.{takes}
use Rattle.laws_due.proofs.AdminCloses.{round_of, round_taken}
use Rattle.laws_due.proofs.AdminShuts.{shuts_taken}
use Rattle.laws_due.proofs.AdminStages.{Base, HasClosed, IsClosing, Stage, Ties}
use Rattle.laws_due.proofs.AdminGoes.{Goes, quiet_goes}
use Rattle.laws_due.proofs.AdminClosing.{closed_apart, closes_goes}
use Rattle.laws_due.proofs.AdminTaken.{numbered_taken}
use Rattle.laws_due.proofs.AdminFrames.{later}
use Rattle.laws_due.proofs.AdminCounts.{asks_taken, base_counted, closes_taken, moves_counted}

module _ (decl : Declaration) (some : (decl.sites == 0) ≡ false) (first : ℕ) (d : AdminAccount) (m : Admin)
    (base : Base d m) (number : ℕ) (answer : Option Answer) where
  abbrev counted : AdminAccount
  counted = admin_counted d number answer

  pub closing_takes : (n : ℕ) → n ≤ first → (epoch : ℕ) (calls : List Call) (round : RoundState) (shuts : List ShutSite)
      → m.doing ≡ Closing epoch calls round shuts
      → IsClosing decl n d epoch calls shuts → round ≡ close_round decl d
      → Goes decl first counted
      (conduct.closing_takes decl m epoch calls round shuts number answer (site_called calls number))
  closing_takes n low epoch calls round shuts doing_is s round_is = by (site_called calls number) refl
    where
      none_asked_now : asks counted ≡ []
      none_asked_now = asks_taken d number answer ∙ ap (takes number answer) s.asks_none

      stays : site_called calls number ≡ None → Ties decl first counted m
      stays is =
          let same : closes counted ≡ closes d =
          closes_taken d number answer
          ∙ none_called number answer (closes d)
          (ap (λ (cs : List Call). site_called cs number) (sym (s.has).calls_are) ∙ is) in
          record {
            base = base_counted d m base number answer;
            stage = subst (Stage decl first counted) (sym doing_is) (
              record {
                moves = moves_counted d number answer epoch s.moves;
                asks_none = none_asked_now;
                has = subst (λ (cs : List AdminRequest). HasClosed decl first (decided_epoch d) cs calls shuts)
                    (sym same)
                    (record {
                      calls_are = (s.has).calls_are;
                      shuts_are = (s.has).shuts_are;
                      sites = (s.has).sites;
                      numbers = later n first (closes d) low (s.has).numbers;
                    });
                waits = ap (λ (cs : List AdminRequest). verdict (round_of decl (decided_epoch d) cs)) same ∙ s.waits;
                wants_none =
                    ap (λ (cs : List AdminRequest). wanted (round_of decl (decided_epoch d) cs)) same ∙ s.wants_none;
              },
              round_is ∙ ap (round_of decl (decided_epoch d)) (sym same),
            );
          }

      goes_on : (site : ℕ) → site_called calls number ≡ Some site
          → Goes decl first counted (conduct.closes decl m epoch (without_call calls number)
          (note round site (standing_of answer)) (with_shut_of shuts site answer))
      goes_on site is =
          let c : IsCalled number site (closes d) =
          called number site (closes d) (ap (λ (cs : List Call). site_called cs number) (sym (s.has).calls_are) ∙ is) in
          let apart : AreApart (sites_of (closes d)) =
          closed_apart decl n (decided_epoch d) (closes d) calls shuts s.has in
          let round_now : note round site (standing_of answer) ≡ close_round decl counted =
          ap (λ (r : RoundState). note r site (standing_of answer)) round_is
          ∙ round_taken decl (decided_epoch d) number site answer (closes d) apart ((s.has).numbers).apart c
          ∙ ap (round_of decl (decided_epoch d)) (sym (closes_taken d number answer)) in
          subst (λ (r : RoundState). Goes decl first counted
          (conduct.closes decl m epoch (without_call calls number) r (with_shut_of shuts site answer))) (sym round_now)
          (closes_goes decl some first counted m epoch (base_counted d m base number answer)
          (moves_counted d number answer epoch s.moves) none_asked_now n low (without_call calls number)
          (with_shut_of shuts site answer)
          (subst (λ (cs : List AdminRequest). HasClosed decl n (decided_epoch d) cs (without_call calls number)
          (with_shut_of shuts site answer)) (sym (closes_taken d number answer)) (record {
            calls_are = ap (λ (cs : List Call). without_call cs number) (s.has).calls_are
                ∙ calls_taken number answer (closes d);
            shuts_are = shuts_taken shuts number site answer (closes d) apart ((s.has).numbers).apart c
                (s.has).shuts_are;
            sites =
                (λ i. map_taken number answer (λ (q : AdminRequest). q.to) (λ q. refl) (closes d) i ++ drop
                (length_taken number answer (closes d) i) (fresh_round decl (decided_epoch d)).rest)
                ∙ (s.has).sites;
            numbers = numbered_taken number answer n (closes d) (s.has).numbers;
          })))

      by : (o : Option ℕ) → site_called calls number ≡ o
          → Goes decl first counted (conduct.closing_takes decl m epoch calls round shuts number answer o)
      by None is = quiet_goes decl first counted m (stays is)
      by (Some site) is = goes_on site is
