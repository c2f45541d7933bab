-- The administrator takes a command, or what comes of a Close.
use Rattle.std.specs.Option.{option_map_or}
use Rattle.std.proofs.Common.{[], ◌≡◌, ◌≤◌, ℕ, suc, ◌+◌, ◌==◌, Bool, true, false, cond, inl, inr, List, ◌∷◌, ◌++◌}
use Rattle.std.proofs.Common.{length, map, Option, Some, None, refl, sym, ◌∙◌, subst, eqb-true, arith}
use Rattle.qc_list.specs.Vocabulary.{In}
use Rattle.qc_list.proofs.Members.{In-second, In-unfiltered, In-either}
use Rattle.qc_entry.specs.declared.line.Line.{Line}
use Rattle.qc_entry.specs.declared.record.Prepared.{Prepared}
use Rattle.qc_plan.specs.declared.plan.Plan.{Plan}
use Rattle.qc_plan.specs.declared.standing.Standing.{Standing}
use Rattle.qc_plan.specs.declared.standing.Standing.TheVariants as standings
use Rattle.qc_plan.specs.declared.standing.Verdict.{Verdict}
use Rattle.qc_plan.specs.declared.standing.Verdict.TheVariants as verdicts
use Rattle.qc_plan.specs.Vocabulary.{RoundState, asking_all, has_granted, note, verdict, wanted, weight}
use Rattle.qc_plan.proofs.Least.{close_weight_is_least}
use Rattle.qc_plan.proofs.RoundsMet.{met_weighs}
use Rattle.qc_decl.specs.declared.declaration.Declaration.{Declaration}
use Rattle.qc_decl.specs.Vocabulary.{administrator}
use Rattle.theory_onecopy.proofs.Lists.{Mapped, map_in}
use Rattle.qc_msg.specs.declared.call.Call.{Call}
use Rattle.qc_msg.specs.declared.message.Answer.{Answer}
use Rattle.qc_msg.specs.declared.payload.Snapshot.{Snapshot}
use Rattle.qc_msg.specs.declared.message.Message.TheVariants as messages
use Rattle.qc_msg.specs.declared.reply.Half.TheVariants as halves
use Rattle.qc_msg.specs.declared.reply.Reply.TheVariants as replies
use Rattle.qc_msg.specs.declared.turn.Posting.{Posting}
use Rattle.qc_msg.specs.Vocabulary.{envelopes, site_called, without_call}
use Rattle.theory_machine.specs.Vocabulary.{Act, IsRun, state}
use Rattle.qc_epoch.specs.Vocabulary.{Admin, ShutSite, again, close_need, close_of, close_round, close_round_by, closes}
use Rattle.qc_epoch.specs.Vocabulary.{closes_by, closing_takes, goes_on, in_asked_order, moves_to, replies_with}
use Rattle.qc_epoch.specs.Vocabulary.{standing_of, with_shut_of}
use Rattle.qc_epoch.specs.Admin as admins
use Rattle.laws_refinement.specs.Vocabulary.{AdminMirrors, AreEnough, AreSnapshots, Backed, DoingMirrors}
use Rattle.laws_refinement.specs.Vocabulary.{IsAnswerBacked, IsMessage, IsPlanned, IsShutTo, IsSnapshot, Mirrors, Net}
use Rattle.laws_refinement.specs.Vocabulary.{RoundMirrors}
use Rattle.laws_refinement.proofs.AnswerCases.{answer_cases}
use Rattle.laws_refinement.proofs.Asks.{IsCalled, called, order_among, order_told}
use Rattle.laws_refinement.proofs.MessagesStay.{message_later}
use Rattle.laws_refinement.proofs.Posts.{at_number}
use Rattle.laws_refinement.proofs.AdminRounds.{asked_told, calls_sent, closes_more, closing_sent, granted_told}
use Rattle.laws_refinement.proofs.AdminRounds.{noted_told, told_more}
use Rattle.laws_refinement.proofs.AdminStands.{Goes, again_case, ended, nothing, rests}
use Rattle.laws_refinement.proofs.AdminTurns.{asks_case}
use Rattle.laws_refinement.proofs.OpenRequests.{message_same}
use Rattle.qc_front.proofs.Awaited.{weights_stay, need_stays}

module _ (decl : Declaration) (acts : List Act) (net : Net) (run : IsRun decl acts) (m : Mirrors decl (state acts) net)
    (up : net.up (administrator decl) ≡ true) where
  -- a round of Closes, as far as it has come

  closes_case : (k : ℕ) (calls : List Call) (round : RoundState) (shuts : List ShutSite) → k ≡ suc net.admin.epoch
      → IsPlanned decl k → ((c : Call) → In c calls → IsMessage net.mail c.number c.site (messages.Close k))
      → RoundMirrors decl net.admin.epoch round shuts → AreSnapshots decl (state acts) k shuts
      → Goes decl acts net run m up ((closes decl net.admin k calls round shuts))
  closes_case k calls round shuts next planned asked r told = by (verdict round) refl
    where
      sends : List Posting
      sends = map (close_of k) (wanted round)

      waits : Goes decl acts net run m up ((goes_on net.admin k calls round shuts))
      waits = rests decl acts net run m up (goes_on net.admin k calls round shuts) refl refl
          (λ p among. (let s : Mapped (close_of k) p (wanted round) = map_in (close_of k) p (wanted round) among in
          subst (λ (x : Posting). Backed decl (state acts) net.mail (administrator decl) x.to x.message)
          (sym s.is) planned))
          (subst (λ (x : Admin). AdminMirrors decl (state acts)
          (net.mail ++ envelopes (administrator decl) (length net.mail) (map (close_of k) (wanted round))) x)
          (sym (closing_sent net.admin k calls (asking_all round (wanted round)) shuts (length net.mail)
          (wanted round))) (record {
            planned = (m.admin up).planned;
            decided = (m.admin up).decided;
            doing = (
              next,
              planned,
              calls_sent
                  (net.mail ++ envelopes (administrator decl) (length net.mail) (map (close_of k) (wanted round)))
                  (administrator decl) k calls (length net.mail) (wanted round)
                  (λ c among. message_later net.mail
                  (envelopes (administrator decl) (length net.mail) (map (close_of k) (wanted round))) c.number
                  c.site (messages.Close k) (asked c among))
                  (at_number net.mail (administrator decl) (length net.mail) (map (close_of k) (wanted round)) refl),
              record {
                plan = r.plan;
                planned = r.planned;
                weights = weights_stay round (wanted round) ∙ r.weights;
                need = need_stays round (wanted round) ∙ r.need;
                granted = asked_told shuts round (wanted round) r.granted;
              },
              told,
            );
          })) (λ is. absurd (let never : ⊥ = cc in never))

      enough : verdict round ≡ verdicts.Met → AreEnough decl net.admin.epoch (in_asked_order round.asked shuts)
      enough met = record {
        plan = r.plan;
        planned = r.planned;
        sites = has_granted round.asked;
        closes = closes_more r.plan (close_need r.plan) (weight (has_granted round.asked) r.plan.weights)
            (subst (λ (n : ℕ). n ≤ weight (has_granted round.asked) r.plan.weights) r.need
            (subst (λ (ws : List ℕ). round.need ≤ weight (has_granted round.asked) ws) r.weights
            (met_weighs round met)))
            (close_weight_is_least r.plan).closes;
        each =
            λ site is. granted_told (in_asked_order round.asked shuts) round.asked site
            (λ a among granted. order_told round.asked shuts a among (r.granted a among granted)) is;
      }

      by : (x : Verdict) → verdict round ≡ x
          → Goes decl acts net run m up ((closes_by decl net.admin k calls round shuts x))
      by verdicts.Waiting is = waits
      by verdicts.Met is =
          asks_case decl acts net run m up k (in_asked_order round.asked shuts) next planned (enough is)
          (λ s among. told s (order_among round.asked shuts s among))
      by (verdicts.Closed e site) is = nothing decl acts net run m up
      by (verdicts.Clash tx site) is = nothing decl acts net run m up
      by (verdicts.Short got need) is =
          ended decl acts net run m up (replies.Quorum halves.Close got need)
          (λ is. absurd (let never : ⊥ = cc in never))

  -- a command

  pub called_case : (number : ℕ) → IsPlanned decl number
      → Goes decl acts net run m up ((moves_to decl net.admin number))
  called_case number planned = by (number == net.admin.epoch) (number == net.admin.epoch + 1) refl
    where
      round : RoundMirrors decl net.admin.epoch (close_round decl net.admin.epoch) []
      round =
          subst (λ (o : Option Plan). RoundMirrors decl net.admin.epoch (close_round_by o) [])
          (sym (m.admin up).planned.1) (record {
            plan = (m.admin up).planned.0;
            planned = (m.admin up).planned.1;
            weights = refl;
            need = refl;
            granted = λ a never. absurd never;
          })

      by : (b c : Bool) → (number == net.admin.epoch + 1) ≡ c
          → Goes decl acts net run m up ((cond b (again decl net.admin net.admin.decided)
          (cond c (closes decl net.admin number [] (close_round decl net.admin.epoch) [])
          (replies_with net.admin (replies.Order net.admin.epoch)))))
      by true c is = again_case decl acts net run m up net.admin.decided refl
      by false true is =
          closes_case number [] (close_round decl net.admin.epoch) []
          (let e : number ≡ net.admin.epoch + 1 = eqb-true number (net.admin.epoch + 1) is in omega arith) planned
          (λ x never. absurd never) round (λ s never. absurd never)
      by false false is =
          ended decl acts net run m up (replies.Order net.admin.epoch) (λ is. absurd (let never : ⊥ = cc in never))

  -- an answer, or a loss

  abbrev pub IsAnswer : ℕ → ℕ → Option Answer → Type 0
  IsAnswer from number None = Unit {0}
  IsAnswer from number (Some answer) = IsAnswerBacked decl (state acts) net.mail from number answer

  -- to a Close
  pub closing_case : (k : ℕ) (calls : List Call) (round : RoundState) (shuts : List ShutSite)
      → DoingMirrors decl (state acts) net.mail net.admin.epoch (admins.Closing k calls round shuts)
      → (from number : ℕ) (answer : Option Answer) → IsAnswer from number answer
      → Goes decl acts net run m up
      ((closing_takes decl net.admin k calls round shuts number answer (site_called calls number)))
  closing_case k calls round shuts h from number answer backed = by (site_called calls number) refl
    where
      fewer : (c : Call) → In c (without_call calls number) → IsMessage net.mail c.number c.site (messages.Close k)
      fewer c among = h.2 c (In-unfiltered _ c calls among)

      missing : (site : ℕ) (standing : Standing) → (standing ≡ standings.Granted → ⊥)
          → Goes decl acts net run m up
          ((closes decl net.admin k (without_call calls number) (note round site standing) shuts))
      missing site standing not =
          closes_case k (without_call calls number) (note round site standing) shuts h.0 h.1 fewer
          (record {
            plan = h.3.plan;
            planned = h.3.planned;
            weights = h.3.weights;
            need = h.3.need;
            granted = noted_told shuts site standing round.asked h.3.granted (λ is. absurd (not is));
          }) h.4

      shut : (site clock : ℕ) (log : List Line) (prepared : List Prepared) → site_called calls number ≡ Some site
          → IsShutTo decl (state acts) net.mail from number clock log prepared
          → Goes decl acts net run m up
          ((closes decl net.admin k (without_call calls number) (note round site standings.Granted)
          (shuts ++ record { site = site; clock = clock; log = log; prepared = prepared } ∷ [])))
      shut site clock log prepared is b =
          closes_case k (without_call calls number) (note round site standings.Granted) (shuts ++ s ∷ []) h.0 h.1 fewer
          (record {
            plan = h.3.plan;
            planned = h.3.planned;
            weights = h.3.weights;
            need = h.3.need;
            granted =
                noted_told (shuts ++ s ∷ []) site standings.Granted round.asked
                (λ a among granted. told_more shuts (s ∷ []) a.site (h.3.granted a among granted))
                (λ e. (s, In-second s shuts (s ∷ []) (inl refl), refl));
          })
          (λ t among. elim (In-either t shuts (s ∷ []) among) [
            | inl old ↦ h.4 t old
            | inr new ↦
                elim new [
                  | inl same ↦ subst (λ (y : ShutSite). IsSnapshot decl (state acts) y.site k y.clock y.log y.prepared)
                      (sym same) told
                  | inr never ↦ absurd never
                ]
          ])
        where
          s : ShutSite
          s = record { site = site; clock = clock; log = log; prepared = prepared }

          c : IsCalled calls number site
          c = called calls number site is

          mine : IsMessage net.mail number site (messages.Close k)
          mine =
              subst (λ (n : ℕ). IsMessage net.mail n site (messages.Close k)) c.number_is
              (subst (λ (n : ℕ). IsMessage net.mail c.call.number n (messages.Close k)) c.site_is (h.2 c.call c.among))

          same_one : (site ≡ from) × (messages.Close k ≡ messages.Close b.epoch)
          same_one = message_same net.mail number site from (messages.Close k) (messages.Close b.epoch) mine b.asked

          told : IsSnapshot decl (state acts) site k clock log prepared
          told =
              let e : messages.Close k ≡ messages.Close b.epoch = same_one.1 in
              let f : k ≡ b.epoch = cc in
              subst (λ (n : ℕ). IsSnapshot decl (state acts) n k clock log prepared) (sym same_one.0)
              (subst (λ (n : ℕ). IsSnapshot decl (state acts) from n clock log prepared) (sym f) b.told)

      lacks : (site : ℕ)
          → Goes decl acts net run m up
          (closes decl net.admin k (without_call calls number) (note round site standings.Missing) shuts)
      lacks site = missing site standings.Missing (λ e. (let never : ⊥ = cc in never))

      of : (site : ℕ) (o : Option Answer) → IsAnswer from number o → site_called calls number ≡ Some site
          → Goes decl acts net run m up
          ((closes decl net.admin k (without_call calls number) (note round site (standing_of o))
          (with_shut_of shuts site o)))
      of site =
          answer_cases (λ x grant closed promised shut_with verdict. IsAnswer from number x
          → site_called calls number ≡ Some site
          → Goes decl acts net run m up
          (closes decl net.admin k (without_call calls number)
          (note round site (option_map_or (λ (z : Snapshot). standings.Granted) shut_with standings.Missing))
          (with_shut_of shuts site x)))
          (λ grant b is. lacks site) (λ epoch b is. lacks site) (λ clock b is. lacks site)
          (λ snapshot b is. shut site snapshot.clock snapshot.log snapshot.prepared is b) (λ verdict b is. lacks site)
          (λ x plain b is. subst (λ (ss : List ShutSite). Goes decl acts net run m up
          (closes decl net.admin k (without_call calls number) (note round site standings.Missing) ss))
          (sym (plain.not_shut shuts site)) (lacks site))

      by : (o : Option ℕ) → site_called calls number ≡ o
          → Goes decl acts net run m up ((closing_takes decl net.admin k calls round shuts number answer o))
      by None is = nothing decl acts net run m up
      by (Some site) is = of site answer backed is
