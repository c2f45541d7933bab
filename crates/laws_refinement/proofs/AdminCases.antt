-- What the administrator takes, whatever he does: a command, an answer, or that a request is lost.
use Rattle.std.specs.Option.{option_map_or}
use Rattle.std.proofs.Common.{◌≡◌, ℕ, ◌==◌, Bool, true, false, cond, List, length, map, Option, Some, None, is_none}
use Rattle.std.proofs.Common.{refl, sym, ap, ◌∙◌, subst, eqb-true}
use Rattle.qc_stamp.specs.declared.stamp.TxId.{TxId}
use Rattle.qc_list.specs.Vocabulary.{In}
use Rattle.qc_decl.specs.declared.declaration.Declaration.{Declaration}
use Rattle.qc_decl.specs.Vocabulary.{administrator, client_actor}
use Rattle.theory_onecopy.proofs.Lists.{Mapped, map_in}
use Rattle.qc_msg.specs.declared.call.Call.{Call}
use Rattle.qc_msg.specs.declared.message.Answer.{Answer}
use Rattle.qc_msg.specs.declared.message.Message.{Message}
use Rattle.qc_msg.specs.declared.message.Message.TheVariants as messages
use Rattle.qc_msg.specs.declared.reply.Reply.TheVariants as replies
use Rattle.qc_msg.specs.declared.step.Command.TheVariants as commands
use Rattle.qc_msg.specs.declared.step.Input.{Input}
use Rattle.qc_msg.specs.declared.step.Input.TheVariants.{Called, Got, Lost}
use Rattle.qc_msg.specs.Vocabulary.{Answered, quiet, site_called, without_call}
use Rattle.theory_machine.specs.Vocabulary.{Act, IsRun, state}
use Rattle.qc_epoch.specs.Vocabulary.{Asking, Doing, Installing, Question, Resting, ShutSite, admin_takes, all_taken}
use Rattle.qc_epoch.specs.Vocabulary.{answered, answered_in, asking_takes, doing, heard, installing_takes, is_number}
use Rattle.qc_epoch.specs.Vocabulary.{moved, outcome_in, replies_with, settles, site_set, taken_for, with_installed}
use Rattle.qc_epoch.specs.Admin as admins
use Rattle.laws_refinement.specs.Vocabulary.{Backed, DoingMirrors, IsAnswerBacked, IsCovered, IsMessage, IsNumbered}
use Rattle.laws_refinement.specs.Vocabulary.{IsTaken, IsVerdictBacked, MayAdminister, MayCome, Mirrors, Net}
use Rattle.laws_refinement.specs.Vocabulary.{QuestionMirrors}
use Rattle.laws_refinement.proofs.AdminStands.{Goes, ended, nothing, stays}
use Rattle.laws_refinement.proofs.AdminTurns.{settles_case}
use Rattle.laws_refinement.proofs.AnswerCases.{answer_cases}
use Rattle.laws_refinement.proofs.MessageCases.{message_cases}
use Rattle.laws_refinement.proofs.OpenRequests.{message_same}
use Rattle.laws_refinement.proofs.AdminAnswers.{called_case, closing_case}
use Rattle.qc_list.proofs.Members.{In-map}

module _ (decl : Declaration) (acts : List Act) (net : Net) (run : IsRun decl acts) (m : Mirrors decl (state acts) net)
    (up : net.up (administrator decl) ≡ true) where
  -- an answer, or a loss

  abbrev IsAnswer : ℕ → ℕ → Option Answer → Type 0
  IsAnswer from number None = Unit {0}
  IsAnswer from number (Some answer) = IsAnswerBacked decl (state acts) net.mail from number answer

  -- to an Ask
  asking_case : (k : ℕ) (shuts : List ShutSite) (qs : List Question)
      → DoingMirrors decl (state acts) net.mail net.admin.epoch (Asking k shuts qs)
      → (from number : ℕ) (answer : Option Answer) → IsAnswer from number answer
      → Goes decl acts net run m up
      ((asking_takes decl net.admin k shuts (map (taken_for number (outcome_in answer)) qs)))
  asking_case k shuts qs h from number answer backed = by (all_taken (map (taken_for number (outcome_in answer)) qs))
    where
      told : (q : Question) (o : Option Answer) → IsAnswer from number o
          → IsMessage net.mail number (client_actor decl q.tx.client) (messages.Ask q.tx)
          → IsTaken (state acts) q.tx (Some (outcome_in o))
      told q =
          answer_cases (λ x grant closed promised shut verdict. IsAnswer from number x
          → IsMessage net.mail number (client_actor decl q.tx.client) (messages.Ask q.tx)
          → IsTaken (state acts) q.tx (Some verdict))
          (λ grant b mine. tt) (λ epoch b mine. tt) (λ clock b mine. tt) (λ snapshot b mine. tt)
          (λ outcome b mine. (let e : messages.Ask q.tx ≡ messages.Ask b.tx =
          (message_same net.mail number (client_actor decl q.tx.client) from (messages.Ask q.tx) (messages.Ask b.tx)
          mine b.asked).1 in
          let same : q.tx ≡ b.tx = cc in
          subst (λ (t : TxId). IsVerdictBacked (state acts) t outcome) (sym same) b.backed))
          (λ x plain b mine. tt)

      one : (q : Question) → QuestionMirrors decl (state acts) net.mail q
          → QuestionMirrors decl (state acts) net.mail (taken_for number (outcome_in answer) q)
      one q x = number_by q.number refl
        where
          taken_by : (b : Bool) → IsMessage net.mail number (client_actor decl q.tx.client) (messages.Ask q.tx)
              → QuestionMirrors decl (state acts) net.mail (cond b (record q { taken = Some (outcome_in answer) }) q)
          taken_by true mine = record { begun = x.begun; numbered = x.numbered; taken = told q answer backed mine }
          taken_by false mine = x

          hit_by : (b : Bool)
              → (b ≡ true → IsMessage net.mail number (client_actor decl q.tx.client) (messages.Ask q.tx))
              → QuestionMirrors decl (state acts) net.mail
              (cond b (cond (is_none q.taken) (record q { taken = Some (outcome_in answer) }) q) q)
          hit_by true mine = taken_by (is_none q.taken) (mine refl)
          hit_by false mine = x

          number_by : (o : Option ℕ) → q.number ≡ o
              → QuestionMirrors decl (state acts) net.mail (taken_for number (outcome_in answer) q)
          number_by None e =
              hit_by (is_number number q.number)
              (λ is. absurd (let k : is_number number q.number ≡ false = ap (λ (o : Option ℕ). is_number number o) e in
              let never : ⊥ = cc in never))
          number_by (Some n) e = hit_by (is_number number q.number)
              (λ is. (let k : (n == number) ≡ true = sym (ap (λ (o : Option ℕ). is_number number o) e) ∙ is in
              subst (λ (i : ℕ). IsMessage net.mail i (client_actor decl q.tx.client) (messages.Ask q.tx))
              (eqb-true n number k) (subst (λ (o : Option ℕ). IsNumbered decl net.mail q.tx o) e x.numbered)))

      each : (q : Question) → In q (map (taken_for number (outcome_in answer)) qs)
          → QuestionMirrors decl (state acts) net.mail q
      each q among =
          let r : Mapped (taken_for number (outcome_in answer)) q qs =
          map_in (taken_for number (outcome_in answer)) q qs among in
          subst (λ (x : Question). QuestionMirrors decl (state acts) net.mail x) (sym r.is)
          (one r.from (h.5 r.from r.listed))

      same_tx_of : (q : Question) → (taken_for number (outcome_in answer) q).tx ≡ q.tx
      same_tx_of q = by0 (is_number number q.number) (is_none q.taken)
        where
          by0 : (b c : Bool) → (cond b (cond c (record q { taken = Some (outcome_in answer) }) q) q).tx ≡ q.tx
          by0 true true = refl
          by0 true false = refl
          by0 false c = refl

      covered : IsCovered shuts (map (taken_for number (outcome_in answer)) qs)
      covered s p among has =
          let c : (q : Question) × In q qs × (q.tx ≡ p.tx) = h.4 s p among has in (
            taken_for number (outcome_in answer) c.0,
            In-map (taken_for number (outcome_in answer)) c.0 qs c.1,
            same_tx_of c.0 ∙ c.2,
          )

      by : (b : Bool)
          → Goes decl acts net run m up
          ((cond b (settles decl net.admin k shuts (map (taken_for number (outcome_in answer)) qs))
          (moved (doing net.admin (Asking k shuts (map (taken_for number (outcome_in answer)) qs))) quiet)))
      by true =
          settles_case decl acts net run m up k shuts (map (taken_for number (outcome_in answer)) qs) h.0 h.1 h.2 h.3
          covered each
      by false =
          stays decl acts net run m up (Asking k shuts (map (taken_for number (outcome_in answer)) qs))
          (moved (doing net.admin (Asking k shuts (map (taken_for number (outcome_in answer)) qs))) quiet) refl refl
          refl (h.0, h.1, h.2, h.3, covered, each) (λ is. absurd (let never : ⊥ = cc in never))

  -- to an Install
  installing_case : (closed awaited : List ℕ) (calls : List Call) (done : List ℕ) (number : ℕ) (answer : Option Answer)
      → Goes decl acts net run m up
      ((installing_takes net.admin closed awaited calls done number answer (site_called calls number)))
  installing_case closed awaited calls done number answer = by (site_called calls number)
    where
      ends : (b : Bool) (cs : List Call) (is : List ℕ)
          → Goes decl acts net run m up
          ((cond b (replies_with net.admin (replies.Moved (site_set closed) (site_set is)))
          (moved (doing net.admin (Installing closed awaited cs is)) quiet)))
      ends true cs is =
          ended decl acts net run m up (replies.Moved (site_set closed) (site_set is))
          (λ same. absurd (let never : ⊥ = cc in never))
      ends false cs is =
          stays decl acts net run m up (Installing closed awaited cs is)
          (moved (doing net.admin (Installing closed awaited cs is)) quiet) refl refl refl tt
          (λ same. absurd (let never : ⊥ = cc in never))

      by : (o : Option ℕ)
          → Goes decl acts net run m up ((installing_takes net.admin closed awaited calls done number answer o))
      by None = nothing decl acts net run m up
      by (Some site) =
          ends (length (without_call calls number) == 0) (without_call calls number) (with_installed done site answer)

  answer_case : (from number : ℕ) (answer : Option Answer) → IsAnswer from number answer → (d : Doing)
      → net.admin.doing ≡ d → Goes decl acts net run m up ((answered_in decl net.admin d number answer))
  answer_case from number answer backed Resting is = nothing decl acts net run m up
  answer_case from number answer backed (admins.Closing k calls round shuts) is =
      closing_case decl acts net run m up k calls round shuts
      (subst (λ (d : Doing). DoingMirrors decl (state acts) net.mail net.admin.epoch d) is (m.admin up).doing) from
      number answer backed
  answer_case from number answer backed (Asking k shuts qs) is =
      asking_case k shuts qs
      (subst (λ (d : Doing). DoingMirrors decl (state acts) net.mail net.admin.epoch d) is (m.admin up).doing) from
      number answer backed
  answer_case from number answer backed (Installing closed awaited calls done) is =
      installing_case closed awaited calls done number answer

  -- whatever the administrator takes
  pub admin_case : (given : Input) → MayCome net (administrator decl) given → MayAdminister decl given
      → Goes decl acts net run m up ((admin_takes decl net.admin given))
  admin_case (Called commands.Begin) came named = nothing decl acts net run m up
  admin_case (Called (commands.Do object inv)) came named = nothing decl acts net run m up
  admin_case (Called commands.Commit) came named = nothing decl acts net run m up
  admin_case (Called commands.Abort) came named = nothing decl acts net run m up
  admin_case (Called (commands.Epoch number)) came named = called_case decl acts net run m up number named
  admin_case (Lost number) came named = answer_case 0 number None tt net.admin.doing refl
  admin_case (Got e) came named = by e.message refl
    where
      by : (message : Message) → e.message ≡ message → Goes decl acts net run m up (heard decl net.admin message)
      by =
          message_cases (λ message q a v start. e.message ≡ message → Goes decl acts net run m up
          (option_map_or (λ (x : Answered). answered decl net.admin x.to (Some x.answer)) a (moved net.admin quiet)))
          (λ q same. nothing decl acts net run m up)
          (λ a same. answer_case e.from a.to (Some a.answer)
          (subst (λ (x : Message). Backed decl (state acts) net.mail e.from e.to x) same (m.mail e came.0))
          net.admin.doing refl)
          (λ v same. nothing decl acts net run m up) (λ start same. nothing decl acts net run m up)
          (λ message same. nothing decl acts net run m up)
