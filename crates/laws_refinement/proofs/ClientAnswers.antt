-- A `do`, and whatever comes of a request of its rounds.
use Rattle.std.proofs.Common.{◌≡◌, ℕ, nat_le, Bool, true, false, cond, List, [], length, Option, Some, None, refl}
use Rattle.std.proofs.Common.{subst}
use Rattle.qc_plan.specs.Vocabulary.{verdict}
use Rattle.qc_decl.specs.declared.declaration.Declaration.{Declaration}
use Rattle.qc_decl.specs.Vocabulary.{is_client, most_transaction_operations, read_need_of}
use Rattle.qc_msg.specs.declared.message.Answer.{Answer}
use Rattle.qc_msg.specs.declared.reply.Reply.TheVariants as replies
use Rattle.qc_msg.specs.Vocabulary.{quiet, site_called, telling}
use Rattle.theory_machine.specs.Vocabulary.{Act, IsRun, state}
use Rattle.qc_front.specs.declared.doing.Doing.{Doing}
use Rattle.qc_front.specs.declared.doing.Doing.TheVariants.{Idle, Reading, Appending}
use Rattle.qc_front.specs.declared.transaction.Transaction.{Transaction}
use Rattle.qc_front.specs.Vocabulary.{RecordsHold, appending_takes, moved, performs, read_by, reading_takes, round_for}
use Rattle.qc_front.specs.Vocabulary.{takes_in}
use Rattle.qc_front.proofs.CommandsKeep.{started_round}
use Rattle.qc_client.specs.Vocabulary.{by_front}
use Rattle.laws_refinement.specs.Vocabulary.{FrontStands, IsChosen, IsNamedAt, Mirrors, Net, Refines, RunningMirrors}
use Rattle.laws_refinement.specs.Vocabulary.{after_client}
use Rattle.laws_refinement.proofs.ClientRounds.{nothing, reading}
use Rattle.laws_refinement.proofs.ClientSteps.{Core, mid_first, refined}
use Rattle.laws_refinement.proofs.OpenRequests.{AnswerBacked}
use Rattle.laws_refinement.proofs.AppendingAnswers.{append_case}
use Rattle.laws_refinement.proofs.ReadingAnswers.{read_case}
use Rattle.laws_refinement.proofs.RunningClients.{core_of, records_of}

module _ (decl : Declaration) where
  -- a `do`
  pub do_case : (acts : List Act) (net : Net) (a object inv : ℕ) → IsRun decl acts → Mirrors decl (state acts) net
      → is_client decl a ≡ true → net.up a ≡ true → FrontStands decl net a → (net.clients a).front.doing ≡ Idle
      → (net.clients a).desk.voting ≡ None → IsNamedAt decl object inv
      → (t : Option Transaction) → (net.clients a).front.transaction ≡ t
      → Refines decl
      (after_client net a (by_front (net.clients a) (performs decl (net.clients a).front t object inv)))
  do_case acts net a object inv run m client up stands rests free named None is =
      nothing decl acts net a (by_front (net.clients a) (performs decl (net.clients a).front None object inv)) run m
      client up refl refl refl
  do_case acts net a object inv run m client up stands rests free named (Some t) is =
      by t.begun.doomed (nat_le most_transaction_operations (length t.begun.ops)) refl
    where
      k : Core decl (state acts) a (net.clients a) t × RunningMirrors decl (state acts) net.mail (net.clients a) t
      k = core_of decl (state acts) net.mail a (net.clients a) t (m.clients a client up) is free

      chosen : t.begun.doomed ≡ false → (state acts).chosen t.begun.tx ≡ None
      chosen e = (subst (λ (d : Doing). IsChosen decl (state acts) t d) rests k.1.chosen) e

      records : RecordsHold decl t.views t.own t.begun.ops
      records = (records_of decl (net.clients a).front t stands.holds is).0

      by : (dooms long : Bool) → t.begun.doomed ≡ dooms
          → Refines decl
          (after_client net a
          (by_front (net.clients a)
          (cond dooms (moved (net.clients a).front (telling replies.Doomed))
          (cond long (moved (net.clients a).front (telling replies.TooLong))
          (read_by decl (net.clients a).front t object inv []
          (round_for decl (net.clients a).front t (read_need_of decl t.begun.epoch object inv))
          (verdict (round_for decl (net.clients a).front t (read_need_of decl t.begun.epoch object inv))))))))
      by true long e =
          nothing decl acts net a (by_front (net.clients a) (moved (net.clients a).front (telling replies.Doomed))) run
          m client up refl refl refl
      by false true e =
          nothing decl acts net a (by_front (net.clients a) (moved (net.clients a).front (telling replies.TooLong))) run
          m client up refl refl refl
      by false false e = refined decl (state acts) net a _ m client up
          (reading decl (state acts) net a acts (net.clients a) t object inv []
          (round_for decl (net.clients a).front t (read_need_of decl t.begun.epoch object inv)) refl
          (mid_first decl acts (net.clients a).front.client run) refl k.0 records (chosen e) named
          (started_round decl (net.clients a).front t (read_need_of decl t.begun.epoch object inv))
          (λ x never. absurd never) (λ call never. absurd never)
          (verdict (round_for decl (net.clients a).front t (read_need_of decl t.begun.epoch object inv))) refl)

  module _ (acts : List Act) (net : Net) (a : ℕ) (run : IsRun decl acts) (m : Mirrors decl (state acts) net)
      (client : is_client decl a ≡ true) (up : net.up a ≡ true) (stands : FrontStands decl net a)
      (free : (net.clients a).desk.voting ≡ None) where
    -- whatever comes of a request, while no commit waits for votes
    pub takes_case : (from number : ℕ) (answer : Option Answer)
        → AnswerBacked decl (state acts) net.mail from number answer → (doing : Doing)
        → (net.clients a).front.doing ≡ doing → (t : Option Transaction) → (net.clients a).front.transaction ≡ t
        → Refines decl
        (after_client net a (by_front (net.clients a) (takes_in decl (net.clients a).front doing t number answer)))
    takes_case from number answer backed doing does None is = quietly
      where
        quietly : Refines decl (after_client net a (by_front (net.clients a) (moved (net.clients a).front quiet)))
        quietly =
            nothing decl acts net a (by_front (net.clients a) (moved (net.clients a).front quiet)) run m client up refl
            refl refl
    takes_case from number answer backed Idle does (Some t) is =
        nothing decl acts net a (by_front (net.clients a) (moved (net.clients a).front quiet)) run m client up refl refl
        refl
    takes_case from number answer backed (Reading object inv calls round) does (Some t) is =
        by (site_called calls number) refl
      where
        by : (o : Option ℕ) → site_called calls number ≡ o
            → Refines decl
            (after_client net a
            (by_front (net.clients a)
            (reading_takes decl (net.clients a).front t object inv calls round number answer o)))
        by None none =
            nothing decl acts net a (by_front (net.clients a) (moved (net.clients a).front quiet)) run m client up refl
            refl refl
        by (Some site) called =
            read_case decl acts net a run m client up stands free from number t object inv calls round answer is does
            backed site called
    takes_case from number answer backed (Appending object inv event calls round) does (Some t) is =
        by (site_called calls number) refl
      where
        by : (o : Option ℕ) → site_called calls number ≡ o
            → Refines decl
            (after_client net a
            (by_front (net.clients a)
            (appending_takes decl (net.clients a).front t object inv event calls round number answer o)))
        by None none =
            nothing decl acts net a (by_front (net.clients a) (moved (net.clients a).front quiet)) run m client up refl
            refl refl
        by (Some site) called =
            append_case decl acts net a run m client up stands free from number t object inv event calls round answer is
            does backed site called
