-- A client that runs a transaction and waits for no votes: its core, and what its records hold.
use Rattle.std.proofs.Common.{◌≡◌, ℕ, List, Option, Some, None, refl, ◌∙◌, subst}
use Rattle.qc_decl.specs.declared.declaration.Declaration.{Declaration}
use Rattle.qc_msg.specs.declared.message.Envelope.{Envelope}
use Rattle.theory_machine.specs.Vocabulary.{Active, State}
use Rattle.qc_commit.specs.declared.desk.Voting.{Voting}
use Rattle.qc_front.specs.declared.front.Front.{Front}
use Rattle.qc_front.specs.declared.transaction.Transaction.{Transaction}
use Rattle.qc_front.specs.Vocabulary.{BegunHolds, DoingHolds, FrontHolds, RecordsHold}
use Rattle.qc_client.specs.declared.client.Client.{Client}
use Rattle.laws_refinement.specs.Vocabulary.{BegunMirrors, ClientMirrors, OwnMirrors, RunningMirrors}
use Rattle.laws_refinement.specs.Vocabulary.{TransactionMirrors, status_by}
use Rattle.laws_refinement.proofs.ClientSteps.{Core}

module _ (decl : Declaration) where
  no_votes : (o : Option Voting) → o ≡ None → status_by o ≡ Active
  no_votes None is = refl
  no_votes (Some v) is = absurd (let never : ⊥ = cc in never)

  pub core_of : (w : State) (ms : List Envelope) (a : ℕ) (c : Client) (t : Transaction) → ClientMirrors decl w ms a c
      → c.front.transaction ≡ Some t → c.desk.voting ≡ None → Core decl w a c t × RunningMirrors decl w ms c t
  core_of w ms a c t m is free =
      let h : TransactionMirrors w c.front t × RunningMirrors decl w ms c t =
      subst (λ (x : Option Transaction). BegunMirrors decl w ms c x) is m.begun in (
        record {
          own = subst (λ (x : Option Transaction). OwnMirrors decl w a c x) is m.own;
          begun = h.0;
          active = h.1.status_is ∙ no_votes c.desk.voting free;
          voting = free;
        },
        h.1,
      )

  pub records_of : (f : Front) (t : Transaction) → FrontHolds decl f → f.transaction ≡ Some t
      → RecordsHold decl t.views t.own t.begun.ops × DoingHolds decl f.client t f.doing
  records_of f t holds is = subst (λ (x : Option Transaction). BegunHolds decl f.client x f.doing) is holds
