-- A commit's requests for promises: the machine may be asked for each, and each is of what the client runs.
use Rattle.std.proofs.Common.{◌≡◌, ℕ, true, inl, inr, List, [], ◌∷◌, map, Some, refl, sym, ap, ◌∙◌, subst}
use Rattle.qc_list.specs.Vocabulary.{In}
use Rattle.qc_decl.specs.declared.declaration.Declaration.{Declaration}
use Rattle.qc_decl.specs.Vocabulary.{client_actor}
use Rattle.qc_msg.specs.declared.begun.Begun.{Begun}
use Rattle.qc_msg.specs.declared.message.Envelope.{Envelope}
use Rattle.qc_msg.specs.declared.turn.Posting.{Posting}
use Rattle.qc_msg.specs.Vocabulary.{has_granted, life_of}
use Rattle.theory_machine.specs.Vocabulary.{MayPrepare, NotBegun, State, Voting}
use Rattle.qc_commit.specs.declared.desk.Voting.{Voting as DeskVoting}
use Rattle.qc_commit.specs.Vocabulary.{prepares}
use Rattle.qc_front.specs.declared.transaction.Transaction.{Transaction}
use Rattle.qc_client.specs.declared.client.Client.{Client}
use Rattle.laws_refinement.specs.Vocabulary.{Backed, LivesMirror}
use Rattle.laws_refinement.proofs.RequestsSent.{IsAsking}

module _ (decl : Declaration) where
  pub prepares_backed : (v : State) (ms : List Envelope) (a : ℕ) (b : Begun) (sites : List ℕ)
      → a ≡ client_actor decl b.tx.client → v.status b.tx ≡ Voting → b.epoch ≡ v.epoch b.tx
      → LivesMirror v.counted b.tx b.lives → ((s : ℕ) → In s sites → has_granted b.lives s ≡ true) → (p : Posting)
      → In p (map (prepares b) sites) → Backed decl v ms a p.to p.message
  prepares_backed v ms a b [] actor voting epoch lives all p among = absurd among
  prepares_backed v ms a b (site ∷ sites) actor voting epoch lives all p (inl same) =
      subst (λ (x : Posting). Backed decl v ms a x.to x.message) (sym same) (
        actor,
        (λ e. (let k : Voting ≡ NotBegun = sym voting ∙ e in let never : ⊥ = cc in never)),
        epoch,
        (
          subst MayPrepare (sym voting) tt,
          lives.positive site (all site (inl refl)),
          (λ g among its at. lives.each g among its ∙ ap (λ (s : ℕ). life_of b.lives s) at),
        ),
      )
  prepares_backed v ms a b (site ∷ sites) actor voting epoch lives all p (inr rest) =
      prepares_backed v ms a b sites actor voting epoch lives (λ s h. all s (inr h)) p rest

  pub prepares_asking : (c : Client) (t : Transaction) (v : DeskVoting) (sites : List ℕ) → c.front.transaction ≡ Some t
      → c.desk.voting ≡ Some v → (p : Posting) → In p (map (prepares t.begun) sites) → IsAsking decl c p.to p.message
  prepares_asking c t v [] is votes p among = absurd among
  prepares_asking c t v (site ∷ sites) is votes p (inl same) =
      subst (λ (x : Posting). IsAsking decl c x.to x.message) (sym same)
      (record { t = t; is = is; its = refl; epoch_is = refl; life_is = refl; for = (v, votes) })
  prepares_asking c t v (site ∷ sites) is votes p (inr rest) = prepares_asking c t v sites is votes p rest
