-- What a desk learns leaves the rest of it; a vote for the commit was voted.
use Rattle.std.specs.Option.{option_map_or}
use Rattle.std.proofs.Common.{◌≡◌, ◌≤◌, max, ℕ, List, Option, refl, sym, subst, arith}
use Rattle.qc_stamp.specs.declared.stamp.TxId.{TxId}
use Rattle.qc_list.specs.Vocabulary.{In}
use Rattle.qc_decl.specs.declared.declaration.Declaration.{Declaration}
use Rattle.qc_msg.specs.declared.begun.Begun.{Begun}
use Rattle.qc_msg.specs.declared.message.Answer.{Answer}
use Rattle.qc_msg.specs.declared.message.Envelope.{Envelope}
use Rattle.qc_msg.specs.declared.message.Want.TheVariants as wants
use Rattle.theory_machine.specs.Vocabulary.{State}
use Rattle.qc_commit.specs.declared.ballot.Vote.TheVariants.{For}
use Rattle.qc_commit.specs.declared.desk.Desk.{Desk}
use Rattle.qc_commit.specs.Vocabulary.{learns, passed, vote_of}
use Rattle.laws_refinement.specs.Vocabulary.{IsPlanned, IsRequest}
use Rattle.laws_refinement.proofs.AnswerCases.{answer_cases}
use Rattle.laws_refinement.proofs.Planned.{planned_max}
use Rattle.laws_refinement.proofs.OpenRequests.{AnswerBacked, one_request}

-- what a desk learns leaves the rest of it, where nobody has closed
pub record Left (decl : Declaration) (desk next : Desk) : Type 0 where
  pub client : next.client ≡ desk.client
  pub epoch : IsPlanned decl desk.epoch → IsPlanned decl next.epoch
  pub commits : next.commits ≡ desk.commits
  pub later : desk.clock.value ≤ next.clock.value

module _ (decl : Declaration) where
  pub left_of : (w : State) (ms : List Envelope) (from number : ℕ) (desk : Desk) (answer : Option Answer)
      → AnswerBacked decl w ms from number answer → Left decl desk (learns desk answer)
  left_of w ms from number desk =
      answer_cases (λ x grant closed promised shut verdict. AnswerBacked decl w ms from number x
      → Left decl desk (option_map_or (λ (epoch : ℕ). record desk { epoch = max desk.epoch epoch }) closed
      (option_map_or (passed desk) promised desk)))
      (λ grant bk. still)
      (λ epoch bk. record {
        client = refl;
        epoch = λ p. planned_max decl desk.epoch epoch p bk;
        commits = refl;
        later = omega arith;
      })
      (λ clock bk. record { client = refl; epoch = λ p. p; commits = refl; later = omega arith }) (λ snapshot bk. still)
      (λ verdict bk. still) (λ x plain bk. still)
    where
      still : Left decl desk desk
      still = record { client = refl; epoch = λ p. p; commits = refl; later = omega arith }

  -- a vote for the commit was voted
  pub voted : (w : State) (ms : List Envelope) (from number site : ℕ) (b : Begun) (tx : TxId) (answer : Option Answer)
      → AnswerBacked decl w ms from number answer → IsRequest ms number site tx wants.Prepare
      → vote_of b site answer ≡ For → In (record { tx = tx; site = site }) w.votes
  voted w ms from number site b tx =
      answer_cases (λ x grant closed promised shut verdict. AnswerBacked decl w ms from number x
      → IsRequest ms number site tx wants.Prepare → vote_of b site x ≡ For
      → In (record { tx = tx; site = site }) w.votes)
      (λ grant bk r e. absurd (let never : ⊥ = cc in never)) (λ epoch bk r e. absurd (let never : ⊥ = cc in never))
      (λ clock bk r e. (let one : (tx ≡ bk.tx) × (site ≡ from) × (wants.Prepare ≡ wants.Prepare) =
      one_request ms number site from tx bk.tx wants.Prepare wants.Prepare r bk.request in
      subst (λ (s : ℕ). In (record { tx = tx; site = s }) w.votes) (sym one.1)
      (subst (λ (u : TxId). In (record { tx = u; site = from }) w.votes) (sym one.0) bk.vote)))
      (λ snapshot bk r e. absurd (let never : ⊥ = cc in never))
      (λ verdict bk r e. absurd (let never : ⊥ = cc in never)) (λ x plain bk r e. absurd (plain.no_vote b site e))
