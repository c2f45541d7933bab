-- What is read of what comes of a request, case by case, and what a front end makes of it.
use Rattle.std.proofs.Common.{◌≡◌, ℕ, List, Option, Some, None, refl}
use Rattle.std.specs.Prelude.{option_and_then}
use Rattle.std.specs.Option.{option_map_or}
use Rattle.qc_plan.specs.declared.standing.Standing.{Standing}
use Rattle.qc_plan.specs.declared.standing.Standing.TheVariants as standings
use Rattle.qc_decl.specs.declared.declaration.Declaration.{Declaration}
use Rattle.qc_msg.specs.declared.begun.Begun.{Begun}
use Rattle.qc_msg.specs.declared.message.Answer.{Answer}
use Rattle.qc_msg.specs.declared.message.Answer.TheVariants as answers
use Rattle.qc_msg.specs.declared.message.Envelope.{Envelope}
use Rattle.qc_msg.specs.declared.message.Outcome.{Outcome}
use Rattle.qc_msg.specs.declared.payload.Grant.{Grant}
use Rattle.qc_msg.specs.declared.payload.Snapshot.{Snapshot}
use Rattle.qc_msg.specs.Vocabulary.{Clashing, clash_in, closed_in, granted_in, promised_in, shut_in, verdict_in}
use Rattle.theory_machine.specs.Vocabulary.{State}
use Rattle.qc_commit.specs.declared.ballot.Vote.TheVariants.{For}
use Rattle.qc_commit.specs.Vocabulary.{vote_of}
use Rattle.qc_epoch.specs.Vocabulary.{ShutSite, with_shut_of}
use Rattle.qc_front.specs.declared.front.Front.{Front}
use Rattle.qc_front.specs.declared.transaction.Transaction.{Transaction}
use Rattle.qc_front.specs.Vocabulary.{appended_with, learns, lived, read_with, standing_of, with_granted}
use Rattle.laws_refinement.proofs.OpenRequests.{AnswerBacked}

-- what tells none of these: a vote against the commit, no closed site's part, backed by nothing
pub record IsPlain (x : Option Answer) : Type 0 where
  pub no_vote : (b : Begun) (site : ℕ) → vote_of b site x ≡ For → ⊥
  pub not_shut : (shuts : List ShutSite) (site : ℕ) → with_shut_of shuts site x ≡ shuts
  pub backed : (decl : Declaration) (w : State) (ms : List Envelope) (from number : ℕ)
      → AnswerBacked decl w ms from number x

-- a grant, a closed epoch, a promise, what a closed site tells, how a transaction stands, or none of these
pub answer_cases : (P : Option Answer → Option Grant → Option ℕ → Option ℕ → Option Snapshot → Option Outcome → Type 0)
    → ((grant : Grant) → P (Some (answers.Granted grant)) (Some grant) None None None None)
    → ((epoch : ℕ) → P (Some (answers.Closed epoch)) None (Some epoch) None None None)
    → ((clock : ℕ) → P (Some (answers.Yes clock)) None None (Some clock) None None)
    → ((snapshot : Snapshot) → P (Some (answers.Shut snapshot)) None None None (Some snapshot) None)
    → ((verdict : Outcome) → P (Some (answers.Answered verdict)) None None None None (Some verdict))
    → ((x : Option Answer) → IsPlain x → P x None None None None None) → (x : Option Answer)
    → P x (option_and_then granted_in x) (option_and_then closed_in x) (option_and_then promised_in x)
    (option_and_then shut_in x) (option_and_then verdict_in x)
answer_cases P grants closes votes shuts tells rest None =
    rest None (record {
      no_vote = λ b site e. (let never : ⊥ = cc in never);
      not_shut = λ shuts site. refl;
      backed = λ decl w ms from number. tt;
    })
answer_cases P grants closes votes shuts tells rest (Some (answers.Granted grant)) = grants grant
answer_cases P grants closes votes shuts tells rest (Some (answers.Clash holder inv event)) =
    rest (Some (answers.Clash holder inv event)) (record {
      no_vote = λ b site e. (let never : ⊥ = cc in never);
      not_shut = λ shuts site. refl;
      backed = λ decl w ms from number. tt;
    })
answer_cases P grants closes votes shuts tells rest (Some (answers.Closed epoch)) = closes epoch
answer_cases P grants closes votes shuts tells rest (Some (answers.Behind epoch)) =
    rest (Some (answers.Behind epoch)) (record {
      no_vote = λ b site e. (let never : ⊥ = cc in never);
      not_shut = λ shuts site. refl;
      backed = λ decl w ms from number. tt;
    })
answer_cases P grants closes votes shuts tells rest (Some (answers.Restarted life)) =
    rest (Some (answers.Restarted life)) (record {
      no_vote = λ b site e. (let never : ⊥ = cc in never);
      not_shut = λ shuts site. refl;
      backed = λ decl w ms from number. tt;
    })
answer_cases P grants closes votes shuts tells rest (Some answers.Stale) =
    rest (Some answers.Stale) (record {
      no_vote = λ b site e. (let never : ⊥ = cc in never);
      not_shut = λ shuts site. refl;
      backed = λ decl w ms from number. tt;
    })
answer_cases P grants closes votes shuts tells rest (Some answers.Fault) =
    rest (Some answers.Fault) (record {
      no_vote = λ b site e. (let never : ⊥ = cc in never);
      not_shut = λ shuts site. refl;
      backed = λ decl w ms from number. tt;
    })
answer_cases P grants closes votes shuts tells rest (Some (answers.Yes clock)) = votes clock
answer_cases P grants closes votes shuts tells rest (Some (answers.Shut snapshot)) = shuts snapshot
answer_cases P grants closes votes shuts tells rest (Some answers.Installed) =
    rest (Some answers.Installed) (record {
      no_vote = λ b site e. (let never : ⊥ = cc in never);
      not_shut = λ shuts site. refl;
      backed = λ decl w ms from number. tt;
    })
answer_cases P grants closes votes shuts tells rest (Some (answers.Answered verdict)) = tells verdict

-- a front end learns from a grant and from a closed epoch; all else is no grant
pub learned_cases : (front : Front) (t : Transaction) (site object : ℕ)
    (P : Option Answer → Front → Transaction → Transaction → Standing → Type 0)
    → ((g : Grant)
    → P (Some (answers.Granted g)) (learns front (Some (answers.Granted g)))
    (with_granted (lived t site g.life) object g.log) (lived t site g.life) standings.Granted)
    → ((epoch : ℕ)
    → P (Some (answers.Closed epoch)) (learns front (Some (answers.Closed epoch))) t t (standings.Closed epoch))
    → ((x : Option Answer) (standing : Standing) → (standing ≡ standings.Granted → ⊥) → P x front t t standing)
    → (x : Option Answer)
    → P x (learns front x) (read_with t site object x) (appended_with t site x) (standing_of x)
learned_cases front t site object P grants closes rest x =
    answer_cases (λ y g closed promised shut told. P y
    (option_map_or (λ (a : Grant). learns front (Some (answers.Granted a))) g
    (option_map_or (λ (epoch : ℕ). learns front (Some (answers.Closed epoch))) closed front))
    (option_map_or (λ (a : Grant). with_granted (lived t site a.life) object a.log) g t)
    (option_map_or (λ (a : Grant). lived t site a.life) g t)
    (option_map_or (λ (a : Grant). standings.Granted) g
    (option_map_or (λ (c : Clashing). standings.Clash c.holder) (option_and_then clash_in y)
    (option_map_or standings.Closed closed standings.Missing))))
    grants closes (λ clock. missing (Some (answers.Yes clock)) None)
    (λ snapshot. missing (Some (answers.Shut snapshot)) None)
    (λ verdict. missing (Some (answers.Answered verdict)) None) (λ y plain. missing y (option_and_then clash_in y)) x
  where
    missing : (y : Option Answer) (o : Option Clashing)
        → P y front t t (option_map_or (λ (c : Clashing). standings.Clash c.holder) o standings.Missing)
    missing y None = rest y standings.Missing (λ e. (let never : ⊥ = cc in never))
    missing y (Some c) = rest y (standings.Clash c.holder) (λ e. (let never : ⊥ = cc in never))
