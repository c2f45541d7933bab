-- What a desk learns, as the greater of two numbers.
use Rattle.std.proofs.Common.{◌≡◌, ◌≤◌, ℕ, max, Option, Some, None, sym, ap, arith}
use Rattle.std.proofs.Math.Nat.{max-zero}
use Rattle.qc_msg.specs.declared.message.Answer.{Answer}
use Rattle.qc_msg.specs.declared.message.Answer.TheVariants as answers
use Rattle.qc_commit.specs.declared.desk.Desk.{Desk}
use Rattle.qc_commit.specs.Vocabulary.{closed, learns, promised}

same_desk : (desk : Desk) (clock epoch : ℕ) → clock ≡ desk.clock.value → epoch ≡ desk.epoch
    → desk ≡ record desk { clock = record { value = clock }; epoch = epoch }
same_desk desk clock epoch c e = λ i. record {
  client = desk.client;
  clock = record { value = sym c i };
  epoch = sym e i;
  commits = desk.commits;
  voting = desk.voting;
}

nothing : (desk : Desk) → desk ≡ record desk
    { clock = record { value = max desk.clock.value 0 }; epoch = max desk.epoch 0 }
nothing desk = same_desk desk (max desk.clock.value 0) (max desk.epoch 0) (max-zero desk.clock.value)
    (max-zero desk.epoch)

-- the clock passes that of a promise, and the known epoch that of a closed one
pub learns_both : (desk : Desk) (answer : Option Answer)
    → learns desk answer ≡ record desk {
      clock = record { value = max desk.clock.value (promised answer) };
      epoch = max desk.epoch (closed answer);
    }
learns_both desk None = nothing desk
learns_both desk (Some (answers.Granted grant)) = nothing desk
learns_both desk (Some (answers.Clash holder inv event)) = nothing desk
learns_both desk (Some (answers.Closed epoch)) =
    λ i. record {
      client = desk.client;
      clock = record { value = sym (max-zero desk.clock.value) i };
      epoch = max desk.epoch epoch;
      commits = desk.commits;
      voting = desk.voting;
    }
learns_both desk (Some (answers.Behind epoch)) = nothing desk
learns_both desk (Some (answers.Restarted life)) = nothing desk
learns_both desk (Some answers.Stale) = nothing desk
learns_both desk (Some answers.Fault) = nothing desk
learns_both desk (Some (answers.Yes clock)) =
    λ i. record {
      client = desk.client;
      clock = record { value = max desk.clock.value clock };
      epoch = sym (max-zero desk.epoch) i;
      commits = desk.commits;
      voting = desk.voting;
    }
learns_both desk (Some (answers.Shut snapshot)) = nothing desk
learns_both desk (Some answers.Installed) = nothing desk
learns_both desk (Some (answers.Answered verdict)) = nothing desk

-- each part of what a desk is then

pub learned-clock : (desk : Desk) (answer : Option Answer)
    → (learns desk answer).clock.value ≡ max desk.clock.value (promised answer)
learned-clock desk answer = ap (λ (d : Desk). d.clock.value) (learns_both desk answer)

pub learned-client : (desk : Desk) (answer : Option Answer) → (learns desk answer).client ≡ desk.client
learned-client desk answer = ap (λ (d : Desk). d.client) (learns_both desk answer)

pub learned-commits : (desk : Desk) (answer : Option Answer) → (learns desk answer).commits ≡ desk.commits
learned-commits desk answer = ap (λ (d : Desk). d.commits) (learns_both desk answer)

pub learned-above : (desk : Desk) (answer : Option Answer) → desk.clock.value ≤ (learns desk answer).clock.value
learned-above desk answer = let is : (learns desk answer).clock.value ≡ max desk.clock.value (promised answer) =
    learned-clock desk answer in omega arith
