-- Answers of a site that has forgotten a transaction.
use Rattle.std.proofs.Common.{◌≡◌, ℕ, Option, Some, ap}
use Rattle.qc_msg.specs.declared.message.Answer.{Answer}
use Rattle.qc_msg.specs.declared.message.Answer.TheVariants as answers
use Rattle.qc_msg.specs.declared.message.Message.{Message}
use Rattle.qc_msg.specs.declared.message.Message.TheVariants as messages
use Rattle.std.specs.Prelude.{option_map}
use Rattle.qc_msg.specs.Vocabulary.{Answered, answer_in as answered_in}

-- the answers that count as against a promise because the site has forgotten the transaction
abbrev pub Forgets : Answer → Type 0
Forgets (answers.Granted grant) = Unit {0}
Forgets (answers.Clash holder inv event) = Unit {0}
Forgets (answers.Closed epoch) = ⊥
Forgets (answers.Behind epoch) = Unit {0}
Forgets (answers.Restarted life) = ⊥
Forgets answers.Stale = Unit {0}
Forgets answers.Fault = ⊥
Forgets (answers.Yes clock) = ⊥
Forgets (answers.Shut snapshot) = Unit {0}
Forgets answers.Installed = Unit {0}
Forgets (answers.Answered verdict) = Unit {0}

-- what is answered, and under which number

abbrev pub answer_in : Message → Option Answer
answer_in m = option_map (λ (a : Answered). a.answer) (answered_in m)

abbrev number_in : Message → Option ℕ
number_in m = option_map (λ (a : Answered). a.to) (answered_in m)

pub same_answer : (n m : ℕ) (a b : Answer) → messages.Answer n a ≡ messages.Answer m b → (n ≡ m) × (a ≡ b)
same_answer n m a b same =
    let numbers : Some n ≡ Some m = ap number_in same in
    let told : Some a ≡ Some b = ap answer_in same in
    ((let is : n ≡ m = cc in is), (let is : a ≡ b = cc in is))
