-- What is read of what is taken for a request, case by case: it is a grant, a closed epoch or a promise, or none of
-- these. So an account, and a front end, learn of it.
use Rattle.std.proofs.Common.{ℕ, max, Option, Some, None}
use Rattle.std.specs.Prelude.{option_and_then}
use Rattle.std.specs.Option.{option_map_or}
use Rattle.qc_front.specs.declared.front.Front.{Front}
use Rattle.qc_msg.specs.declared.message.Answer.{Answer}
use Rattle.qc_msg.specs.declared.message.Answer.TheVariants as answers
use Rattle.qc_msg.specs.declared.message.Want.{Want}
use Rattle.qc_msg.specs.declared.payload.Grant.{Grant}
use Rattle.qc_msg.specs.Vocabulary.{closed_in, granted_in, promised_in}
use Rattle.qc_promise.specs.Vocabulary.{Account, granted, promised}

abbrev pub told_of : Account → ℕ → Want → Option Grant → Option ℕ → Option ℕ → Account
told_of d site want grant closed promise =
    option_map_or (λ (g : Grant). granted d site g want) grant
    (option_map_or (λ (epoch : ℕ). record d { known = max d.known epoch }) closed
    (option_map_or (λ (clock : ℕ). promised d clock want) promise d))

abbrev pub learned_of : Front → Option Grant → Option ℕ → Front
learned_of front grant closed =
    option_map_or (λ (g : Grant). record front { clock = record { value = max front.clock.value g.clock } }) grant
    (option_map_or (λ (epoch : ℕ). record front { epoch = max front.epoch epoch }) closed front)

pub taken_cases : (P : Option Answer → Option Grant → Option ℕ → Option ℕ → Type 0)
    → ((answer : Option Answer) → P answer None None None)
    → ((g : Grant) → P (Some (answers.Granted g)) (Some g) None None)
    → ((epoch : ℕ) → P (Some (answers.Closed epoch)) None (Some epoch) None)
    → ((clock : ℕ) → P (Some (answers.Yes clock)) None None (Some clock)) → (answer : Option Answer)
    → P answer (option_and_then granted_in answer) (option_and_then closed_in answer)
    (option_and_then promised_in answer)
taken_cases P rest grants closes promises None = rest None
taken_cases P rest grants closes promises (Some (answers.Granted g)) = grants g
taken_cases P rest grants closes promises (Some (answers.Clash holder inv event)) =
    rest (Some (answers.Clash holder inv event))
taken_cases P rest grants closes promises (Some (answers.Closed epoch)) = closes epoch
taken_cases P rest grants closes promises (Some (answers.Behind epoch)) = rest (Some (answers.Behind epoch))
taken_cases P rest grants closes promises (Some (answers.Restarted life)) = rest (Some (answers.Restarted life))
taken_cases P rest grants closes promises (Some answers.Stale) = rest (Some answers.Stale)
taken_cases P rest grants closes promises (Some answers.Fault) = rest (Some answers.Fault)
taken_cases P rest grants closes promises (Some (answers.Yes clock)) = promises clock
taken_cases P rest grants closes promises (Some (answers.Shut snapshot)) = rest (Some (answers.Shut snapshot))
taken_cases P rest grants closes promises (Some answers.Installed) = rest (Some answers.Installed)
taken_cases P rest grants closes promises (Some (answers.Answered verdict)) = rest (Some (answers.Answered verdict))
