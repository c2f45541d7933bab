-- What an answer that counts, or a lost request, comes to: for the round, the client's clock and epoch, and the
-- transaction.
use Rattle.std.specs.Prelude.{option_and_then, ℕ, max, Option}
use Rattle.std.specs.Option.{option_map_or}
use Rattle.qc_plan.specs.declared.standing.Standing.{Standing}
use Rattle.qc_plan.specs.declared.standing.Standing.TheVariants as standings
use Rattle.qc_msg.specs.declared.message.Answer.{Answer}
use Rattle.qc_msg.specs.Vocabulary.{with_life, Clashing, clash_in, closed_in, granted_in}
use Rattle.qc_msg.specs.declared.payload.Grant.{Grant}
use Rattle.qc_front.specs.declared.front.Front.{Front}
use Rattle.qc_front.specs.declared.transaction.Transaction.{Transaction}
use Rattle.qc_front.specs.Answering.{with_granted}

-- for the round: a site that neither grants, nor clashes, nor is closed, is missing
abbrev pub standing_of : Option Answer → Standing
standing_of answer =
    option_map_or (λ (x : Grant). standings.Granted) (option_and_then granted_in answer)
    (option_map_or (λ (c : Clashing). standings.Clash c.holder) (option_and_then clash_in answer)
    (option_map_or standings.Closed (option_and_then closed_in answer) standings.Missing))

-- for the client: its clock passes that of a grant (Lamport 1978), its known epoch that of a closed one
abbrev pub learns : Front → Option Answer → Front
learns front answer =
    option_map_or (λ (g : Grant). record front { clock = record { value = max front.clock.value g.clock } })
    (option_and_then granted_in answer)
    (option_map_or (λ (epoch : ℕ). record front { epoch = max front.epoch epoch }) (option_and_then closed_in answer)
    front)

-- for the transaction: the first grant of a site tells its life; a grant to a Read of an object joins its view

abbrev pub lived : Transaction → ℕ → ℕ → Transaction
lived t site life = record t { begun = record t.begun { lives = with_life t.begun.lives site life } }

abbrev pub read_with : Transaction → ℕ → ℕ → Option Answer → Transaction
read_with t site object answer =
    option_map_or (λ (g : Grant). with_granted (lived t site g.life) object g.log)
    (option_and_then granted_in answer) t

abbrev pub appended_with : Transaction → ℕ → Option Answer → Transaction
appended_with t site answer =
    option_map_or (λ (g : Grant). lived t site g.life) (option_and_then granted_in answer) t
