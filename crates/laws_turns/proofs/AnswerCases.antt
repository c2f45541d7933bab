-- What a front end learns from an answer, case by case: its clock, its epoch, the lives of its transaction.
use Rattle.std.proofs.Common.{ℕ, List, Option, sym, subst}
use Rattle.std.specs.Prelude.{max, option_and_then, option_map, slice_get}
use Rattle.std.specs.Option.{option_map_or}
use Rattle.qc_msg.specs.declared.begun.Begun.{Begun}
use Rattle.qc_msg.specs.declared.begun.LifeAt.{LifeAt}
use Rattle.qc_msg.specs.declared.message.Answer.{Answer}
use Rattle.qc_msg.specs.Vocabulary.{closed_in, granted_in, with_life}
use Rattle.qc_msg.specs.declared.payload.Grant.{Grant}
use Rattle.qc_view.specs.declared.view.View.{View}
use Rattle.qc_view.specs.Vocabulary.{with_log}
use Rattle.qc_front.specs.declared.front.Front.{Front}
use Rattle.qc_front.specs.declared.transaction.Transaction.{Transaction}
use Rattle.qc_front.specs.Vocabulary.{appended_with, learns, lived, read_with, with_granted}
use Rattle.qc_front.proofs.CommandsKeep.{view_keeps}
use Rattle.laws_turns.proofs.ReadingCases.{mapped}

pub learned_cases : (front : Front) (P : Front → Type 0)
    → ((clock : ℕ) → P (record front { clock = record { value = max front.clock.value clock } }))
    → ((epoch : ℕ) → P (record front { epoch = max front.epoch epoch })) → P front → (answer : Option Answer)
    → P (learns front answer)
learned_cases front P granted closed none answer =
    mapped P (λ (g : Grant). record front { clock = record { value = max front.clock.value g.clock } })
    (option_map_or (λ (epoch : ℕ). record front { epoch = max front.epoch epoch }) (option_and_then closed_in answer)
    front)
    (option_and_then granted_in answer) (λ g. granted g.clock)
    (mapped P (λ (epoch : ℕ). record front { epoch = max front.epoch epoch }) front (option_and_then closed_in answer)
    closed none)

-- of what was begun, the lives alone change

pub read_cases : (t : Transaction) (site object : ℕ) (P : Begun → Type 0)
    → ((lives : List LifeAt) → P (record t.begun { lives = lives })) → (answer : Option Answer)
    → P (read_with t site object answer).begun
read_cases t site object P each answer =
    mapped (λ (u : Transaction). P u.begun) (λ (g : Grant). with_granted (lived t site g.life) object g.log) t
    (option_and_then granted_in answer)
    (λ g. subst P
    (sym (view_keeps (lived t site g.life) object
    (option_map (λ (v : View). with_log v g.log) (slice_get t.views object))))
    (each (with_life t.begun.lives site g.life))) (each t.begun.lives)

pub appended_cases : (t : Transaction) (site : ℕ) (P : Transaction → Type 0)
    → ((lives : List LifeAt) → P (record t { begun = record t.begun { lives = lives } })) → (answer : Option Answer)
    → P (appended_with t site answer)
appended_cases t site P each answer =
    mapped P (λ (g : Grant). lived t site g.life) t (option_and_then granted_in answer)
    (λ g. each (with_life t.begun.lives site g.life)) (each t.begun.lives)
