use Rattle.std.proofs.Common.{◌≡◌, ℕ, List, map, ap, ◌∙◌}
use Rattle.qc_plan.specs.Vocabulary.{RoundState, asking_all, wanted}
use Rattle.qc_msg.specs.declared.message.Want.{Want}
use Rattle.qc_msg.specs.declared.turn.Turn.{Turn}
use Rattle.qc_msg.specs.Vocabulary.{sending}
use Rattle.qc_front.specs.declared.doing.Doing.TheVariants.{Appending}
use Rattle.qc_front.specs.declared.draft.Draft.{Draft}
use Rattle.qc_front.specs.declared.next.Next.{Next}
use Rattle.qc_front.specs.Drafts.{asked_draft}
use Rattle.qc_front.specs.Vocabulary.{append_want_of, request_of}
use Rattle.qc_front.proofs.appending.ask_to_append.Goals as goal

pub returns : goal.returns
returns c =
    let sites : List ℕ = wanted c.args.open_round.round in
    let asks : Want → Turn = λ want. sending (map (request_of c.args.draft.begun (λ site. want)) sites) in
    let made : Draft → RoundState → Turn → Next = λ draft round turn. record {
      draft = draft;
      doing = Appending c.args.draft.object c.args.inv c.args.event c.args.open_round.calls round;
      turn = turn;
    } in
    let same : asks c.in_ok-want.want ≡ asks (append_want_of c.args.decl.now c.args.draft c.args.event 0) =
    ap asks (c.in_ok-want.ensures 0) in
    ap (λ (draft : Draft). made draft c.ask.new.round c.in_ok-turn.turn) c.in_ok-turn.ensures.draft
    ∙ ap (λ (round : RoundState). made (asked_draft c.args.draft sites) round c.in_ok-turn.turn)
    c.in_ok-turn.ensures.round
    ∙ ap (made (asked_draft c.args.draft sites) (asking_all c.args.open_round.round sites))
    (c.in_ok-turn.ensures.turn ∙ same)
