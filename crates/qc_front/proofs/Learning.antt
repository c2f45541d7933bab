-- What a client learns of an answer decides nothing of its turn: it may learn it before or after.
use Rattle.std.proofs.Common.{◌≡◌, ℕ, List, [], Option, Some, None, refl, ap, ◌∙◌}
use Rattle.qc_decl.specs.declared.declaration.Declaration.{Declaration}
use Rattle.qc_decl.specs.Vocabulary.{append_need_of, first_site}
use Rattle.qc_msg.specs.declared.call.Call.{Call}
use Rattle.qc_msg.specs.declared.message.Answer.{Answer}
use Rattle.qc_msg.specs.declared.message.Answer.TheVariants as answers
use Rattle.qc_msg.specs.declared.turn.Turn.{Turn}
use Rattle.qc_plan.specs.Vocabulary.{RoundState, start, verdict}
use Rattle.qc_plan.specs.declared.standing.Verdict.{Verdict}
use Rattle.qc_plan.specs.declared.standing.Verdict.TheVariants as verdicts
use Rattle.qc_front.specs.declared.doing.Doing.{Doing}
use Rattle.qc_front.specs.declared.front.Front.{Front}
use Rattle.qc_front.specs.declared.transaction.Transaction.{Transaction}
use Rattle.qc_front.specs.Vocabulary.{FrontMove, answer_of, answered, append_by, appends, learns, moved, read_by, reads}
use Rattle.qc_front.specs.Vocabulary.{round_for, turned, weights_of}

-- the move, and then the answer is learned
abbrev pub learned : Option Answer → FrontMove → FrontMove
learned answer move = moved (learns move.front answer) move.turn

pub client_kept : (front : Front) (answer : Option Answer) → (learns front answer).client ≡ front.client
client_kept front None = refl
client_kept front (Some (answers.Granted grant)) = refl
client_kept front (Some (answers.Clash holder inv event)) = refl
client_kept front (Some (answers.Closed epoch)) = refl
client_kept front (Some (answers.Behind epoch)) = refl
client_kept front (Some (answers.Restarted life)) = refl
client_kept front (Some answers.Stale) = refl
client_kept front (Some answers.Fault) = refl
client_kept front (Some (answers.Yes clock)) = refl
client_kept front (Some (answers.Shut snapshot)) = refl
client_kept front (Some answers.Installed) = refl
client_kept front (Some (answers.Answered verdict)) = refl

turned_learns : (front : Front) (answer : Option Answer) (transaction : Option Transaction) (doing : Doing)
    → turned (learns front answer) transaction doing ≡ learns (turned front transaction doing) answer
turned_learns front None transaction doing = refl
turned_learns front (Some (answers.Granted grant)) transaction doing = refl
turned_learns front (Some (answers.Clash holder inv event)) transaction doing = refl
turned_learns front (Some (answers.Closed epoch)) transaction doing = refl
turned_learns front (Some (answers.Behind epoch)) transaction doing = refl
turned_learns front (Some (answers.Restarted life)) transaction doing = refl
turned_learns front (Some answers.Stale) transaction doing = refl
turned_learns front (Some answers.Fault) transaction doing = refl
turned_learns front (Some (answers.Yes clock)) transaction doing = refl
turned_learns front (Some (answers.Shut snapshot)) transaction doing = refl
turned_learns front (Some answers.Installed) transaction doing = refl
turned_learns front (Some (answers.Answered verdict)) transaction doing = refl

turns_learn : (front : Front) (answer : Option Answer) (transaction : Option Transaction) (doing : Doing) (turn : Turn)
    → moved (turned (learns front answer) transaction doing) turn ≡ learned answer
    (moved (turned front transaction doing) turn)
turns_learn front answer transaction doing turn =
    ap (λ (f : Front). moved f turn) (turned_learns front answer transaction doing)

append_by_learns : (decl : Declaration) (front : Front) (answer : Option Answer) (t : Transaction)
    (object inv event : ℕ) (calls : List Call) (round : RoundState) (v : Verdict)
    → append_by decl (learns front answer) t object inv event calls round v ≡ learned answer
    (append_by decl front t object inv event calls round v)
append_by_learns decl front answer t object inv event calls round verdicts.Waiting = turns_learn front answer _ _ _
append_by_learns decl front answer t object inv event calls round verdicts.Met = turns_learn front answer _ _ _
append_by_learns decl front answer t object inv event calls round (verdicts.Closed epoch site) =
    turns_learn front answer _ _ _
append_by_learns decl front answer t object inv event calls round (verdicts.Clash tx site) =
    turns_learn front answer _ _ _
append_by_learns decl front answer t object inv event calls round (verdicts.Short got need) =
    turns_learn front answer _ _ _

pub append_learns : (decl : Declaration) (front : Front) (answer : Option Answer) (t : Transaction)
    (object inv event : ℕ) (calls : List Call) (round : RoundState)
    → appends decl (learns front answer) t object inv event calls round ≡ learned answer
    (appends decl front t object inv event calls round)
append_learns decl front answer t object inv event calls round =
    append_by_learns decl front answer t object inv event calls round (verdict round)

round_kept : (decl : Declaration) (front : Front) (answer : Option Answer) (t : Transaction) (need : ℕ)
    → round_for decl (learns front answer) t need ≡ round_for decl front t need
round_kept decl front answer t need = ap
    (λ (client : ℕ). start (weights_of decl t.begun.epoch) (first_site decl client) need) (client_kept front answer)

answered_learns : (decl : Declaration) (front : Front) (answer : Option Answer) (t : Transaction) (object inv : ℕ)
    (event : Option ℕ)
    → answered decl (learns front answer) t object inv event ≡ learned answer (answered decl front t object inv event)
answered_learns decl front answer t object inv None = turns_learn front answer _ _ _
answered_learns decl front answer t object inv (Some event) =
    ap (λ (round : RoundState). appends decl (learns front answer) t object inv event [] round)
    (round_kept decl front answer t (append_need_of decl t.begun.epoch object event))
    ∙ append_learns decl front answer t object inv event []
    (round_for decl front t (append_need_of decl t.begun.epoch object event))

read_by_learns : (decl : Declaration) (front : Front) (answer : Option Answer) (t : Transaction) (object inv : ℕ)
    (calls : List Call) (round : RoundState) (v : Verdict)
    → read_by decl (learns front answer) t object inv calls round v ≡ learned answer
    (read_by decl front t object inv calls round v)
read_by_learns decl front answer t object inv calls round verdicts.Waiting = turns_learn front answer _ _ _
read_by_learns decl front answer t object inv calls round verdicts.Met =
    answered_learns decl front answer t object inv (answer_of decl t object inv)
read_by_learns decl front answer t object inv calls round (verdicts.Closed epoch site) = turns_learn front answer _ _ _
read_by_learns decl front answer t object inv calls round (verdicts.Clash tx site) = turns_learn front answer _ _ _
read_by_learns decl front answer t object inv calls round (verdicts.Short got need) = turns_learn front answer _ _ _

pub read_learns : (decl : Declaration) (front : Front) (answer : Option Answer) (t : Transaction) (object inv : ℕ)
    (calls : List Call) (round : RoundState)
    → reads decl (learns front answer) t object inv calls round ≡ learned answer
    (reads decl front t object inv calls round)
read_learns decl front answer t object inv calls round =
    read_by_learns decl front answer t object inv calls round (verdict round)
