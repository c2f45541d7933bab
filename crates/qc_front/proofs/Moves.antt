-- What a front end becomes, from what the calls on its way give.
use Rattle.std.proofs.Common.{◌≡◌, ℕ, List, [], Option, Some, None, option_map, sym, ap, ◌∙◌}
use Rattle.std.specs.Prelude.{Result, Ok, Err, IfOk}
use Rattle.std.specs.declared.alloc.AllocError.{AllocError}
use Rattle.qc_decl.specs.declared.declaration.Declaration.{Declaration}
use Rattle.qc_decl.specs.Vocabulary.{first_site, read_need_of}
use Rattle.qc_msg.specs.declared.call.Call.{Call}
use Rattle.qc_msg.specs.declared.message.Answer.{Answer}
use Rattle.qc_msg.specs.declared.message.Want.{Want}
use Rattle.qc_msg.specs.declared.reply.Reply.TheVariants as replies
use Rattle.qc_msg.specs.Vocabulary.{site_called, telling, without_call}
use Rattle.qc_plan.specs.Vocabulary.{RoundState, note, start, verdict}
use Rattle.qc_plan.specs.declared.standing.Verdict.{Verdict}
use Rattle.qc_plan.specs.declared.standing.Verdict.TheVariants as verdicts
use Rattle.qc_front.specs.declared.counting.Noted.{Noted}
use Rattle.qc_front.specs.declared.doing.Doing.{Doing}
use Rattle.qc_front.specs.declared.doing.Doing.TheVariants.{Idle, Reading, Appending}
use Rattle.qc_front.specs.declared.draft.Draft.{Draft}
use Rattle.qc_front.specs.declared.front.Front.{Front}
use Rattle.qc_front.specs.declared.next.Next.{Next}
use Rattle.qc_front.specs.declared.transaction.Transaction.{Transaction}
use Rattle.qc_front.specs.Vocabulary.{IsDraft, answer_in_draft, answered, append_by, append_want_of, appended_draft}
use Rattle.qc_front.specs.Vocabulary.{appended_with, appending_takes, appends, asking, becomes, draft_of, drafted}
use Rattle.qc_front.specs.Vocabulary.{event_draft, goes_on, moved, noted, noted_at, read_by, read_draft, read_with}
use Rattle.qc_front.specs.Vocabulary.{reading_takes, reads, resp_of, responds, round_for, standing_of, takes, takes_in}
use Rattle.qc_front.specs.Vocabulary.{turned, views_of, weights_of, went}
use Rattle.qc_front.proofs.Drafts.{answer_drafted, appended_drafted, appended_is_draft, event_drafted, read_drafted}
use Rattle.qc_front.proofs.Drafts.{read_is_draft, undone, want_drafted}
use Rattle.qc_front.proofs.Learning.{append_learns, learned, read_learns}

-- the operation is recorded and told
pub responded : (decl : Declaration) (front : Front) (d recorded : Draft) (inv event resp : ℕ) (next : Next)
    → IsDraft (views_of front.transaction) d
    → resp ≡ resp_of decl d.object event → recorded ≡ event_draft d inv event resp
    → next ≡ record { draft = recorded; doing = Idle; turn = telling (replies.Response resp) }
    → responds decl front (drafted (views_of front.transaction) d) d.object inv event ≡ becomes front next
responded decl front d recorded inv event resp next has is_resp is_recorded is_next =
    ap (λ (t : Transaction). moved (turned front (Some t) Idle)
    (telling (replies.Response (resp_of decl d.object event))))
    (event_drafted (views_of front.transaction) d inv event (resp_of decl d.object event) has)
    ∙ ap (λ (r : ℕ). becomes front (record {
      draft = event_draft d inv event r;
      doing = Idle;
      turn = telling (replies.Response r);
    })) (sym is_resp)
    ∙ ap (λ (e : Draft). becomes front (record { draft = e; doing = Idle; turn = telling (replies.Response resp) }))
    (sym is_recorded)
    ∙ ap (becomes front) (sym is_next)

-- an append round goes on
pub append_asked : (decl : Declaration) (front : Front) (d : Draft) (inv event : ℕ) (calls : List Call)
    (round : RoundState) (result : Result Next AllocError)
    → IsDraft (views_of front.transaction) d → verdict round ≡ verdicts.Waiting
    → IfOk result (λ next. next ≡ asking d (Appending d.object inv event calls) (append_want_of decl d event) round)
    → IfOk result (λ next. appends decl front (drafted (views_of front.transaction) d) d.object inv event calls round
    ≡ becomes front next)
append_asked decl front d inv event calls round (Err e) has waits asked = tt
append_asked decl front d inv event calls round (Ok next) has waits asked =
    ap (λ (v : Verdict). append_by decl front (drafted (views_of front.transaction) d) d.object inv event calls round v)
    waits
    ∙ ap (λ (w : ℕ → Want). goes_on front (drafted (views_of front.transaction) d)
    (Appending d.object inv event calls) w round) (want_drafted decl (views_of front.transaction) d event has)
    ∙ ap (becomes front) (sym asked)

-- a met read round is answered by the view
pub read_met : (decl : Declaration) (front : Front) (d : Draft) (inv : ℕ) (calls : List Call) (round : RoundState)
    (result : Result Next AllocError)
    → IsDraft (views_of front.transaction) d → verdict round ≡ verdicts.Met
    → IfOk result (λ next. answered decl front (drafted (views_of front.transaction) d) d.object inv
    (answer_in_draft decl d inv) ≡ becomes front next)
    → IfOk result (λ next. reads decl front (drafted (views_of front.transaction) d) d.object inv calls round
    ≡ becomes front next)
read_met decl front d inv calls round (Err e) has met told = tt
read_met decl front d inv calls round (Ok next) has met told =
    ap (λ (v : Verdict). read_by decl front (drafted (views_of front.transaction) d) d.object inv calls round v) met
    ∙ ap (λ (o : Option ℕ). answered decl front (drafted (views_of front.transaction) d) d.object inv o)
    (answer_drafted decl (views_of front.transaction) d inv has)
    ∙ told

-- a read round starts
pub started : (decl : Declaration) (front : Front) (t : Transaction) (d : Draft) (object inv need : ℕ)
    (calls : List Call) (round : RoundState) (result : Result Next AllocError)
    → front.transaction ≡ Some t → d ≡ draft_of t object → calls ≡ []
    → need ≡ read_need_of decl d.begun.epoch object inv
    → round ≡ start (weights_of decl d.begun.epoch) (first_site decl front.client) need
    → IfOk result (λ next. reads decl front (drafted (views_of front.transaction) d) d.object inv calls round
    ≡ becomes front next)
    → IfOk result (λ next. reads decl front t object inv []
    (round_for decl front t (read_need_of decl t.begun.epoch object inv)) ≡ becomes front next)
started decl front t d object inv need calls round (Err e) begun is_draft is_calls is_need is_round goes = tt
started decl front t d object inv need calls round (Ok next) begun is_draft is_calls is_need is_round goes =
    ap (λ (u : Transaction). reads decl front u object inv []
    (round_for decl front t (read_need_of decl t.begun.epoch object inv))) (sym (undone t object))
    ∙ ap (λ (o : Option Transaction). reads decl front (drafted (views_of o) (draft_of t object)) object inv []
    (round_for decl front t (read_need_of decl t.begun.epoch object inv))) (sym begun)
    ∙ ap (λ (e : Draft). reads decl front (drafted (views_of front.transaction) e) e.object inv []
    (start (weights_of decl e.begun.epoch) (first_site decl front.client) (read_need_of decl e.begun.epoch object inv)))
    (sym is_draft)
    ∙ ap (λ (n : ℕ). reads decl front (drafted (views_of front.transaction) d) d.object inv []
    (start (weights_of decl d.begun.epoch) (first_site decl front.client) n)) (sym is_need)
    ∙ ap (λ (r : RoundState). reads decl front (drafted (views_of front.transaction) d) d.object inv [] r)
    (sym is_round)
    ∙ ap (λ (cs : List Call). reads decl front (drafted (views_of front.transaction) d) d.object inv cs round)
    (sym is_calls)
    ∙ goes

-- what came of an open request counts

pub reading_went : (decl : Declaration) (front : Front) (t : Transaction) (object inv number : ℕ) (calls : List Call)
    (round : RoundState) (n : Noted) (d : Draft) (answer : Option Answer) (next : Next)
    → front.transaction ≡ Some t → front.doing ≡ Reading object inv calls round
    → Some n ≡ noted calls round number answer → d ≡ read_draft (draft_of t object) n.site answer
    → reads decl front (drafted (views_of front.transaction) d) d.object inv n.calls n.round ≡ becomes front next
    → takes decl front number answer ≡ went front (Some next) answer
reading_went decl front t object inv number calls round n d answer next begun is_doing is_noted is_draft goes =
    ap (λ (o : Option Transaction). takes_in decl front front.doing o number answer) begun
    ∙ ap (λ (e : Doing). takes_in decl front e (Some t) number answer) is_doing
    ∙ by (site_called calls number) is_noted
  where
    by : (o : Option ℕ) → Some n ≡ option_map (noted_at calls round number answer) o
        → reading_takes decl front t object inv calls round number answer o ≡ went front (Some next) answer
    by None is = let never : ⊥ = cc in absurd never
    by (Some site) is =
        let same : n ≡ noted_at calls round number answer site = cc in
        let drafted_is : d ≡ read_draft (draft_of t object) site answer = is_draft
        ∙ ap (λ (m : Noted). read_draft (draft_of t object) m.site answer) same in
        read_learns decl front answer (read_with t site object answer) object inv (without_call calls number)
        (note round site (standing_of answer))
        ∙ ap (learned answer)
        (ap (λ (u : Transaction). reads decl front u object inv (without_call calls number)
        (note round site (standing_of answer))) (sym (read_drafted t object site answer))
        ∙ ap (λ (o : Option Transaction). reads decl front
        (drafted (views_of o) (read_draft (draft_of t object) site answer)) object inv (without_call calls number)
        (note round site (standing_of answer))) (sym begun)
        ∙ ap (λ (e : Draft). reads decl front (drafted (views_of front.transaction) e) object inv
        (without_call calls number) (note round site (standing_of answer))) (sym drafted_is)
        ∙ ap (λ (k : ℕ). reads decl front (drafted (views_of front.transaction) d) k inv (without_call calls number)
        (note round site (standing_of answer))) (sym
        (ap (λ (e : Draft). e.object) drafted_is ∙ (read_is_draft t object site answer).object_is))
        ∙ ap (λ (m : Noted). reads decl front (drafted (views_of front.transaction) d) d.object inv m.calls m.round)
        (sym same)
        ∙ goes)

pub appending_went : (decl : Declaration) (front : Front) (t : Transaction) (object inv event number : ℕ)
    (calls : List Call) (round : RoundState) (n : Noted) (d : Draft) (answer : Option Answer) (next : Next)
    → front.transaction ≡ Some t → front.doing ≡ Appending object inv event calls round
    → Some n ≡ noted calls round number answer → d ≡ appended_draft (draft_of t object) n.site answer
    → appends decl front (drafted (views_of front.transaction) d) d.object inv event n.calls n.round
    ≡ becomes front next → takes decl front number answer ≡ went front (Some next) answer
appending_went decl front t object inv event number calls round n d answer next begun is_doing is_noted is_draft goes =
    ap (λ (o : Option Transaction). takes_in decl front front.doing o number answer) begun
    ∙ ap (λ (e : Doing). takes_in decl front e (Some t) number answer) is_doing
    ∙ by (site_called calls number) is_noted
  where
    by : (o : Option ℕ) → Some n ≡ option_map (noted_at calls round number answer) o
        → appending_takes decl front t object inv event calls round number answer o ≡ went front (Some next) answer
    by None is = let never : ⊥ = cc in absurd never
    by (Some site) is =
        let same : n ≡ noted_at calls round number answer site = cc in
        let drafted_is : d ≡ appended_draft (draft_of t object) site answer = is_draft
        ∙ ap (λ (m : Noted). appended_draft (draft_of t object) m.site answer) same in
        append_learns decl front answer (appended_with t site answer) object inv event (without_call calls number)
        (note round site (standing_of answer))
        ∙ ap (learned answer)
        (ap (λ (u : Transaction). appends decl front u object inv event (without_call calls number)
        (note round site (standing_of answer))) (sym (appended_drafted t object site answer))
        ∙ ap (λ (o : Option Transaction). appends decl front
        (drafted (views_of o) (appended_draft (draft_of t object) site answer)) object inv event
        (without_call calls number) (note round site (standing_of answer))) (sym begun)
        ∙ ap (λ (e : Draft). appends decl front (drafted (views_of front.transaction) e) object inv event
        (without_call calls number) (note round site (standing_of answer))) (sym drafted_is)
        ∙ ap (λ (k : ℕ). appends decl front (drafted (views_of front.transaction) d) k inv event
        (without_call calls number) (note round site (standing_of answer)))
        (sym (ap (λ (e : Draft). e.object) drafted_is ∙ (appended_is_draft t object site answer).object_is))
        ∙ ap (λ (m : Noted). appends decl front (drafted (views_of front.transaction) d) d.object inv event m.calls
        m.round) (sym same)
        ∙ goes)
