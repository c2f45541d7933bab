-- Whatever comes of a request for an event of its own line, while a `do` appends it.
use Rattle.std.proofs.Common.{◌≡◌, ℕ, true, inl, inr, List, [], ◌∷◌, filter, Option, Some, None, refl, sym, ap, ◌∙◌}
use Rattle.std.proofs.Common.{subst}
use Rattle.qc_stamp.specs.declared.stamp.TxId.{TxId}
use Rattle.qc_list.specs.Vocabulary.{In}
use Rattle.qc_list.proofs.Members.{In-second, In-map}
use Rattle.qc_plan.specs.Vocabulary.{RoundState, note, verdict}
use Rattle.qc_plan.specs.declared.standing.Standing.{Standing}
use Rattle.qc_plan.specs.declared.standing.Standing.TheVariants as standings
use Rattle.qc_decl.specs.declared.declaration.Declaration.{Declaration}
use Rattle.qc_decl.specs.Vocabulary.{append_need_of, is_client}
use Rattle.qc_msg.specs.declared.call.Call.{Call}
use Rattle.qc_msg.specs.declared.message.Answer.{Answer}
use Rattle.qc_msg.specs.declared.message.Answer.TheVariants as answers
use Rattle.qc_msg.specs.declared.message.Want.{Want}
use Rattle.qc_msg.specs.declared.payload.Grant.{Grant}
use Rattle.qc_msg.specs.Vocabulary.{life_of, site_called, with_life, without_call}
use Rattle.theory_machine.specs.Vocabulary.{Act, Count, IsRun, Item, Own, state}
use Rattle.qc_front.specs.declared.doing.Doing.{Doing}
use Rattle.qc_front.specs.declared.doing.Doing.TheVariants.{Appending}
use Rattle.qc_front.specs.declared.transaction.Transaction.{Transaction}
use Rattle.qc_front.specs.Vocabulary.{AppendingHolds, DoingHolds, IsRound, appends, append_by, append_counts}
use Rattle.qc_front.specs.Vocabulary.{append_want, calls_in, learns, lived, next_own, own_appended, view_log, weighs}
use Rattle.qc_front.proofs.NotedRounds.{note_round}
use Rattle.qc_client.specs.Vocabulary.{by_front}
use Rattle.laws_refinement.specs.Vocabulary.{AreCounted, FrontStands, IsAskedBy, IsChosen, IsGrant, IsMessage}
use Rattle.laws_refinement.specs.Vocabulary.{IsPlanned, IsRoundCounted, LivesMirror, Mirrors, Net, Refines}
use Rattle.laws_refinement.specs.Vocabulary.{RunningMirrors, after_client, append_of, chosen_of, own_item}
use Rattle.laws_refinement.proofs.Named.{core_closed, lives_more, named_on, other_site}
use Rattle.qc_msg.specs.declared.message.Message.TheVariants as messages
use Rattle.laws_refinement.proofs.AnswerCases.{learned_cases}
use Rattle.laws_refinement.proofs.ClientActs.{mid_count}
use Rattle.laws_refinement.proofs.ClientRounds.{appending}
use Rattle.laws_refinement.proofs.ClientSteps.{Core, Mid, mid_first, mine, refined}
use Rattle.laws_refinement.proofs.Granting.{lived_given}
use Rattle.laws_refinement.proofs.Counts.{append_counted}
use Rattle.laws_refinement.proofs.Frames.{counted_later}
use Rattle.laws_refinement.proofs.Rounds.{noted_counted}
use Rattle.laws_refinement.proofs.OpenRequests.{Stood, AnswerBacked, IsCalled, behind, called_in, still_called}
use Rattle.laws_refinement.proofs.RunningClients.{core_of, records_of}

module _ (decl : Declaration) where
  module _ (acts : List Act) (net : Net) (a : ℕ) (run : IsRun decl acts) (m : Mirrors decl (state acts) net)
      (client : is_client decl a ≡ true) (up : net.up a ≡ true) (stands : FrontStands decl net a)
      (free : (net.clients a).desk.voting ≡ None) where
    mid : Mid decl (state acts) acts (net.clients a).front.client
    mid = mid_first decl acts (net.clients a).front.client run

    pub append_case : (from number : ℕ) (t : Transaction) (object inv event : ℕ) (calls : List Call)
        (round : RoundState) (answer : Option Answer) → (net.clients a).front.transaction ≡ Some t
        → (net.clients a).front.doing ≡ Appending object inv event calls round
        → AnswerBacked decl (state acts) net.mail from number answer → (site : ℕ) → site_called calls number ≡ Some site
        → Refines decl
        (after_client net a
        (by_front (net.clients a)
        (append_counts decl (learns (net.clients a).front answer) t object inv event calls round number site
        answer)))
    append_case from number t object inv event calls round answer is doing backed site called = by answer backed
      where
        k : Core decl (state acts) a (net.clients a) t × RunningMirrors decl (state acts) net.mail (net.clients a) t
        k = core_of decl (state acts) net.mail a (net.clients a) t (m.clients a client up) is free

        holds : AppendingHolds decl (net.clients a).front.client t object inv event calls round
        holds =
            subst (λ (d : Doing). DoingHolds decl (net.clients a).front.client t d) doing
            (records_of decl (net.clients a).front t stands.holds is).1

        chosen : ((state acts).chosen t.begun.tx ≡ Some (chosen_of decl t object inv event))
            × In (append_of decl t object event) (state acts).appends
        chosen = subst (λ (d : Doing). IsChosen decl (state acts) t d) doing k.1.chosen

        counted : AreCounted (state acts).counted t.begun.tx (Own (next_own t object event)) round.asked
        counted = subst (λ (d : Doing). IsRoundCounted decl (state acts) t d) doing k.1.counted

        asked : (call : Call) → In call calls → IsAskedBy decl net.mail t (Appending object inv event calls round) call
        asked =
            subst (λ (d : Doing). (call : Call) → In call (calls_in d) → IsAskedBy decl net.mail t d call) doing
            k.1.calls

        round_is : IsRound decl (net.clients a).front.client t.begun.epoch
            (append_need_of decl t.begun.epoch object event) round
        round_is = holds.round_is

        plainly : (standing : Standing) → (standing ≡ standings.Granted → ⊥)
            → Refines decl
            (after_client net a
            (by_front (net.clients a)
            (append_by decl (net.clients a).front t object inv event (without_call calls number)
            (note round site standing) (verdict (note round site standing)))))
        plainly standing ungranted = refined decl (state acts) net a _ m client up
            (appending decl (state acts) net a acts (net.clients a) t object inv event (without_call calls number)
            (note round site standing) refl mid refl k.0 chosen.0 chosen.1
            (note_round decl (net.clients a).front.client t.begun.epoch (append_need_of decl t.begun.epoch object event)
            round site standing round_is)
            (noted_counted (state acts).counted t.begun.tx (Own (next_own t object event)) site standing round.asked
            counted (λ e. absurd (ungranted e)))
            (λ call more. asked call (still_called calls number call more)) (verdict (note round site standing)) refl)

        -- the epoch is closed there, and the client knows of a later one
        shut : (epoch : ℕ) → IsPlanned decl epoch
            → Refines decl
            (after_client net a
            (by_front (net.clients a)
            (append_counts decl (learns (net.clients a).front (Some (answers.Closed epoch))) t object inv event
            calls round number site (Some (answers.Closed epoch)))))
        shut epoch planned = refined decl (state acts) net a _ m client up
            (appending decl (state acts) net a acts
            (record (net.clients a) { front = learns (net.clients a).front (Some (answers.Closed epoch)) }) t object
            inv event (without_call calls number) (note round site (standings.Closed epoch)) refl mid refl
            (core_closed decl (state acts) a (net.clients a) t epoch planned k.0) chosen.0 chosen.1
            (note_round decl (net.clients a).front.client t.begun.epoch (append_need_of decl t.begun.epoch object event)
            round site (standings.Closed epoch) round_is)
            (noted_counted (state acts).counted t.begun.tx (Own (next_own t object event)) site (standings.Closed epoch)
            round.asked counted (λ e. absurd (let never : ⊥ = cc in never)))
            (λ call more. asked call (still_called calls number call more))
            (verdict (note round site (standings.Closed epoch))) refl)

        granted : (g : Grant) → AnswerBacked decl (state acts) net.mail from number (Some (answers.Granted g))
            → Refines decl (after_client net a (by_front (net.clients a)
            (append_counts decl (learns (net.clients a).front (Some (answers.Granted g))) t object inv event calls
            round number site (Some (answers.Granted g)))))
        granted grant_here bk =
            let found : IsCalled calls number site = called_in calls number site called in
            let r : IsAskedBy decl net.mail t (Appending object inv event calls round) found.call =
            asked found.call found.among in
            let request : IsMessage net.mail number site
            (messages.Request t.begun.tx t.begun.epoch (life_of t.begun.lives site)
            (append_want decl t object event site)) =
            subst (λ (x : Want). IsMessage net.mail number site
            (messages.Request t.begun.tx t.begun.epoch (life_of t.begun.lives site) x)) r.2
            (subst (λ (s : ℕ). IsMessage net.mail number s
            (messages.Request t.begun.tx t.begun.epoch (life_of t.begun.lives s) r.0)) found.at
            (subst (λ (n : ℕ). IsMessage net.mail n found.call.site
            (messages.Request t.begun.tx t.begun.epoch (life_of t.begun.lives found.call.site) r.0))
            found.numbered r.1)) in
            let stood : Stood decl (state acts) site grant_here t.begun.tx
            (append_want decl t object event site) (life_of t.begun.lives site) =
            behind decl (state acts) net.mail from number site grant_here
            t.begun.tx t.begun.epoch (life_of t.begun.lives site) (append_want decl t object event site)
            request bk in
            let g : IsGrant decl (state acts) site grant_here t.begun.tx
            (append_want decl t object event site) = stood.grant in
            let lives : LivesMirror (g.grant ∷ (state acts).counted) t.begun.tx
            (with_life t.begun.lives site grant_here.life) =
            lives_more decl (state acts) t site grant_here
            (append_want decl t object event site) g k.0.begun.lives stood.lived in
            refined decl (state acts) net a _ m client up
            (appending decl (state acts) net a (Count g.grant ∷ acts)
            (record (net.clients a) { front = learns (net.clients a).front (Some (answers.Granted grant_here)) })
            (lived t site grant_here.life) object inv event (without_call calls number)
            (note round site standings.Granted) refl
            (mid_count decl (state acts) acts (net.clients a).front.client mid g.grant g.given
            (ap (state acts).status g.its ∙ k.0.active) (g.epoch_is ∙ ap (state acts).epoch (sym g.its))
            (ap (λ (u : TxId). u.client) g.its ∙ mine decl (state acts) a (net.clients a) t k.0)) refl
            (append_counted decl (state acts) a (net.clients a) t site object
            (view_log t object) (own_appended decl t object event) grant_here g lives k.0)
            chosen.0 chosen.1
            (note_round decl (net.clients a).front.client t.begun.epoch (append_need_of decl t.begun.epoch object event)
            round site standings.Granted round_is)
            (noted_counted (g.grant ∷ (state acts).counted) t.begun.tx (Own (next_own t object event)) site
            standings.Granted round.asked
            (counted_later decl (state acts).counted (g.grant ∷ (state acts).counted) t.begun.tx
            (Own (next_own t object event)) round.asked (λ x h. inr h) counted)
            (λ e. record {
              grant = g.grant;
              counts = inl refl;
              its = g.its;
              from = g.by;
              has = subst (λ (xs : List Item). In (Own (next_own t object event)) xs) (sym g.items_are)
                  (In-map own_item (next_own t object event) (own_appended decl t object event)
                  (In-second (next_own t object event) (filter (weighs decl t.begun.epoch object) t.own)
                  (next_own t object event ∷ []) (inl refl)));
            }))
            (λ call more. (let q : IsAskedBy decl net.mail t (Appending object inv event calls round) call =
            asked call (still_called calls number call more) in (
              q.0,
              named_on net.mail t (lived t site grant_here.life) call.number call.site site grant_here.life q.0
                  (lived_given t site grant_here.life)
                  (other_site decl (net.clients a).front.client t.begun.epoch
                  (append_need_of decl t.begun.epoch object event) round calls number site round_is holds.calls_are
                  called call more) q.1,
              q.2,
            ))) (verdict (note round site standings.Granted)) refl)

        by : (x : Option Answer) → AnswerBacked decl (state acts) net.mail from number x
            → Refines decl (after_client net a (by_front (net.clients a)
            (append_counts decl (learns (net.clients a).front x) t object inv event calls round number site x)))
        by =
            learned_cases (net.clients a).front t site object
            (λ x front after appended standing. AnswerBacked decl (state acts) net.mail from number x
            → Refines decl (after_client net a (by_front (net.clients a)
            (appends decl front appended object inv event (without_call calls number) (note round site standing)))))
            granted shut (λ x standing ungranted bk. plainly standing ungranted)
