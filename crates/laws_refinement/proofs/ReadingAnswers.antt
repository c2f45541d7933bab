-- Whatever comes of a request for a lock and the lines of an object, while a `do` reads them.
use Rattle.std.proofs.Common.{◌≡◌, ℕ, true, inl, inr, List, ◌∷◌, Option, Some, None, slice_get, refl, sym, ap, ◌∙◌}
use Rattle.std.proofs.Common.{subst}
use Rattle.qc_stamp.specs.declared.stamp.TxId.{TxId}
use Rattle.qc_list.specs.Vocabulary.{In}
use Rattle.qc_plan.specs.Vocabulary.{RoundState, note, verdict}
use Rattle.qc_plan.specs.declared.standing.Standing.{Standing}
use Rattle.qc_plan.specs.declared.standing.Standing.TheVariants as standings
use Rattle.qc_decl.specs.declared.declaration.Declaration.{Declaration}
use Rattle.qc_decl.specs.Vocabulary.{is_client, read_need_of}
use Rattle.qc_msg.specs.declared.call.Call.{Call}
use Rattle.qc_msg.specs.declared.message.Answer.{Answer}
use Rattle.qc_msg.specs.declared.message.Answer.TheVariants as answers
use Rattle.qc_msg.specs.declared.message.Want.{Want}
use Rattle.qc_msg.specs.declared.message.Want.TheVariants.{Read}
use Rattle.qc_msg.specs.declared.payload.Grant.{Grant}
use Rattle.qc_msg.specs.Vocabulary.{life_of, site_called, with_life, without_call}
use Rattle.theory_machine.specs.Vocabulary.{Act, Count, IsRun, Item, Lock, state}
use Rattle.qc_view.specs.declared.view.View.{View}
use Rattle.qc_front.specs.declared.doing.Doing.{Doing}
use Rattle.qc_front.specs.declared.doing.Doing.TheVariants.{Reading}
use Rattle.qc_front.specs.declared.transaction.Transaction.{Transaction}
use Rattle.qc_front.specs.Vocabulary.{DoingHolds, IsRound, ReadingHolds, reads, RecordsHold, calls_in, learns, lived}
use Rattle.qc_front.specs.Vocabulary.{read_by, read_counts, with_granted}
use Rattle.qc_front.proofs.NotedRounds.{note_round}
use Rattle.qc_front.proofs.Recording.{granted_recorded}
use Rattle.qc_client.specs.Vocabulary.{by_front}
use Rattle.laws_refinement.specs.Vocabulary.{AreCounted, FrontStands, IsAskedBy, IsChosen, IsGrant, IsMessage}
use Rattle.laws_refinement.specs.Vocabulary.{IsNamedAt, IsPlanned, IsRoundCounted, LivesMirror, Mirrors, Net, Refines}
use Rattle.laws_refinement.specs.Vocabulary.{RunningMirrors, after_client}
use Rattle.laws_refinement.proofs.Named.{core_closed, lives_more, named_on, other_site}
use Rattle.qc_msg.specs.declared.message.Message.TheVariants as messages
use Rattle.qc_msg.specs.Vocabulary.{first_read}
use Rattle.laws_refinement.proofs.AnswerCases.{learned_cases}
use Rattle.laws_refinement.proofs.Answers.{view_at}
use Rattle.laws_refinement.proofs.ClientActs.{mid_count}
use Rattle.laws_refinement.proofs.ClientRounds.{reading}
use Rattle.laws_refinement.proofs.ClientSteps.{Core, Mid, mid_first, mine, refined}
use Rattle.laws_refinement.proofs.Granting.{IsGiven, granted_given}
use Rattle.laws_refinement.proofs.Counts.{read_counted}
use Rattle.laws_refinement.proofs.Frames.{counted_later}
use Rattle.laws_refinement.proofs.Rounds.{noted_counted}
use Rattle.laws_refinement.proofs.OpenRequests.{Stood, AnswerBacked, IsCalled, behind, called_in, still_called}
use Rattle.laws_refinement.proofs.RunningClients.{core_of, records_of}

module _ (decl : Declaration) where
  module _ (acts : List Act) (net : Net) (a : ℕ) (run : IsRun decl acts) (m : Mirrors decl (state acts) net)
      (client : is_client decl a ≡ true) (up : net.up a ≡ true) (stands : FrontStands decl net a)
      (free : (net.clients a).desk.voting ≡ None) where
    mid : Mid decl (state acts) acts (net.clients a).front.client
    mid = mid_first decl acts (net.clients a).front.client run

    pub read_case : (from number : ℕ) (t : Transaction) (object inv : ℕ) (calls : List Call) (round : RoundState)
        (answer : Option Answer) → (net.clients a).front.transaction ≡ Some t
        → (net.clients a).front.doing ≡ Reading object inv calls round
        → AnswerBacked decl (state acts) net.mail from number answer → (site : ℕ) → site_called calls number ≡ Some site
        → Refines decl
        (after_client net a
        (by_front (net.clients a)
        (read_counts decl (learns (net.clients a).front answer) t object inv calls round number site answer)))
    read_case from number t object inv calls round answer is doing backed site called = by answer backed
      where
        k : Core decl (state acts) a (net.clients a) t × RunningMirrors decl (state acts) net.mail (net.clients a) t
        k = core_of decl (state acts) net.mail a (net.clients a) t (m.clients a client up) is free

        holds : RecordsHold decl t.views t.own t.begun.ops
            × ReadingHolds decl (net.clients a).front.client t object inv calls round
        holds =
            (let h : RecordsHold decl t.views t.own t.begun.ops
            × DoingHolds decl (net.clients a).front.client t (net.clients a).front.doing =
            records_of decl (net.clients a).front t stands.holds is in
            (h.0, subst (λ (d : Doing). DoingHolds decl (net.clients a).front.client t d) doing h.1))

        chosen : (state acts).chosen t.begun.tx ≡ None
        chosen = subst (λ (d : Doing). IsChosen decl (state acts) t d) doing k.1.chosen

        counted : IsNamedAt decl object inv
            × AreCounted (state acts).counted t.begun.tx (Lock (record { object = object; inv = inv })) round.asked
        counted = subst (λ (d : Doing). IsRoundCounted decl (state acts) t d) doing k.1.counted

        asked : (call : Call) → In call calls → IsAskedBy decl net.mail t (Reading object inv calls round) call
        asked =
            subst (λ (d : Doing). (call : Call) → In call (calls_in d) → IsAskedBy decl net.mail t d call) doing
            k.1.calls

        round_is : IsRound decl (net.clients a).front.client t.begun.epoch (read_need_of decl t.begun.epoch object inv)
            round
        round_is = holds.1.round_is

        -- nothing is granted
        plainly : (standing : Standing) → (standing ≡ standings.Granted → ⊥)
            → Refines decl
            (after_client net a
            (by_front (net.clients a)
            (read_by decl (net.clients a).front t object inv (without_call calls number)
            (note round site standing) (verdict (note round site standing)))))
        plainly standing ungranted = refined decl (state acts) net a _ m client up
            (reading decl (state acts) net a acts (net.clients a) t object inv (without_call calls number)
            (note round site standing) refl mid refl k.0 holds.0 chosen counted.0
            (note_round decl (net.clients a).front.client t.begun.epoch (read_need_of decl t.begun.epoch object inv)
            round site standing round_is)
            (noted_counted (state acts).counted t.begun.tx (Lock (record { object = object; inv = inv })) site standing
            round.asked counted.1 (λ e. absurd (ungranted e)))
            (λ call more. asked call (still_called calls number call more)) (verdict (note round site standing)) refl)

        -- the epoch is closed there, and the client knows of a later one
        shut : (epoch : ℕ) → IsPlanned decl epoch
            → Refines decl
            (after_client net a
            (by_front (net.clients a)
            (read_counts decl (learns (net.clients a).front (Some (answers.Closed epoch))) t object inv calls
            round number site (Some (answers.Closed epoch)))))
        shut epoch planned = refined decl (state acts) net a _ m client up
            (reading decl (state acts) net a acts
            (record (net.clients a) { front = learns (net.clients a).front (Some (answers.Closed epoch)) }) t object
            inv (without_call calls number) (note round site (standings.Closed epoch)) refl mid refl
            (core_closed decl (state acts) a (net.clients a) t epoch planned k.0) holds.0 chosen counted.0
            (note_round decl (net.clients a).front.client t.begun.epoch (read_need_of decl t.begun.epoch object inv)
            round site (standings.Closed epoch) round_is)
            (noted_counted (state acts).counted t.begun.tx (Lock (record { object = object; inv = inv })) site
            (standings.Closed epoch) round.asked counted.1 (λ e. absurd (let never : ⊥ = cc in never)))
            (λ call more. asked call (still_called calls number call more))
            (verdict (note round site (standings.Closed epoch))) refl)

        granted : (g : Grant) → AnswerBacked decl (state acts) net.mail from number (Some (answers.Granted g))
            → Refines decl (after_client net a (by_front (net.clients a)
            (read_counts decl (learns (net.clients a).front (Some (answers.Granted g))) t object inv calls round
            number site (Some (answers.Granted g)))))
        granted grant_here bk =
            let found : IsCalled calls number site = called_in calls number site called in
            let r : IsAskedBy decl net.mail t (Reading object inv calls round) found.call =
            asked found.call found.among in
            let request : IsMessage net.mail number site
            (messages.Request t.begun.tx t.begun.epoch (life_of t.begun.lives site) (Read (first_read object inv))) =
            subst (λ (x : Want). IsMessage net.mail number site
            (messages.Request t.begun.tx t.begun.epoch (life_of t.begun.lives site) x)) r.2
            (subst (λ (s : ℕ). IsMessage net.mail number s
            (messages.Request t.begun.tx t.begun.epoch (life_of t.begun.lives s) r.0)) found.at
            (subst (λ (n : ℕ). IsMessage net.mail n found.call.site
            (messages.Request t.begun.tx t.begun.epoch (life_of t.begun.lives found.call.site) r.0))
            found.numbered r.1)) in
            let stood : Stood decl (state acts) site grant_here t.begun.tx
            (Read (first_read object inv)) (life_of t.begun.lives site) =
            behind decl (state acts) net.mail from number site grant_here
            t.begun.tx t.begun.epoch (life_of t.begun.lives site) (Read (first_read object inv))
            request bk in
            let g : IsGrant decl (state acts) site grant_here t.begun.tx
            (Read (first_read object inv)) = stood.grant in
            let lives : LivesMirror (g.grant ∷ (state acts).counted) t.begun.tx
            (with_life t.begun.lives site grant_here.life) =
            lives_more decl (state acts) t site grant_here
            (Read (first_read object inv)) g k.0.begun.lives stood.lived in
            let v : (v : View) × (slice_get t.views object ≡ Some v) =
            view_at decl t object counted.0.0 holds.0 counted.0.1 in
            let given : IsGiven t (with_granted (lived t site grant_here.life) object grant_here.log) site
            grant_here.life =
            granted_given t site grant_here.life object grant_here.log in
            refined decl (state acts) net a _ m client up
            (reading decl (state acts) net a (Count g.grant ∷ acts)
            (record (net.clients a) { front = learns (net.clients a).front (Some (answers.Granted grant_here)) })
            (with_granted (lived t site grant_here.life) object grant_here.log) object inv
            (without_call calls number) (note round site standings.Granted) refl
            (mid_count decl (state acts) acts (net.clients a).front.client mid g.grant g.given
            (ap (state acts).status g.its ∙ k.0.active) (g.epoch_is ∙ ap (state acts).epoch (sym g.its))
            (ap (λ (u : TxId). u.client) g.its ∙ mine decl (state acts) a (net.clients a) t k.0)) refl
            (read_counted decl (state acts) a (net.clients a) t site object inv
            grant_here g lives v.0 v.1 k.0)
            (granted_recorded decl (lived t site grant_here.life) object grant_here.log holds.0)
            (ap (state acts).chosen given.tx ∙ chosen) counted.0
            (subst (λ (e : ℕ). IsRound decl (net.clients a).front.client e (read_need_of decl e object inv)
            (note round site standings.Granted)) (sym given.epoch)
            (note_round decl (net.clients a).front.client t.begun.epoch (read_need_of decl t.begun.epoch object inv)
            round site standings.Granted round_is))
            (subst (λ (u : TxId). AreCounted (g.grant ∷ (state acts).counted) u
            (Lock (record { object = object; inv = inv })) (note round site standings.Granted).asked) (sym given.tx)
            (noted_counted (g.grant ∷ (state acts).counted) t.begun.tx (Lock (record { object = object; inv = inv }))
            site standings.Granted round.asked
            (counted_later decl (state acts).counted (g.grant ∷ (state acts).counted) t.begun.tx
            (Lock (record { object = object; inv = inv })) round.asked (λ x h. inr h) counted.1)
            (λ e. record {
              grant = g.grant;
              counts = inl refl;
              its = g.its;
              from = g.by;
              has = subst (λ (xs : List Item). In (Lock (record { object = object; inv = inv })) xs)
                  (sym g.items_are) (inl refl);
            })))
            (λ call more. (let q : IsAskedBy decl net.mail t (Reading object inv calls round) call =
            asked call (still_called calls number call more) in (
              q.0,
              named_on net.mail t (with_granted (lived t site grant_here.life) object grant_here.log) call.number
                  call.site site grant_here.life q.0 given
                  (other_site decl (net.clients a).front.client t.begun.epoch
                  (read_need_of decl t.begun.epoch object inv) round calls number site round_is holds.1.calls_are
                  called call more) q.1,
              q.2,
            ))) (verdict (note round site standings.Granted)) refl)

        by : (x : Option Answer) → AnswerBacked decl (state acts) net.mail from number x
            → Refines decl (after_client net a (by_front (net.clients a)
            (read_counts decl (learns (net.clients a).front x) t object inv calls round number site x)))
        by =
            learned_cases (net.clients a).front t site object
            (λ x front after appended standing. AnswerBacked decl (state acts) net.mail from number x
            → Refines decl (after_client net a (by_front (net.clients a)
            (reads decl front after object inv (without_call calls number) (note round site standing)))))
            granted shut (λ x standing ungranted bk. plainly standing ungranted)
