-- What a site granted to a transaction that committed it holds until the Decision comes.
use Rattle.std.proofs.Common.{[], ◌≡◌, ◌≤◌, ◌&&◌, not, ℕ, suc, ◌+◌, Bool, true, false, cond, List, ◌∷◌, inl, inr}
use Rattle.std.proofs.Common.{length, Some, refl, sym, ap, ◌∙◌, subst, arith}
use Rattle.std.specs.Prelude.{fold}
use Rattle.std.specs.Option.{option_map_or}
use Rattle.qc_stamp.specs.declared.stamp.TxId.{TxId}
use Rattle.qc_list.specs.Vocabulary.{In}
use Rattle.qc_list.proofs.Members.{In-first, In-second, In-map}
use Rattle.qc_entry.specs.declared.line.Line.{Line}
use Rattle.qc_entry.specs.declared.line.OwnLine.{OwnLine}
use Rattle.qc_entry.specs.declared.record.Commit.{Commit as CommitRecord}
use Rattle.qc_core.specs.Vocabulary.{IsLawful}
use Rattle.qc_decl.specs.declared.declaration.Declaration.{Declaration}
use Rattle.qc_decl.specs.Vocabulary.{IsAccepted}
use Rattle.qc_lock.specs.declared.held.Held.{Held}
use Rattle.qc_lock.specs.Vocabulary.{held_of}
use Rattle.qc_msg.specs.declared.message.Envelope.{Envelope}
use Rattle.qc_msg.specs.declared.message.Message.{Message}
use Rattle.qc_msg.specs.declared.message.Message.TheVariants as messages
use Rattle.qc_msg.specs.declared.message.Outcome.{Outcome}
use Rattle.qc_msg.specs.declared.message.Outcome.TheVariants as outcomes
use Rattle.qc_msg.specs.declared.message.Want.{Want}
use Rattle.qc_msg.specs.declared.message.Want.TheVariants.{Read, Append, Prepare}
use Rattle.qc_msg.specs.declared.step.Input.TheVariants as inputs
use Rattle.qc_msg.specs.Vocabulary.{Deed, Entry, Takes, deeds, mail, request_in, written}
use Rattle.theory_onecopy.specs.Vocabulary.{Executed, own_line}
use Rattle.qc_promise.specs.Vocabulary.{Grant, held_shown, holding, is_ended, is_final, is_granted, standing}
use Rattle.qc_promise.specs.Vocabulary.{standing_as, standing_by}
use Rattle.theory_machine.specs.Vocabulary.{IsExecutedOrChosen, IsOwnClosedAt, Item, Lock, LogLaws, Own, state}
use Rattle.theory_machine.proofs.LogKeeps.{log_laws}
use Rattle.theory_machine.proofs.Places.{at}
use Rattle.qc_script.specs.Vocabulary.{IsScriptFor, Runs}
use Rattle.qc_script.specs.declared.script.Script.{Script}
use Rattle.laws_refinement.specs.Vocabulary.{Backed, IsHeld, own_item, own_items}
use Rattle.laws_atomic.proofs.Runs.{decisions_tell_the_records}
use Rattle.laws_guarantees.specs.Vocabulary.{HasWanted, IsGrantedSince}
use Rattle.laws_guarantees.proofs.Room.{numbered_within}
use Rattle.laws_guarantees.proofs.Uncut.{held_from_first}
use Rattle.laws_guarantees.proofs.Voted.{mirror, stood}
use Rattle.laws_guarantees.proofs.Standing.{not_ended, standing_more, WasTakenFor, was_taken, own_wanted}
use Rattle.laws_guarantees.proofs.Standing.{Agrees, IsWanted, standing_held}
use Rattle.laws_atomic.proofs.Heard.{took_sent}

module _ (decl : Declaration) (script : Script) (accepted : IsAccepted decl) (sound : IsScriptFor decl script)
    (h : List Entry) (open_inputs : List Bool) (run : Runs (IsLawful decl) decl script h open_inputs) where
  laws_now : LogLaws decl (state (mirror decl script accepted sound h open_inputs run).acts)
  laws_now =
      log_laws decl accepted (mirror decl script accepted sound h open_inputs run).acts
      (mirror decl script accepted sound h open_inputs run).run

  -- an own line that was sent is a known operation's
  own_known : (e : Envelope) (tx : TxId) (epoch life object : ℕ) (view : List Line) (own : List OwnLine) (o : OwnLine)
      → In e (mail h) → e.message ≡ messages.Request tx epoch life (Append object view own) → In o own
      → (d : Executed)
      × IsExecutedOrChosen ((state (mirror decl script accepted sound h open_inputs run).acts).executed tx)
      ((state (mirror decl script accepted sound h open_inputs run).acts).chosen tx) d × (o ≡ own_line d)
  own_known e tx epoch life object view own o sent is among =
      let here : In e (stood decl script accepted sound h open_inputs run).net.mail =
      subst (λ (ms : List Envelope). In e ms) (sym (stood decl script accepted sound h open_inputs run).mail_is)
      sent in
      let b : Backed decl (state (mirror decl script accepted sound h open_inputs run).acts)
      (stood decl script accepted sound h open_inputs run).net.mail e.from e.to
      (messages.Request tx epoch life (Append object view own)) =
      subst (λ (m : Message). Backed decl (state (mirror decl script accepted sound h open_inputs run).acts)
      (stood decl script accepted sound h open_inputs run).net.mail e.from e.to m) is
      ((mirror decl script accepted sound h open_inputs run).agrees.mail e here) in
      let c : IsOwnClosedAt decl (state (mirror decl script accepted sound h open_inputs run).acts).executed
      (state (mirror decl script accepted sound h open_inputs run).acts).chosen tx view (own_items own) o =
      (laws_now.appends (record { tx = tx; items = own_items own; view = view }) b.3.0).own_closed o
      (In-map own_item o own among) in
      (c.operation, c.known, c.is)

  one_operation : (tx : TxId) (c d : Executed)
      → IsExecutedOrChosen ((state (mirror decl script accepted sound h open_inputs run).acts).executed tx)
      ((state (mirror decl script accepted sound h open_inputs run).acts).chosen tx) c
      → IsExecutedOrChosen ((state (mirror decl script accepted sound h open_inputs run).acts).executed tx)
      ((state (mirror decl script accepted sound h open_inputs run).acts).chosen tx) d → c.number ≡ d.number → c ≡ d
  one_operation tx c d (inl x) (inl y) same =
      (at ((state (mirror decl script accepted sound h open_inputs run).acts).executed tx) (laws_now.order tx) d y).one
      c x same
  one_operation tx c d (inl x) (inr y) same = absurd (past c d x (laws_now.next tx d y).0.numbered same)
    where
      past : (c d : Executed) → In c ((state (mirror decl script accepted sound h open_inputs run).acts).executed tx)
          → d.number ≡ suc (length ((state (mirror decl script accepted sound h open_inputs run).acts).executed tx))
          → c.number ≡ d.number → ⊥
      past c d x n same =
          let low : c.number
          ≤ 0 + length ((state (mirror decl script accepted sound h open_inputs run).acts).executed tx) =
          numbered_within ((state (mirror decl script accepted sound h open_inputs run).acts).executed tx) [] c
          (laws_now.order tx) x in omega arith
  one_operation tx c d (inr x) (inl y) same = absurd (past c d y (laws_now.next tx c x).0.numbered same)
    where
      past : (c d : Executed) → In d ((state (mirror decl script accepted sound h open_inputs run).acts).executed tx)
          → c.number ≡ suc (length ((state (mirror decl script accepted sound h open_inputs run).acts).executed tx))
          → c.number ≡ d.number → ⊥
      past c d y n same =
          let low : d.number
          ≤ 0 + length ((state (mirror decl script accepted sound h open_inputs run).acts).executed tx) =
          numbered_within ((state (mirror decl script accepted sound h open_inputs run).acts).executed tx) [] d
          (laws_now.order tx) y in omega arith
  one_operation tx c d (inr x) (inr y) same = let both_are : Some c ≡ Some d = sym x ∙ y in cc

  module _ (c : CommitRecord) (committed : In c (written h)) (site : ℕ) (want : Want)
      (g : IsGrantedSince (deeds site [] h) c.tx want) where
    abbrev asked : Grant
    asked = record { tx = c.tx; want = want }

    never_ended : (e : Envelope) (verdict : Outcome) → In (Takes (inputs.Got e)) g.since
        → e.message ≡ messages.Decision c.tx verdict → is_final verdict ≡ true → ⊥
    never_ended e (outcomes.Committed stamp) taken is final = g.undecided e stamp taken is
    never_ended e outcomes.Aborted taken is final =
        let here : In (Takes (inputs.Got e)) (deeds site [] h) =
        subst (λ (ds : List Deed). In (Takes (inputs.Got e)) ds) (sym g.stands)
        (In-second (Takes (inputs.Got e)) g.before (Takes (inputs.Got g.request) ∷ g.since) (inr taken)) in
        decisions_tell_the_records decl script h open_inputs accepted sound run e c.tx outcomes.Aborted
        (took_sent site [] h e here) is c committed refl
    never_ended e outcomes.Active taken is final = let never : ⊥ = cc in never

    it_stands : In asked (standing (deeds site [] h))
    it_stands = subst (λ (ds : List Deed). In asked (standing ds)) (sym g.stands)
        (standing_more g.before (Takes (inputs.Got g.request) ∷ g.since) asked
        (In-first asked (standing_by g.since g.request) (standing g.since)
        (subst (λ (m : Message). In asked (option_map_or (standing_as g.request.number g.since) (request_in m) []))
        (sym g.content)
        (by (is_granted g.request.number g.since) (is_ended c.tx g.since) g.granted
        (not_ended c.tx g.since never_ended)))))
      where
        by : (x y : Bool) → x ≡ true → y ≡ false → In asked (cond (x && not y) (asked ∷ []) [])
        by true true is none = absurd (let never : ⊥ = cc in never)
        by true false is none = inl refl
        by false y is none = absurd (let never : ⊥ = cc in never)

    abbrev IsKnown : OwnLine → Type 0
    IsKnown o =
        (d : Executed)
        × IsExecutedOrChosen ((state (mirror decl script accepted sound h open_inputs run).acts).executed c.tx)
        ((state (mirror decl script accepted sound h open_inputs run).acts).chosen c.tx) d × (o ≡ own_line d)

    request_sent : In g.request (mail h)
    request_sent =
        took_sent site [] h g.request
        (subst (λ (ds : List Deed). In (Takes (inputs.Got g.request)) ds) (sym g.stands)
        (In-second (Takes (inputs.Got g.request)) g.before (Takes (inputs.Got g.request) ∷ g.since) (inl refl)))

    wanted_known : (x : Item) (o : OwnLine) → x ≡ Own o → IsWanted want x → IsKnown o
    wanted_known x o e is = by want refl is
      where
        by : (w : Want) → want ≡ w → IsWanted w x → IsKnown o
        by (Read read) same locked =
            absurd (let clash : Own o ≡ Lock (record { object = read.object; inv = read.inv }) = sym e ∙ locked in
            let never : ⊥ = cc in never)
        by (Append object view own) same has =
            let one : o ≡ has.0 = (let both_are : Own o ≡ Own has.0 = sym e ∙ has.1 in cc) in
            own_known g.request c.tx g.epoch g.life object view own o request_sent
            (g.content ∙ ap (λ (w : Want). messages.Request c.tx g.epoch g.life w) same)
            (subst (λ (y : OwnLine). In y own) (sym one) has.2)
        by Prepare same never = absurd never

    standing_known : (k : Grant) (l : OwnLine) → In k (standing (deeds site [] h)) → k.tx ≡ c.tx
        → In l (own_wanted k.want) → IsKnown l
    standing_known k l among same there = by (was_taken (deeds site [] h) k among)
      where
        by_want : (e : Envelope) (epoch life : ℕ) (w : Want) → In e (mail h)
            → e.message ≡ messages.Request c.tx epoch life w → In l (own_wanted w) → IsKnown l
        by_want e epoch life (Read read) sent is member = absurd member
        by_want e epoch life (Append object view own) sent is member =
            own_known e c.tx epoch life object view own l sent is member
        by_want e epoch life Prepare sent is member = absurd member

        by : WasTakenFor (deeds site [] h) k → IsKnown l
        by w =
            by_want w.envelope w.epoch w.life k.want (took_sent site [] h w.envelope w.taken)
            (w.content ∙ ap (λ (t : TxId). messages.Request t w.epoch w.life k.want) same) there

    agrees : (x : Item) → IsWanted want x → Agrees (standing (deeds site [] h)) c.tx x
    agrees x is o l k e among same there ops =
        let a : IsKnown o = wanted_known x o e is in
        let b : IsKnown l = standing_known k l among same there in
        let numbers : a.0.number ≡ b.0.number =
        sym (ap (λ (y : OwnLine). y.op) a.2) ∙ ops ∙ ap (λ (y : OwnLine). y.op) b.2 in
        a.2 ∙ ap own_line (one_operation c.tx a.0 b.0 a.1 b.1 numbers) ∙ sym b.2

    wanted_held : (x : Item) → IsWanted want x → IsHeld (held_of (held_shown (deeds site [] h)) c.tx) x
    wanted_held x is =
        subst (λ (held : List Held). IsHeld (held_of held c.tx) x) (sym held_is)
        (standing_held (standing (deeds site [] h)) [] asked x it_stands (agrees x is) is)
      where
        held_is : held_shown (deeds site [] h)
            ≡ fold (λ (held : List Held) (k : Grant). holding held k.tx k.want) [] (standing (deeds site [] h))
        held_is = held_from_first decl script accepted sound h open_inputs run site

    pub granted_items_are_held : HasWanted (held_of (held_shown (deeds site [] h)) c.tx) want
    granted_items_are_held = by want wanted_held
      where
        by : (w : Want) → ((x : Item) → IsWanted w x → IsHeld (held_of (held_shown (deeds site [] h)) c.tx) x)
            → HasWanted (held_of (held_shown (deeds site [] h)) c.tx) w
        by (Read read) held = held (Lock (record { object = read.object; inv = read.inv })) refl
        by (Append object view own) held = λ o among. held (Own o) (o, refl, among)
        by Prepare held = tt
