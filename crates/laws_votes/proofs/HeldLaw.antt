-- What a site granted in its present life to a transaction that committed it holds until the Decision comes.
use Rattle.std.proofs.Common.{◌≡◌, ◌≤◌, ◌&&◌, not, ℕ, suc, ◌+◌, Bool, true, false, cond, List, [], ◌∷◌, inl, inr}
use Rattle.std.proofs.Common.{length, Some, refl, sym, ap, ◌∙◌, subst, arith}
use Rattle.std.specs.Option.{option_map_or}
use Rattle.qc_core.specs.Vocabulary.{IsLawfulWithFalls}
use Rattle.qc_core.proofs.SiteHolds.{whole}
use Rattle.qc_decl.specs.Vocabulary.{IsAccepted}
use Rattle.qc_decl.specs.declared.declaration.Declaration.{Declaration}
use Rattle.qc_entry.specs.declared.line.Line.{Line}
use Rattle.qc_entry.specs.declared.line.OwnLine.{OwnLine}
use Rattle.qc_entry.specs.declared.record.Commit.{Commit as CommitRecord}
use Rattle.laws_guarantees.specs.Vocabulary.{HasWanted, IsGrantedSince}
use Rattle.laws_guarantees.proofs.Standing.{Agrees, IsWanted, WasTakenFor, not_ended, own_wanted, standing_held}
use Rattle.laws_guarantees.proofs.Standing.{standing_more, was_taken}
use Rattle.laws_guarantees.proofs.Room.{numbered_within}
use Rattle.laws_votes.proofs.Nets.{backed, listed, now, refined}
use Rattle.qc_list.specs.Vocabulary.{In}
use Rattle.qc_list.proofs.Members.{In-first, In-second, In-map}
use Rattle.qc_lock.specs.Vocabulary.{held_of}
use Rattle.qc_msg.specs.Vocabulary.{Deed, Entry, Takes, deeds, mail, request_in}
use Rattle.qc_msg.specs.declared.message.Envelope.{Envelope}
use Rattle.qc_msg.specs.declared.message.Message.{Message}
use Rattle.qc_msg.specs.declared.message.Message.TheVariants as messages
use Rattle.qc_msg.specs.declared.message.Outcome.{Outcome}
use Rattle.qc_msg.specs.declared.message.Outcome.TheVariants as outcomes
use Rattle.qc_msg.specs.declared.message.Want.{Want}
use Rattle.qc_msg.specs.declared.message.Want.TheVariants.{Append, Prepare, Read}
use Rattle.qc_msg.specs.declared.record.Record.{Record}
use Rattle.qc_msg.specs.declared.step.Input.TheVariants as inputs
use Rattle.laws_refinement.specs.Vocabulary.{IsHeld, own_item, own_items}
use Rattle.theory_onecopy.specs.Vocabulary.{Executed, own_line}
use Rattle.qc_promise.specs.Vocabulary.{Grant, Kept, committed, held_of_promises, held_shown, is_ended, is_final}
use Rattle.qc_promise.specs.Vocabulary.{is_granted, last_cut, prepared_shown, records, standing, standing_as}
use Rattle.qc_promise.specs.Vocabulary.{standing_by}
use Rattle.theory_machine.proofs.LogKeeps.{log_laws}
use Rattle.theory_machine.proofs.Places.{at}
use Rattle.theory_machine.specs.Vocabulary.{IsExecutedOrChosen, IsOwnClosedAt, Item, Lock, LogLaws, Own, State}
use Rattle.laws_reach.proofs.RunLaws.{decisions_tell_records_that_stand}
use Rattle.laws_reach.proofs.Committing as commits
use Rattle.qc_script.specs.Vocabulary.{IsScriptFor, RunsWithFalls}
use Rattle.qc_script.specs.declared.script.Script.{Script}
use Rattle.qc_stamp.specs.declared.stamp.TxId.{TxId}
use Rattle.laws_atomic.proofs.Heard.{took_sent}

-- what came since the last rise, Close or Install is among all deeds
since_in : (x : Deed) (ds : List Deed) → In x (last_cut ds).since → In x ds
since_in x ds among = subst (In x) (whole ds) (In-second x (last_cut ds).before (last_cut ds).since among)

module _ (fits : ℕ → List Record → Type 0) (decl : Declaration) (script : Script) (h : List Entry)
    (open_inputs : List Bool) (accepted : IsAccepted decl) (sound : IsScriptFor decl script)
    (run : RunsWithFalls (IsLawfulWithFalls decl) fits decl script h open_inputs) (kept : Kept h) where
  abbrev then : State
  then = now fits decl script h open_inputs accepted sound run kept

  laws_now : LogLaws decl then
  laws_now = log_laws decl accepted (refined fits decl script h open_inputs accepted sound run kept).acts
      (refined fits decl script h open_inputs accepted sound run kept).run

  -- an own line that was sent is a known operation's
  abbrev IsKnown : TxId → OwnLine → Type 0
  IsKnown tx o = (d : Executed) × IsExecutedOrChosen (then.executed tx) (then.chosen tx) d × (o ≡ own_line d)

  own_known : (e : Envelope) (tx : TxId) (epoch life object : ℕ) (view : List Line) (own : List OwnLine) (o : OwnLine)
      → In e (mail h) → e.message ≡ messages.Request tx epoch life (Append object view own) → In o own → IsKnown tx o
  own_known e tx epoch life object view own o sent is among =
      let b = backed fits decl script h open_inputs accepted sound run kept e
      (messages.Request tx epoch life (Append object view own)) sent is in
      let c : IsOwnClosedAt decl then.executed then.chosen tx view (own_items own) o =
      (laws_now.appends (record { tx = tx; items = own_items own; view = view }) b.3.0).own_closed o
      (In-map own_item o own among) in
      (c.operation, c.known, c.is)

  past : (tx : TxId) (c d : Executed) → In c (then.executed tx) → d.number ≡ suc (length (then.executed tx))
      → c.number ≡ d.number → ⊥
  past tx c d x n same = let low : c.number ≤ 0 + length (then.executed tx) =
      numbered_within (then.executed tx) [] c (laws_now.order tx) x in omega arith

  one_operation : (tx : TxId) (c d : Executed) → IsExecutedOrChosen (then.executed tx) (then.chosen tx) c
      → IsExecutedOrChosen (then.executed tx) (then.chosen tx) d → c.number ≡ d.number → c ≡ d
  one_operation tx c d (inl x) (inl y) same = (at (then.executed tx) (laws_now.order tx) d y).one c x same
  one_operation tx c d (inl x) (inr y) same = absurd (past tx c d x (laws_now.next tx d y).0.numbered same)
  one_operation tx c d (inr x) (inl y) same = absurd (past tx d c y (laws_now.next tx c x).0.numbered (sym same))
  one_operation tx c d (inr x) (inr y) same = let both_are : Some c ≡ Some d = sym x ∙ y in cc

  pub one_line : (tx : TxId) (o l : OwnLine) → IsKnown tx o → IsKnown tx l → o.op ≡ l.op → o ≡ l
  one_line tx o l a b ops =
      let numbers : a.0.number ≡ b.0.number = sym (ap (λ (y : OwnLine). y.op) a.2) ∙ ops
      ∙ ap (λ (y : OwnLine). y.op) b.2 in
      a.2 ∙ ap own_line (one_operation tx a.0 b.0 a.1 b.1 numbers) ∙ sym b.2

  module _ (c : CommitRecord) (is_committed : In c (committed decl h)) (site : ℕ) where
    abbrev since : List Deed
    since = (last_cut (deeds site [] h)).since

    taken_sent : (e : Envelope) → In (Takes (inputs.Got e)) since → In e (mail h)
    taken_sent e among = took_sent site [] h e (since_in (Takes (inputs.Got e)) (deeds site [] h) among)

    -- no final Decision came, where none came that it committed
    never_ended : (e : Envelope) (verdict : Outcome) → In (Takes (inputs.Got e)) since
        → ((stamp : _) → e.message ≡ messages.Decision c.tx (outcomes.Committed stamp) → ⊥)
        → e.message ≡ messages.Decision c.tx verdict → is_final verdict ≡ true → ⊥
    never_ended e (outcomes.Committed stamp) taken none is final = none stamp is
    never_ended e outcomes.Aborted taken none is final =
        decisions_tell_records_that_stand fits decl script h open_inputs accepted sound run kept (records decl h)
        (commits.committed_records_stand decl h kept) e c.tx outcomes.Aborted (taken_sent e taken) is c
        ((listed fits decl script h open_inputs accepted sound run kept c).0 is_committed) refl
    never_ended e outcomes.Active taken none is final = let never : ⊥ = cc in never

    standing_known : (k : Grant) (l : OwnLine) → In k (standing since) → k.tx ≡ c.tx → In l (own_wanted k.want)
        → IsKnown c.tx l
    standing_known k l among same there = by (was_taken since k among)
      where
        by_want : (e : Envelope) (epoch life : ℕ) (w : Want) → In e (mail h)
            → e.message ≡ messages.Request c.tx epoch life w → In l (own_wanted w) → IsKnown c.tx l
        by_want e epoch life (Read read) sent is member = absurd member
        by_want e epoch life (Append object view own) sent is member =
            own_known e c.tx epoch life object view own l sent is member
        by_want e epoch life Prepare sent is member = absurd member

        by : WasTakenFor since k → IsKnown c.tx l
        by w = by_want w.envelope w.epoch w.life k.want (taken_sent w.envelope w.taken)
            (w.content ∙ ap (λ (t : TxId). messages.Request t w.epoch w.life k.want) same) there

    module _ (want : Want) (g : IsGrantedSince since c.tx want) where
      abbrev asked : Grant
      asked = record { tx = c.tx; want = want }

      taken_since : (d : Deed) → In d g.since → In d since
      taken_since d among = subst (In d) (sym g.stands)
          (In-second d g.before (Takes (inputs.Got g.request) ∷ g.since) (inr among))

      it_stands : In asked (standing since)
      it_stands = subst (λ (ds : List Deed). In asked (standing ds)) (sym g.stands)
          (standing_more g.before (Takes (inputs.Got g.request) ∷ g.since) asked
          (In-first asked (standing_by g.since g.request) (standing g.since)
          (subst (λ (m : Message). In asked (option_map_or (standing_as g.request.number g.since) (request_in m) []))
          (sym g.content)
          (by (is_granted g.request.number g.since) (is_ended c.tx g.since) g.granted
          (not_ended c.tx g.since (λ e verdict taken is final. never_ended e verdict
          (taken_since (Takes (inputs.Got e)) taken) (λ stamp at. g.undecided e stamp taken at) is final))))))
        where
          by : (x y : Bool) → x ≡ true → y ≡ false → In asked (cond (x && not y) (asked ∷ []) [])
          by true true is none = absurd (let never : ⊥ = cc in never)
          by true false is none = inl refl
          by false y is none = absurd (let never : ⊥ = cc in never)

      request_sent : In g.request (mail h)
      request_sent = taken_sent g.request (subst (In (Takes (inputs.Got g.request))) (sym g.stands)
          (In-second (Takes (inputs.Got g.request)) g.before (Takes (inputs.Got g.request) ∷ g.since) (inl refl)))

      wanted_known : (x : Item) (o : OwnLine) → x ≡ Own o → IsWanted want x → IsKnown c.tx o
      wanted_known x o e is = by want refl is
        where
          by : (w : Want) → want ≡ w → IsWanted w x → IsKnown c.tx o
          by (Read read) same locked = absurd
              (let clash : Own o ≡ Lock (record { object = read.object; inv = read.inv }) = sym e
              ∙ locked in let never : ⊥ = cc in never)
          by (Append object view own) same has =
              let one : o ≡ has.0 = (let both_are : Own o ≡ Own has.0 = sym e ∙ has.1 in cc) in
              own_known g.request c.tx g.epoch g.life object view own o request_sent
              (g.content ∙ ap (λ (w : Want). messages.Request c.tx g.epoch g.life w) same)
              (subst (λ (y : OwnLine). In y own) (sym one) has.2)
          by Prepare same never = absurd never

      agrees : (x : Item) → IsWanted want x → Agrees (standing since) c.tx x
      agrees x is o l k e among same there ops =
          one_line c.tx o l (wanted_known x o e is) (standing_known k l among same there) ops

      wanted_held : (x : Item) → IsWanted want x → IsHeld (held_of (held_shown (deeds site [] h)) c.tx) x
      wanted_held x is = standing_held (standing since)
          (held_of_promises since (prepared_shown (last_cut (deeds site [] h)).before)) asked x it_stands
          (agrees x is) is

      pub granted_items_are_held_in_their_lives : HasWanted (held_of (held_shown (deeds site [] h)) c.tx) want
      granted_items_are_held_in_their_lives = by want wanted_held
        where
          by : (w : Want) → ((x : Item) → IsWanted w x → IsHeld (held_of (held_shown (deeds site [] h)) c.tx) x)
              → HasWanted (held_of (held_shown (deeds site [] h)) c.tx) w
          by (Read read) held = held (Lock (record { object = read.object; inv = read.inv })) refl
          by (Append object view own) held = λ o among. held (Own o) (o, refl, among)
          by Prepare held = tt
