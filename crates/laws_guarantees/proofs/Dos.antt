-- In each undisturbed run each `do` of a transaction that may go on is answered, or refused for a transaction that is
-- open elsewhere.
use Rattle.std.proofs.Common.{◌≡◌, ℕ, ◌-◌, ◌<◌, ◌≤◌, ◌==◌, ◌⊎◌, inl, inr, nat_lt, Bool, true, false, List, [], ◌++◌}
use Rattle.std.proofs.Common.{fold, length, Option, Some, None, slice_get, refl, sym, ap, ◌∙◌, subst, arith, eqb-true}
use Rattle.std.specs.Prelude.{is_some, option_and_then}
use Rattle.std.proofs.lemmas.Bool.{ltb-true, ltb-false}
use Rattle.std.proofs.lemmas.List.Sums.{fold-append}
use Rattle.qc_stamp.specs.declared.stamp.TxId.{TxId}
use Rattle.qc_core.specs.Vocabulary.{IsLawful, is_running}
use Rattle.qc_decl.specs.Vocabulary.{IsAccepted, administrator, client_actor, is_client}
use Rattle.qc_decl.specs.declared.declaration.Declaration.{Declaration}
use Rattle.qc_msg.specs.declared.reply.Reply.{Reply}
use Rattle.qc_msg.specs.declared.step.Command.{Command}
use Rattle.qc_msg.specs.declared.step.Command.TheVariants as commands
use Rattle.qc_msg.specs.declared.turn.Turn.{Turn}
use Rattle.qc_msg.specs.Vocabulary.{Deed, Entry, by, deeds, mail, posted, turn_deeds}
use Rattle.qc_msg.proofs.DeedsGrow.{deeds-other}
use Rattle.qc_msg.proofs.Growth.{deeds-posted}
use Rattle.qc_script.specs.Vocabulary.{Runs}
use Rattle.qc_script.specs.declared.script.Script.{Script}
use Rattle.laws_turns.specs.Vocabulary.{ActsIn, AsksDeclared}
use Rattle.laws_turns.proofs.Acted.{actors_take_and_post_by_turns}
use Rattle.laws_turns.proofs.Idle.{idle}
use Rattle.laws_guarantees.proofs.IdleDeeds.{idle_named}
use Rattle.qc_promise.specs.Vocabulary.{Current, account, account_at, do_row, new_account, row_of, running_row}
use Rattle.laws_due.proofs.Courses.{turns_tell_their_rows}
use Rattle.laws_guarantees.specs.Vocabulary.{DoOf, DoSucceeds, DosSucceed, EachReply, IsDone, IsOpenElsewhere, IsStill}
use Rattle.laws_guarantees.specs.Vocabulary.{IsUndisturbed, OfRunning, begun_by, name_of}
use Rattle.laws_guarantees.proofs.Asking.{IsBusy, is_busy}
use Rattle.laws_guarantees.proofs.OpenElsewhere.{IsElsewhere}
use Rattle.laws_guarantees.proofs.Each.{run_each, untold}
use Rattle.laws_guarantees.proofs.Names.{Stays, untold_stays}
use Rattle.laws_guarantees.proofs.OwnWords.{client_is}
use Rattle.laws_guarantees.proofs.PartsOf.{posted_parts}
use Rattle.laws_guarantees.proofs.Still.{one_still}
use Rattle.laws_guarantees.proofs.GoodRows.{GoodReply, is_absent, is_clash, is_response, row_good}
use Rattle.laws_turns.proofs.Up.{run_up}

module _ (decl : Declaration) (script : Script) (accepted : IsAccepted decl) (asks : AsksDeclared decl script)
    (calm : IsUndisturbed script) where
  -- what is open elsewhere as the turn is posted

  module _ (older : List Entry) (before : List Bool) (run : Runs (IsLawful decl) decl script older before) (b : ℕ)
      (named : is_client decl b ≡ true) (turn : Turn) where
    now : List Entry
    now = older ++ by b (posted (length (mail older)) (untold turn))

    open_now : is_running (deeds b [] older) ≡ true → (tx : TxId) → IsElsewhere decl b older tx
        → IsOpenElsewhere decl b (older ++ by b (posted (length (mail older)) (untold turn))) tx
    open_now runs tx e = record {
      elsewhere = e.elsewhere;
      still = same ∙ e.still;
      earlier = ap (begun_by decl (client_actor decl tx.client))
          (posted_parts older b (length (mail older)) (untold turn)) ∙ sym other_still.name ∙ e.still;
    } where
      c : ℕ
      c = client_actor decl tx.client

      differs : (b == client_actor decl tx.client) ≡ false
      differs = at (b == client_actor decl tx.client) refl
        where
          at : (x : Bool) → (b == client_actor decl tx.client) ≡ x → x ≡ false
          at true is = absurd (e.elsewhere (sym (eqb-true b (client_actor decl tx.client) is)))
          at false is = refl

      same : begun_by decl (client_actor decl tx.client) (older ++ by b (posted (length (mail older)) (untold turn)))
          ≡ begun_by decl (client_actor decl tx.client) older
      same = ap (λ (ds : List Deed). name_of (fold (account_at decl)
          (new_account (client_actor decl tx.client - decl.sites)) ds))
          (deeds-other b (client_actor decl tx.client) [] older (posted (length (mail older)) (untold turn)) differs)

      above : decl.sites ≤ client_actor decl tx.client
      above = omega arith

      low : client_actor decl tx.client < administrator decl
      low = at (nat_lt (client_actor decl tx.client) (administrator decl)) refl
        where
          at : (x : Bool) → nat_lt (client_actor decl tx.client) (administrator decl) ≡ x
              → client_actor decl tx.client < administrator decl
          at true is = ltb-true (client_actor decl tx.client) (administrator decl) is
          at false is =
              let nobody : begun_by decl (client_actor decl tx.client) older ≡ None =
              idle_named decl (deeds (client_actor decl tx.client) [] older)
              (new_account (client_actor decl tx.client - decl.sites))
              (idle decl (client_actor decl tx.client)
              (ltb-false (client_actor decl tx.client) (administrator decl) is) script older before run) in
              let somebody : begun_by decl (client_actor decl tx.client) older ≡ Some tx = e.still in
              absurd (let never : ⊥ = cc in never)

      other_still : IsStill decl script (client_actor decl tx.client) older
      other_still = at (one_still decl script accepted asks calm older before run b (client_actor decl tx.client) named
          (client_is decl script accepted asks older before run (client_actor decl tx.client) above low)
          (λ is. e.elsewhere (sym is)))
        where
          at : IsStill decl script b older ⊎ IsStill decl script (client_actor decl tx.client) older
              → IsStill decl script (client_actor decl tx.client) older
          at (inl s) = absurd (let rests : is_running (deeds b [] older) ≡ false = s.running in let never : ⊥ = cc in
              never)
          at (inr s) = s

    done : is_running (deeds b [] older) ≡ true → (r : Reply) → GoodReply decl b older r
        → IsDone decl (older ++ by b (posted (length (mail older)) (untold turn))) b r
    done runs _ (is_clash tx site good) = open_now runs tx good
    done runs _ is_absent = tt
    done runs _ (is_response resp) = tt

  -- what is written and sent with a reply leaves the account's transaction and command

  pub post_stays : (older : List Entry) (b : ℕ) (turn : Turn)
      → Stays (account decl b older) (account decl b (older ++ by b (posted (length (mail older)) (untold turn))))
  post_stays older b turn =
      subst (Stays (account decl b older))
      (sym (ap (λ (ds : List Deed). fold (account_at decl) (new_account (b - decl.sites)) ds)
      (deeds-posted b (length (mail older)) older (untold turn))
      ∙ fold-append (account_at decl) (new_account (b - decl.sites)) (deeds b [] older)
      (turn_deeds (length (mail older)) (untold turn))))
      (untold_stays decl (account decl b older) (length (mail older)) (untold turn) refl)

  reply_succeeds : (older : List Entry) (before : List Bool) → Runs (IsLawful decl) decl script older before → (b : ℕ)
      → is_client decl b ≡ true → (turn : Turn) → slice_get before b ≡ Some true
      → IsLawful decl b (deeds b [] older) turn → Unit {0}
      → (r : Reply) → turn.told ≡ Some r → DoSucceeds decl
      (older ++ by b (posted (length (mail older)) (untold turn))) b r
  reply_succeeds older before run b named turn is_opened lawful any r told =
      let s : Stays (account decl b older) (account decl b (older ++ by b (posted (length (mail older)) (untold turn))))
      = post_stays older b turn in
      subst (λ (o : Option Current). OfRunning
      (DoOf decl (older ++ by b (posted (length (mail older)) (untold turn))) b r) o
      (account decl b (older ++ by b (posted (length (mail older)) (untold turn)))).command) (sym s.current)
      (subst (λ (c : Option Command). OfRunning
      (DoOf decl (older ++ by b (posted (length (mail older)) (untold turn))) b r) (account decl b older).current c)
      (sym s.command)
      (at (account decl b older).current refl (account decl b older).command refl))
    where
      acts : ActsIn decl b older true
      acts = actors_take_and_post_by_turns decl script older before run b true is_opened

      due_now : running_row decl (account decl b older) false ≡ Some r
      due_now = sym (turns_tell_their_rows decl b named (deeds b [] older) acts.above turn acts.acts lawful) ∙ told

      at : (o : Option Current) → (account decl b older).current ≡ o → (c : Option Command)
          → (account decl b older).command ≡ c → OfRunning
          (DoOf decl (older ++ by b (posted (length (mail older)) (untold turn))) b r) o c
      at None current c command = tt
      at (Some t) current None command = tt
      at (Some t) current (Some commands.Begin) command = tt
      at (Some t) current (Some (commands.Do object inv)) command = λ live room.
          let row : do_row decl (account decl b older) t object inv ≡ Some r =
          (λ i. option_and_then (row_of decl (account decl b older) false (sym current i)) (sym command i)) ∙ due_now in
          let busy : IsBusy (account decl b older) (is_running (deeds b [] older)) =
          is_busy decl (b - decl.sites) (deeds b [] older)
          (run_up (IsLawful decl) decl script older before run b) in
          done older before run b named turn (sym busy.command ∙ ap (λ (c : Option Command). is_some c) command) r
          (row_good decl script accepted asks calm older before run b named is_opened t current object inv r live
          room row)
      at (Some t) current (Some commands.Commit) command = tt
      at (Some t) current (Some commands.Abort) command = tt
      at (Some t) current (Some (commands.Epoch number)) command = tt

  run_dos : (h : List Entry) (open_inputs : List Bool) → Runs (IsLawful decl) decl script h open_inputs
      → EachReply (DoSucceeds decl) [] h
  run_dos h open_inputs run = run_each (DoSucceeds decl) (λ h. Unit {0})
      (λ h k within. tt) decl script reply_succeeds h open_inputs run tt

pub undisturbed_dos_succeed : (decl : Declaration) (script : Script) → IsAccepted decl → AsksDeclared decl script
    → IsUndisturbed script → (h : List Entry) (open_inputs : List Bool) → Runs (IsLawful decl) decl script h open_inputs
    → DosSucceed decl h
undisturbed_dos_succeed decl script accepted asks calm h open_inputs run =
    run_dos decl script accepted asks calm h open_inputs run
