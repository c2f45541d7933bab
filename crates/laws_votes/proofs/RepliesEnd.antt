-- A client's reply is the last step of its turn, or Unknown, and the client falls behind it: so the entries up to there
-- are a run.
use Rattle.std.proofs.Common.{[], ◌≡◌, ◌+◌, ℕ, Bool, true, false, List, ◌∷◌, ◌++◌, inl, inr, length, Option, Some, None}
use Rattle.std.proofs.Common.{slice_get, refl, sym, ap, ◌∙◌, subst, append_assoc}
use Rattle.std.proofs.lemmas.List.{append-nil}
use Rattle.std.specs.Prelude.{slice_set}
use Rattle.laws_due.proofs.Standing.{IsAtInput, Stands, actor_more, turn_is}
use Rattle.laws_due.proofs.Writing.{IsClientTurn, IsCommitTurn, takes_turn}
use Rattle.qc_client.specs.Vocabulary.{client_takes}
use Rattle.qc_core.proofs.LivesOfActors as actor_laws
use Rattle.qc_core.specs.Vocabulary.{ActorMove, IsLawfulWithFalls, actor_after, actor_takes, down_takes, with_record}
use Rattle.qc_core.proofs.ByNumber.{rises_by}
use Rattle.qc_decl.specs.Vocabulary.{IsAccepted, is_client, is_site}
use Rattle.qc_decl.specs.declared.declaration.Declaration.{Declaration}
use Rattle.laws_votes.proofs.Clients.{client_at}
use Rattle.qc_msg.proofs.DeedsGrow.{deeds-append, deeds-rose}
use Rattle.qc_msg.specs.Vocabulary.{Deed, Entry, HasRecord, MayEnd, Takes, by, deeds, mail, marked, posted_as, sents}
use Rattle.qc_msg.specs.Vocabulary.{step_of}
use Rattle.qc_msg.specs.Steps as post
use Rattle.qc_msg.specs.declared.record.Record.{Record}
use Rattle.qc_msg.specs.declared.reply.Reply.{Reply}
use Rattle.qc_msg.specs.declared.reply.Reply.TheVariants.{Unknown}
use Rattle.qc_msg.specs.declared.step.Fall.{Fall}
use Rattle.qc_msg.specs.declared.step.Fall.TheVariants as causes
use Rattle.qc_msg.specs.declared.step.Input.{Input}
use Rattle.qc_msg.specs.declared.step.Input.TheVariants as given
use Rattle.qc_msg.specs.declared.step.Step.TheVariants as steps
use Rattle.qc_msg.specs.declared.turn.Appended.{Appended}
use Rattle.qc_msg.specs.declared.turn.Appended.TheVariants as ends
use Rattle.qc_msg.specs.declared.turn.Posting.{Posting}
use Rattle.qc_msg.specs.declared.turn.Turn.{Turn}
use Rattle.laws_guarantees.proofs.Moments.{First, Second, split}
use Rattle.laws_votes.specs.Vocabulary.{EndsTurn, IsRunWithout, unknown_fall}
use Rattle.qc_promise.specs.Vocabulary.{Kept}
use Rattle.qc_script.specs.Vocabulary.{IsScriptFor, RunsWithFalls, begins, control, damaged, falls, phase, phase_of}
use Rattle.qc_script.specs.Vocabulary.{posts, rises, takes, unopened}
use Rattle.qc_script.specs.declared.script.Script.{Script}
use Rattle.laws_votes.proofs.Untold.{reply_of, tells, silent_none, silent_one, silent_taken, silent_line}
use Rattle.laws_votes.proofs.RepliesLast.{IsToldIn, told_in, at_end, as_failed, as_stopped}
use Rattle.qc_core.proofs.PostsByTurns.{called_turn}
use Rattle.qc_list.proofs.Places.{slice_get-set_same}
use Rattle.qc_promise.proofs.Posts.{kept_part}

-- a turn that tells nothing
never_told : (end : Appended) (b n : ℕ) (turn : Turn) → turn.told ≡ None → turn.failed_told ≡ None
    → (m : List Entry) (a : ℕ) (reply : Reply) (after : List Entry)
    → by b (posted_as end n turn) ≡ m ++ tells a reply ∷ after → ⊥
never_told end b n turn none failed m a reply after is = at end (told_in end b n turn m a reply after is)
  where
    at : (by_end : Appended) → IsToldIn b n turn a reply m after by_end → ⊥
    at by_end (at_end own last) = let no : None ≡ Some reply = sym none ∙ own.told in let never : ⊥ = cc in never
    at by_end (as_failed own first last) =
        let no : None ≡ Some reply = sym failed ∙ own.told in let never : ⊥ = cc in never
    at by_end (as_stopped own first last) =
        let no : None ≡ Some reply = sym failed ∙ own.told in let never : ⊥ = cc in never

may_fall : (write : Option Record) → HasRecord write → write ≡ None → ⊥
may_fall write has none = subst HasRecord none has

module _ (fits : ℕ → List Record → Type 0) (decl : Declaration) (script : Script) (accepted : IsAccepted decl)
    (sound : IsScriptFor decl script) where
  abbrev IsRun : List Entry → List Bool → Type 0
  IsRun h inputs = RunsWithFalls (IsLawfulWithFalls decl) fits decl script h inputs

  abbrev Ends : List Entry → ℕ → List Entry → Reply → Type 0
  Ends h a before reply = EndsTurn fits decl script h a before reply

  -- a longer history
  ends_more : (h xs : List Entry) (a : ℕ) (before : List Entry) (reply : Reply) → Ends h a before reply
      → Ends (h ++ xs) a before reply
  ends_more h xs a before reply (inl run) = inl run
  ends_more h xs a before reply (inr f) = inr (record {
    unknown = f.unknown;
    cause = f.cause;
    commit = f.commit;
    after = f.after ++ xs;
    stands =
        ap (λ (k : List Entry). k ++ xs) f.stands
        ∙ append_assoc before (by a (unknown_fall f.cause f.commit) ++ f.after) xs;
    ends = f.ends;
  })

  module _ (older : List Entry) (slots : List Bool) (run : IsRun older slots) (kept : Kept older) (b : ℕ) (turn : Turn)
      (taken : slice_get slots b ≡ Some true) (law : IsLawfulWithFalls decl b (deeds b [] older) turn) where
    abbrev n : ℕ
    n = length (mail older)

    -- a client writes a commit record or none
    turn_of : is_client decl b ≡ true → IsClientTurn turn
    turn_of client = at (client_at fits decl script older slots accepted sound run kept b client true taken)
      where
        same : (x : Turn) → x ≡ with_record turn → IsClientTurn x → IsClientTurn turn
        same x is (inl none) = inl (ap (λ (t : Turn). t.write) (sym is) ∙ none)
        same x is (inr t) = inr (record {
          commit = t.commit;
          write = ap (λ (y : Turn). y.write) (sym is) ∙ t.write;
          failed_sends = ap (λ (y : Turn). y.failed_sends) (sym is) ∙ t.failed_sends;
          failed_told = ap (λ (y : Turn). y.failed_told) (sym is) ∙ t.failed_told;
        })

        at : IsAtInput decl b (deeds b [] older) → IsClientTurn turn
        at k = by k.rest.up k.rest.stands
          where
            taken_is : (actor_takes decl (actor_after decl b k.before).actor k.given).turn ≡ with_record turn
            taken_is =
                ap (λ (m : ActorMove). m.turn)
                (sym (ap (actor_after decl b) k.is ∙ actor_more decl b k.before (Takes k.given ∷ [])))
                ∙ turn_is decl b client (deeds b [] older) turn law

            quiet_down : (g : Input) → (down_takes g).write ≡ None
            quiet_down (given.Called command) = refl
            quiet_down (given.Got envelope) = refl
            quiet_down (given.Lost number) = refl

            by : (up : Bool) → Stands decl b up k.before → IsClientTurn turn
            by true s =
                same (client_takes decl s.state k.given).turn
                (ap (λ (v : _). (actor_takes decl v k.given).turn) (sym s.actor) ∙ taken_is)
                (takes_turn decl s.state k.given)
            by false s =
                same (down_takes k.given) (ap (λ (v : _). (actor_takes decl v k.given).turn) (sym s.actor) ∙ taken_is)
                (inl (quiet_down k.given))

    whole : IsRunWithout fits decl script b (older ++ by b (posted_as turn.append n turn))
    whole =
        record {
          open_inputs = slice_set slots b false;
          run = posts b turn slots older run taken law;
          none = slice_get-set_same slots b false true taken;
        }

    -- the client falls behind it
    fallen : (cause : Fall) (m : List Entry) (reply : Reply) → IsCommitTurn turn → turn.failed_told ≡ Some reply
        → m ≡ []
        → by b (posted_as turn.append n turn) ≡ m ++ tells b reply ∷ marked b (steps.Fell cause turn.write) ∷ []
        → Ends (older ++ by b (posted_as turn.append n turn)) b (older ++ m) reply
    fallen cause m reply t told_is none is =
        let unknown : reply ≡ Unknown = (let both : Some reply ≡ Some Unknown = sym told_is ∙ t.failed_told in cc) in
        let steps_are : by b (posted_as turn.append n turn) ≡ by b (unknown_fall cause t.commit) =
        is ∙ ap (λ (k : List Entry). k ++ tells b reply ∷ marked b (steps.Fell cause turn.write) ∷ []) none
        ∙ (λ i. tells b (unknown i) ∷ marked b (steps.Fell cause (t.write i)) ∷ []) in
        let same : older ≡ older ++ m = sym (append-nil older) ∙ ap (λ (k : List Entry). older ++ k) (sym none) in
        subst (λ (k : List Entry). Ends (older ++ by b (posted_as turn.append n turn)) b k reply) same
        (inr (record {
          unknown = unknown;
          cause = cause;
          commit = t.commit;
          after = [];
          stands =
              ap (λ (k : List Entry). older ++ k) (steps_are ∙ sym (append-nil (by b (unknown_fall cause t.commit))));
          ends = subst (λ (k : List Entry). IsRunWithout fits decl script b (older ++ k)) steps_are whole;
        }))

    posted : (m : List Entry) (reply : Reply) (after : List Entry) → is_client decl b ≡ true
        → by b (posted_as turn.append n turn) ≡ m ++ tells b reply ∷ after
        → Ends (older ++ by b (posted_as turn.append n turn)) b (older ++ m) reply
    posted m reply after client is = at turn.append refl (told_in turn.append b n turn m b reply after is)
      where
        commit_turn : (end : Appended) → turn.append ≡ end → (MayEnd turn.write end → HasRecord turn.write)
            → IsClientTurn turn → IsCommitTurn turn
        commit_turn end same may (inl none) =
            absurd (may_fall turn.write (may (subst (MayEnd turn.write) same law.may_end)) none)
        commit_turn end same may (inr t) = t

        at : (end : Appended) → turn.append ≡ end → IsToldIn b n turn b reply m after end
            → Ends (older ++ by b (posted_as turn.append n turn)) b (older ++ m) reply
        at end same (at_end own last) =
            inl (subst (IsRunWithout fits decl script b)
            (ap (λ (k : List Entry). older ++ k) (is ∙ ap (λ (k : List Entry). m ++ tells b reply ∷ k) last)
            ∙ sym (append_assoc older m (tells b reply ∷ []))) whole)
        at end same (as_failed own first last) =
            let t : IsCommitTurn turn = commit_turn ends.Failed same (λ has. has) (turn_of client) in
            fallen causes.Disk m reply t own.told (first ∙ ap (λ (ps : List Posting). by b (sents n ps)) t.failed_sends)
            (is ∙ ap (λ (k : List Entry). m ++ tells b reply ∷ k) last)
        at end same (as_stopped own first last) =
            fallen causes.Stop m reply (commit_turn ends.Stopped same (λ has. has) (turn_of client)) own.told first
            (is ∙ ap (λ (k : List Entry). m ++ tells b reply ∷ k) last)

  -- a rising turn tells nothing
  risen_silent : (older : List Entry) (b : ℕ) (rs : List Record) (turn : Turn)
      → IsLawfulWithFalls decl b (deeds b [] (older ++ marked b (steps.Rose rs) ∷ [])) turn
      → (turn.told ≡ None) × (turn.failed_told ≡ None)
  risen_silent older b rs turn law = by (is_site decl b) (is_client decl b) same
    where
      same : (rises_by decl b rs (is_site decl b) (is_client decl b)).turn ≡ with_record turn
      same =
          ap (λ (m : ActorMove). m.turn)
          (sym (ap (actor_after decl b)
          (deeds-append b [] older (post.by b (steps.Rose rs ∷ []))
          ∙ ap (λ (v : List Deed). deeds b [] older ++ v) (deeds-rose b (mail older) rs))
          ∙ actor_laws.rises decl b (deeds b [] older) rs))
          ∙ called_turn decl b (deeds b [] (older ++ marked b (steps.Rose rs) ∷ [])) turn law

      by : (s c : Bool) → (rises_by decl b rs s c).turn ≡ with_record turn
          → (turn.told ≡ None) × (turn.failed_told ≡ None)
      by true c is = (ap (λ (t : Turn). t.told) (sym is), ap (λ (t : Turn). t.failed_told) (sym is))
      by false true is = (ap (λ (t : Turn). t.told) (sym is), ap (λ (t : Turn). t.failed_told) (sym is))
      by false false is = (ap (λ (t : Turn). t.told) (sym is), ap (λ (t : Turn). t.failed_told) (sym is))

  pub replies_end_their_turns_through_falls : (h : List Entry) (inputs : List Bool) → IsRun h inputs → Kept h
      → (before : List Entry) (a : ℕ) (reply : Reply) (after : List Entry) → is_client decl a ≡ true
      → h ≡ before ++ tells a reply ∷ after → Ends h a before reply
  replies_end_their_turns_through_falls h inputs begins kept before a reply after client is =
      absurd (silent_none [] (λ e never. absurd never) before a reply after is)
  replies_end_their_turns_through_falls h inputs (takes b g slots older run free rdy)
      kept before a reply after client is =
      elim (split older (marked b (step_of g) ∷ []) before (tells a reply) after is) [
        | First m s ↦
            ends_more older _ a before reply (replies_end_their_turns_through_falls older slots run
            (kept_part older _ kept) before a reply m client s)
        | Second m e s ↦ absurd (silent_none _ (silent_one (marked b (step_of g)) (silent_taken g)) m a reply after s)
      ]
  replies_end_their_turns_through_falls h inputs (posts b turn slots older run taken law)
      kept before a reply after client is =
      elim (split older (by b (posted_as turn.append (length (mail older)) turn)) before (tells a reply) after is) [
        | First m s ↦
            ends_more older _ a before reply (replies_end_their_turns_through_falls older slots run
            (kept_part older _ kept) before a reply m client s)
        | Second m e s ↦ at m e s (actor_of (told_in turn.append b (length (mail older)) turn m a reply after s))
      ]
    where
      actor_of : {m after : List Entry} {end : Appended} → IsToldIn b (length (mail older)) turn a reply m after end
          → b ≡ a
      actor_of (at_end own last) = own.actor
      actor_of (as_failed own first last) = own.actor
      actor_of (as_stopped own first last) = own.actor

      at : (m : List Entry) → before ≡ older ++ m
          → by b (posted_as turn.append (length (mail older)) turn) ≡ m ++ tells a reply ∷ after → b ≡ a
          → Ends (older ++ by b (posted_as turn.append (length (mail older)) turn)) a before reply
      at m e s same =
          subst (λ (k : List Entry). Ends (older ++ by b (posted_as turn.append (length (mail older)) turn)) a k reply)
          (sym e)
          (subst (λ (c : ℕ). Ends (older ++ by b (posted_as turn.append (length (mail older)) turn)) c (older ++ m)
          reply) same
          (posted older slots run (kept_part older _ kept) b turn taken law m reply after
          (subst (λ (c : ℕ). is_client decl c ≡ true) (sym same) client)
          (s ∙ ap (λ (c : ℕ). m ++ tells c reply ∷ after) (sym same))))
  replies_end_their_turns_through_falls h inputs (phase slots older run idle done quiet more)
      kept before a reply after client is =
      elim (split older (marked _ (steps.Phase (phase_of older + 1)) ∷ []) before (tells a reply) after is) [
        | First m s ↦
            ends_more older _ a before reply (replies_end_their_turns_through_falls older slots run
            (kept_part older _ kept) before a reply m client s)
        | Second m e s ↦
            absurd (silent_none _ (silent_one (marked _ (steps.Phase (phase_of older + 1))) refl) m a reply after s)
      ]
  replies_end_their_turns_through_falls h inputs (control line lines acted slots older run left acts)
      kept before a reply after client is =
      elim (split older (marked _ acted ∷ []) before (tells a reply) after is) [
        | First m s ↦
            ends_more older _ a before reply (replies_end_their_turns_through_falls older slots run
            (kept_part older _ kept) before a reply m client s)
        | Second m e s ↦
            absurd (silent_none _ (silent_one (marked _ acted) (silent_line line acted acts)) m a reply after s)
      ]
  replies_end_their_turns_through_falls h inputs (falls b lines slots older run left)
      kept before a reply after client is =
      elim (split older (marked b (steps.Fell causes.Script None) ∷ []) before (tells a reply) after is) [
        | First m s ↦
            ends_more older _ a before reply (replies_end_their_turns_through_falls older slots run
            (kept_part older _ kept) before a reply m client s)
        | Second m e s ↦
            absurd (silent_none _ (silent_one (marked b (steps.Fell causes.Script None)) refl) m a reply after s)
      ]
  replies_end_their_turns_through_falls h inputs (rises b rs turn lines slots older run left fit has law)
      kept before a reply after client is =
      elim (split older (by b (steps.Rose rs ∷ posted_as turn.append (length (mail older)) turn)) before (tells a reply)
      after is) [
        | First m s ↦
            ends_more older _ a before reply (replies_end_their_turns_through_falls older slots run
            (kept_part older _ kept) before a reply m client s)
        | Second m e s ↦ absurd (never m s)
      ]
    where
      never : (m : List Entry)
          → by b (steps.Rose rs ∷ posted_as turn.append (length (mail older)) turn) ≡ m ++ tells a reply ∷ after → ⊥
      never [] s =
          let same : marked b (steps.Rose rs) ≡ tells a reply = cc in
          let some : None ≡ Some reply = ap (λ (x : Entry). reply_of x.step) same in let no : ⊥ = cc in no
      never (x ∷ m) s =
          let rest : by b (posted_as turn.append (length (mail older)) turn) ≡ m ++ tells a reply ∷ after = cc in
          let none = risen_silent older b rs turn law in
          never_told turn.append b (length (mail older)) turn none.0 none.1 m a reply after rest
  replies_end_their_turns_through_falls h inputs (damaged b offset lines slots older run left)
      kept before a reply after client is =
      absurd (kept older [] (marked b (steps.Damaged offset)) refl)
  replies_end_their_turns_through_falls h inputs (unopened b cause lines slots older run left disk)
      kept before a reply after client is =
      elim (split older (marked b (steps.Fell cause None) ∷ []) before (tells a reply) after is) [
        | First m s ↦
            ends_more older _ a before reply (replies_end_their_turns_through_falls older slots run
            (kept_part older _ kept) before a reply m client s)
        | Second m e s ↦ absurd (silent_none _ (silent_one (marked b (steps.Fell cause None)) refl) m a reply after s)
      ]
