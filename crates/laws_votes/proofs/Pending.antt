-- Beside a live transaction in a run with falls: the commit record of another, which stands in its client's journal, or
-- is pending there. In some run of the machine, in which the live one is the same, it stands: while it is pending it
-- may be written.
use Rattle.std.proofs.Common.{◌≡◌, ◌≢◌, ◌⊎◌, ◌≤◌, ◌+◌, ◌-◌, ℕ, Bool, true, false, IsTrue, List, [], ◌∷◌, inl, inr, Some}
use Rattle.std.proofs.Common.{None, slice_get, refl, sym, ap, ◌∙◌, subst, arith}
use Rattle.qc_core.proofs.LivesLaws.{who_is_up_has_no_pending_record, journal}
use Rattle.qc_core.specs.Vocabulary.{IsLawfulWithFalls, is_up, journal_after}
use Rattle.qc_decl.specs.Vocabulary.{IsAccepted, actors, is_client}
use Rattle.qc_decl.specs.declared.declaration.Declaration.{Declaration}
use Rattle.qc_entry.specs.declared.line.Line.{Line}
use Rattle.qc_entry.specs.declared.line.Op.{Op}
use Rattle.qc_entry.specs.declared.record.Commit.{Commit as CommitRecord}
use Rattle.laws_votes.proofs.Clients.{IsNumbered, numbered, slot_of}
use Rattle.laws_votes.proofs.Nets.{net, now, reached, refined}
use Rattle.laws_votes.proofs.Recorded.{IsKnown}
use Rattle.qc_link.specs.Vocabulary.{most_actors}
use Rattle.qc_list.specs.Vocabulary.{In}
use Rattle.laws_turns.specs.Vocabulary.{LivesIn}
use Rattle.laws_turns.proofs.Lived.{actors_live_in_runs_with_falls}
use Rattle.qc_msg.specs.Vocabulary.{Entry, deeds, own}
use Rattle.qc_msg.specs.declared.record.Record.{Record}
use Rattle.qc_msg.specs.declared.record.Record.TheVariants as records
use Rattle.laws_refinement.specs.Vocabulary.{IsPendingBy}
use Rattle.theory_onecopy.specs.Vocabulary.{IsOperation, depends_at}
use Rattle.laws_guarantees.proofs.Committed.{reader_sees, writer_passes}
use Rattle.laws_guarantees.proofs.Live.{Live}
use Rattle.laws_guarantees.proofs.Settled.{IsSafe}
use Rattle.laws_votes.proofs.Live.{client_named, is_up_now, live}
use Rattle.qc_promise.specs.Vocabulary.{Current, Journal, Kept, account, journal_of, view_of}
use Rattle.theory_machine.specs.Vocabulary.{Act, Active, Commit, Committed, IsRun, MayCommit, Status, Voting, state}
use Rattle.theory_machine.proofs.Names.{put_case, put_tx_case}
use Rattle.laws_reach.proofs.Written.{Agree, written_are}
use Rattle.qc_script.specs.Vocabulary.{IsScriptFor, RunsWithFalls}
use Rattle.qc_script.specs.declared.script.Script.{Script}

-- a run of the machine in which the transaction is live and safe, and the record stands
record StandsBeside (decl : Declaration) (t : Current) (clock : ℕ) (c : CommitRecord) : Type 0 where
  acts : List Act
  run : IsRun decl acts
  alive : Live (state acts) t clock
  safe : IsSafe acts t.tx
  among : In c (state acts).records

-- where it may be written, it stands as it is written
written_beside : (decl : Declaration) (acts : List Act) → IsRun decl acts → (t : Current) (clock : ℕ)
    → Live (state acts) t clock → IsSafe acts t.tx → (c : CommitRecord) → MayCommit (state acts) c → c.tx ≢ t.tx
    → (t.tx.client ≢ c.tx.client)
    → StandsBeside decl t clock c
written_beside decl acts run t clock l safe c may apart others = record {
  acts = Commit c ∷ acts;
  run = (may, run);
  alive = record {
    active = put_tx_case (λ (s : Status). (s ≡ Active) ⊎ (s ≡ Voting)) (state acts).status c.tx (Committed c) t.tx
        (λ same. absurd (apart (sym same))) (λ other. l.active);
    ops = l.ops;
    view = l.view;
    passed = put_case (λ (n : ℕ). n ≤ clock) (state acts).clock c.tx.client c.stamp.clock t.tx.client
        (λ same. absurd (others same)) (λ other. l.passed);
  };
  safe = safe;
  among = inl refl;
}

module _ (fits : ℕ → List Record → Type 0) (decl : Declaration) (script : Script) (h : List Entry)
    (open_inputs : List Bool) (accepted : IsAccepted decl) (sound : IsScriptFor decl script)
    (run : RunsWithFalls (IsLawfulWithFalls decl) fits decl script h open_inputs) (kept : Kept h) where
  few : actors decl ≤ most_actors
  few = let s = accepted.sites in let c = accepted.clients in omega arith

  -- a client with a pending record is down
  pub down : (w : ℕ) → is_client decl w ≡ true → (r : Record) → (journal_of (own w h)).pending ≡ Some r
      → is_up (deeds w [] h) ≡ false
  down w client r pending = by (is_up (deeds w [] h)) refl
    where
      slot : (b : Bool) × (slice_get open_inputs w ≡ Some b)
      slot = slot_of fits decl script h open_inputs accepted sound run kept w client

      lived : LivesIn decl w h slot.0
      lived = actors_live_in_runs_with_falls decl script fits few h open_inputs run w slot.0 slot.1

      by : (up : Bool) → is_up (deeds w [] h) ≡ up → is_up (deeds w [] h) ≡ false
      by false is = is
      by true is =
          absurd (let none : (journal_after (deeds w [] h)).pending ≡ None =
          who_is_up_has_no_pending_record decl w (deeds w [] h) slot.0 lived.above lived.lives is in
          let some : Some r ≡ None = sym pending ∙ ap (λ (j : Journal). j.pending) (sym (journal w h)) ∙ none in
          let never : ⊥ = cc in
          never)

  -- it may be written then
  pub pends : (w : ℕ) (c : CommitRecord) → is_client decl w ≡ true
      → (journal_of (own w h)).pending ≡ Some (records.Commit c)
      → MayCommit (now fits decl script h open_inputs accepted sound run kept) c × (c.tx.client ≡ w - decl.sites)
  pends w c client pending =
      subst (IsPendingBy (now fits decl script h open_inputs accepted sound run kept) (w - decl.sites))
      ((reached fits decl script h open_inputs accepted sound run kept).pending_is w (inr (inl client)) ∙ pending)
      ((refined fits decl script h open_inputs accepted sound run kept).agrees.fallen w client
      ((reached fits decl script h open_inputs accepted sound run kept).up_is w (inr (inl client))
      ∙ down w client (records.Commit c) pending)).pends

  module _ (a : ℕ) (client : is_client decl a ≡ true) (t : Current) (begun : (account decl a h).current ≡ Some t)
      (safe : IsSafe (refined fits decl script h open_inputs accepted sound run kept).acts t.tx)
      (w : ℕ) (writer : is_client decl w ≡ true) (c : CommitRecord) (apart : c.tx ≢ t.tx) where
    -- one client is up, and the other is down
    others : is_up (deeds w [] h) ≡ false → c.tx.client ≡ w - decl.sites → t.tx.client ≢ c.tx.client
    others is named same =
        let mine : IsNumbered decl a = numbered decl a client in
        let its : IsNumbered decl w = numbered decl w writer in
        let own : t.tx.client ≡ a - decl.sites =
        client_named fits decl script h open_inputs accepted sound run kept a client t begun in
        let low : a ≡ decl.sites + (a - decl.sites) = mine.is in
        let high : w ≡ decl.sites + (w - decl.sites) = its.is in
        let one : w ≡ a = omega arith in
        let up : is_up (deeds a [] h) ≡ true = is_up_now fits decl script h open_inputs accepted sound run kept a client
        t begun in
        let no : true ≡ false = sym up ∙ subst (λ (n : ℕ). is_up (deeds n [] h) ≡ false) one is in
        let never : ⊥ = cc in
        never

    beside : IsKnown c (journal_of (own w h)) → StandsBeside decl t (account decl a h).clock c
    beside (inl among) = record {
      acts = (refined fits decl script h open_inputs accepted sound run kept).acts;
      run = (refined fits decl script h open_inputs accepted sound run kept).run;
      alive = live fits decl script h open_inputs accepted sound run kept a client t begun;
      safe = safe;
      among = (refined fits decl script h open_inputs accepted sound run kept).agrees.records c
          (agree.all c (record {
            actor = w;
            client = writer;
            listed = subst (In (records.Commit c)) (sym
                ((reached fits decl script h open_inputs accepted sound run kept).records_are w (inr (inl writer))))
                among;
          }));
    }
      where
        agree : Agree decl (net fits decl script h open_inputs accepted sound run kept).records
            (net fits decl script h open_inputs accepted sound run kept).written
        agree = written_are decl accepted (net fits decl script h open_inputs accepted sound run kept)
            (reached fits decl script h open_inputs accepted sound run kept).reached
    beside (inr pending) =
        let may : MayCommit (now fits decl script h open_inputs accepted sound run kept) c
        × (c.tx.client ≡ w - decl.sites) = pends w c writer pending in
        written_beside decl (refined fits decl script h open_inputs accepted sound run kept).acts
        (refined fits decl script h open_inputs accepted sound run kept).run
        t (account decl a h).clock (live fits decl script h open_inputs accepted sound run kept a client t begun) safe c
        may.0 apart (others (down w writer (records.Commit c) pending) may.1)

    module _ (known : IsKnown c (journal_of (own w h))) where
      b : StandsBeside decl t (account decl a h).clock c
      b = beside known

      -- the reader is live
      pub sees : (op : Op) (line : Line) → In op t.ops → line.stamp ≡ c.stamp → line.tx ≡ c.tx
          → IsOperation decl c.ops line.op line.object line.event → line.object ≡ op.object
          → IsTrue (depends_at decl op.object op.inv line.event)
          → In line (view_of t op.object) × (line.stamp.clock ≤ (account decl a h).clock)
      sees op line = reader_sees decl accepted b.acts b.run t
          (account decl a h).clock b.alive b.safe c b.among apart op line

      -- the writer is live
      pub passes : (op : Op) (number object number_of_event : ℕ) → In op c.ops
          → IsOperation decl t.ops number object number_of_event → object ≡ op.object
          → IsTrue (depends_at decl op.object op.inv number_of_event) → c.stamp.clock ≤ (account decl a h).clock
      passes op number object number_of_event =
          writer_passes decl accepted b.acts b.run t
          (account decl a h).clock b.alive b.safe c b.among apart op number object number_of_event
