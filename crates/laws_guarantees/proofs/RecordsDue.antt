-- A commit record is due where it stands: it is of what was begun, and its stamp comes next.
use Rattle.std.proofs.Common.{[], ◌≡◌, ◌<◌, ◌+◌, ◌-◌, ℕ, Bool, true, cond, List, ◌∷◌, ◌++◌, Option, Some, None}
use Rattle.std.proofs.Common.{slice_get, option_map, option_to_list, refl, ap, ◌∙◌, subst, eq-eqb}
use Rattle.qc_decl.proofs.Clients.{client_within}
use Rattle.qc_stamp.specs.declared.stamp.Stamp.{Stamp}
use Rattle.qc_entry.specs.declared.record.Commit.{Commit as CommitRecord}
use Rattle.qc_core.specs.Vocabulary.{IsLawful}
use Rattle.qc_decl.specs.declared.declaration.Declaration.{Declaration}
use Rattle.qc_decl.specs.Vocabulary.{IsAccepted, actors, is_client}
use Rattle.qc_msg.specs.declared.record.Record.TheVariants as records
use Rattle.qc_msg.specs.Vocabulary.{Entry, Writes, deeds, envelope_of, mail}
use Rattle.qc_msg.proofs.DeedsGrow.{deeds-append}
use Rattle.qc_promise.specs.Vocabulary.{Account, Current, account, commit_of, new_account}
use Rattle.laws_due.specs.Vocabulary.{AreByRows, IsByRow}
use Rattle.laws_due.proofs.Courses.{deeds_of_clients_are_by_rows}
use Rattle.qc_script.specs.Vocabulary.{IsScriptFor, Runs}
use Rattle.qc_script.specs.declared.script.Script.{Script}
use Rattle.laws_turns.proofs.Acted.{has_entry, actors_take_and_post_by_turns}
use Rattle.laws_turns.specs.Vocabulary.{ActsIn}
use Rattle.laws_guarantees.proofs.DueStamps.{due_stamp}
use Rattle.laws_guarantees.proofs.Requests.{due_at}
use Rattle.laws_guarantees.proofs.Persists.{due_front}
use Rattle.laws_guarantees.proofs.Moments.{moment, wrote, writer}

-- the record that goes with what was begun
begun_of : (d : Account) (stamp : Stamp) (c : CommitRecord) → commit_of d stamp ≡ Some c
    → (t : Current) × (d.current ≡ Some t) × (c.tx ≡ t.tx) × (c.ops ≡ t.ops)
begun_of d stamp c is = by d.current refl is
  where
    by : (o : Option Current) → d.current ≡ o
        → option_map (λ (t : Current). record { stamp = stamp; tx = t.tx; ops = t.ops }) o ≡ Some c
        → (t : Current) × (d.current ≡ Some t) × (c.tx ≡ t.tx) × (c.ops ≡ t.ops)
    by None at e = absurd (let never : ⊥ = cc in never)
    by (Some t) at e =
        let same : c ≡ record { stamp = stamp; tx = t.tx; ops = t.ops } = cc in
        (t, at, ap (λ (x : CommitRecord). x.tx) same, ap (λ (x : CommitRecord). x.ops) same)

module _ (decl : Declaration) (script : Script) (accepted : IsAccepted decl) (sound : IsScriptFor decl script)
    (h : List Entry) (open_inputs : List Bool) (run : Runs (IsLawful decl) decl script h open_inputs) where
  pub within : (a : ℕ) → is_client decl a ≡ true → a < actors decl
  within a client = client_within decl a client

  -- all that a client does is due
  deeds_due : (a : ℕ) → is_client decl a ≡ true → AreByRows decl (new_account (a - decl.sites)) (deeds a [] h)
  deeds_due a client = by (has_entry (IsLawful decl) decl script h open_inputs run a (within a client))
    where
      by : (t : Bool) × (slice_get open_inputs a ≡ Some t)
          → AreByRows decl (new_account (a - decl.sites)) (deeds a [] h)
      by slot =
          let acts : ActsIn decl a h slot.0 =
          actors_take_and_post_by_turns decl script h open_inputs run a slot.0 slot.1 in
          deeds_of_clients_are_by_rows decl a client (deeds a [] h) slot.0 acts.above acts.acts

  -- a record is due where it stands: it is of what was begun, and its stamp comes next
  pub record IsDueThere (before : List Entry) (a : ℕ) (c : CommitRecord) : Type 0 where
    pub t : Current
    pub begun : (account decl a before).current ≡ Some t
    pub tx : c.tx ≡ t.tx
    pub ops : c.ops ≡ t.ops
    pub stamp : c.stamp.clock ≡ (account decl a before).clock + 1
    pub due : AreByRows decl (new_account (a - decl.sites)) (deeds a [] before)

  pub due_there : (before : List Entry) (a : ℕ) (c : CommitRecord) (after : List Entry)
      → h ≡ before ++ wrote a c ∷ after
      → is_client decl a ≡ true → IsDueThere before a c
  due_there before a c after is client =
      let due : AreByRows decl (new_account (a - decl.sites))
      (deeds a [] before ++ Writes (records.Commit c)
      ∷ deeds a (mail before ++ option_to_list (envelope_of (wrote a c))) after) =
      subst (AreByRows decl (new_account (a - decl.sites))) parts (deeds_due a client) in
      let it : IsByRow decl (account decl a before) (Writes (records.Commit c)) =
      due_at decl (deeds a [] before) (Writes (records.Commit c))
      (deeds a (mail before ++ option_to_list (envelope_of (wrote a c))) after) (new_account (a - decl.sites))
      due in
      let b = begun_of (account decl a before) c.stamp c it.1 in
      record {
        t = b.0;
        begun = b.1;
        tx = b.2;
        ops = b.3;
        stamp = ap (λ (s : Stamp). s.clock) (due_stamp decl (account decl a before) c.stamp it.0);
        due =
            due_front decl (deeds a [] before)
            (Writes (records.Commit c) ∷ deeds a (mail before ++ option_to_list (envelope_of (wrote a c))) after)
            (new_account (a - decl.sites)) due;
      }
    where
      parts : deeds a [] h
          ≡ deeds a [] before
          ++ Writes (records.Commit c) ∷ deeds a (mail before ++ option_to_list (envelope_of (wrote a c))) after
      parts =
          ap (deeds a []) is ∙ deeds-append a [] before (wrote a c ∷ after)
          ∙ ap
          (λ (b : Bool). deeds a [] before
          ++ (cond b (Writes (records.Commit c) ∷ []) []
          ++ deeds a (mail before ++ option_to_list (envelope_of (wrote a c))) after)) (eq-eqb a a refl)

  -- a record that stands in the history
  pub at_record : (before : List Entry) (a : ℕ) (c : CommitRecord) (after : List Entry)
      → h ≡ before ++ wrote a c ∷ after → IsDueThere before a c
  at_record before a c after is =
      due_there before a c after is
      (writer decl script accepted sound before a c (moment decl script h open_inputs run before a c after is))
