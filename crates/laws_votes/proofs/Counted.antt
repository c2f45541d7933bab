-- A vote that counts was taken as the client's request for it was open: so none says that its site has forgotten, in a
-- run with falls.
use Rattle.std.proofs.Common.{◌*◌, ◌≡◌, ◌⊎◌, ◌≤◌, ◌-◌, ℕ, Bool, List, [], ◌∷◌, ◌++◌, true, inl, inr, Option, Some, None}
use Rattle.std.proofs.Common.{refl, sym, ap, ◌∙◌, subst, append_assoc}
use Rattle.std.specs.Prelude.{sum_by}
use Rattle.std.proofs.lemmas.List.{append-nil}
use Rattle.std.proofs.lemmas.List.Sums.{fold-append}
use Rattle.laws_votes.proofs.Inputs.{TookAt, taken_at}
use Rattle.laws_votes.proofs.Unforgotten.{AreAll, records_more, unforgotten}
use Rattle.qc_core.specs.Vocabulary.{IsLawfulWithFalls}
use Rattle.qc_decl.specs.Vocabulary.{IsAccepted, is_client, most_committed_operations}
use Rattle.qc_decl.specs.declared.declaration.Declaration.{Declaration}
use Rattle.qc_entry.specs.declared.record.Commit.{Commit as CommitRecord}
use Rattle.laws_guarantees.proofs.Against.{IsVote, lost_vote, taken_vote}
use Rattle.laws_guarantees.proofs.Grounds.{turn_old}
use Rattle.laws_guarantees.proofs.ForgettingAnswers.{Forgets}
use Rattle.laws_guarantees.specs.Vocabulary.{IsOpenVote}
use Rattle.qc_list.specs.Vocabulary.{In}
use Rattle.qc_msg.specs.Vocabulary.{Deed, Entry, Falls, Rises, Sends, Takes, Tells, Writes, answered, deeds, mail}
use Rattle.qc_msg.specs.declared.message.Answer.{Answer}
use Rattle.qc_msg.specs.declared.message.Envelope.{Envelope}
use Rattle.qc_msg.specs.declared.message.Message.TheVariants as messages
use Rattle.qc_msg.specs.declared.record.Record.{Record}
use Rattle.qc_msg.specs.declared.step.Input.TheVariants as given
use Rattle.qc_msg.specs.declared.turn.Appended.TheVariants.{Done}
use Rattle.qc_msg.specs.declared.turn.Posting.{Posting}
use Rattle.qc_msg.specs.declared.turn.Turn.{Turn}
use Rattle.qc_promise.specs.Vocabulary.{Account, ClientRequest, Kept, account_at, account_of, new_account, records}
use Rattle.qc_script.specs.Vocabulary.{IsScriptFor, RunsWithFalls}
use Rattle.qc_script.specs.declared.script.Script.{Script}
use Rattle.qc_list.proofs.Members.{In-at}
use Rattle.qc_promise.proofs.Posts.{kept_part}

-- a record or a message of a client, as a turn that has no more
abbrev turn_of : Option Record → List Posting → Turn
turn_of write sends = record {
  write = write;
  sends = sends;
  told = None;
  failed_sends = [];
  failed_told = None;
  append = Done;
}

module _ (decl : Declaration) (client : ℕ) where
  -- among the deeds the answer was taken for a request for a promise that was open then
  pub record WasVoted (ds : List Deed) (x : Answer) : Type 0 where
    pub before : List Deed
    pub envelope : Envelope
    pub after : List Deed
    pub is : ds ≡ before ++ Takes (given.Got envelope) ∷ after
    pub old : ClientRequest
    pub vote : IsOpenVote (account_of decl client before) old
    pub message : envelope.message ≡ messages.Answer old.number x

  abbrev AreVoted : List Deed → Type 0
  AreVoted ds = (q : ClientRequest) (x : Answer) → IsVote (account_of decl client ds) q x → WasVoted ds x

  one_later : (ds : List Deed) (d : Deed) (x : Answer) → WasVoted ds x → WasVoted (ds ++ d ∷ []) x
  one_later ds d x v = record {
    before = v.before;
    envelope = v.envelope;
    after = v.after ++ d ∷ [];
    is = ap (λ (w : List Deed). w ++ d ∷ []) v.is
        ∙ append_assoc v.before (Takes (given.Got v.envelope) ∷ v.after) (d ∷ []);
    old = v.old;
    vote = v.vote;
    message = v.message;
  }

  -- what a client writes and sends makes no vote
  old_vote : (d : Account) (n : ℕ) (turn : Turn) (q : ClientRequest) (x : Answer)
      → In q d.requests ⊎ ((n ≤ q.number) × (q.taken ≡ None)) → q.taken ≡ Some (Some x) → In q d.requests
  old_vote d n turn q x (inl old) some = old
  old_vote d n turn q x (inr new) some = absurd
      (let both : None ≡ Some (Some x) = sym new.1 ∙ some in let never : ⊥ = cc in never)

  module _ (ds : List Deed) (are : AreVoted ds) where
    abbrev d : Account
    d = account_of decl client ds

    one_voted : (deed : Deed) (q : ClientRequest) (x : Answer) → IsVote (account_at decl d deed) q x
        → WasVoted (ds ++ deed ∷ []) x
    one_voted (Takes (given.Called command)) q x v = absurd v.0
    one_voted (Takes (given.Got e)) q x v = elim (taken_vote d e q x v) [
      | inl old ↦ one_later ds (Takes (given.Got e)) x (are q x old)
      | inr new ↦ record {
        before = ds;
        envelope = e;
        after = [];
        is = refl;
        old = new.old;
        vote = new.vote;
        message = new.is;
      }
    ]
    one_voted (Takes (given.Lost n)) q x v = one_later ds (Takes (given.Lost n)) x (are q x (lost_vote d n q x v))
    one_voted (Writes w) q x v = one_later ds (Writes w) x
        (are q x (old_vote d 0 (turn_of (Some w) []) q x (turn_old decl d 0 (turn_of (Some w) []) q v.0) v.2, v.1, v.2))
    one_voted (Sends n to m) q x v =
        one_later ds (Sends n to m) x (are q x (
          old_vote d n (turn_of None (record { to = to; message = m } ∷ [])) q x
              (turn_old decl d n (turn_of None (record { to = to; message = m } ∷ [])) q v.0) v.2,
          v.1,
          v.2,
        ))
    one_voted (Tells reply) q x v = absurd v.0
    one_voted (Falls cause pending) q x v = absurd v.0
    one_voted (Rises kept) q x v = absurd v.0

  all_voted : (ds more : List Deed) → AreVoted ds → AreVoted (ds ++ more)
  all_voted ds [] are = subst AreVoted (sym (append-nil ds)) are
  all_voted ds (deed ∷ more) are =
      subst AreVoted (append_assoc ds (deed ∷ []) more)
      (all_voted (ds ++ deed ∷ []) more (λ q x v. one_voted ds are deed q x
      (subst (λ (e : Account). IsVote e q x) (fold-append (account_at decl) (new_account client) ds (deed ∷ []))
      v)))

  pub voted : (ds : List Deed) → AreVoted ds
  voted ds = all_voted [] ds (λ q x v. absurd v.0)

module _ (fits : ℕ → List Record → Type 0) (decl : Declaration) (script : Script) (accepted : IsAccepted decl)
    (sound : IsScriptFor decl script) (commits : List CommitRecord)
    (within : sum_by (λ (c : CommitRecord). answered c.ops) commits ≤ 2 * most_committed_operations) (h : List Entry)
    (inputs : List Bool) (run : RunsWithFalls (IsLawfulWithFalls decl) fits decl script h inputs) (kept : Kept h)
    (all : AreAll fits decl script accepted sound commits within h) (a : ℕ) (client : is_client decl a ≡ true) where
  -- no vote that counts, at any place among the client's deeds, says that its site has forgotten
  pub votes_remember : (ds rest : List Deed) → deeds a [] h ≡ ds ++ rest → (q : ClientRequest) (x : Answer)
      → IsVote (account_of decl (a - decl.sites) ds) q x → Forgets x → ⊥
  votes_remember ds rest is q x v forgets =
      (unforgotten fits decl script accepted sound commits within m.older m.inputs m.run
      (kept_part m.older m.more (subst Kept (sym m.grows) kept)) was).votes a w.old x client
      (subst (λ (y : List Deed). IsOpenVote (account_of decl (a - decl.sites) y) w.old) (sym m.deeds_are) w.vote)
      (record {
        envelope = w.envelope;
        sent = In-at (mail m.older) w.envelope.number w.envelope m.sent.0;
        is = w.message;
      }) forgets
    where
      w : WasVoted decl (a - decl.sites) ds x
      w = voted decl (a - decl.sites) ds q x v

      m : TookAt decl script fits h a w.before (given.Got w.envelope)
      m = taken_at decl script fits h inputs run a w.before (given.Got w.envelope) (w.after ++ rest)
          (is ∙ ap (λ (y : List Deed). y ++ rest) w.is
          ∙ append_assoc w.before (Takes (given.Got w.envelope) ∷ w.after) rest)

      was : AreAll fits decl script accepted sound commits within m.older
      was c among = all c (subst (λ (k : List Entry). In c (records decl k)) m.grows
          (records_more decl m.older m.more c among))
