-- A client tells a reply that is due, where it waits for no request.
use Rattle.std.proofs.Common.{◌≡◌, ◌≢◌, ◌≤◌, ℕ, ◌+◌, ◌==◌, not, Bool, true, false, cond, List, [], ◌++◌, ◌⊎◌, inl, inr}
use Rattle.std.proofs.Common.{length, Option, Some, None, option_map, option_to_list, refl, sym, ap, ◌∙◌, subst, arith}
use Rattle.qc_stamp.specs.declared.stamp.Stamp.{Stamp}
use Rattle.qc_stamp.specs.declared.stamp.TxId.{TxId}
use Rattle.qc_stamp.specs.Vocabulary.{same_tx}
use Rattle.qc_list.specs.Vocabulary.{In}
use Rattle.qc_decl.specs.declared.declaration.Declaration.{Declaration}
use Rattle.qc_entry.specs.declared.record.Commit.{Commit}
use Rattle.qc_msg.specs.declared.reply.Half.{Half}
use Rattle.qc_msg.specs.declared.reply.Half.TheVariants as halves
use Rattle.qc_msg.specs.declared.reply.Reply.{Reply}
use Rattle.qc_msg.specs.declared.reply.Reply.TheVariants as replies
use Rattle.qc_msg.specs.declared.step.Command.{Command}
use Rattle.qc_msg.specs.declared.step.Command.TheVariants as commands
use Rattle.qc_promise.specs.Vocabulary.{Account, Current, HasBefore, IsReplyDue, IsRightReply, Sight, Status}
use Rattle.qc_promise.specs.Vocabulary.{account_told, answer_of, commit_of, doomed_if, found_absent, given_up}
use Rattle.qc_promise.specs.Vocabulary.{is_append, is_begun, refused, requests_for, responded, running_row, short_of}
use Rattle.qc_promise.specs.Vocabulary.{sight_told, status_told, with_absent, with_response}
use Rattle.qc_promise.specs.Status as statuses
use Rattle.laws_atomic.proofs.Counted.{name_of}
use Rattle.laws_atomic.proofs.Seeing.{HasCommitted, IsUpTo, Sees, higher, stays_committed}
use Rattle.laws_atomic.proofs.Stamps.{due_stamp}
use Rattle.qc_list.proofs.Members.{In-either}

-- most replies leave the begun transaction its name, and the clock

pub record Leaves (d e : Account) : Type 0 where
  pub named : name_of e.current ≡ name_of d.current
  pub clock : e.clock ≡ d.clock

as_it_is : (d : Account) → Leaves d d
as_it_is d = record { named = refl; clock = refl }

changed_name : (change : Current → Current) → ((t : Current) → (change t).tx ≡ t.tx) → (o : Option Current)
    → name_of (option_map change o) ≡ name_of o
changed_name change keeps None = refl
changed_name change keeps (Some t) = ap (λ (x : TxId). Some x) (keeps t)

refused_leaves : (d : Account) → Leaves d (refused d)
refused_leaves d = record {
  named = changed_name (doomed_if (not (length (requests_for is_append d) == 0)))
      (λ t. refl) d.current;
  clock = refl;
}

short_leaves : (d : Account) (half : Half) → Leaves d (short_of d half)
short_leaves d halves.Read = as_it_is d
short_leaves d halves.Append = record { named = changed_name (doomed_if true) (λ t. refl) d.current; clock = refl }
short_leaves d halves.Close = as_it_is d

absent_leaves : (d : Account) (o : Option Command) → Leaves d (found_absent d o)
absent_leaves d None = as_it_is d
absent_leaves d (Some commands.Begin) = as_it_is d
absent_leaves d (Some (commands.Do object inv)) =
    record { named = changed_name (λ (t : Current). with_absent t object inv) (λ t. refl) d.current; clock = refl }
absent_leaves d (Some commands.Commit) = as_it_is d
absent_leaves d (Some commands.Abort) = as_it_is d
absent_leaves d (Some (commands.Epoch number)) = as_it_is d

response_keeps : (decl : Declaration) (t : Current) (object inv : ℕ) (o : Option ℕ)
    → (with_response decl t object inv o).tx ≡ t.tx
response_keeps decl t object inv None = refl
response_keeps decl t object inv (Some event) = refl

responded_leaves : (decl : Declaration) (d : Account) (o : Option Command) → Leaves d (responded decl d o)
responded_leaves decl d None = as_it_is d
responded_leaves decl d (Some commands.Begin) = as_it_is d
responded_leaves decl d (Some (commands.Do object inv)) =
    record {
      named = changed_name (λ (t : Current). with_response decl t object inv (answer_of decl t object inv))
          (λ t. response_keeps decl t object inv (answer_of decl t object inv)) d.current;
      clock = refl;
    }
responded_leaves decl d (Some commands.Commit) = as_it_is d
responded_leaves decl d (Some commands.Abort) = as_it_is d
responded_leaves decl d (Some (commands.Epoch number)) = as_it_is d

-- a transaction begins that wasn't begun

abbrev pub BeginsNew : TxId → Status → Reply → Type 0
BeginsNew tx st reply = (other : TxId) → reply ≡ replies.Began other → same_tx other tx ≡ true → st ≡ statuses.Unborn

pub begins_new : (tx : TxId) (st : Status) (reply : Reply) → IsRightReply tx st reply → BeginsNew tx st reply
begins_new tx st reply right other is = subst (IsRightReply tx st) is right

module _ (decl : Declaration) (commits : List Commit) (tx : TxId) (d : Account) (s : Sight) (wrote : List Commit)
    (st : Status)
    (w : Sees commits tx d s wrote st) (free : (n : ℕ) → In n s.waiting → ⊥) where
  abbrev done : Account → Account
  done e = record e { command = None; requests = []; written = None }

  -- where no record was written, the begun transaction has none
  none_yet : d.written ≡ None → (r : Commit) → In r wrote → r.tx ≡ tx → is_begun tx s.begun ≡ true → ⊥
  none_yet unwritten r among its is = let wrote_it : d.written ≡ Some r = w.stands r among its is in
      let never : ⊥ = cc in never

  -- it goes on
  goes_on : (e : Account) → Leaves d e → d.written ≡ None → Sees commits tx (done e) s wrote st
  goes_on e l unwritten = record {
    begun = w.begun ∙ sym l.named;
    waiting = λ n among. absurd (free n among);
    shown = λ t among. subst (IsUpTo commits t) (sym l.clock) (w.shown t among);
    committed = λ t among. subst (IsUpTo commits t) (sym l.clock) (w.committed t among);
    seen = λ is t among. subst (IsUpTo commits t) (sym l.clock) (w.seen is t among);
    before = w.before;
    ended = w.ended;
    stands = λ r among its is. absurd (none_yet unwritten r among its is);
    listed = λ r is. absurd (let never : ⊥ = cc in never);
  }

  -- it is given up

  ends : (x : Status) → (HasCommitted st → HasCommitted x)
      → Sees commits tx (done (record d { current = None })) (record s { begun = None }) wrote x
  ends x keeps = record {
    begun = refl;
    waiting = λ n among. absurd (free n among);
    shown = w.shown;
    committed = w.committed;
    seen = λ is. absurd (let never : ⊥ = cc in never);
    before = w.before;
    ended = λ r among its. keeps (w.ended r among its);
    stands = λ r among its is. absurd (let never : ⊥ = cc in never);
    listed = λ r is. absurd (let never : ⊥ = cc in never);
  }

  -- one begins, which has no record

  begins : (other : TxId) (count : ℕ) (t : Current) → t.tx ≡ other → (same_tx other tx ≡ true → st ≡ statuses.Unborn)
      → Sees commits tx (done (record d { count = count; current = Some t }))
      (record s { begun = Some other; seen = cond (same_tx other tx) (s.shown ++ s.committed) s.seen }) wrote
      (cond (same_tx other tx) statuses.Begun st)
  begins other count t named right = record {
    begun = ap (λ (x : TxId). Some x) (sym named);
    waiting = λ n among. absurd (free n among);
    shown = w.shown;
    committed = w.committed;
    seen = λ is x among. known x (In-either x s.shown s.committed
        (subst (λ (b : Bool). In x (cond b (s.shown ++ s.committed) s.seen)) is among));
    before = λ r among its. before_one r among its (same_tx other tx) refl;
    ended = λ r among its. ended_one r among its (same_tx other tx) refl;
    stands = λ r among its is. absurd (unborn r among its is);
    listed = λ r is. absurd (let never : ⊥ = cc in never);
  }
    where
      known : (x : TxId) → In x s.shown ⊎ In x s.committed → IsUpTo commits x d.clock
      known x (inl by_grant) = w.shown x by_grant
      known x (inr by_reply) = w.committed x by_reply

      unborn : (r : Commit) → In r wrote → r.tx ≡ tx → same_tx other tx ≡ true → ⊥
      unborn r among its is = subst HasCommitted (right is) (w.ended r among its)

      before_one : (r : Commit) → In r wrote → r.tx ≡ tx → (b : Bool) → same_tx other tx ≡ b → (x : TxId)
          → In x (cond b (s.shown ++ s.committed) s.seen) → x ≢ tx → HasBefore commits x r.stamp
      before_one r among its true is x in_seen differs = absurd (unborn r among its is)
      before_one r among its false is x in_seen differs = w.before r among its x in_seen differs

      ended_one : (r : Commit) → In r wrote → r.tx ≡ tx → (b : Bool) → same_tx other tx ≡ b
          → HasCommitted (cond b statuses.Begun st)
      ended_one r among its true is = absurd (unborn r among its is)
      ended_one r among its false is = w.ended r among its

  -- it commits, and that is known

  committed_is : (stamp : Stamp) (o : Option Current)
      → d.written ≡ option_map (λ (t : Current). record { stamp = stamp; tx = t.tx; ops = t.ops }) o → (x : TxId)
      → In x (option_to_list (name_of o)) → IsUpTo commits x stamp.clock
  committed_is stamp None is x among = absurd among
  committed_is stamp (Some t) is x (inl same) = record {
    commit = record { stamp = stamp; tx = t.tx; ops = t.ops };
    listed = w.listed (record { stamp = stamp; tx = t.tx; ops = t.ops }) is;
    named = sym same;
    low = (let e : stamp.clock ≡ stamp.clock = refl in omega arith);
  }
  committed_is stamp (Some t) is x (inr never) = absurd never

  commits_one : (stamp : Stamp) → d.clock ≤ stamp.clock → d.written ≡ commit_of d stamp
      → Sees commits tx (done (record d { current = None; clock = stamp.clock }))
      (record s { begun = None; committed = s.committed ++ option_to_list s.begun }) wrote st
  commits_one stamp more is = record {
    begun = refl;
    waiting = λ n among. absurd (free n among);
    shown = λ t among. higher commits t d.clock stamp.clock more (w.shown t among);
    committed = λ t among. known_one t (In-either t s.committed (option_to_list s.begun) among);
    seen = λ is. absurd (let never : ⊥ = cc in never);
    before = w.before;
    ended = w.ended;
    stands = λ r among its is. absurd (let never : ⊥ = cc in never);
    listed = λ r is. absurd (let never : ⊥ = cc in never);
  }
    where
      known_one : (t : TxId) → In t s.committed ⊎ In t (option_to_list s.begun) → IsUpTo commits t stamp.clock
      known_one t (inl old) = higher commits t d.clock stamp.clock more (w.committed t old)
      known_one t (inr new) = committed_is stamp d.current is t
          (subst (λ (o : Option TxId). In t (option_to_list o)) w.begun new)

  pub told_sees : (reply : Reply) → IsReplyDue d (running_row decl d false) [] reply → BeginsNew tx st reply
      → Sees commits tx (account_told decl d reply) (sight_told tx s reply) wrote (status_told tx st reply)
  told_sees replies.Down due right = goes_on d (as_it_is d) due.1
  told_sees (replies.Already other) due right = goes_on d (as_it_is d) due.1
  told_sees (replies.Began other) due right = begins other (d.count + 1) _ refl (right other refl)
  told_sees replies.NoTransaction due right = goes_on d (as_it_is d) due.1
  told_sees replies.Doomed due right = goes_on d (as_it_is d) due.1
  told_sees replies.TooLong due right = goes_on d (as_it_is d) due.1
  told_sees (replies.Closed epoch site) due right = goes_on (refused d) (refused_leaves d) due.1
  told_sees (replies.Conflict holder site) due right = goes_on (refused d) (refused_leaves d) due.1
  told_sees (replies.Quorum half got need) due right = goes_on (short_of d half) (short_leaves d half) due.1
  told_sees replies.Absent due right = goes_on (found_absent d d.command) (absent_leaves d d.command) due.1
  told_sees (replies.Response resp) due right =
      goes_on (responded decl d d.command) (responded_leaves decl d d.command) due.1
  told_sees (replies.Aborted why) due right = ends (given_up st) (stays_committed st)
  told_sees replies.Unknown due right = ends st (λ is. is)
  told_sees (replies.Committed stamp) due right =
      commits_one stamp (let e : stamp.clock ≡ d.clock + 1 =
      ap (λ (x : Stamp). x.clock) (due_stamp decl d stamp due.0) in omega arith) due.1
  told_sees replies.Dropped due right = ends (given_up st) (stays_committed st)
  told_sees (replies.Order current) due right = goes_on d (as_it_is d) due.1
  told_sees (replies.InDoubt holder site) due right = goes_on d (as_it_is d) due.1
  told_sees replies.Fault due right = goes_on d (as_it_is d) due.1
  told_sees (replies.Moved closed installed) due right = goes_on d (as_it_is d) due.1
