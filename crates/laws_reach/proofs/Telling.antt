-- A client tells a reply that is due, and stands in what it has seen as before.
use Rattle.std.proofs.Common.{◌≡◌, ◌⊎◌, ℕ, Bool, true, false, cond, List, [], ◌++◌, inl, inr, Option, Some, None}
use Rattle.std.proofs.Common.{option_map, option_to_list, refl, sym, ap, ◌∙◌, subst}
use Rattle.std.specs.Prelude.{option_and_then}
use Rattle.std.specs.Option.{option_map_or}
use Rattle.qc_stamp.specs.declared.stamp.Stamp.{Stamp}
use Rattle.qc_stamp.specs.declared.stamp.TxId.{TxId}
use Rattle.qc_stamp.specs.Vocabulary.{same_tx}
use Rattle.qc_stamp.proofs.Orders.{same_tx_is}
use Rattle.qc_list.specs.Vocabulary.{In}
use Rattle.qc_decl.specs.declared.declaration.Declaration.{Declaration}
use Rattle.qc_entry.specs.declared.record.Commit.{Commit}
use Rattle.qc_msg.specs.declared.reply.Reply.{Reply}
use Rattle.qc_msg.specs.declared.reply.Reply.TheVariants as replies
use Rattle.qc_msg.specs.declared.step.Command.{Command}
use Rattle.qc_msg.specs.Vocabulary.{Tells, began_in, committed_in, is_end}
use Rattle.qc_promise.specs.Vocabulary.{Account, Current, IsReplyDue, Journal, Sight, account_told, commit_of, is_begun}
use Rattle.qc_promise.specs.Vocabulary.{row_of, running_row, sight_told}
use Rattle.qc_promise.specs.Status as statuses
use Rattle.qc_promise.specs.Seen.{over}
use Rattle.laws_reach.specs.Vocabulary.{SaysIn}
use Rattle.laws_reach.proofs.Rows.{row_says}
use Rattle.laws_atomic.proofs.Counted.{name_of}
use Rattle.laws_atomic.proofs.Seeing.{Sees}
use Rattle.laws_atomic.proofs.Taking.{IsFree}
use Rattle.laws_atomic.proofs.Tellings.{told_sees}
use Rattle.laws_reach.proofs.Naming.{SameCounts, named_more, next_name, next_named, next_new, told_counts}
use Rattle.laws_reach.proofs.Standing.{IsAccount, IsRecorded, SameSight, Stands, account_more, as_done, client_is, done}
use Rattle.laws_reach.proofs.Standing.{keeps_on, keeps_so, up_not, with_status}
use Rattle.laws_reach.proofs.ToldCases.{told_cases}
use Rattle.qc_list.proofs.Members.{In-either}

-- the transaction that begins has the next name
begun_name : (decl : Declaration) (d : Account) (other : TxId) → running_row decl d false ≡ Some (replies.Began other)
    → other ≡ next_name d.client d.life d.count
begun_name decl d other row = by d.command row
  where
    by : (o : Option Command) → option_and_then (row_of decl d false d.current) o ≡ Some (replies.Began other)
        → other ≡ next_name d.client d.life d.count
    by None is = absurd (let never : ⊥ = cc in never)
    by (Some command) is = subst (SaysIn decl d command) is (row_says decl d false d.current command refl)

module _ (decl : Declaration) (commits : List Commit) (tx : TxId) (client : ℕ) (d : Account) (s : Sight)
    (made : List Commit) (j : Journal) (w : Stands decl commits tx client true d s made j) (free : IsFree s) where
  abbrev After : Reply → Type 0
  After reply = Stands decl commits tx client true (account_told decl d reply) (sight_told tx s reply) made j

  abbrev IsDue : Reply → Type 0
  IsDue reply = IsReplyDue d (running_row decl d false) [] reply

  abbrev IsNoBegin : Reply → Type 0
  IsNoBegin reply = (other : TxId) → reply ≡ replies.Began other → ⊥

  told_account : (reply : Reply) → IsAccount decl client (account_told decl d reply)
  told_account reply = account_more decl client d w.keeps.account (Tells reply)

  sees_on : (reply : Reply) → IsDue reply → IsNoBegin reply
      → Sees commits tx (account_told decl d reply) (sight_told tx s reply) made done
  sees_on reply due never = as_done commits tx (account_told decl d reply) (sight_told tx s reply) made _
      (told_sees decl commits tx d s made done w.sees free reply due (λ other is same. absurd (never other is)))

  -- all goes on
  silent : (reply : Reply) → IsDue reply → IsNoBegin reply → SameCounts d (account_told decl d reply)
      → SameSight s (sight_told tx s reply) → After reply
  silent reply due never same sight = record {
    sees = sees_on reply due never;
    keeps = keeps_so decl tx client d s made j w.keeps (account_told decl d reply) (sight_told tx s reply)
        (told_account reply) same sight (λ c is. absurd (let none : None ≡ Some c = is in let no : ⊥ = cc in no));
  }

  -- the transaction ends
  ends : (reply : Reply) → IsDue reply → IsNoBegin reply → SameCounts d (account_told decl d reply)
      → (sight_told tx s reply).begun ≡ None →
      ((x : TxId) → In x (sight_told tx s reply).committed → IsRecorded x j.records) → After reply
  ends reply due never same over told = record {
    sees = sees_on reply due never;
    keeps = keeps_on decl tx client d s made j w.keeps (account_told decl d reply) (sight_told tx s reply)
        (told_account reply) same
        (λ is. absurd (let gone : is_begun tx None ≡ true = ap (is_begun tx) (sym over) ∙ is in let no : ⊥ = cc in no))
        told
        (λ c is. absurd (let none : None ≡ Some c = is in let no : ⊥ = cc in no));
  }

  -- it is told that it committed: the record was written
  commits_it : (stamp : Stamp) → d.written ≡ commit_of d stamp → (x : TxId)
      → In x (s.committed ++ option_to_list s.begun) → IsRecorded x j.records
  commits_it stamp is x among = by (In-either x s.committed (option_to_list s.begun) among)
    where
      new : (o : Option Current) → d.written ≡ option_map
          (λ (t : Current). record { stamp = stamp; tx = t.tx; ops = t.ops }) o → In x (option_to_list (name_of o))
          → IsRecorded x j.records
      new None same there = absurd there
      new (Some t) same (inl named) = record {
        commit = record { stamp = stamp; tx = t.tx; ops = t.ops };
        listed = w.keeps.written (record { stamp = stamp; tx = t.tx; ops = t.ops }) same;
        named = sym named;
      }
      new (Some t) same (inr never) = absurd never

      by : In x s.committed ⊎ In x (option_to_list s.begun) → IsRecorded x j.records
      by (inl before) = w.keeps.told x before
      by (inr now) = new d.current is (subst (λ (o : Option TxId). In x (option_to_list o)) w.sees.begun now)

  -- a transaction begins
  begins : (other : TxId) → IsDue (replies.Began other) → After (replies.Began other)
  begins other due = record {
    sees = by (same_tx other tx) refl;
    keeps = record {
      account = told_account (replies.Began other);
      named = λ r among its. named_more client tx d.life d.count (w.keeps.named r among its);
      begun = λ is. next_named client tx d.life d.count (name_is ∙ same_tx_is other tx is);
      life = w.keeps.life;
      told = w.keeps.told;
      known = w.keeps.known;
      written = λ c is. absurd (let no : ⊥ = cc in no);
      quiet = λ is. up_not is;
    };
  }
    where
      name_is : next_name client d.life d.count ≡ other
      name_is = ap (λ (n : ℕ). next_name n d.life d.count) (sym (client_is decl client d w.keeps.account))
          ∙ sym (begun_name decl d other due.0)

      by : (b : Bool) → same_tx other tx ≡ b → Sees commits tx (account_told decl d (replies.Began other))
          (sight_told tx s (replies.Began other)) made done
      by true same =
          as_done commits tx (account_told decl d (replies.Began other)) (sight_told tx s (replies.Began other)) made _
          (told_sees decl commits tx d s made statuses.Unborn
          (with_status commits tx d s made done statuses.Unborn
          (λ r among its. absurd (next_new client tx d.life d.count (name_is ∙ same_tx_is other tx same)
          (w.keeps.named r among its))) w.sees)
          free (replies.Began other) due (λ x is named. refl))
      by false differs =
          as_done commits tx (account_told decl d (replies.Began other)) (sight_told tx s (replies.Began other)) made _
          (told_sees decl commits tx d s made done w.sees free (replies.Began other) due
          (λ x is named. absurd (let one : other ≡ x = cc in
          let same : same_tx other tx ≡ true = ap (λ (t : TxId). same_tx t tx) one
          ∙ named in let no : ⊥ = cc in no)))

  -- a reply of which no beginning is read begins none, and leaves the sight but for an end

  no_begin : (r : Reply) → began_in r ≡ None → IsNoBegin r
  no_begin r none other is =
      let same : Some other ≡ None = sym (ap began_in is) ∙ none in let never : ⊥ = cc in never

  sight_so : (r : Reply) → began_in r ≡ None → committed_in r ≡ None
      → sight_told tx s r ≡ cond (is_end r) (over s) s
  sight_so r unbegun uncommitted =
      ap (λ (o : Option TxId). option_map_or (λ (other : TxId). record s {
        begun = Some other;
        seen = cond (same_tx other tx) (s.shown ++ s.committed) s.seen;
      }) o (option_map_or (λ (stamp : Stamp). over (record s { committed = s.committed ++ option_to_list s.begun }))
      (committed_in r) (cond (is_end r) (over s) s))) unbegun
      ∙ ap (λ (o : Option Stamp). option_map_or (λ (stamp : Stamp).
      over (record s { committed = s.committed ++ option_to_list s.begun })) o (cond (is_end r) (over s) s)) uncommitted

  sight_on : (r : Reply) → began_in r ≡ None → committed_in r ≡ None → is_end r ≡ false
      → SameSight s (sight_told tx s r)
  sight_on r unbegun uncommitted goes =
      subst (SameSight s) (sym (sight_so r unbegun uncommitted ∙ ap (λ (b : Bool). cond b (over s) s) goes))
      (refl, refl)

  gives_up : (r : Reply) → began_in r ≡ None → committed_in r ≡ None → is_end r ≡ true → IsDue r → After r
  gives_up r unbegun uncommitted ended due =
      let is : sight_told tx s r ≡ over s =
      sight_so r unbegun uncommitted ∙ ap (λ (b : Bool). cond b (over s) s) ended in
      ends r due (no_begin r unbegun) (told_counts decl d r unbegun) (ap (λ (v : Sight). v.begun) is)
      (λ x among. w.keeps.told x (subst (λ (v : Sight). In x v.committed) is among))

  pub tells : (reply : Reply) → IsDue reply → After reply
  tells reply due =
      told_cases decl d (λ r began stamp short resp over refuses doubt. IsDue r → After r)
      (λ due. silent replies.Down due (no_begin replies.Down refl) (refl, refl) (refl, refl))
      (λ r short refuses says unbegun uncommitted goes due. silent r due (no_begin r unbegun)
      (told_counts decl d r unbegun) (sight_on r unbegun uncommitted goes))
      begins
      (λ due. silent replies.Absent due (no_begin replies.Absent refl) (told_counts decl d replies.Absent refl)
      (refl, refl))
      (λ resp due. silent (replies.Response resp) due (no_begin (replies.Response resp) refl)
      (told_counts decl d (replies.Response resp) refl) (refl, refl))
      (λ r unbegun uncommitted ended due. gives_up r unbegun uncommitted ended due)
      (λ due. gives_up replies.Unknown refl refl refl due)
      (λ stamp due. ends (replies.Committed stamp) due (no_begin (replies.Committed stamp) refl) (refl, refl) refl
      (commits_it stamp due.1)) reply due
