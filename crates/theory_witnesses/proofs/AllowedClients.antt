-- What a client does is found to be allowed: it executes from a view, sends Appends, writes its commit record.
use Rattle.std.proofs.Common.{◌≡◌, ℕ, zero, suc, arith, ◌<◌, Bool, ◌⊎◌, inl, inr, List, map, length, Option, Some, None}
use Rattle.std.proofs.Common.{option_map, refl, subst}
use Rattle.qc_stamp.specs.declared.stamp.TxId.{TxId}
use Rattle.qc_entry.specs.declared.line.Line.{Line}
use Rattle.qc_entry.specs.declared.line.OwnLine.{OwnLine}
use Rattle.qc_entry.specs.declared.record.Commit.{Commit as CommitRecord}
use Rattle.qc_table.specs.declared.kind.Kind.{Kind}
use Rattle.qc_decl.specs.declared.declaration.Declaration.{Declaration}
use Rattle.qc_decl.specs.Vocabulary.{append_need_of, read_need_of}
use Rattle.theory_onecopy.specs.Vocabulary.{Executed, kind_at, own_line}
use Rattle.qc_list.specs.Vocabulary.{In}
use Rattle.theory_machine.specs.Vocabulary.{Active, AllHaveVoted, AnswersFromView, AppendCarriesEarlierLines}
use Rattle.theory_machine.specs.Vocabulary.{AppendCarriesOnlyOwnLines, AppendCarriesView, AppendRequest}
use Rattle.theory_machine.specs.Vocabulary.{CommitsWhenVoting, Granted, Guard, InvocationIsDeclared, IsAppendOfBy}
use Rattle.theory_machine.specs.Vocabulary.{IsExecutedFromBy, IsShown, Item, Lock, MayCommitBy, NotBegun}
use Rattle.theory_machine.specs.Vocabulary.{OperationsAreNumbered, Own, OwnLinesAreKept, ReadQuorumIsMet}
use Rattle.theory_machine.specs.Vocabulary.{RecordHasOperations, StampIsItsClients, StampPassesClock, State, Status}
use Rattle.theory_machine.specs.Vocabulary.{ViewIsWhole, ViewWasShown, Voting, YesVote, op_of, own_on, read_lock}
use Rattle.theory_witnesses.proofs.Cases.{none_some, one_some}
use Rattle.theory_witnesses.proofs.Alike.{same_item, same_line, same_list, same_op, same_own, same_vote}
use Rattle.theory_witnesses.proofs.Answered.{is_answered}
use Rattle.theory_witnesses.proofs.Finding.{where_asked, below, both, every, member, same_number, where_same_tx}
use Rattle.theory_witnesses.proofs.Quorums.{line_shown, quorum, view_whole}

abbrev pub is_active : (s : Status) → Option (s ≡ Active)
is_active Active = Some refl
is_active _ = None

abbrev pub is_voting : (s : Status) → Option (s ≡ Voting)
is_voting Voting = Some refl
is_voting _ = None

abbrev pub is_new : (s : Status) → Option (s ≡ NotBegun)
is_new NotBegun = Some refl
is_new _ = None

abbrev is_declared : (o : Option Kind) (inv : ℕ) → Option ((kind : Kind) → o ≡ Some kind → inv < kind.table.invs)
is_declared None inv = Some (λ kind e. absurd (none_some e))
is_declared (Some k) inv = option_map by (below inv k.table.invs)
  where
    by : inv < k.table.invs → (kind : Kind) → Some k ≡ Some kind → inv < kind.table.invs
    by e kind f = subst (λ (x : Kind). inv < x.table.invs) (one_some f) e

abbrev pub executed_from : (ask : Guard → Bool) (decl : Declaration) (epoch : ℕ) (counted : List Granted)
    (executed : List Executed) (tx : TxId) (d : Executed)
    → Option (IsExecutedFromBy ask decl epoch counted executed tx d)
executed_from ask decl epoch counted executed tx d =
    option_map (λ f. record {
      answered = f.0;
      known = (f.1).0;
      numbered = ((f.1).1).0;
      own = (((f.1).1).1).0;
      shown = ((((f.1).1).1).1).0;
      whole = (((((f.1).1).1).1).1).0;
      met = (((((f.1).1).1).1).1).1;
    })
    (both (where_asked (ask AnswersFromView) (is_answered decl d))
    (both (where_asked (ask InvocationIsDeclared) (is_declared (kind_at decl d.op.object) d.op.inv))
    (both (where_asked (ask OperationsAreNumbered) (same_number d.number (suc (length executed))))
    (both (where_asked (ask OwnLinesAreKept) (same_list same_own d.own (own_on executed d.op.object)))
    (both (where_asked (ask ViewWasShown) (every (λ (l : Line). (l.object ≡ d.op.object) × IsShown counted tx l)
    (λ l. both (same_number l.object d.op.object) (line_shown counted tx l)) d.view))
    (both (where_asked (ask ViewIsWhole) (view_whole counted tx d.op.object d.view))
    (where_asked (ask ReadQuorumIsMet) (quorum decl epoch counted tx (Lock (read_lock d.op))
    (read_need_of decl epoch d.op.object d.op.inv)))))))))

abbrev IsOwnItem : Executed → Item → Type 0
IsOwnItem d x = (o : OwnLine) × (x ≡ Own o) × ((o ≡ own_line d) ⊎ In o d.own)

abbrev own_item : (d : Executed) (x : Item) → Option (IsOwnItem d x)
own_item d (Lock l) = None
own_item d (Own o) = by (same_own o (own_line d)) (member same_own o d.own)
  where
    by : Option (o ≡ own_line d) → Option (In o d.own) → Option (IsOwnItem d (Own o))
    by (Some e) p = Some (o, refl, inl e)
    by None (Some h) = Some (o, refl, inr h)
    by None None = None

abbrev is_carried : (items : List Item) (need : ℕ) (o : OwnLine) → Option (0 < need → In (Own o) items)
is_carried items zero o = Some (λ e. absurd (omega arith))
is_carried items (suc need) o = option_map (λ (h : In (Own o) items). λ (e : 0 < suc need). h)
    (member same_item (Own o) items)

abbrev own_items : (d : Executed) (items : List Item)
    → Option ((x : Item) → In x items → (o : OwnLine) × (x ≡ Own o) × ((o ≡ own_line d) ⊎ In o d.own))
own_items d items = every (IsOwnItem d) (own_item d) items

abbrev pub append_of : (ask : Guard → Bool) (decl : Declaration) (epoch : ℕ) (d : Executed) (s : AppendRequest)
    → Option (IsAppendOfBy ask decl epoch d s)
append_of ask decl epoch d s =
    option_map (λ f. record { view = f.0; items = (f.1).0; whole = (f.1).1 })
    (both (where_asked (ask AppendCarriesView) (same_list same_line s.view d.view))
    (both (where_asked (ask AppendCarriesOnlyOwnLines) (own_items d s.items))
    (where_asked (ask AppendCarriesEarlierLines)
    (every (λ (o : OwnLine). 0 < append_need_of decl epoch o.object o.event → In (Own o) s.items)
    (λ o. is_carried s.items (append_need_of decl epoch o.object o.event) o) d.own))))

abbrev pub may_commit : (ask : Guard → Bool) (now : State) (c : CommitRecord) → Option (MayCommitBy ask now c)
may_commit ask now c =
    option_map (λ f. record {
      voting = f.0;
      votes = (f.1).0;
      client = ((f.1).1).0;
      above = (((f.1).1).1).0;
      ops = (((f.1).1).1).1;
    })
    (both (where_asked (ask CommitsWhenVoting) (is_voting (now.status c.tx)))
    (both (where_asked (ask AllHaveVoted) (every
    (λ (g : Granted). g.tx ≡ c.tx → In {X = YesVote} (record { tx = c.tx; site = g.site }) now.votes)
    (λ g. where_same_tx g.tx c.tx (member same_vote (record { tx = c.tx; site = g.site }) now.votes)) now.counted))
    (both (where_asked (ask StampIsItsClients) (same_number c.stamp.client c.tx.client))
    (both (where_asked (ask StampPassesClock) (below (now.clock c.tx.client) c.stamp.clock))
    (where_asked (ask RecordHasOperations) (same_list same_op c.ops (map op_of (now.executed c.tx))))))))
