use Rattle.std.proofs.Common.{rules, ◌≡◌, ◌++◌, ◌∷◌, [], Bool, true, false, cond, not, List, reverse, refl, sym, ◌∙◌}
use Rattle.std.proofs.Common.{ap, append_assoc}
use Rattle.std.proofs.lemmas.List.{append-nil, reverse-append}
use Rattle.std.specs.BTreeMap.{is_at}
use Rattle.std.specs.BTreeSet.{contains}
use Rattle.std.specs.List.{list_any}
use Rattle.qc_entry.specs.declared.record.Commit.{Commit}
use Rattle.qc_lock.proofs.NumberedEntries.{tx_same}
use Rattle.qc_stamp.specs.declared.stamp.TxId.{TxId}
use Rattle.qc_stamp.specs.Vocabulary.{same_tx, tx_cmp}
use Rattle.qc_recover.specs.Vocabulary.{last_of}
use Rattle.qc_recover.proofs.Last.{seen_again, seen_first, seen_none, unseen}
use Rattle.qc_recover.proofs.commits.LastCommits.into_list.Goals as goal
use Rattle.qc_stamp.proofs.Orders.{same_tx_turned}

told_new : (b : Bool) → true ≡ not b → b ≡ false
told_new true is = absurd (let never : ⊥ = cc in never)
told_new false is = refl

told_seen : (b : Bool) → false ≡ not b → b ≡ true
told_seen true is = refl
told_seen false is = absurd (let never : ⊥ = cc in never)

pub commits-init : goal.commits-init
commits-init c =
    let commits = c.self.inside.commits.items in
    let empty : c.new-seen.result.keys ≡ [] = c.new-seen.ensures.empty in
    let none : (tx : TxId) → contains tx_cmp c.new-seen.result tx ≡ false =
    (λ tx. ap (λ ks. list_any (is_at (tx_cmp tx)) ks) empty) in
    ap (λ cs. unseen (λ (tx : TxId). contains tx_cmp c.new-seen.result tx) (last_of commits) ++ reverse cs)
    c.new-last.ensures.items
    ∙ append-nil (unseen (λ (tx : TxId). contains tx_cmp c.new-seen.result tx) (last_of commits))
    ∙ seen_none (λ (tx : TxId). contains tx_cmp c.new-seen.result tx) (last_of commits) none
    ∙ c.self.view_is

pub commits-preserved-in-Continue-branch-2 : goal.commits-preserved-in-Continue-branch-2
commits-preserved-in-Continue-branch-2 c =
    let left = c.pop.new.self.items in
    let commit : Commit = c.in-Some.commit in
    let seen = λ (tx : TxId). contains tx_cmp c.commits.seen tx in
    let more = λ (tx : TxId). contains tx_cmp c.insert.new.self tx in
    let split : c.commits.commits.items ≡ left ++ commit ∷ [] = c.in-Some.ensures.items in
    let new : seen commit.tx ≡ false = told_new (seen commit.tx)
    (sym c.if-branch.true ∙ c.in_ok-insert.ensures.added) in
    let grown : (tx : TxId) → more tx ≡ cond (same_tx tx commit.tx) true (seen tx) =
    (λ tx. c.in_ok-insert.ensures.updates.0 tx
    ∙ ap (λ b. cond b true (seen tx)) (tx_same commit.tx tx ∙ same_tx_turned commit.tx tx)) in
    let first : unseen seen (last_of c.commits.commits.items) ≡ unseen more (last_of left) ++ commit ∷ [] =
    ap (λ cs. unseen seen (last_of cs)) split ∙ seen_first seen more left commit new grown in
    ap (λ cs. unseen more (last_of left) ++ reverse cs) c.in_ok-push.ensures.items
    ∙ ap (λ cs. unseen more (last_of left) ++ cs) (reverse-append c.commits.last.items (commit ∷ []))
    ∙ sym (append_assoc (unseen more (last_of left)) (commit ∷ []) (reverse c.commits.last.items))
    ∙ ap (λ cs. cs ++ reverse c.commits.last.items) (sym first)
    ∙ c.commits.invariant

pub commits-preserved : goal.commits-preserved
commits-preserved c =
    let left = c.pop.new.self.items in
    let commit : Commit = c.in-Some.commit in
    let seen = λ (tx : TxId). contains tx_cmp c.commits.seen tx in
    let split : c.commits.commits.items ≡ left ++ commit ∷ [] = c.in-Some.ensures.items in
    let was : seen commit.tx ≡ true = told_seen (seen commit.tx)
    (sym c.if-branch.false ∙ c.in_ok-insert.ensures.added) in
    let again : unseen seen (last_of c.commits.commits.items) ≡ unseen seen (last_of left) =
    ap (λ cs. unseen seen (last_of cs)) split ∙ seen_again seen left commit was in
    let same : c.insert.new.self.keys ≡ c.commits.seen.keys = search rules in
    ap (λ (ks : List TxId). unseen (λ (tx : TxId). list_any (is_at (tx_cmp tx)) ks) (last_of left)
    ++ reverse c.commits.last.items) same
    ∙ ap (λ cs. cs ++ reverse c.commits.last.items) (sym again)
    ∙ c.commits.invariant
