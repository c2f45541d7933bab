-- A client that is up posts a turn, and stands as before.
use Rattle.std.proofs.Common.{◌≡◌, ℕ, ◌+◌, ◌<◌, ◌⊎◌, inl, inr, List, [], ◌∷◌, ◌++◌, fold, Option, Some, None, refl, sym}
use Rattle.std.proofs.Common.{ap, ◌∙◌, subst, arith}
use Rattle.qc_core.specs.Vocabulary.{AreSteady, journal_at}
use Rattle.qc_list.specs.Vocabulary.{In}
use Rattle.qc_list.proofs.Members.{In-first, In-last, In-more}
use Rattle.qc_entry.specs.declared.record.Commit.{Commit}
use Rattle.qc_msg.specs.declared.record.Record.{Record}
use Rattle.qc_msg.specs.declared.record.Record.TheVariants as records
use Rattle.qc_msg.specs.declared.reply.Reply.{Reply}
use Rattle.qc_msg.specs.declared.turn.Posting.{Posting}
use Rattle.qc_msg.specs.declared.turn.Turn.{Turn}
use Rattle.qc_msg.specs.Vocabulary.{Deed, Falls, Rises, Sends, Takes, Tells, Writes, sends_of, tells_of, turn_deeds}
use Rattle.qc_msg.specs.Vocabulary.{writes_of}
use Rattle.qc_promise.specs.Vocabulary.{AreRightFrom, Journal, Status, Unborn, status_at}
use Rattle.laws_turns.proofs.TurnsGoOn.{TurnRight}
use Rattle.laws_turns.proofs.Statuses.{Page}
use Rattle.qc_recover.specs.Clients.{Kept, keeps, nothing_kept}
use Rattle.std.proofs.lemmas.List.Sums.{fold-append}
use Rattle.qc_stamp.specs.declared.stamp.TxId.{TxId}
use Rattle.qc_stamp.proofs.Orders.{same_tx_is}
use Rattle.laws_reach.specs.Vocabulary.{AreRightButWritten}
use Rattle.laws_reach.proofs.Changes.{Changes, WritesNone, WritesOne}
use Rattle.laws_reach.proofs.StatusFalls.{Up}
use Rattle.laws_reach.proofs.Unborn.{turn_unborn}

talk_journal : (j : Journal) (n : ℕ) (ps : List Posting) (o : Option Reply)
    → fold journal_at j (sends_of n ps ++ tells_of o) ≡ j
talk_journal j n [] None = refl
talk_journal j n [] (Some r) = refl
talk_journal j n (p ∷ ps) o = talk_journal j (n + 1) ps o

pub turn_journal : (j : Journal) (n : ℕ) (turn : Turn)
    → fold journal_at j (turn_deeds n turn) ≡ fold journal_at j (writes_of turn.write)
turn_journal j n turn = by turn.write where
  by : (w : Option Record) → fold journal_at j (writes_of w ++ (sends_of n turn.sends ++ tells_of turn.told))
      ≡ fold journal_at j (writes_of w)
  by None = talk_journal j n turn.sends turn.told
  by (Some w) = talk_journal (journal_at j (Writes w)) n turn.sends turn.told

pub but_steady : (tx : TxId) (s : Status) (j : Journal) (ds : List Deed) → AreSteady ds → AreRightFrom tx s ds
    → AreRightButWritten tx s j ds
but_steady tx s j [] steady right = tt
but_steady tx s j (Takes g ∷ ds) steady right = (tt, but_steady tx s j ds steady.1 right.1)
but_steady tx s j (Writes w ∷ ds) steady right =
    (right.0, but_steady tx (status_at tx s (Writes w)) (journal_at j (Writes w)) ds steady.1 right.1)
but_steady tx s j (Sends n to m ∷ ds) steady right =
    (right.0, but_steady tx (status_at tx s (Sends n to m)) j ds steady.1 right.1)
but_steady tx s j (Tells r ∷ ds) steady right =
    (right.0, but_steady tx (status_at tx s (Tells r)) j ds steady.1 right.1)
but_steady tx s j (Falls cause pending ∷ ds) steady right = absurd steady.0
but_steady tx s j (Rises kept ∷ ds) steady right = absurd steady.0

pub but_append : (tx : TxId) (s : Status) (j : Journal) (xs ys : List Deed) → AreRightButWritten tx s j xs
    → AreRightButWritten tx (fold (status_at tx) s xs) (fold journal_at j xs) ys → AreRightButWritten tx s j (xs ++ ys)
but_append tx s j [] ys first second = second
but_append tx s j (x ∷ xs) ys first second =
    (first.0, but_append tx (status_at tx s x) (journal_at j x) xs ys first.1 second)

module _ (tx : TxId) (s : Status) (j : Journal) (k : ℕ) (p q : Page) (turn : Turn) (n : ℕ) (u : Up tx s j k p)
    (c : Changes p q turn) (w : TurnRight tx s turn q) where
  abbrev pub after : Status
  after = fold (status_at tx) s (turn_deeds n turn)

  later : tx.client ≡ k → q.life < tx.life → after ≡ Unborn
  later mine low =
      let none : s ≡ Unborn = u.later mine (subst (λ (m : ℕ). m < tx.life) c.life low) in
      ap (λ (v : Status). fold (status_at tx) v (turn_deeds n turn)) none
      ∙ turn_unborn tx n turn (subst (λ (v : Status). AreRightFrom tx v (turn_deeds n turn)) none (w.right n))
      (λ x is same. (let named : x ≡ tx = same_tx_is x tx same in
      let life : tx.life ≡ q.life = sym (ap (λ (t : TxId). t.life) named) ∙ c.begins x is ∙ sym c.life in
      let l : q.life < tx.life = low in omega arith))

  pub posts_up : Up tx after (fold journal_at j (turn_deeds n turn)) k q
  posts_up = subst (λ (x : Journal). Up tx after x k q) (sym (turn_journal j n turn)) (by c.written) where
    by : WritesNone p q turn ⊎ WritesOne p q turn → Up tx after (fold journal_at j (writes_of turn.write)) k q
    by (inl none) = subst (λ (o : Option Record). Up tx after (fold journal_at j (writes_of o)) k q) (sym none.write)
        (record {
          status = w.status n;
          listed = λ x among. u.listed x (subst (In x) none.commits among);
          life = c.life ∙ u.life;
          own = c.client ∙ u.own;
          later = later;
          none = u.none;
        })
    by (inr one) = subst (λ (o : Option Record). Up tx after (fold journal_at j (writes_of o)) k q) (sym one.write)
        (record {
          status = w.status n;
          listed = λ x among. of x (In-more x one.commit p.commits (subst (In x) one.commits among));
          life = c.life ∙ u.life ∙ sym (ap (λ (x : Kept). x.life)
              (fold-append keeps nothing_kept j.records (records.Commit one.commit ∷ [])));
          own = c.client ∙ u.own;
          later = later;
          none = u.none;
        }) where
          of : (x : Commit) → In x p.commits ⊎ (x ≡ one.commit)
              → In (records.Commit x) (j.records ++ records.Commit one.commit ∷ [])
          of x (inl old) = In-first (records.Commit x) j.records (records.Commit one.commit ∷ []) (u.listed x old)
          of x (inr new) = subst (λ (y : Commit). In (records.Commit x) (j.records ++ records.Commit y ∷ [])) new
              (In-last (records.Commit x) j.records)
