-- A client that is up posts the turn for an input, its record written or not, and stands in what it has seen as before.
use Rattle.std.proofs.Common.{◌≡◌, ◌<◌, ◌≢◌, ◌⊎◌, ℕ, ◌+◌, Bool, true, false, List, [], ◌∷◌, ◌++◌, inl, inr, fold}
use Rattle.std.proofs.Common.{Option, Some, None, option_map, refl, sym, ap, ◌∙◌, subst, arith}
use Rattle.std.specs.Prelude.{is_some}
use Rattle.std.specs.List.{AllByRecursion as Every}
use Rattle.std.proofs.lemmas.List.Sums.{fold-append}
use Rattle.qc_stamp.specs.declared.stamp.Stamp.{Stamp}
use Rattle.qc_stamp.specs.declared.stamp.TxId.{TxId}
use Rattle.qc_stamp.specs.Vocabulary.{first_life, same_tx}
use Rattle.qc_stamp.proofs.Orders.{same_tx_itself}
use Rattle.qc_list.specs.Vocabulary.{In}
use Rattle.qc_list.proofs.Members.{In-first, In-last, In-more}
use Rattle.qc_core.specs.Vocabulary.{journal_at}
use Rattle.qc_decl.specs.declared.declaration.Declaration.{Declaration}
use Rattle.qc_entry.specs.declared.record.Commit.{Commit}
use Rattle.qc_msg.specs.declared.record.Record.{Record}
use Rattle.qc_msg.specs.declared.record.Record.TheVariants as records
use Rattle.qc_msg.specs.declared.reply.Reply.{Reply}
use Rattle.qc_msg.specs.declared.reply.Reply.TheVariants as replies
use Rattle.qc_msg.specs.declared.step.Fall.{Fall}
use Rattle.qc_msg.specs.declared.turn.Posting.{Posting}
use Rattle.qc_msg.specs.declared.turn.Turn.{Turn}
use Rattle.qc_msg.specs.Vocabulary.{Deed, Falls, Sends, Tells, Writes, sends_of, tells_of, turn_deeds, writes_of}
use Rattle.qc_promise.specs.Vocabulary.{Account, Current, HasBefore, IsRecordDue, Journal, Sight, account_at}
use Rattle.qc_promise.specs.Vocabulary.{account_sent, account_written, is_begun, life_with, running_row, sight}
use Rattle.qc_promise.specs.Vocabulary.{sight_sent}
use Rattle.laws_due.specs.Vocabulary.{AreByRows}
use Rattle.laws_due.proofs.Writing.{IsClientTurn}
use Rattle.laws_atomic.proofs.Alone.{AsksNothing, IsAlone}
use Rattle.laws_atomic.proofs.Counted.{name_of}
use Rattle.laws_atomic.proofs.Seeing.{is_before}
use Rattle.laws_atomic.proofs.Sights.{sent_sees, wrote_sees}
use Rattle.laws_atomic.proofs.Stamps.{due_stamp}
use Rattle.laws_atomic.proofs.Taking.{IsFree, sent_free}
use Rattle.laws_reach.proofs.Making.{IsHad, made_at}
use Rattle.laws_reach.proofs.Naming.{IsNamed, named_down}
use Rattle.laws_reach.proofs.Standing.{Stands, account_more, as_done, done, sent_keeps, up_not}
use Rattle.laws_reach.proofs.Telling.{tells}

module _ (decl : Declaration) (commits : List Commit) (tx : TxId) (client : ℕ) where
  -- more deeds
  abbrev pub AfterAll : Bool → Account → Sight → List Commit → Journal → List Deed → Type 0
  AfterAll up d s made j ds = Stands decl commits tx client up (fold (account_at decl) d ds) (fold (sight tx) s ds)
      (fold made_at made ds) (fold journal_at j ds)

  module _ (d : Account) (s : Sight) (made : List Commit) (j : Journal)
      (w : Stands decl commits tx client true d s made j) (c : Commit)
      (due : IsRecordDue d (running_row decl d false) (records.Commit c)) where
    -- a commit record that is due is of the transaction that is begun, and its stamp is above the clock
    named_by : (o : Option Current) → option_map (λ (t : Current). record { stamp = c.stamp; tx = t.tx; ops = t.ops }) o
        ≡ Some c → name_of o ≡ Some c.tx
    named_by None is = absurd (let never : ⊥ = cc in never)
    named_by (Some t) is = let same : record { stamp = c.stamp; tx = t.tx; ops = t.ops } ≡ c = cc in
        ap (λ (x : Commit). Some x.tx) same

    is_its : c.tx ≡ tx → is_begun tx s.begun ≡ true
    is_its its = ap (is_begun tx) (w.sees.begun ∙ named_by d.current due.1)
        ∙ subst (λ (x : TxId). same_tx c.tx x ≡ true) its (same_tx_itself c.tx)

    above : d.clock < c.stamp.clock
    above = let e : c.stamp.clock ≡ d.clock + 1 = ap (λ (x : Stamp). x.clock) (due_stamp decl d c.stamp due.0) in
        omega arith

    new_named : (r : Commit) → In r (c ∷ made) → r.tx ≡ tx → IsNamed client true d.life d.count tx
    new_named r (inl same) its = w.keeps.begun (is_its (sym (ap (λ (x : Commit). x.tx) same) ∙ its))
    new_named r (inr old) its = w.keeps.named r old its

    -- it is written
    pub writes : In c commits → AfterAll true d s made j (Writes (records.Commit c) ∷ [])
    writes there = record {
      sees = as_done commits tx (account_written d (records.Commit c)) s (c ∷ made) _
          (wrote_sees commits tx d s made done w.sees decl (records.Commit c)
          (λ x same. subst (λ (y : Commit). In y commits) (let one : c ≡ x = cc in one) there) due);
      keeps = record {
        account = account_more decl client d w.keeps.account (Writes (records.Commit c));
        named = new_named;
        begun = w.keeps.begun;
        life = w.keeps.life ∙ sym (fold-append life_with first_life j.records (records.Commit c ∷ []));
        told = λ x among. (let r = w.keeps.told x among in
            record {
              commit = r.commit;
              listed = In-first (records.Commit r.commit) j.records
                  (records.Commit c ∷ []) r.listed;
              named = r.named;
            });
        known = known;
        written = λ x is. (let one : c ≡ x = cc in
            subst (λ (y : Commit). In (records.Commit y) (j.records ++ records.Commit c ∷ [])) one
            (In-last (records.Commit c) j.records));
        quiet = λ is. up_not is;
      };
    }
      where
        of : (x : Commit) → In (records.Commit x) j.records ⊎ (records.Commit x ≡ records.Commit c) → In x (c ∷ made)
        of x (inl old) = inr (w.keeps.known x (inl old))
        of x (inr new) = inl (let one : x ≡ c = cc in one)

        known : (x : Commit) → IsHad x (record j { records = j.records ++ records.Commit c ∷ [] }) → In x (c ∷ made)
        known x (inl among) = of x (In-more (records.Commit x) (records.Commit c) j.records among)
        known x (inr is) = inr (w.keeps.known x (inr is))

    -- it isn't: the client is told Unknown, and falls with the record pending
    pub fails : (cause : Fall) → AfterAll false d s made j
        (Tells replies.Unknown ∷ Falls cause (Some (records.Commit c)) ∷ [])
    fails cause = record {
      sees = record {
        begun = refl;
        waiting = λ n among. absurd among;
        shown = w.sees.shown;
        committed = w.sees.committed;
        seen = λ is. absurd (let never : ⊥ = cc in never);
        before = before;
        ended = λ r among its. tt;
        stands = λ r among its is. absurd (let never : ⊥ = cc in never);
        listed = λ r is. absurd (let never : ⊥ = cc in never);
      };
      keeps = record {
        account = account_more decl client (account_at decl d (Tells replies.Unknown))
            (account_more decl client d w.keeps.account (Tells replies.Unknown))
            (Falls cause (Some (records.Commit c)));
        named = λ r among its. named_down client tx true d.life d.count (new_named r among its);
        begun = λ is. absurd (let never : ⊥ = cc in never);
        life = w.keeps.life;
        told = w.keeps.told;
        known = known;
        written = λ x is. absurd (let never : ⊥ = cc in never);
        quiet = λ is. (refl, (refl, refl));
      };
    }
      where
        before : (r : Commit) → In r (c ∷ made) → r.tx ≡ tx → (t : TxId) → In t s.seen → t ≢ tx
            → HasBefore commits t r.stamp
        before r (inl same) its t among other =
            subst (λ (x : Commit). HasBefore commits t x.stamp) (sym same)
            (is_before commits t d.clock c.stamp above
            (w.sees.seen (is_its (sym (ap (λ (x : Commit). x.tx) same) ∙ its)) t among))
        before r (inr old) its t among other = w.sees.before r old its t among other

        known : (x : Commit) → IsHad x (record j { pending = Some (records.Commit c) }) → In x (c ∷ made)
        known x (inl among) = inr (w.keeps.known x (inl among))
        known x (inr is) = inl (let one : x ≡ c = cc in one)

  -- messages, and a reply

  talks : (n : ℕ) (ps : List Posting) (told : Option Reply) (d : Account) (s : Sight) (made : List Commit) (j : Journal)
      → Stands decl commits tx client true d s made j → AreByRows decl d (sends_of n ps ++ tells_of told)
      → (is_some told ≡ true → IsFree s) → (is_some told ≡ true → Every AsksNothing ps)
      → AfterAll true d s made j (sends_of n ps ++ tells_of told)
  talks n [] None d s made j w is free alone = w
  talks n [] (Some reply) d s made j w is free alone = tells decl commits tx client d s made j w (free refl) reply is.0
  talks n (p ∷ ps) told d s made j w is free alone =
      talks (n + 1) ps told (account_sent decl d n p.to p.message) (sight_sent s n p.message) made j
      (record {
        sees = as_done commits tx (account_sent decl d n p.to p.message) (sight_sent s n p.message) made _
            (sent_sees commits tx d s made done w.sees decl n p.to p.message is.0);
        keeps = sent_keeps decl tx client d s made j w.keeps n p.to p.message
            (account_more decl client d w.keeps.account (Sends n p.to p.message));
      }) is.1 (λ some. sent_free s n p.message (alone some).0 (free some)) (λ some. (alone some).1)

  -- a turn, its record written
  pub posts : (n : ℕ) (turn : Turn) (d : Account) (s : Sight) (made : List Commit) (j : Journal)
      → Stands decl commits tx client true d s made j → AreByRows decl d (turn_deeds n turn) → IsClientTurn turn
      → ((c : Commit) → In (Writes (records.Commit c)) (turn_deeds n turn) → In c commits)
      → (is_some turn.told ≡ true → IsFree s) → IsAlone turn → AfterAll true d s made j (turn_deeds n turn)
  posts n turn d s made j w is kind there free alone = by kind
    where
      none : (o : Option Record) → o ≡ None → AreByRows decl d
          (writes_of o ++ (sends_of n turn.sends ++ tells_of turn.told))
          → AfterAll true d s made j (writes_of o ++ (sends_of n turn.sends ++ tells_of turn.told))
      none None same dues = talks n turn.sends turn.told d s made j w dues free alone
      none (Some r) same dues = absurd (let never : ⊥ = cc in never)

      one : (c : Commit) (o : Option Record) → o ≡ Some (records.Commit c)
          → AreByRows decl d (writes_of o ++ (sends_of n turn.sends ++ tells_of turn.told))
          → ((x : Commit) → In (Writes (records.Commit x))
          (writes_of o ++ (sends_of n turn.sends ++ tells_of turn.told)) → In x commits)
          → AfterAll true d s made j (writes_of o ++ (sends_of n turn.sends ++ tells_of turn.told))
      one c None same dues listed = absurd (let never : ⊥ = cc in never)
      one c (Some r) same dues listed = at r (let one : r ≡ records.Commit c = cc in one) dues listed
        where
          at : (r : Record) → r ≡ records.Commit c
              → AreByRows decl d (Writes r ∷ (sends_of n turn.sends ++ tells_of turn.told))
              → ((x : Commit) → In (Writes (records.Commit x))
              (Writes r ∷ (sends_of n turn.sends ++ tells_of turn.told)) → In x commits)
              → AfterAll true d s made j (Writes r ∷ (sends_of n turn.sends ++ tells_of turn.told))
          at r is_it dues listed = subst (λ (v : Record). AfterAll true d s made j
              (Writes v ∷ (sends_of n turn.sends ++ tells_of turn.told))) (sym is_it)
              (talks n turn.sends turn.told (account_written d (records.Commit c)) s (c ∷ made)
              (journal_at j (Writes (records.Commit c)))
              (writes d s made j w c (subst (λ (v : Record). IsRecordDue d (running_row decl d false) v) is_it dues.0)
              (listed c (inl (ap (λ (v : Record). Writes v) (sym is_it)))))
              (subst (λ (v : Record). AreByRows decl (account_at decl d (Writes v))
              (sends_of n turn.sends ++ tells_of turn.told)) is_it dues.1) free alone)

      by : IsClientTurn turn → AfterAll true d s made j (turn_deeds n turn)
      by (inl nothing) = none turn.write nothing is
      by (inr commit) = one commit.commit turn.write commit.write is there
