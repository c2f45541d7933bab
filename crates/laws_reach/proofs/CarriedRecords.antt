-- A commit record that becomes known by an input, a record or a message has the operations that the client was told.
use Rattle.std.proofs.Common.{◌≡◌, ◌≤◌, ◌⊎◌, inl, inr, ℕ, ◌+◌, Bool, true, false, cond, fold, List, [], ◌∷◌, Option}
use Rattle.std.proofs.Common.{Some, None, option_map, option_and_then, refl, sym, ap, ◌∙◌, subst, arith}
use Rattle.std.specs.Option.{option_map_or}
use Rattle.std.proofs.lemmas.List.Sums.{fold-append}
use Rattle.qc_list.specs.Vocabulary.{In}
use Rattle.qc_list.proofs.Members.{In-more}
use Rattle.qc_stamp.specs.Vocabulary.{first_life}
use Rattle.qc_stamp.specs.declared.stamp.Stamp.{Stamp}
use Rattle.qc_decl.specs.declared.declaration.Declaration.{Declaration}
use Rattle.qc_entry.specs.declared.record.Commit.{Commit as CommitRecord}
use Rattle.qc_core.specs.Vocabulary.{journal_at}
use Rattle.qc_msg.specs.declared.message.Message.{Message}
use Rattle.qc_msg.specs.declared.record.Record.{Record}
use Rattle.qc_msg.specs.declared.record.Record.TheVariants.{Life, Commit}
use Rattle.qc_msg.specs.declared.reply.Reply.{Reply}
use Rattle.qc_msg.specs.declared.reply.Reply.TheVariants as replies
use Rattle.qc_msg.specs.declared.step.Command.{Command}
use Rattle.qc_msg.specs.declared.step.Command.TheVariants as commands
use Rattle.qc_msg.specs.declared.step.Input.{Input}
use Rattle.qc_msg.specs.declared.step.Input.TheVariants as inputs
use Rattle.qc_msg.specs.Vocabulary.{Deed, Sends, Takes, Writes, commit_of as commit_in, is_life}
use Rattle.qc_promise.specs.Vocabulary.{Account, Current, Dealing, IsInputDue, IsRecordDue, Journal, Place, account_at}
use Rattle.qc_promise.specs.Vocabulary.{commit_of, deal, due, life_with, pending_next, reply_to}
use Rattle.laws_reach.specs.Vocabulary.{Says, SaysIn}
use Rattle.laws_reach.proofs.Gists.{Gist, gist, going, counted_same, heard_same, sent_same, with_call}
use Rattle.laws_reach.proofs.Rows.{reply_says}
use Rattle.laws_reach.proofs.Bases.{Base, Both, IsPast, Settled, both_as, called, none_some}
use Rattle.laws_reach.proofs.Steps.{lives_on}
use Rattle.laws_reach.proofs.DealingsTurning.{is_failing, is_off}
use Rattle.laws_reach.proofs.RecordCases.{due_cases}
use Rattle.qc_list.proofs.Booleans.{not_both}
use Rattle.qc_list.proofs.Options.{some_same}

-- a life is no less with more records
pub life_up : (n : ℕ) (rs : List Record) → n ≤ fold life_with n rs
life_up n [] = omega arith
life_up n (r ∷ rs) = by (is_life r) (life_up (n + 1) rs) (life_up n rs)
  where
    by : (b : Bool) → n + 1 ≤ fold life_with (n + 1) rs → n ≤ fold life_with n rs
        → n ≤ fold life_with (cond b (n + 1) n) rs
    by true more same = omega arith
    by false more same = same

-- where a command runs its reply says so
says_due : (decl : Declaration) (d : Account) (u : Bool) (o : Option Command) (reply : Reply) → d.command ≡ o
    → option_and_then (reply_to decl d u) o ≡ Some reply
    → (command : Command) × ((d.command ≡ Some command) × Says decl d command reply)
says_due decl d u None reply is row = absurd (none_some reply None refl row)
says_due decl d u (Some command) reply is row =
    (command, (is, subst (SaysIn decl d command) row (reply_says decl d u command)))

pub said : (decl : Declaration) (d : Account) (u : Bool) (reply : Reply) → due decl d u ≡ Some reply
    → (command : Command) × ((d.command ≡ Some command) × Says decl d command reply)
said decl d u reply row = says_due decl d u d.command reply refl row

module _ (decl : Declaration) (c : CommitRecord) where
  abbrev pub Known : Place → Journal → List Deed → Type 0
  Known p j after =
      (In (Commit c) j.records)
      ⊎ ((j.pending ≡ Some (Commit c)) ⊎ ((is_failing p ≡ true) × (pending_next after ≡ Some (Commit c))))

  pub record Ongoing (p : Place) (d : Account) (x : Dealing) (j : Journal) (after : List Deed) : Type 0 where
    pub both : Both c.tx c.ops (is_off p) (gist d) x (Known p j after)
    pub life : d.life ≡ fold life_with first_life j.records

  -- where no record is new
  pub known_still : (p q : Place) (j : Journal) (before after : List Deed) → is_failing q ≡ false → Known q j after
      → Known p j before
  known_still p q j before after not (inl at) = inl at
  known_still p q j before after not (inr (inl at)) = inr (inl at)
  known_still p q j before after not (inr (inr at)) = absurd (not_both (is_failing q) at.0 not)

  -- an input

  pub takes : (p q : Place) (d : Account) (x : Dealing) (j : Journal) (g : Input) (after : List Deed)
      → (is_off q ≡ is_off p) × (is_failing q ≡ false) → IsInputDue d (due decl d false) g
      → Ongoing p d x j (Takes g ∷ after) → Ongoing q (account_at decl d (Takes g)) (deal c.tx x (Takes g)) j after
  takes p q d x j (inputs.Called command) after place input s = record {
    both =
        both_as c.tx c.ops (is_off p) (is_off q) (with_call (gist d) command) (with_call (gist d) command)
        (record x { asked = Some command }) (Known p j (Takes (inputs.Called command) ∷ after)) (Known q j after)
        place.0 refl
        (known_still p q j (Takes (inputs.Called command) ∷ after) after place.1)
        (called c.tx c.ops (is_off p) (gist d) x (Known p j (Takes (inputs.Called command) ∷ after)) command input.1
        s.both);
    life = s.life;
  }
  takes p q d x j (inputs.Got envelope) after place input s = record {
    both =
        both_as c.tx c.ops (is_off p) (is_off q) (gist d) (gist (account_at decl d (Takes (inputs.Got envelope)))) x
        (Known p j (Takes (inputs.Got envelope) ∷ after)) (Known q j after) place.0 (heard_same d envelope.message)
        (known_still p q j (Takes (inputs.Got envelope) ∷ after) after place.1) s.both;
    life = ap (λ (g : Gist). g.life) (heard_same d envelope.message) ∙ s.life;
  }
  takes p q d x j (inputs.Lost number) after place input s = record {
    both =
        both_as c.tx c.ops (is_off p) (is_off q) (gist d) (gist (account_at decl d (Takes (inputs.Lost number)))) x
        (Known p j (Takes (inputs.Lost number) ∷ after)) (Known q j after) place.0 (counted_same d number None)
        (known_still p q j (Takes (inputs.Lost number) ∷ after) after place.1) s.both;
    life = ap (λ (g : Gist). g.life) (counted_same d number None) ∙ s.life;
  }

  -- a record is written

  pub written_known : (p q : Place) (j : Journal) (r : Record) (before after : List Deed) → is_failing q ≡ false
      → Known q (journal_at j (Writes r)) after → Known p j before ⊎ (Commit c ≡ r)
  written_known p q j r before after not (inl at) = by (In-more (Commit c) r j.records at)
    where
      by : In (Commit c) j.records ⊎ (Commit c ≡ r) → Known p j before ⊎ (Commit c ≡ r)
      by (inl old) = inl (inl old)
      by (inr new) = inr new
  written_known p q j r before after not (inr (inl at)) = inl (inr (inl at))
  written_known p q j r before after not (inr (inr at)) = absurd (not_both (is_failing q) at.0 not)

  abbrev pub commit_or : Record → CommitRecord
  commit_or r = option_map_or (λ (e : CommitRecord). e) (commit_in r) c

  -- the record of the account has its transaction's operations
  pub recorded : (off : Bool) (d : Account) (x : Dealing) (stamp : Stamp) (o : Option Current) → d.current ≡ o
      → Base c.tx c.ops off (gist d) x
      → option_map (λ (t : Current). record { stamp = stamp; tx = t.tx; ops = t.ops }) o ≡ Some c
      → (c.ops ≡ x.ops) × IsPast c.tx c.ops off (gist d)
  recorded off d x stamp None is base row = absurd (none_some c None refl row)
  recorded off d x stamp (Some t) is base row = (ap (λ (e : CommitRecord). e.ops) (sym same) ∙ sym here.0, here.1)
    where
      same : record { stamp = stamp; tx = t.tx; ops = t.ops } ≡ c
      same = some_same (record { stamp = stamp; tx = t.tx; ops = t.ops }) c row

      here : (x.ops ≡ t.ops) × IsPast c.tx c.ops off (gist d)
      here = base.told (going t) (ap (option_map going) is) (ap (λ (e : CommitRecord). e.tx) same)

  writes_life : (p q : Place) (d : Account) (x : Dealing) (j : Journal) (after : List Deed)
      → (is_off q ≡ false) × ((is_failing q ≡ false) × (is_off p ≡ true))
      → Ongoing p d x j (Writes Life ∷ after)
      → Ongoing q (account_at decl d (Writes Life)) x (journal_at j (Writes Life)) after
  writes_life p q d x j after place s = record {
    both =
        both_as c.tx c.ops false (is_off q) (gist (account_at decl d (Writes Life)))
        (gist (account_at decl d (Writes Life))) x (Known p j (Writes Life ∷ after))
        (Known q (journal_at j (Writes Life)) after) place.0 refl
        (λ k. old (written_known p q j Life (Writes Life ∷ after) after place.1.0 k))
        (lives_on c.tx c.ops (gist d) x (Known p j (Writes Life ∷ after))
        (subst (λ (b : Bool). Both c.tx c.ops b (gist d) x (Known p j (Writes Life ∷ after))) place.1.1 s.both));
    life = ap (λ (n : ℕ). n + 1) s.life ∙ sym (fold-append life_with first_life j.records (Life ∷ []));
  }
    where
      old : Known p j (Writes Life ∷ after) ⊎ (Commit c ≡ Life) → Known p j (Writes Life ∷ after)
      old (inl k) = k
      old (inr is) = absurd (let never : ⊥ = cc in never)

  writes_commit : (p q : Place) (d : Account) (x : Dealing) (j : Journal) (commit : CommitRecord) (after : List Deed)
      → (is_off q ≡ false) × ((is_failing q ≡ false) × (is_off p ≡ false))
      → IsRecordDue d (due decl d false) (Commit commit) → Ongoing p d x j (Writes (Commit commit) ∷ after)
      → Ongoing q (account_at decl d (Writes (Commit commit))) x (journal_at j (Writes (Commit commit))) after
  writes_commit p q d x j commit after place its s = record {
    both =
        record {
          base = base;
          known = λ k. known (written_known p q j (Commit commit) (Writes (Commit commit) ∷ after) after place.1.0 k);
        };
    life = s.life ∙ sym (fold-append life_with first_life j.records (Commit commit ∷ []));
  }
    where
      off_is : is_off q ≡ is_off p
      off_is = place.0 ∙ sym place.1.1

      old : Base c.tx c.ops (is_off q) (gist d) x
      old = subst (λ (b : Bool). Base c.tx c.ops b (gist d) x) (sym off_is) s.both.base

      base : Base c.tx c.ops (is_off q) (gist (account_at decl d (Writes (Commit commit)))) x
      base = record { asked = old.asked; begun = old.begun; down = old.down; told = old.told; fresh = old.fresh }

      settled : Settled c.tx c.ops (is_off q) (gist d) x
          → Settled c.tx c.ops (is_off q) (gist (account_at decl d (Writes (Commit commit)))) x
      settled t = record { same = t.same; past = t.past; quiet = t.quiet }

      known : Known p j (Writes (Commit commit) ∷ after) ⊎ (Commit c ≡ Commit commit)
          → Settled c.tx c.ops (is_off q) (gist (account_at decl d (Writes (Commit commit)))) x
      known (inl k) = settled (subst (λ (b : Bool). Settled c.tx c.ops b (gist d) x) (sym off_is) (s.both.known k))
      known (inr new) =
          let is : commit ≡ c = sym (ap commit_or new) in
          let row : commit_of d commit.stamp ≡ Some c = its.1 ∙ ap (λ (e : CommitRecord). Some e) is in
          let at : (c.ops ≡ x.ops) × IsPast c.tx c.ops (is_off q) (gist d) =
          recorded (is_off q) d x commit.stamp d.current refl old row in
          let run : (command : Command) × ((d.command ≡ Some command) × (command ≡ commands.Commit)) =
          said decl d false (replies.Committed commit.stamp) its.0 in
          record { same = at.0; past = at.1; quiet = λ o begun named. run.1.0 ∙ ap (λ (e : Command). Some e) run.1.1 }

  pub wrote : (p q : Place) (d : Account) (x : Dealing) (j : Journal) (r : Record) (after : List Deed)
      → (is_off q ≡ false) × ((is_failing q ≡ false) × (is_off p ≡ is_life r))
      → IsRecordDue d (due decl d false) r → Ongoing p d x j (Writes r ∷ after)
      → Ongoing q (account_at decl d (Writes r)) x (journal_at j (Writes r)) after
  wrote p q d x j r after place its s =
      due_cases d (due decl d false)
      (λ (r : Record). (is_off q ≡ false) × ((is_failing q ≡ false) × (is_off p ≡ is_life r))
      → Ongoing p d x j (Writes r ∷ after)
      → Ongoing q (account_at decl d (Writes r)) x (journal_at j (Writes r)) after)
      (λ place s. writes_life p q d x j after place s)
      (λ commit its place s. writes_commit p q d x j commit after place its s) r its place s

  -- a message is sent
  pub sent : (p q : Place) (d : Account) (x : Dealing) (j : Journal) (number to : ℕ) (m : Message) (after : List Deed)
      → (is_off q ≡ is_off p) × (is_failing q ≡ false)
      → Ongoing p d x j (Sends number to m ∷ after) → Ongoing q (account_at decl d (Sends number to m)) x j after
  sent p q d x j number to m after place s = record {
    both =
        both_as c.tx c.ops (is_off p) (is_off q) (gist d) (gist (account_at decl d (Sends number to m))) x
        (Known p j (Sends number to m ∷ after)) (Known q j after) place.0 (sent_same decl d number to m)
        (known_still p q j (Sends number to m ∷ after) after place.1) s.both;
    life = ap (λ (g : Gist). g.life) (sent_same decl d number to m) ∙ s.life;
  }
