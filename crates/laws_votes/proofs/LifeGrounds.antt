-- What stands behind the lives of a begun transaction, through falls: the life of each site that granted it something
-- was told by a grant, which its client took for a request that it had sent.
use Rattle.std.proofs.Common.{[], ◌≡◌, ◌+◌, ℕ, ◌==◌, ◌&&◌, Bool, true, false, cond, List, ◌∷◌, ◌++◌, inl, inr, Option}
use Rattle.std.proofs.Common.{Some, None, refl, sym, ap, ◌∙◌, subst, arith, append_assoc, ◌<◌, eqb-true, filter, length}
use Rattle.std.proofs.Common.{slice_get}
use Rattle.std.specs.Prelude.{fold}
use Rattle.std.specs.Option.{option_map_or}
use Rattle.std.proofs.lemmas.List.{append-nil}
use Rattle.qc_stamp.specs.Vocabulary.{same_tx}
use Rattle.qc_stamp.specs.declared.stamp.TxId.{TxId}
use Rattle.qc_list.specs.Vocabulary.{In}
use Rattle.qc_list.proofs.Members.{In-more, In-passes, every-at, every-from_In}
use Rattle.qc_decl.specs.declared.declaration.Declaration.{Declaration}
use Rattle.qc_msg.specs.declared.message.Message.{Message}
use Rattle.qc_msg.specs.declared.message.Message.TheVariants as messages
use Rattle.qc_msg.specs.declared.message.Want.{Want}
use Rattle.qc_msg.specs.declared.record.Record.{Record}
use Rattle.qc_msg.specs.declared.record.Record.TheVariants as records
use Rattle.qc_msg.specs.declared.step.Command.{Command}
use Rattle.qc_msg.specs.declared.step.Command.TheVariants as commands
use Rattle.qc_msg.specs.Vocabulary.{Deed, Falls, Rises, Sends, Takes, Tells, Writes, has_granted, life_of}
use Rattle.qc_promise.specs.Vocabulary.{Account, ClientRequest, Current, account_at, account_sent, account_written}
use Rattle.qc_promise.specs.Vocabulary.{answer_of, carries, command_asks, is_asked_for, is_of, is_prepare, is_this}
use Rattle.qc_promise.specs.Vocabulary.{new_account, next_own, own_appended, participants, requests_for, same_line}
use Rattle.qc_promise.specs.Vocabulary.{same_own, weighs}
use Rattle.qc_decl.specs.Vocabulary.{first_site}
use Rattle.qc_plan.specs.Vocabulary.{cyclic}
use Rattle.qc_entry.specs.declared.line.OwnLine.{OwnLine}
use Rattle.std.proofs.lemmas.List.Sums.{fold-append}
use Rattle.qc_entry.specs.declared.line.Line.{Line}
use Rattle.qc_msg.specs.declared.message.Want.TheVariants.{Append, Prepare, Read}
use Rattle.laws_guarantees.proofs.Accounts.{HasGrounds}
use Rattle.laws_guarantees.proofs.RequestGrounds.{has_grounds}
use Rattle.laws_guarantees.proofs.SiteMoves.{IsFull}
use Rattle.std.specs.Cmp.Lexicographic.{pointwise}
use Rattle.laws_votes.proofs.LivesAdded.{HasParticipant, HasLifeGrounds, same_now, same_told, same_grounds}
use Rattle.laws_votes.proofs.LivesAdded.{bare_grounds}
use Rattle.laws_votes.proofs.LivesTold.{told_alike}
use Rattle.laws_votes.proofs.TakenGrounds.{take_grounds}
use Rattle.qc_list.proofs.Booleans.{and_first, and_second}

-- a record changes no transaction
write_grounds : (ds : List Deed) (d : Account) (w : Record) → HasLifeGrounds ds d
    → HasLifeGrounds (ds ++ Writes w ∷ []) (account_written d w)
write_grounds ds d records.Life k = same_grounds ds (Writes records.Life) d (record d { life = d.life + 1 }) refl refl k
write_grounds ds d (records.Prepare prepared) k = same_grounds ds (Writes (records.Prepare prepared)) d d refl refl k
write_grounds ds d (records.Done tx clock) k = same_grounds ds (Writes (records.Done tx clock)) d d refl refl k
write_grounds ds d (records.Close epoch) k = same_grounds ds (Writes (records.Close epoch)) d d refl refl k
write_grounds ds d (records.Install start) k =
    same_grounds ds (Writes (records.Install start)) d d refl refl k
write_grounds ds d (records.Commit commit) k =
    same_grounds ds (Writes (records.Commit commit)) d (record d { written = Some commit }) refl refl k
write_grounds ds d (records.Decide start) k =
    same_grounds ds (Writes (records.Decide start)) d d refl refl k

module _ (decl : Declaration) where
  -- a request that is asked for has own lines where it is an Append

  carried_full : (d : Account) (t : Current) (object : ℕ) (view : List Line) (own : List OwnLine) (o : Option ℕ)
      → carries decl t object view own o ≡ true → 0 < length own
  carried_full d t object view own None is = absurd (let never : ⊥ = cc in never)
  carried_full d t object view [] (Some event) is =
      absurd (none (filter (weighs decl t.epoch object) t.own)
      (and_second (pointwise same_line view _) (pointwise same_own [] (own_appended decl t object event)) is))
    where
      none : (xs : List OwnLine) → pointwise same_own [] (xs ++ next_own t object event ∷ []) ≡ true → ⊥
      none [] is = let never : ⊥ = cc in never
      none (x ∷ xs) is = let never : ⊥ = cc in never
  carried_full d t object view (o ∷ os) (Some event) is = omega arith

  command_full : (d : Account) (t : Current) (site : ℕ) (want : Want) (o : Option Command)
      → command_asks decl d t site want o ≡ true → IsFull want
  command_full d t site want None is = absurd (let never : ⊥ = cc in never)
  command_full d t site want (Some commands.Begin) is = absurd (let never : ⊥ = cc in never)
  command_full d t site (Read read) (Some (commands.Do object inv)) is = tt
  command_full d t site (Append o view own) (Some (commands.Do object inv)) is =
      carried_full d t object view own (answer_of decl t object inv)
      (and_second (o == object) (carries decl t object view own (answer_of decl t object inv))
      (and_first ((o == object) && carries decl t object view own (answer_of decl t object inv)) _ is))
  command_full d t site Prepare (Some (commands.Do object inv)) is = absurd (let never : ⊥ = cc in never)
  command_full d t site (Read read) (Some commands.Commit) is = absurd (let never : ⊥ = cc in never)
  command_full d t site (Append o view own) (Some commands.Commit) is = absurd (let never : ⊥ = cc in never)
  command_full d t site Prepare (Some commands.Commit) is = tt
  command_full d t site want (Some commands.Abort) is = absurd (let never : ⊥ = cc in never)
  command_full d t site want (Some (commands.Epoch number)) is = absurd (let never : ⊥ = cc in never)

  asked_full : (d : Account) (site : ℕ) (tx : TxId) (epoch life : ℕ) (want : Want)
      → is_asked_for decl d site tx epoch life want ≡ true → IsFull want
  asked_full d site tx epoch life want is = by d.current is
    where
      by : (o : Option Current)
          → option_map_or (λ (t : Current). is_of t site tx epoch life && command_asks decl d t site want d.command) o
          false ≡ true → IsFull want
      by None e = absurd (let never : ⊥ = cc in never)
      by (Some t) e =
          command_full d t site want d.command
          (and_second (is_of t site tx epoch life) (command_asks decl d t site want d.command) e)

  -- a Prepare is asked of a participant, and names the life of its first grant

  at_in : (xs : List ℕ) (n x : ℕ) → slice_get xs n ≡ Some x → In x xs
  at_in xs n x is = every-at (λ (y : ℕ). In y xs) xs n x (every-from_In (λ (y : ℕ). In y xs) xs (λ y among. among)) is

  this_one : (site : ℕ) (o : Option ℕ) → is_this site o ≡ true → o ≡ Some site
  this_one site None is = absurd (let never : ⊥ = cc in never)
  this_one site (Some n) is = ap Some (eqb-true n site is)

  commit_participant : (d : Account) (t : Current) (site : ℕ) (o : Option Command)
      → command_asks decl d t site Prepare o ≡ true → has_granted t.lives site ≡ true
  commit_participant d t site None is = absurd (let never : ⊥ = cc in never)
  commit_participant d t site (Some commands.Begin) is = absurd (let never : ⊥ = cc in never)
  commit_participant d t site (Some (commands.Do object inv)) is = absurd (let never : ⊥ = cc in never)
  commit_participant d t site (Some commands.Commit) is =
      In-passes (has_granted t.lives) site (cyclic decl.sites (first_site decl d.client))
      (at_in (participants decl d t) (length (requests_for is_prepare d)) site
      (this_one site (slice_get (participants decl d t) (length (requests_for is_prepare d))) is))
  commit_participant d t site (Some commands.Abort) is = absurd (let never : ⊥ = cc in never)
  commit_participant d t site (Some (commands.Epoch number)) is = absurd (let never : ⊥ = cc in never)

  asked_participant : (d : Account) (n to : ℕ) (tx : TxId) (epoch life : ℕ) (want : Want) → want ≡ Prepare
      → is_asked_for decl d to tx epoch life want ≡ true
      → HasParticipant d.current (record { number = n; site = to; life = life; want = want; taken = None })
  asked_participant d n to tx epoch life want prepare is = by d.current refl is
    where
      by : (o : Option Current) → d.current ≡ o
          → option_map_or (λ (t : Current). is_of t to tx epoch life && command_asks decl d t to want d.command) o false
          ≡ true → HasParticipant o (record { number = n; site = to; life = life; want = want; taken = None })
      by None at e = absurd (let never : ⊥ = cc in never)
      by (Some t) at e = (
        t,
        refl,
        commit_participant d t to d.command
            (subst (λ (w : Want). command_asks decl d t to w d.command ≡ true) prepare
            (and_second (is_of t to tx epoch life) (command_asks decl d t to want d.command) e)),
        eqb-true life (life_of t.lives to)
            (and_second (epoch == t.epoch) (life == life_of t.lives to)
            (and_second (same_tx t.tx tx) ((epoch == t.epoch) && (life == life_of t.lives to))
            (and_first (is_of t to tx epoch life) (command_asks decl d t to want d.command) e))),
      )

  send_grounds : (ds : List Deed) (d : Account) (n to : ℕ) (m : Message) → HasLifeGrounds ds d
      → HasLifeGrounds (ds ++ Sends n to m ∷ []) (account_sent decl d n to m)
  send_grounds ds d n to (messages.Request tx epoch life want) k = by (is_asked_for decl d to tx epoch life want) refl
    where
      by : (b : Bool) → is_asked_for decl d to tx epoch life want ≡ b
          → HasLifeGrounds (ds ++ Sends n to (messages.Request tx epoch life want) ∷ [])
          (cond b
          (record d {
            requests =
                d.requests ++ record { number = n; site = to; life = life; want = want; taken = None } ∷ [];
          }) d)
      by false is = same_grounds ds (Sends n to (messages.Request tx epoch life want)) d d refl refl k
      by true is = record {
        votes =
            λ q among prepare. elim (In-more q
            (record { number = n; site = to; life = life; want = want; taken = None }) d.requests among) [
              | inl old ↦ k.votes q old prepare
              | inr new ↦
                  subst (HasParticipant d.current) (sym new)
                  (asked_participant d n to tx epoch life want (sym (ap (λ (y : ClientRequest). y.want) new) ∙ prepare)
                  is)
            ];
        full =
            λ q among. elim (In-more q (record { number = n; site = to; life = life; want = want; taken = None })
            d.requests among) [
              | inl old ↦ k.full q old
              | inr new ↦
                  subst (λ (w : Want). IsFull w) (sym (ap (λ (y : ClientRequest). y.want) new))
                  (asked_full d to tx epoch life want is)
            ];
        told =
            same_told ds (Sends n to (messages.Request tx epoch life want)) d d (same_now d.current d.current refl) k;
      }
  send_grounds ds d n to (messages.Answer request answer) k =
      same_grounds ds (Sends n to (messages.Answer request answer)) d d refl refl k
  send_grounds ds d n to (messages.Decision tx verdict) k =
      same_grounds ds (Sends n to (messages.Decision tx verdict)) d d refl refl k
  send_grounds ds d n to (messages.Inquiry tx) k = same_grounds ds (Sends n to (messages.Inquiry tx)) d d refl refl k
  send_grounds ds d n to (messages.Ask tx) k = same_grounds ds (Sends n to (messages.Ask tx)) d d refl refl k
  send_grounds ds d n to (messages.Close epoch) k = same_grounds ds (Sends n to (messages.Close epoch)) d d refl refl k
  send_grounds ds d n to (messages.Install start) k =
      same_grounds ds (Sends n to (messages.Install start)) d d refl refl k

  one_more : (ds : List Deed) (d : Account) (x : Deed) → HasGrounds ds d → HasLifeGrounds ds d
      → HasLifeGrounds (ds ++ x ∷ []) (account_at decl d x)
  one_more ds d (Takes g) grounds k = take_grounds ds d g grounds k
  one_more ds d (Writes w) grounds k = write_grounds ds d w k
  one_more ds d (Sends n to m) grounds k = send_grounds ds d n to m k
  one_more ds d (Tells reply) grounds k =
      bare_grounds ds (Tells reply) d (account_at decl d (Tells reply)) refl (told_alike decl d reply) k
  one_more ds d (Falls cause pending) grounds k =
      record {
        votes = λ q never. absurd never;
        full = λ q never. absurd never;
        told = λ t site is has. absurd (let never : ⊥ = cc in never);
      }
  one_more ds d (Rises kept) grounds k =
      record {
        votes = λ q never. absurd never;
        full = λ q never. absurd never;
        told = λ t site is has. absurd (let never : ⊥ = cc in never);
      }

  all_more : (client : ℕ) (ds more : List Deed) → HasLifeGrounds ds (fold (account_at decl) (new_account client) ds)
      → HasLifeGrounds (ds ++ more) (fold (account_at decl) (new_account client) (ds ++ more))
  all_more client ds [] k =
      subst (λ (v : List Deed). HasLifeGrounds v (fold (account_at decl) (new_account client) v)) (sym (append-nil ds))
      k
  all_more client ds (x ∷ more) k =
      subst (λ (v : List Deed). HasLifeGrounds v (fold (account_at decl) (new_account client) v))
      (append_assoc ds (x ∷ []) more)
      (all_more client (ds ++ x ∷ []) more
      (subst (HasLifeGrounds (ds ++ x ∷ [])) (sym (fold-append (account_at decl) (new_account client) ds (x ∷ [])))
      (one_more ds (fold (account_at decl) (new_account client) ds) x (has_grounds decl client ds) k)))

  -- the life of a site was told by a grant
  pub has_life_grounds : (client : ℕ) (ds : List Deed)
      → HasLifeGrounds ds (fold (account_at decl) (new_account client) ds)
  has_life_grounds client ds =
      all_more client [] ds
      (record {
        votes = λ q never. absurd never;
        full = λ q never. absurd never;
        told = λ t site is has. absurd (let never : ⊥ = cc in never);
      })
