-- What a site's turn votes: each Yes stands on a promise that the site has or writes; and a turn that isn't written
-- votes nothing.
use Rattle.std.proofs.Common.{◌≡◌, ◌⊎◌, ℕ, ◌==◌, ◌+◌, nat_le, nat_lt, inl, inr, not, Bool, true, false, cond, map, List}
use Rattle.std.proofs.Common.{[], ◌∷◌, Option, Some, None, is_some, refl, sym, ap, ◌∙◌, subst}
use Rattle.qc_stamp.specs.declared.stamp.TxId.{TxId}
use Rattle.qc_stamp.specs.Vocabulary.{same_tx}
use Rattle.qc_list.specs.Vocabulary.{In}
use Rattle.qc_list.proofs.Members.{In-unfiltered, In-either}
use Rattle.qc_entry.specs.declared.line.Line.{Line}
use Rattle.qc_entry.specs.declared.record.Prepared.{Prepared}
use Rattle.qc_decl.specs.declared.declaration.Declaration.{Declaration}
use Rattle.qc_lock.specs.declared.clash.Clash.{Clash as Conflict}
use Rattle.qc_msg.specs.declared.message.Answer.{Answer}
use Rattle.qc_msg.specs.declared.message.Answer.TheVariants as answers
use Rattle.qc_msg.specs.declared.message.Message.{Message}
use Rattle.qc_msg.specs.declared.message.Message.TheVariants as messages
use Rattle.qc_msg.specs.declared.message.Outcome.{Outcome}
use Rattle.qc_msg.specs.declared.message.Outcome.TheVariants as outcomes
use Rattle.qc_msg.specs.declared.message.Want.{Want}
use Rattle.qc_msg.specs.declared.message.Want.TheVariants.{Read, Append, Prepare}
use Rattle.qc_msg.specs.declared.record.Record.{Record}
use Rattle.qc_msg.specs.declared.record.Record.TheVariants as records
use Rattle.qc_msg.specs.declared.step.Input.{Input}
use Rattle.qc_msg.specs.declared.step.Input.TheVariants.{Called, Got, Lost}
use Rattle.qc_msg.specs.declared.turn.Posting.{Posting}
use Rattle.qc_site.specs.Vocabulary.{SiteMove, SiteState, answering, answers as answers_with, closed, closed_fault}
use Rattle.qc_site.specs.Vocabulary.{closes, fault_of, grants, installed, installs, is_closed_for, latest, moved}
use Rattle.qc_site.specs.Vocabulary.{passed, prepared_of, promise_of, recording, shut_answer, site_on, site_takes}
use Rattle.qc_site.specs.Vocabulary.{without_prepared}
use Rattle.qc_decl.specs.Vocabulary.{most_record_bytes}
use Rattle.qc_msg.specs.Vocabulary.{epoch_length, start_with}
use Rattle.qc_site.proofs.RequestCases.{append_cases, close_cases, join_cases, prepare_cases, read_cases, request_cases}
use Rattle.qc_site.proofs.Cases.{install_cases}
use Rattle.qc_recover.specs.Vocabulary.{Kept, inquiry, keeps, kept_by, nothing_kept}
use Rattle.laws_refinement.proofs.Apart.{found_in}
use Rattle.laws_refinement.proofs.MessageCases.{site_cases}
use Rattle.laws_refinement.proofs.PendingCases.{kept_cases}
use Rattle.qc_recover.proofs.Promised.{from_records}

-- each promise of records is one of them

pub one_more : (k : Kept) (r : Record) (p : Prepared) → In p (keeps k r).promises
    → In p k.promises ⊎ (records.Prepare p ≡ r)
one_more k r p =
    kept_cases k (λ x next. In p next.promises → In p k.promises ⊎ (records.Prepare p ≡ x)) inl
    (λ q among. elim (In-either p (without_prepared k.promises q.tx) (q ∷ []) among) [
      | inl old ↦ inl (In-unfiltered (λ (x : Prepared). not (same_tx x.tx q.tx)) p k.promises old)
      | inr (inl same) ↦ inr (ap (λ (x : Prepared). records.Prepare x) same)
      | inr (inr never) ↦ absurd never
    ])
    (λ tx clock among. inl (In-unfiltered (λ (x : Prepared). not (same_tx x.tx tx)) p k.promises among))
    (λ epoch among. inl among) (λ start among. absurd among) (λ x among. inl among) r

pub promises_recorded : (rs : List Record) (p : Prepared) → In p (kept_by rs).promises → In (records.Prepare p) rs
promises_recorded rs p among = elim (from_records rs nothing_kept p among) [ inl never ↦ absurd never | inr new ↦ new ]

-- the vote of a turn

pub record Voted (s : SiteState) (number : ℕ) (message : Message) (write : Option Record) (to : ℕ) : Type 0 where
  pub promise : Prepared
  pub epoch : ℕ
  pub life : ℕ
  pub numbered : number ≡ to
  pub named : message ≡ messages.Request promise.tx epoch life Prepare
  pub stands : (prepared_of s.prepared promise.tx ≡ Some promise) ⊎ (write ≡ Some (records.Prepare promise))

abbrev pub Votes : SiteState → ℕ → Message → SiteMove → Type 0
Votes s number message move = (p : Posting) → In p move.turn.sends → (to clock : ℕ)
    → p.message ≡ messages.Answer to (answers.Yes clock) → Voted s number message move.turn.write to

pub one_answer : (from number : ℕ) (answer : Answer) (p : Posting) → In p (answering from number answer ∷ [])
    → (to clock : ℕ) → p.message ≡ messages.Answer to (answers.Yes clock) → (number ≡ to) × (answer ≡ answers.Yes clock)
one_answer from number answer p (inl same) to clock is =
    let m : messages.Answer number answer ≡ messages.Answer to (answers.Yes clock) =
    sym (ap (λ (x : Posting). x.message) same) ∙ is in (cc, cc)
one_answer from number answer p (inr never) to clock is = absurd never

pub no_fault : (s : SiteState) (epoch life clock : ℕ) → fault_of s epoch life ≡ Some (answers.Yes clock) → ⊥
no_fault s epoch life clock = by (nat_lt s.epoch epoch) (nat_lt epoch s.epoch)
  where
    lives : (c d : Bool) → cond c None (cond d None (Some (answers.Restarted s.life))) ≡ Some (answers.Yes clock) → ⊥
    lives true d is = let never : ⊥ = cc in never
    lives false true is = let never : ⊥ = cc in never
    lives false false is = let never : ⊥ = cc in never

    closed : (k : Option ℕ) → closed_fault s life k ≡ Some (answers.Yes clock) → ⊥
    closed None is = lives (life == 0) (life == s.life) is
    closed (Some k) is = let never : ⊥ = cc in never

    by : (c d : Bool) → cond c (Some (answers.Behind s.epoch))
        (cond d (Some (answers.Closed s.epoch)) (closed_fault s life s.closed_for)) ≡ Some (answers.Yes clock) → ⊥
    by true d is = let never : ⊥ = cc in never
    by false true is = let never : ⊥ = cc in never
    by false false is = closed s.closed_for is

module _ (decl : Declaration) (s : SiteState) where
  wanted : (from number epoch life : ℕ) (tx : TxId) (w : Want)
      → Votes s number (messages.Request tx epoch life w)
      (grants decl (passed s (messages.Request tx epoch life w)) from number tx w)
  wanted from number epoch life tx (Read read) =
      read_cases (Votes s number (messages.Request tx epoch life (Read read))) decl
      (passed s (messages.Request tx epoch life (Read read))) from number tx read
      (λ free p among to clock is. (let r = one_answer from number _ p among to clock is in let e = r.1 in
      absurd (let never : ⊥ = cc in never)))
      (λ c clash p among to clock is. clashes p among to clock is)
    where
      clashes : {c : Conflict} {b : ℕ} (p : Posting)
          → In p (answering from number (answers.Clash c.holder c.inv c.event)
          ∷ record { to = b; message = messages.Inquiry c.holder } ∷ []) → (to clock : ℕ)
          → p.message ≡ messages.Answer to (answers.Yes clock)
          → Voted s number (messages.Request tx epoch life (Read read)) None to
      clashes p (inl same) to clock is = absurd (let never : ⊥ = cc in never)
      clashes p (inr (inl same)) to clock is = absurd (let never : ⊥ = cc in never)
      clashes p (inr (inr never)) to clock is = absurd never
  wanted from number epoch life tx (Append object view own) =
      append_cases (Votes s number (messages.Request tx epoch life (Append object view own))) decl
      (passed s (messages.Request tx epoch life (Append object view own))) from number tx object view own
      (λ free p among to clock is. (let r = one_answer from number _ p among to clock is in let e = r.1 in
      absurd (let never : ⊥ = cc in never)))
      (λ c clash p among to clock is. clashes p among to clock is)
    where
      clashes : {c : Conflict} {b : ℕ} (p : Posting)
          → In p (answering from number (answers.Clash c.holder c.inv c.event)
          ∷ record { to = b; message = messages.Inquiry c.holder } ∷ []) → (to clock : ℕ)
          → p.message ≡ messages.Answer to (answers.Yes clock)
          → Voted s number (messages.Request tx epoch life (Append object view own)) None to
      clashes p (inl same) to clock is = absurd (let never : ⊥ = cc in never)
      clashes p (inr (inl same)) to clock is = absurd (let never : ⊥ = cc in never)
      clashes p (inr (inr never)) to clock is = absurd never
  wanted from number epoch life tx Prepare =
      prepare_cases (Votes s number (messages.Request tx epoch life Prepare)) s from number tx
      (λ p among to clock is. (let r = one_answer from number answers.Stale p among to clock is in let e = r.1 in
      absurd (let never : ⊥ = cc in never)))
      (λ held stands p among to clock is. stood (prepared_of s.prepared tx) refl stands to
      ((one_answer from number (answers.Yes s.clock) p among to clock is).0))
      (λ held fresh p among to clock is. record {
        promise = promise_of s tx;
        epoch = epoch;
        life = life;
        numbered = (one_answer from number (answers.Yes s.clock) p among to clock is).0;
        named = refl;
        stands = inr refl;
      })
    where
      stood : (o : Option Prepared) → prepared_of s.prepared tx ≡ o → is_some o ≡ true → (to : ℕ) → number ≡ to
          → Voted s number (messages.Request tx epoch life Prepare) None to
      stood None found some to same = absurd (let never : ⊥ = cc in never)
      stood (Some q) found some to same =
          let r = found_in tx s.prepared q found in
          record {
            promise = q;
            epoch = epoch;
            life = life;
            numbered = same;
            named = ap (λ (x : TxId). messages.Request x epoch life Prepare) (sym r.1);
            stands = inl (subst (λ (x : TxId). prepared_of s.prepared x ≡ Some q) (sym r.1) found);
          }

  close_votes : (from number k : ℕ) → Votes s number (messages.Close k) (closes s from number k)
  close_votes from number k = by (nat_lt (s.epoch + 1) k) (nat_le k s.epoch) (is_closed_for k s.closed_for)
    where
      by : (b c d : Bool) → Votes s number (messages.Close k)
          (cond b (moved s (answers_with from number (answers.Behind s.epoch)))
          (cond c (moved s (answers_with from number (answers.Closed s.epoch)))
          (cond d (moved s (answers_with from number (shut_answer s)))
          (moved (closed s k) (recording from number (records.Close k) (shut_answer (closed s k)))))))
      by true c d p among to clock is = (let r = one_answer from number (answers.Behind s.epoch) p among to clock is in
          let e = r.1 in absurd (let never : ⊥ = cc in never))
      by false true d p among to clock is = (let r =
          one_answer from number (answers.Closed s.epoch) p among to clock is in let e = r.1 in
          absurd (let never : ⊥ = cc in never))
      by false false true p among to clock is =
          (let r = one_answer from number (shut_answer s) p among to clock is in let e = r.1 in
          absurd (let never : ⊥ = cc in never))
      by false false false p among to clock is =
          (let r = one_answer from number (shut_answer (closed s k)) p among to clock is in let e = r.1 in
          absurd (let never : ⊥ = cc in never))

  install_votes : (from number k at : ℕ) (log : List Line)
      → Votes s number (messages.Install (start_with k at log))
      (installs (record s { clock = latest s.clock log }) from number k at log)
  install_votes from number k at log = by (nat_le k s.epoch) (nat_le (epoch_length log) most_record_bytes)
    where
      by : (b c : Bool) → Votes s number (messages.Install (start_with k at log))
          (cond b (moved (record s { clock = latest s.clock log }) (answers_with from number answers.Installed))
          (cond c (moved (installed (record s { clock = latest s.clock log }) k at log)
          (recording from number (records.Install (start_with k at log)) answers.Installed))
          (moved (record s { clock = latest s.clock log }) (answers_with from number (answers.Behind s.epoch)))))
      by true c p among to clock is = (let r = one_answer from number answers.Installed p among to clock is in
          let e = r.1 in absurd (let never : ⊥ = cc in never))
      by false true p among to clock is = (let r = one_answer from number answers.Installed p among to clock is in
          let e = r.1 in absurd (let never : ⊥ = cc in never))
      by false false p among to clock is = (let r =
          one_answer from number (answers.Behind s.epoch) p among to clock is in let e = r.1 in
          absurd (let never : ⊥ = cc in never))

  pub message_votes : (from number : ℕ) (message : Message)
      → Votes s number message (site_on decl s from number message)
  message_votes from number =
      site_cases decl s from number (Votes s number) (λ q. asked q.epoch q.life q.tx q.want)
      (λ v. decided v.tx v.verdict) (close_votes from number)
      (λ start. install_votes from number start.epoch start.clock start.lines)
      (λ message p among to clock is. absurd among)
    where
      asked : (epoch life : ℕ) (tx : TxId) (want : Want)
          → Votes s number (messages.Request tx epoch life want)
          (site_on decl s from number (messages.Request tx epoch life want))
      asked epoch life tx want =
          request_cases (Votes s number (messages.Request tx epoch life want)) decl
          (passed s (messages.Request tx epoch life want)) from number tx epoch life want
          (λ p among to clock is. absurd among)
          (λ fault is p among to clock told. absurd
          (no_fault (passed s (messages.Request tx epoch life want)) epoch life clock
          (is ∙ ap Some (one_answer from number fault p among to clock told).1)))
          (λ is. wanted from number epoch life tx want)

      decided : (tx : TxId) (verdict : Outcome)
          → Votes s number (messages.Decision tx verdict) (site_on decl s from number (messages.Decision tx verdict))
      decided tx (outcomes.Committed stamp) =
          join_cases (Votes s number (messages.Decision tx (outcomes.Committed stamp)))
          (passed s (messages.Decision tx (outcomes.Committed stamp))) tx stamp
          (λ none p among to clock is. absurd among) (λ q some p among to clock is. absurd among)
      decided tx outcomes.Aborted = λ p among to clock is. absurd among
      decided tx outcomes.Active = λ p among to clock is. absurd among

-- what is sent where the record isn't written is no vote

abbrev pub Silent : SiteMove → Type 0
Silent move = (p : Posting) → In p move.turn.failed_sends → (to clock : ℕ)
    → p.message ≡ messages.Answer to (answers.Yes clock) → ⊥

module _ (decl : Declaration) (s : SiteState) where
  faulted : (from number : ℕ) (p : Posting) → In p (answering from number answers.Fault ∷ []) → (to clock : ℕ)
      → p.message ≡ messages.Answer to (answers.Yes clock) → ⊥
  faulted from number p among to clock is = let r = one_answer from number answers.Fault p among to clock is in
      let e = r.1 in let never : ⊥ = cc in never

  want_silent : (from number epoch life : ℕ) (tx : TxId) (w : Want)
      → Silent (grants decl (passed s (messages.Request tx epoch life w)) from number tx w)
  want_silent from number epoch life tx (Read read) =
      read_cases Silent decl (passed s (messages.Request tx epoch life (Read read))) from number tx read
      (λ free p among to clock is. among) (λ c clash p among to clock is. among)
  want_silent from number epoch life tx (Append object view own) =
      append_cases Silent decl (passed s (messages.Request tx epoch life (Append object view own))) from number tx
      object view own (λ free p among to clock is. among) (λ c clash p among to clock is. among)
  want_silent from number epoch life tx Prepare =
      prepare_cases Silent s from number tx (λ p among to clock is. among) (λ held stands p among to clock is. among)
      (λ held fresh. faulted from number)

  message_silent : (from number : ℕ) (message : Message) → Silent (site_on decl s from number message)
  message_silent from number =
      site_cases decl s from number (λ message move. Silent move)
      (λ q. request_cases Silent decl (passed s (messages.Request q.tx q.epoch q.life q.want)) from number q.tx q.epoch
      q.life q.want (λ p among to clock is. among) (λ fault is p among to clock told. among)
      (λ is. want_silent from number q.epoch q.life q.tx q.want))
      (λ v. decided v.tx v.verdict)
      (λ epoch. close_cases Silent s from number epoch (λ answer p among to clock is. among)
      (λ near later. faulted from number))
      (λ start. install_cases Silent (record s { clock = latest s.clock start.lines }) from number start.epoch
      start.clock start.lines (λ answer p among to at is. among) (λ later fits. faulted from number))
      (λ message p among to clock is. among)
    where
      decided : (tx : TxId) (verdict : Outcome) → Silent (site_on decl s from number (messages.Decision tx verdict))
      decided tx (outcomes.Committed stamp) =
          join_cases Silent (passed s (messages.Decision tx (outcomes.Committed stamp))) tx stamp
          (λ none p among to clock is. among) (λ q some p among to clock is. among)
      decided tx outcomes.Aborted = λ p among to clock is. among
      decided tx outcomes.Active = λ p among to clock is. among

  pub take_silent : (given : Input) → Silent (site_takes decl s given)
  take_silent (Got e) = message_silent e.from e.number e.message
  take_silent (Called command) = λ p among to clock is. among
  take_silent (Lost number) = λ p among to clock is. among

-- an Inquiry is no vote
pub no_inquiry : (decl : Declaration) (txs : List TxId) (p : Posting) → In p (map (inquiry decl) txs) → (to clock : ℕ)
    → p.message ≡ messages.Answer to (answers.Yes clock) → ⊥
no_inquiry decl [] p among to clock is = among
no_inquiry decl (tx ∷ txs) p (inl same) to clock is = let m : p.message ≡ messages.Inquiry tx =
    ap (λ (x : Posting). x.message) same in let never : ⊥ = cc in never
no_inquiry decl (tx ∷ txs) p (inr rest) to clock is = no_inquiry decl txs p rest to clock is
