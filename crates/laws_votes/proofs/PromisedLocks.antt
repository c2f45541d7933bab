-- A site by its conduct, through falls and rises: of what it has promised it holds the locks, and its clock has passed
-- what its records say is done.
use Rattle.std.proofs.Common.{[], ◌≡◌, ◌≤◌, ℕ, Bool, true, List, ◌∷◌, ◌++◌, inl, inr, Option, Some, None}
use Rattle.std.proofs.Common.{option_to_list, refl, sym, ap, ◌∙◌, subst, arith, append_assoc}
use Rattle.std.proofs.lemmas.List.Sums.{fold-append}
use Rattle.laws_due.proofs.Standing.{actor_more}
use Rattle.qc_core.proofs.ByNumber.{site_new, site_risen}
use Rattle.qc_core.proofs.LivesOfActors.{rises as actor_rising}
use Rattle.qc_core.specs.Vocabulary.{ActorMove, IsLawfulWithFalls, Serves, actor_after, actor_takes, by_site, crashes}
use Rattle.qc_core.specs.Vocabulary.{journal_after, journal_at, rises, serves, unopened}
use Rattle.qc_core.specs.Sites.{starts}
use Rattle.qc_core.specs.declared.actor.Actor.{Actor}
use Rattle.qc_core.specs.declared.actor.Actor.TheVariants.{Site}
use Rattle.qc_decl.specs.Vocabulary.{is_site}
use Rattle.qc_decl.specs.declared.declaration.Declaration.{Declaration}
use Rattle.qc_entry.specs.declared.record.Prepared.{Prepared}
use Rattle.qc_list.specs.Vocabulary.{In}
use Rattle.qc_msg.specs.Vocabulary.{Deed, Rises, Takes, deeds_as, quiet, turn_deeds}
use Rattle.qc_msg.specs.declared.message.Message.{Message}
use Rattle.qc_msg.specs.declared.message.Message.TheVariants as messages
use Rattle.qc_msg.specs.declared.message.Outcome.{Outcome}
use Rattle.qc_msg.specs.declared.message.Outcome.TheVariants as outcomes
use Rattle.qc_msg.specs.declared.record.Record.{Record}
use Rattle.qc_msg.specs.declared.record.Record.TheVariants as records
use Rattle.qc_msg.specs.declared.step.Input.{Input}
use Rattle.qc_msg.specs.declared.step.Input.TheVariants as inputs
use Rattle.qc_msg.specs.declared.turn.Appended.{Appended}
use Rattle.qc_msg.specs.declared.turn.Appended.TheVariants as ends
use Rattle.qc_msg.specs.declared.turn.Turn.{Turn}
use Rattle.qc_site.proofs.RequestCases.{close_cases}
use Rattle.qc_site.proofs.Cases.{install_cases}
use Rattle.qc_site.specs.Vocabulary.{SiteMove, SiteState, answers, clock_after, clock_told, finishes, installs, joins}
use Rattle.qc_site.specs.Vocabulary.{names_declared, new_site, passed, prepared_of, site_on, site_takes}
use Rattle.qc_promise.specs.Vocabulary.{Journal, no_journal}
use Rattle.laws_reach.proofs.Growing.{actor_posted, all_sent, journal_posted}
use Rattle.qc_recover.proofs.SiteLaws.{clocks_passed, locks_held}
use Rattle.qc_recover.specs.Vocabulary.{nothing_kept, site_of, site_rises}
use Rattle.qc_stamp.specs.declared.stamp.Stamp.{Stamp}
use Rattle.qc_stamp.specs.declared.stamp.TxId.{TxId}
use Rattle.laws_votes.proofs.PromisesKept.{HoldsLocks, PassesDones, Keeps, IsPassed, WritePasses, MoveKeeps, clock_up}
use Rattle.laws_votes.proofs.LocksPromised.{holds_dropped, has_locks, stays, asked}
use Rattle.qc_core.proofs.PostsByTurns.{called_turn}
use Rattle.qc_core.proofs.SiteStates.{was_written}
use Rattle.laws_refinement.proofs.HeldByPromises.{locks_new}
use Rattle.qc_list.proofs.Members.{In-either}

module _ (decl : Declaration) (s : SiteState) (old : HoldsLocks s) (from number : ℕ) where
  join : (tx : TxId) (stamp : Stamp) → stamp.clock ≤ s.clock → (o : Option Prepared) → MoveKeeps s (joins s tx stamp o)
  join tx stamp low None = record { locks = holds_dropped s tx old; rises = omega arith; writes = tt }
  join tx stamp low (Some p) = record { locks = holds_dropped s tx old; rises = omega arith; writes = low }

  finish : (tx : TxId) (clock : ℕ) (verdict : Outcome) → s.clock ≡ clock_told clock verdict
      → MoveKeeps s (finishes s tx verdict)
  finish tx clock (outcomes.Committed stamp) is = join tx stamp (omega arith) (prepared_of s.prepared tx)
  finish tx clock outcomes.Aborted is = record { locks = holds_dropped s tx old; rises = omega arith; writes = tt }
  finish tx clock outcomes.Active is = stays s quiet refl old

module _ (decl : Declaration) where
  heard : (s : SiteState) (from number : ℕ) (m : Message) → HoldsLocks s
      → MoveKeeps (passed s m) (site_on decl s from number m)
  heard s from number (messages.Request tx epoch life want) old =
      asked decl (passed s (messages.Request tx epoch life want)) old from number tx epoch life want
      (names_declared decl tx want)
  heard s from number (messages.Answer to answer) old = stays s quiet refl old
  heard s from number (messages.Decision tx verdict) old =
      finish decl (passed s (messages.Decision tx verdict)) old from number tx s.clock verdict refl
  heard s from number (messages.Inquiry tx) old = stays s quiet refl old
  heard s from number (messages.Ask tx) old = stays s quiet refl old
  heard s from number (messages.Close epoch) old =
      close_cases (MoveKeeps s) s from number epoch (λ answer. stays s (answers from number answer) refl old)
      (λ near later. record {
        locks = λ p among l there. has_locks s.prepared [] p among l there;
        rises = omega arith;
        writes = tt;
      })
  heard s from number (messages.Install start) old =
      install_keeps (passed s (messages.Install start)) old
    where
      install_keeps : (at : SiteState) → HoldsLocks at
          → MoveKeeps at (installs at from number start.epoch start.clock start.lines)
      install_keeps at had =
          install_cases (MoveKeeps at) at from number start.epoch start.clock start.lines
          (λ answer. stays at (answers from number answer) refl had)
          (λ later fits. record { locks = λ p among l there. absurd among; rises = omega arith; writes = tt })

  taken : (s : SiteState) (g : Input) → HoldsLocks s → MoveKeeps s (site_takes decl s g)
  taken s (inputs.Called command) old = stays s quiet refl old
  taken s (inputs.Got e) old =
      let m : MoveKeeps (passed s e.message) (site_on decl s e.from e.number e.message) =
      heard s e.from e.number e.message old in
      let up : s.clock ≤ clock_after s.clock e.message = clock_up e.message s.clock in
      let more : clock_after s.clock e.message ≤ (site_on decl s e.from e.number e.message).site.clock = m.rises in
      record { locks = m.locks; rises = omega arith; writes = m.writes }
  taken s (inputs.Lost number) old = stays s quiet refl old

-- what is written is passed

write_passed : (w : Option Record) (clock : ℕ) → WritePasses w clock → PassesDones (option_to_list w) clock
write_passed None clock writes tx done among = absurd among
write_passed (Some r) clock writes tx done (inl same) = subst (λ (x : Record). IsPassed x clock) (sym same) writes
write_passed (Some r) clock writes tx done (inr never) = absurd never

move_keeps : (rs : List Record) (before : SiteState) (move : SiteMove) → Keeps rs before → MoveKeeps before move
    → Keeps (rs ++ option_to_list move.turn.write) move.site
move_keeps rs before move old m = record {
  locks = m.locks;
  dones = λ tx done among. elim (In-either (records.Done tx done) rs (option_to_list move.turn.write) among) [
    | inl earlier ↦
        (let low : done ≤ before.clock = old.dones tx done earlier in
        let up : before.clock ≤ move.site.clock = m.rises in omega arith)
    | inr now ↦ write_passed move.turn.write move.site.clock m.writes tx done now
  ];
}

-- a site that rises

risen_keeps : (number : ℕ) (rs : List Record) → Keeps rs (site_of number rs)
risen_keeps number rs = record {
  locks = λ p among l there. subst (In l) (sym (locks_held rs p among)) (locks_new [] p.locks l there);
  dones = λ tx done among. clocks_passed nothing_kept rs (records.Done tx done) done among (inl refl);
}

module _ (decl : Declaration) (site : ℕ) (is : is_site decl site ≡ true) where
  pub record Stands (ds : List Deed) : Type 0 where
    pub s : SiteState
    pub at : (actor_after decl site ds).actor ≡ Site s
    pub keeps : Keeps (journal_after ds).records s

  -- the turn of a move is posted, and its record is written
  posted : (ds : List Deed) (move : SiteMove) (j : Journal) (n : ℕ) (turn : Turn)
      → actor_after decl site ds ≡ by_site move → journal_after ds ≡ j → IsLawfulWithFalls decl site ds turn
      → Keeps (j.records ++ option_to_list move.turn.write) move.site
      → Stands (ds ++ turn_deeds n turn)
  posted ds move j n turn at journal law keeps = record {
    s = move.site;
    at = actor_posted decl site ds n turn ∙ ap (λ (m : ActorMove). all_sent m.actor n turn.sends) at;
    keeps = subst (λ (rs : List Record). Keeps rs move.site)
        (sym (ap (λ (k : Journal). k.records) (journal_posted ds ends.Done n turn)
        ∙ (λ i. (journal i).records ++ option_to_list (sym write_is i)))) keeps;
  }
    where
      write_is : move.turn.write ≡ turn.write
      write_is =
          ap (λ (t : Turn). t.write) (ap (λ (m : ActorMove). m.turn) (sym at) ∙ called_turn decl site ds turn law)

  pub stands : (ds : List Deed) (up : Bool) → Serves decl site ds up → up ≡ true → Stands ds
  stands ds up starts on = record {
    s = new_site site;
    at = site_new decl site is;
    keeps = record { locks = λ p never. absurd never; dones = λ tx done never. absurd never };
  }
  stands ds up (serves before g turn n served ok lawful) on =
      by turn.append (was_written turn.append on) (stands before true served refl)
    where
      by : (end : Appended) → end ≡ ends.Done → Stands before → Stands (before ++ Takes g ∷ deeds_as end n turn)
      by ends.Done done old = subst Stands (append_assoc before (Takes g ∷ []) (turn_deeds n turn))
          (posted (before ++ Takes g ∷ []) (site_takes decl old.s g) (journal_after before) n turn
          (actor_more decl site before (Takes g ∷ []) ∙ ap (λ (v : Actor). actor_takes decl v g) old.at)
          (fold-append journal_at no_journal before (Takes g ∷ [])) lawful
          (move_keeps (journal_after before).records old.s (site_takes decl old.s g) old.keeps
          (taken decl old.s g old.keeps.locks)))
      by ends.Failed done old = absurd (let never : ⊥ = cc in never)
      by ends.Stopped done old = absurd (let never : ⊥ = cc in never)
  stands ds up (crashes before served) on = absurd (let never : ⊥ = cc in never)
  stands ds up (rises before rs turn n served lawful) on = by turn.append (was_written turn.append on)
    where
      by : (end : Appended) → end ≡ ends.Done → Stands (before ++ Rises rs ∷ deeds_as end n turn)
      by ends.Done done = subst Stands (append_assoc before (Rises rs ∷ []) (turn_deeds n turn))
          (posted (before ++ Rises rs ∷ []) (site_rises decl site rs) (record { records = rs; pending = None }) n turn
          (actor_rising decl site before rs ∙ site_risen decl site is rs)
          (fold-append journal_at no_journal before (Rises rs ∷ [])) lawful
          (risen_keeps site (rs ++ records.Life ∷ [])))
      by ends.Failed done = absurd (let never : ⊥ = cc in never)
      by ends.Stopped done = absurd (let never : ⊥ = cc in never)
  stands ds up (unopened before cause served) on = absurd (let never : ⊥ = cc in never)
