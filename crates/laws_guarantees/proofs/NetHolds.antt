-- Of every net in which nobody falls: what a site granted it holds until a Decision ends its transaction, each lock was
-- asked for, and all that a site has is sorted.
use Rattle.std.proofs.Common.{◌≡◌, ◌⊎◌, ℕ, true, List, ◌++◌, inl, inr, length, refl, sym, ◌∙◌, subst}
use Rattle.qc_stamp.specs.declared.stamp.TxId.{TxId}
use Rattle.qc_list.specs.Vocabulary.{In}
use Rattle.qc_list.proofs.Members.{In-first, In-either}
use Rattle.qc_entry.specs.declared.line.ReadLock.{ReadLock}
use Rattle.qc_decl.specs.declared.declaration.Declaration.{Declaration}
use Rattle.qc_decl.specs.Vocabulary.{IsAccepted, is_client, is_site}
use Rattle.qc_lock.specs.Vocabulary.{held_of, is_held}
use Rattle.qc_msg.specs.declared.message.Envelope.{Envelope}
use Rattle.qc_msg.specs.declared.message.Message.{Message}
use Rattle.qc_msg.specs.declared.message.Message.TheVariants as messages
use Rattle.qc_msg.specs.declared.message.Want.{Want}
use Rattle.qc_msg.specs.declared.message.Want.TheVariants.{Read, Append, Prepare}
use Rattle.qc_msg.specs.declared.step.Input.{Input}
use Rattle.qc_msg.specs.declared.step.Input.TheVariants as inputs
use Rattle.qc_msg.specs.declared.turn.Posting.{Posting}
use Rattle.qc_msg.specs.Vocabulary.{envelopes}
use Rattle.theory_machine.specs.Vocabulary.{state}
use Rattle.qc_site.specs.Vocabulary.{IsMessageSorted, IsSiteSorted, SiteState, passed, site_takes}
use Rattle.qc_site.proofs.Sorted.{stays_sorted}
use Rattle.qc_client.specs.Vocabulary.{client_takes}
use Rattle.laws_refinement.specs.Vocabulary.{Backed, MayCome, Net, Refines}
use Rattle.laws_atomic.proofs.Calm.{IsCalm, is_reached}
use Rattle.laws_atomic.proofs.Calm as calm
use Rattle.laws_refinement.proofs.Machine.{put_one}
use Rattle.laws_refinement.proofs.Posts.{Place, placed}
use Rattle.laws_refinement.proofs.Refining.{nets_refine}
use Rattle.laws_guarantees.proofs.SiteLocks.{Asks, locks_were_asked}
use Rattle.laws_atomic.proofs.FirstSites.{IsCalmGiven, IsCalmMessage}
use Rattle.laws_guarantees.proofs.NetMessages.{WasEnded, ended_more, AreFullMessages, IsGrantedBy}
use Rattle.laws_guarantees.proofs.SiteHolds.{granted_before, site_step}
use Rattle.laws_refinement.proofs.Kepts.{no_client}

module _ (decl : Declaration) (accepted : IsAccepted decl) where
  abbrev HoldsOrEnded : Net → ℕ → TxId → Type 0
  HoldsOrEnded net site tx = (is_held (net.sites site).held tx ≡ true) ⊎ WasEnded net.mail tx

  -- a step of a client
  client_step : (before : Net) (a : ℕ) (ps : List Posting) (r : IsCalm decl before) → is_client decl a ≡ true
      → (site : ℕ) (tx : TxId) → is_site decl site ≡ true
      → (IsGrantedBy before.mail site tx → HoldsOrEnded before site tx)
      → IsGrantedBy (before.mail ++ envelopes a (length before.mail) ps) site tx
      → (is_held (before.sites site).held tx ≡ true)
      ⊎ WasEnded (before.mail ++ envelopes a (length before.mail) ps) tx
  client_step before a ps r client site tx is older k =
      elim (In-either k.answer before.mail (envelopes a (length before.mail) ps) k.sent) [
        | inl old ↦
            elim (older (granted_before decl accepted before (envelopes a (length before.mail) ps) site tx r k old)) [
              | inl held ↦ inl held
              | inr ended ↦ inr
                  (ended_more before.mail (envelopes a (length before.mail) ps) tx ended)
            ]
        | inr new ↦ (let p : Place a ps (before.mail ++ envelopes a (length before.mail) ps) k.answer =
            placed before.mail a (length before.mail) ps k.answer refl new in
            absurd (no_client decl site is
            (subst (λ (n : ℕ). is_client decl n ≡ true) (sym (sym k.from ∙ p.from)) client)))
      ]

  -- what a site granted it holds, or a final Decision on the transaction was sent
  pub granted_or_ended : (net : Net) → IsCalm decl net → AreFullMessages net.mail → (site : ℕ) (tx : TxId)
      → is_site decl site ≡ true → IsGrantedBy net.mail site tx → HoldsOrEnded net site tx
  granted_or_ended net calm.begins full site tx is g = absurd g.sent
  granted_or_ended net (calm.serves a input before r served came same) full site tx is g =
      let less : AreFullMessages before.mail =
      (λ e among. full e
      (In-first e before.mail
      (envelopes a (length before.mail) (site_takes decl (before.sites a) input).turn.sends) among)) in
      site_step decl accepted before a input r served came same site tx less (granted_or_ended before r less site tx is)
      g
  granted_or_ended net (calm.takes a input before r client came ready) full site tx is g =
      client_step before a (client_takes decl (before.clients a) input).turn.sends r client site tx is
      (granted_or_ended before r
      (λ e among. full e
      (In-first e before.mail
      (envelopes a (length before.mail) (client_takes decl (before.clients a) input).turn.sends) among)) site tx
      is) g

  -- a lock that is held was asked for

  pub record WasAsked (mail : List Envelope) (tx : TxId) (lock : ReadLock) : Type 0 where
    pub envelope : Envelope
    pub sent : In envelope mail
    pub asks : Asks envelope.message tx lock

  asked_more : (mail more : List Envelope) (tx : TxId) (lock : ReadLock) → WasAsked mail tx lock
      → WasAsked (mail ++ more) tx lock
  asked_more mail more tx lock w =
      record { envelope = w.envelope; sent = In-first w.envelope mail more w.sent; asks = w.asks }

  asked_step : (net : Net) (a : ℕ) (s : SiteState) (g : Input) (tx : TxId) (lock : ReadLock) → MayCome net a g
      → IsCalmGiven g → In lock (held_of (site_takes decl s g).site.held tx).locks
      → In lock (held_of s.held tx).locks ⊎ WasAsked net.mail tx lock
  asked_step net a s (inputs.Called command) tx lock came calm among = inl among
  asked_step net a s (inputs.Lost number) tx lock came calm among = inl among
  asked_step net a s (inputs.Got e) tx lock came calm among =
      elim (locks_were_asked decl (passed s e.message) e.from e.number e.message tx lock calm among) [
        | inl old ↦ inl old
        | inr asks ↦ inr (record { envelope = e; sent = came.0; asks = asks })
      ]

  pub locks_asked : (net : Net) → IsCalm decl net → (site : ℕ) (tx : TxId) (lock : ReadLock)
      → In lock (held_of (net.sites site).held tx).locks → WasAsked net.mail tx lock
  locks_asked net calm.begins site tx lock among = absurd among
  locks_asked net (calm.serves a input before r served came same) site tx lock among =
      asked_more before.mail (envelopes a (length before.mail) (site_takes decl (before.sites a) input).turn.sends) tx
      lock
      (by (put_one (λ (n : ℕ) (s : SiteState). In lock (held_of s.held tx).locks
      → In lock (held_of (before.sites n).held tx).locks ⊎ WasAsked before.mail tx lock) before.sites a
      (site_takes decl (before.sites a) input).site site
      (asked_step before a (before.sites a) input tx lock came same) (λ other there. inl there) among)
      (locks_asked before r site tx lock))
    where
      by : In lock (held_of (before.sites site).held tx).locks ⊎ WasAsked before.mail tx lock
          → (In lock (held_of (before.sites site).held tx).locks → WasAsked before.mail tx lock)
          → WasAsked before.mail tx lock
      by (inl old) older = older old
      by (inr new) older = new
  locks_asked net (calm.takes a input before r client came ready) site tx lock among =
      asked_more before.mail (envelopes a (length before.mail) (client_takes decl (before.clients a) input).turn.sends)
      tx lock (locks_asked before r site tx lock among)

  -- all that a site has is sorted

  sorted_want : (net : Net) (from to : ℕ) (tx : TxId) (epoch life : ℕ) (want : Want) (m : Refines decl net)
      → Backed decl (state m.acts) net.mail from to (messages.Request tx epoch life want)
      → IsMessageSorted (messages.Request tx epoch life want)
  sorted_want net from to tx epoch life (Read read) m b = tt
  sorted_want net from to tx epoch life (Append object view own) m b = b.3.1
  sorted_want net from to tx epoch life Prepare m b = tt

  sorted_message : (net : Net) (from to : ℕ) (message : Message) (m : Refines decl net) → IsCalmMessage message
      → Backed decl (state m.acts) net.mail from to message → IsMessageSorted message
  sorted_message net from to (messages.Request tx epoch life want) m calm b =
      sorted_want net from to tx epoch life want m b
  sorted_message net from to (messages.Answer number answer) m calm b = tt
  sorted_message net from to (messages.Decision tx verdict) m calm b = tt
  sorted_message net from to (messages.Inquiry tx) m calm b = tt
  sorted_message net from to (messages.Ask tx) m calm b = tt
  sorted_message net from to (messages.Close epoch) m calm b = tt
  sorted_message net from to (messages.Install start) m calm b = absurd calm

  sorted_step : (net : Net) (a : ℕ) (s : SiteState) (g : Input) → IsCalm decl net → MayCome net a g → IsCalmGiven g
      → IsSiteSorted s → IsSiteSorted (site_takes decl s g).site
  sorted_step net a s (inputs.Called command) r came calm sorted = sorted
  sorted_step net a s (inputs.Lost number) r came calm sorted = sorted
  sorted_step net a s (inputs.Got e) r came calm sorted =
      let m : Refines decl net = nets_refine decl accepted net (is_reached decl net r) in
      stays_sorted decl s e.from e.number e.message sorted
      (sorted_message net e.from e.to e.message m calm (m.agrees.mail e came.0))

  pub sites_sorted : (net : Net) → IsCalm decl net → (site : ℕ) → IsSiteSorted (net.sites site)
  sites_sorted net calm.begins site =
      record {
        began = tt;
        log = tt;
        recorded = tt;
        held = record { single = tt; full = tt; sorted = tt };
        prepared = tt;
      }
  sites_sorted net (calm.serves a input before r served came same) site =
      put_one (λ (n : ℕ) (s : SiteState). IsSiteSorted s) before.sites a (site_takes decl (before.sites a) input).site
      site
      (sorted_step before a (before.sites a) input r came same (sites_sorted before r a))
      (λ other. sites_sorted before r site)
  sites_sorted net (calm.takes a input before r client came ready) site = sites_sorted before r site
