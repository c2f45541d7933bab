-- An actor that posts a turn, or falls in it: what history it leaves, and what the next net has to show.
use Rattle.std.proofs.Common.{[], ◌≡◌, ◌≢◌, ℕ, ◌==◌, Bool, true, false, cond, List, ◌++◌, length, Option, Some, None}
use Rattle.std.proofs.Common.{slice_get, inl, inr, refl, sym, ap, ◌∙◌, eqb-true}
use Rattle.qc_core.specs.Vocabulary.{IsLawfulWithFalls, actor_after, is_up, journal_after, with_record}
use Rattle.qc_decl.specs.declared.declaration.Declaration.{Declaration}
use Rattle.qc_decl.specs.Vocabulary.{administrator, is_administrator, is_client, is_site}
use Rattle.qc_msg.specs.declared.message.Envelope.{Envelope}
use Rattle.qc_msg.specs.declared.record.Record.{Record}
use Rattle.qc_msg.specs.declared.turn.Appended.{Appended}
use Rattle.qc_msg.specs.declared.turn.Posting.{Posting}
use Rattle.qc_msg.specs.declared.turn.Turn.{Turn}
use Rattle.qc_msg.specs.Vocabulary.{Deed, Entry, deeds, deeds_as, envelopes, mail, sends_as}
use Rattle.laws_refinement.specs.Vocabulary.{Net, Reaches, after_fall}
use Rattle.laws_refinement.proofs.Machine.{put_other}
use Rattle.qc_promise.specs.Vocabulary.{Journal}
use Rattle.laws_reach.specs.Vocabulary.{TakesInputs, actor_in}
use Rattle.laws_reach.proofs.Growing.{ended_journal, ended_up, journal_posted, up_posted}
use Rattle.laws_reach.proofs.Stood.{Leaves, Stands, Stood, moves}

-- an actor falls in the net

pub fell_leaves : (decl : Declaration) (net : Net) (a : ℕ) (pending : Option Record) (sends : List Posting) (b : ℕ)
    → b ≢ a → Leaves decl net (after_fall net a pending sends) b
fell_leaves decl net a pending sends b other = record {
  up = put_other net.up a false b other;
  records = refl;
  pending = put_other net.pending a pending b other;
  sites = refl;
  clients = refl;
  admin = λ at. refl;
}

pub never_up : (u : Bool) → u ≡ false → u ≡ true → ⊥
never_up u down up = let no : ⊥ = cc in no

-- who has a lawful turn takes inputs
pub takes_inputs : (decl : Declaration) (a : ℕ) (ds : List Deed) (turn : Turn) → IsLawfulWithFalls decl a ds turn
    → TakesInputs decl a
takes_inputs decl a ds turn law =
    by (is_site decl a) (is_client decl a) (is_administrator decl a) refl refl refl law.called_for
  where
    by : (t c m : Bool) → is_site decl a ≡ t → is_client decl a ≡ c → is_administrator decl a ≡ m
        → cond t (Some (actor_after decl a ds).turn)
        (cond c (Some (actor_after decl a ds).turn) (cond m (Some (actor_after decl a ds).turn) None))
        ≡ Some (with_record turn) → TakesInputs decl a
    by true c m site client admin is = inl site
    by false true m none client admin is = inr (inl client)
    by false false true none no_client admin is = inr (inr (eqb-true a (administrator decl) admin))
    by false false false none no_client no_admin is = absurd (let no : ⊥ = cc in no)

-- a turn that ends so, after these deeds of its actor, makes another history of a history

module _ (decl : Declaration) (h : List Entry) (inputs later : List Bool) (old : Stood decl h inputs) (a : ℕ)
    (turn : Turn) (end : Appended) (k : List Entry) (ds : List Deed)
    (deeds_are : deeds a [] k ≡ ds ++ deeds_as end (length (mail h)) turn)
    (mail_is : mail k ≡ mail h ++ envelopes a (length (mail h)) (sends_as end turn))
    (others : (b : ℕ) → (a == b) ≡ false → deeds b [] k ≡ deeds b [] h)
    (slots : (b : ℕ) → (a == b) ≡ false → slice_get later b ≡ slice_get inputs b)
    (shut : slice_get later a ≡ Some true → ⊥) where
  abbrev pub journal_then : Journal
  journal_then = ended_journal end turn.write (journal_after ds)

  up_then : is_up (deeds a [] k) ≡ ended_up end (is_up ds)
  up_then = ap is_up deeds_are ∙ up_posted ds end (length (mail h)) turn

  journal_is : journal_after (deeds a [] k) ≡ journal_then
  journal_is = ap journal_after deeds_are ∙ journal_posted ds end (length (mail h)) turn

  -- what the next net has to show
  pub record Shows (next : Net) : Type 0 where
    pub reached : Reaches decl next
    pub sent : next.mail ≡ old.net.mail ++ envelopes a (length old.net.mail) (sends_as end turn)
    pub leaves : (b : ℕ) → b ≢ a → Leaves decl old.net next b
    pub up : next.up a ≡ ended_up end (is_up ds)
    pub records : next.records a ≡ journal_then.records
    pub pending : next.pending a ≡ journal_then.pending
    pub clear : ended_up end (is_up ds) ≡ true → journal_then.pending ≡ None
    pub state : ended_up end (is_up ds) ≡ true
        → (actor_after decl a (ds ++ deeds_as end (length (mail h)) turn)).actor ≡ actor_in decl next a

  pub turned : (next : Net) → Shows next → Stood decl k later
  turned next s =
      moves decl h k inputs later old a next (envelopes a (length (mail h)) (sends_as end turn)) s.reached
      (s.sent ∙ ap (λ (ms : List Envelope). ms ++ envelopes a (length ms) (sends_as end turn)) old.mail_is
      ∙ sym mail_is) mail_is s.leaves others slots (λ is. here)
    where
      here : Stands decl next a k (slice_get later a)
      here = record {
        up = s.up ∙ sym up_then;
        records = s.records ∙ ap (λ (j : Journal). j.records) (sym journal_is);
        pending = s.pending ∙ ap (λ (j : Journal). j.pending) (sym journal_is);
        clear = λ up. ap (λ (j : Journal). j.pending) journal_is ∙ s.clear (sym up_then ∙ up);
        closed = λ up slot. ap (λ (v : List Deed). (actor_after decl a v).actor) deeds_are ∙ s.state (sym up_then ∙ up);
        opened = λ up slot. absurd (shut slot);
      }
