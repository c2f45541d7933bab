-- A site holds something only for transactions that it was asked for, and asks clients only about these.
use Rattle.std.proofs.Common.{◌≡◌, ℕ, ◌&&◌, ◌==◌, not, Bool, true, false, cond, List, [], ◌∷◌, ◌++◌, fold, length, Some}
use Rattle.std.proofs.Common.{refl, sym, subst}
use Rattle.std.specs.List.{AllByRecursion as Every}
use Rattle.std.specs.Prelude.{MatchOption}
use Rattle.qc_list.proofs.Members.{every-In, every-filter}
use Rattle.qc_stamp.specs.declared.stamp.TxId.{TxId}
use Rattle.qc_stamp.specs.Vocabulary.{same_tx}
use Rattle.qc_entry.specs.declared.line.OwnLine.{OwnLine}
use Rattle.qc_entry.specs.declared.line.ReadLock.{ReadLock}
use Rattle.qc_entry.specs.declared.record.Prepared.{Prepared}
use Rattle.qc_decl.specs.Vocabulary.{client_actor}
use Rattle.qc_decl.specs.declared.declaration.Declaration.{Declaration}
use Rattle.qc_lock.specs.declared.clash.Clash.{Clash}
use Rattle.qc_lock.specs.declared.held.Held.{Held}
use Rattle.qc_lock.specs.Vocabulary.{IsAppendConflict, IsReadConflict, IsSmallest, append_clash, held_of, read_clash}
use Rattle.qc_lock.specs.Vocabulary.{with_entry, with_held, with_locks, with_owns, without_held}
use Rattle.qc_lock.proofs.Conflicts.{appends_are_refused_on_conflict, reads_are_refused_on_conflict}
use Rattle.qc_msg.specs.declared.message.Answer.{Answer}
use Rattle.qc_msg.specs.declared.message.Answer.TheVariants as says
use Rattle.qc_msg.specs.declared.message.Message.{Message}
use Rattle.qc_msg.specs.declared.message.Message.TheVariants as messages
use Rattle.qc_msg.specs.declared.message.Outcome.TheVariants.{Aborted, Active, Committed}
use Rattle.qc_msg.specs.declared.message.Want.{Want}
use Rattle.qc_msg.specs.declared.message.Want.TheVariants.{Append, Prepare, Read}
use Rattle.qc_msg.specs.declared.step.Input.{Input}
use Rattle.qc_msg.specs.declared.step.Input.TheVariants as inputs
use Rattle.qc_msg.specs.declared.turn.Posting.{Posting}
use Rattle.qc_msg.specs.Vocabulary.{quiet, Answered, Requested, answer_in, inquiry_in, request_in}
use Rattle.qc_site.specs.Vocabulary.{SiteMove, SiteState, answers, clashing, grants, holds, moved, passed, promise_of}
use Rattle.qc_site.specs.Vocabulary.{relation_at, site_at, site_takes, without_prepared, finishes}
use Rattle.qc_site.proofs.RequestCases.{append_cases, close_cases, join_cases, prepare_cases, read_cases, request_cases}
use Rattle.qc_site.proofs.Cases.{install_cases}
use Rattle.laws_turns.proofs.SiteCases.{site_cases}
use Rattle.qc_msg.specs.declared.message.Outcome.{Outcome}

-- of what a message says, where B holds of transactions: a request is for such a one, a question about such a one goes
-- to its client
abbrev pub Tells : Declaration → (TxId → Type 0) → ℕ → Message → Type 0
Tells decl B to m =
    MatchOption (inquiry_in m) (MatchOption (request_in m) (Unit {0}) (λ (q : Requested). B q.tx))
    (λ (tx : TxId). (to ≡ client_actor decl tx.client) × B tx)

-- a site sends answers and questions alone
abbrev pub SiteTells : Declaration → (TxId → Type 0) → ℕ → Message → Type 0
SiteTells decl B to m =
    MatchOption (inquiry_in m) (MatchOption (answer_in m) ⊥ (λ (a : Answered). Unit {0}))
    (λ (tx : TxId). (to ≡ client_actor decl tx.client) × B tx)

module _ (decl : Declaration) (B : TxId → Type 0) where
  abbrev pub HeldFor : List Held → Type 0
  HeldFor held = Every (λ (h : Held). B h.tx) held

  held-put : (held : List Held) (e : Held) → HeldFor held → B e.tx → HeldFor (with_entry held e)
  held-put [] e all here = (here, tt)
  held-put (h ∷ hs) e all here = by (same_tx h.tx e.tx) (held-put hs e all.1 here) where
    by : (t : Bool) → HeldFor (with_entry hs e) → HeldFor (cond t (e ∷ hs) (h ∷ with_entry hs e))
    by true rest = (here, all.1)
    by false rest = (all.0, rest)

  pub held-more : (held : List Held) (tx : TxId) (locks : List ReadLock) (own : List OwnLine) → HeldFor held → B tx
      → HeldFor (with_held held tx locks own)
  held-more held tx locks own all here = by ((length locks == 0) && (length own == 0)) where
    by : (t : Bool) → HeldFor (cond t held (with_entry held
        (record {
          tx = tx;
          locks = with_locks (held_of held tx).locks locks;
          own = with_owns (held_of held tx).own own;
        })))
    by true = all
    by false = held-put held (record {
      tx = tx;
      locks = with_locks (held_of held tx).locks locks;
      own = with_owns (held_of held tx).own own;
    }) all here

  held-without : (held : List Held) (tx : TxId) → HeldFor held → HeldFor (without_held held tx)
  held-without held tx all = every-filter (λ (h : Held). B h.tx) (λ (h : Held). not (same_tx h.tx tx)) held all

  -- who is in the way holds something

  read_holder : (relation : List ℕ) (held : List Held) (tx : TxId) (object inv : ℕ) (c : Clash) → HeldFor held
      → read_clash relation held tx object inv ≡ Some c → B c.holder
  read_holder relation held tx object inv c all is =
      let found : IsSmallest (IsReadConflict relation held tx object inv) (Some c) =
      subst (IsSmallest (IsReadConflict relation held tx object inv)) is
      (reads_are_refused_on_conflict relation held tx object inv) in
      let conflict : IsReadConflict relation held tx object inv c = found.0 in
      subst (λ (d : Clash). B d.holder) (sym conflict.told)
      (every-In (λ (h : Held). B h.tx) conflict.holder held all conflict.holds)

  append_holder : (relation : List ℕ) (held : List Held) (tx : TxId) (own : List OwnLine) (c : Clash) → HeldFor held
      → append_clash relation held tx own ≡ Some c → B c.holder
  append_holder relation held tx own c all is =
      let found : IsSmallest (IsAppendConflict relation held tx own) (Some c) =
      subst (IsSmallest (IsAppendConflict relation held tx own)) is
      (appends_are_refused_on_conflict relation held tx own) in
      let conflict : IsAppendConflict relation held tx own c = found.0 in
      subst (λ (d : Clash). B d.holder) (sym conflict.told)
      (every-In (λ (h : Held). B h.tx) conflict.holder held all conflict.holds)

  -- promises

  abbrev pub PreparedFor : List Prepared → Type 0
  PreparedFor ps = Every (λ (p : Prepared). B p.tx) ps

  pub prepared-push : (ps : List Prepared) (p : Prepared) → PreparedFor ps → B p.tx → PreparedFor (ps ++ p ∷ [])
  prepared-push [] p all here = (here, tt)
  prepared-push (q ∷ qs) p all here = (all.0, prepared-push qs p all.1 here)

  pub prepared-left : (ps : List Prepared) (tx : TxId) → PreparedFor ps → PreparedFor (without_prepared ps tx)
  prepared-left ps tx all = every-filter (λ (p : Prepared). B p.tx) (λ (p : Prepared). not (same_tx p.tx tx)) ps all

  -- what they hold
  pub held-promised : (held : List Held) (ps : List Prepared) → HeldFor held → PreparedFor ps
      → HeldFor (fold holds held ps)
  held-promised held [] all more = all
  held-promised held (p ∷ ps) all more = held-promised (holds held p) ps
      (held-more held p.tx p.locks p.own all more.0) more.1

  pub record Asks (m : SiteMove) : Type 0 where
    pub held : HeldFor m.site.held
    pub prepared : PreparedFor m.site.prepared
    pub sends : Every (λ (p : Posting). SiteTells decl B p.to p.message) m.turn.sends

  module _ (s : SiteState) (from number : ℕ) (all : HeldFor s.held) (promised : PreparedFor s.prepared) where
    answered : (answer : Answer) → Asks (moved s (answers from number answer))
    answered answer = record { held = all; prepared = promised; sends = (tt, tt) }

    clashed : (c : Clash) → B c.holder → Asks (moved s (clashing decl from number c))
    clashed c here = record { held = all; prepared = promised; sends = (tt, ((refl, here), tt)) }

    granted : (tx : TxId) (want : Want) → B tx → Asks (grants decl s from number tx want)
    granted tx (Read read) here =
        read_cases Asks decl s from number tx read
        (λ free. record {
          held = held-more s.held tx (record { object = read.object; inv = read.inv } ∷ []) [] all here;
          prepared = promised;
          sends = (tt, tt);
        })
        (λ c clash. clashed c (read_holder (relation_at decl read.object) s.held tx read.object read.inv c all clash))
    granted tx (Append object view own) here =
        append_cases Asks decl s from number tx object view own
        (λ free. record { held = held-more s.held tx [] own all here; prepared = promised; sends = (tt, tt) })
        (λ c clash. clashed c (append_holder (relation_at decl object) s.held tx own c all clash))
    granted tx Prepare here = prepare_cases Asks s from number tx (answered says.Stale)
        (λ held stands. answered (says.Yes s.clock))
        (λ held made. record {
          held = all;
          prepared = prepared-push s.prepared (promise_of s tx) promised here;
          sends = (tt, tt);
        })

    silent : Asks (moved s quiet)
    silent = record { held = all; prepared = promised; sends = tt }

    ended : (tx : TxId) → HeldFor (without_held s.held tx) × PreparedFor (without_prepared s.prepared tx)
    ended tx = (held-without s.held tx all, prepared-left s.prepared tx promised)

    at : (to : ℕ) (message : Message) → Tells decl B to message → Asks (site_at decl s from number message)
    at to message here =
        site_cases decl s from number (λ m move. Tells decl B to m → Asks move) (λ m its. silent)
        (λ q its. request_cases Asks decl s from number q.tx q.epoch q.life q.want silent (λ fault is. answered fault)
        (λ is. granted q.tx q.want its))
        decided
        (λ k its. close_cases Asks s from number k answered
        (λ near later. record {
          held = held-promised [] s.prepared tt promised;
          prepared = promised;
          sends = (tt, tt);
        }))
        (λ k clock lines its. install_cases Asks s from number k clock lines answered
        (λ later fits. record { held = tt; prepared = tt; sends = (tt, tt) })) message here
      where
        decided : (tx : TxId) (verdict : Outcome) → Tells decl B to (messages.Decision tx verdict)
            → Asks (finishes s tx verdict)
        decided tx (Committed stamp) its =
            join_cases Asks s tx stamp (λ none. record { held = (ended tx).0; prepared = (ended tx).1; sends = tt })
            (λ p some. record { held = (ended tx).0; prepared = (ended tx).1; sends = tt })
        decided tx Aborted its = record { held = (ended tx).0; prepared = (ended tx).1; sends = tt }
        decided tx Active its = silent

  -- what is taken
  abbrev pub GivenTells : Input → Type 0
  GivenTells (inputs.Called command) = Unit {0}
  GivenTells (inputs.Got e) = Tells decl B e.to e.message
  GivenTells (inputs.Lost number) = Unit {0}

  -- one input
  pub site_asks : (s : SiteState) (g : Input) → HeldFor s.held → PreparedFor s.prepared → GivenTells g
      → Asks (site_takes decl s g)
  site_asks s (inputs.Called command) all promised here = record { held = all; prepared = promised; sends = tt }
  site_asks s (inputs.Got e) all promised here =
      at (passed s e.message) e.from e.number all promised e.to e.message here
  site_asks s (inputs.Lost number) all promised here = record { held = all; prepared = promised; sends = tt }
