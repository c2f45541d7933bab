-- A site promises only for transactions that it was asked for, and asks clients only about these, as it rises too.
use Rattle.std.proofs.Common.{◌≡◌, ℕ, List, [], ◌∷◌, ◌++◌, fold, map, take, option_to_list, refl}
use Rattle.std.specs.Prelude.{MatchOption}
use Rattle.std.specs.List.{AllByRecursion as Every}
use Rattle.std.specs.declared.cmp.Ordering.{Ordering}
use Rattle.std.specs.declared.cmp.Ordering.TheVariants.{Equal, Greater, Less}
use Rattle.qc_list.specs.Vocabulary.{by_order, inserted}
use Rattle.qc_list.proofs.Members.{every-append, every-weaker}
use Rattle.qc_stamp.specs.declared.stamp.TxId.{TxId}
use Rattle.qc_stamp.specs.Vocabulary.{tx_cmp}
use Rattle.qc_entry.specs.declared.record.Prepared.{Prepared}
use Rattle.qc_decl.specs.Vocabulary.{client_actor}
use Rattle.qc_decl.specs.declared.declaration.Declaration.{Declaration}
use Rattle.qc_msg.specs.declared.message.Answer.{Answer}
use Rattle.qc_msg.specs.declared.message.Answer.TheVariants as says
use Rattle.qc_msg.specs.declared.message.Message.{Message}
use Rattle.qc_msg.specs.declared.message.Outcome.{Outcome}
use Rattle.qc_msg.specs.declared.message.Outcome.TheVariants.{Aborted, Active, Committed}
use Rattle.qc_msg.specs.declared.message.Want.{Want}
use Rattle.qc_msg.specs.declared.message.Want.TheVariants.{Append, Prepare, Read}
use Rattle.qc_msg.specs.declared.record.Record.{Record}
use Rattle.qc_msg.specs.declared.record.Record.TheVariants as records
use Rattle.qc_msg.specs.declared.step.Input.{Input}
use Rattle.qc_msg.specs.declared.step.Input.TheVariants as inputs
use Rattle.qc_msg.specs.declared.turn.Posting.{Posting}
use Rattle.qc_msg.specs.declared.turn.Turn.{Turn}
use Rattle.qc_msg.specs.Vocabulary.{Answered, Requested, answer_in, inquiry_in, prepare_in, quiet, request_in}
use Rattle.qc_recover.proofs.Asked.{first_every}
use Rattle.qc_recover.specs.Vocabulary.{Kept, inquiry, keeps, kept_by, most_inquiries, nothing_kept, site_rises}
use Rattle.qc_site.specs.Vocabulary.{SiteMove, SiteState, answers, grants, in_order, moved, passed, site_at, site_takes}
use Rattle.qc_site.specs.Vocabulary.{without_prepared, finishes}
use Rattle.laws_turns.proofs.SitesAsk.{Asks, GivenTells, HeldFor, PreparedFor, SiteTells, Tells, held-promised}
use Rattle.laws_turns.proofs.SitesAsk.{prepared-left, site_asks}
use Rattle.laws_turns.proofs.ReadingCases.{matched_by}
use Rattle.laws_turns.proofs.SiteCases.{site_cases}
use Rattle.qc_site.proofs.RequestCases.{append_cases, close_cases, join_cases, prepare_cases, read_cases, request_cases}
use Rattle.qc_site.proofs.Cases.{install_cases}

every-inserted : (P : TxId → Type 0) (xs : List TxId) (x : TxId) → Every P xs → P x → Every P (inserted tx_cmp xs x)
every-inserted P [] x all here = (here, tt)
every-inserted P (y ∷ ys) x all here = by (tx_cmp x y) (every-inserted P ys x all.1 here) where
  by : (order : Ordering) → Every P (inserted tx_cmp ys x)
      → Every P (by_order order (x ∷ y ∷ ys) (x ∷ ys) (y ∷ inserted tx_cmp ys x))
  by Less rest = (here, all)
  by Equal rest = (here, all.1)
  by Greater rest = (all.0, rest)

every-in_order : (P : TxId → Type 0) (xs ys : List TxId) → Every P xs → Every P ys
    → Every P (fold (inserted tx_cmp) xs ys)
every-in_order P xs [] all more = all
every-in_order P xs (y ∷ ys) all more = every-in_order P (inserted tx_cmp xs y) ys
    (every-inserted P xs y all more.0) more.1

-- a message that tells of such transactions asks about none but these, of their clients
pub asked_of : (decl : Declaration) (B Q : TxId → Type 0) (to : ℕ) (m : Message)
    → ((tx : TxId) → to ≡ client_actor decl tx.client → B tx → Q tx) → Tells decl B to m
    → MatchOption (inquiry_in m) (Unit {0}) Q
asked_of decl B Q to m each tells =
    matched_by (MatchOption (request_in m) (Unit {0}) (λ (q : Requested). B q.tx)) (Unit {0})
    (λ (tx : TxId). (to ≡ client_actor decl tx.client) × B tx) Q (inquiry_in m) (λ tx its. each tx its.0 its.1)
    (λ none. tt) tells

module _ (decl : Declaration) (B : TxId → Type 0) where
  -- a question is about such a transaction, and goes to its client
  abbrev pub IsAbout : ℕ → Message → Type 0
  IsAbout to m = MatchOption (inquiry_in m) (Unit {0}) (λ (tx : TxId). (to ≡ client_actor decl tx.client) × B tx)

  abbrev pub AreAbout : List Posting → Type 0
  AreAbout ps = Every (λ (p : Posting). IsAbout p.to p.message) ps

  -- a promise is for such a one

  abbrev pub PromisesFor : Record → Type 0
  PromisesFor r = MatchOption (prepare_in r) (Unit {0}) (λ (p : Prepared). B p.tx)

  -- whatever becomes of a turn's record
  pub record TurnAsks (turn : Turn) : Type 0 where
    pub sends : AreAbout turn.sends
    pub failed : AreAbout turn.failed_sends
    pub writes : Every PromisesFor (option_to_list turn.write)

  pub record SiteAsks (m : SiteMove) : Type 0 where
    pub held : HeldFor decl B m.site.held
    pub prepared : PreparedFor decl B m.site.prepared
    pub turn : TurnAsks m.turn

  -- what it writes

  record Promising (m : SiteMove) : Type 0 where
    failed : AreAbout m.turn.failed_sends
    writes : Every PromisesFor (option_to_list m.turn.write)

  module _ (s : SiteState) (from number : ℕ) where
    still : (answer : Answer) → Promising (moved s (answers from number answer))
    still answer = record { failed = tt; writes = tt }

    silent : Promising (moved s quiet)
    silent = record { failed = tt; writes = tt }

    granted : (tx : TxId) (want : Want) → B tx → Promising (grants decl s from number tx want)
    granted tx (Read read) here =
        read_cases Promising decl s from number tx read (λ free. record { failed = tt; writes = tt })
        (λ c clash. record { failed = tt; writes = tt })
    granted tx (Append object view own) here =
        append_cases Promising decl s from number tx object view own (λ free. record { failed = tt; writes = tt })
        (λ c clash. record { failed = tt; writes = tt })
    granted tx Prepare here =
        prepare_cases Promising s from number tx (still says.Stale) (λ held stands. still (says.Yes s.clock))
        (λ held made. record { failed = (tt, tt); writes = (here, tt) })

    decided : (tx : TxId) (verdict : Outcome) → Promising (finishes s tx verdict)
    decided tx (Committed stamp) =
        join_cases Promising s tx stamp (λ none. record { failed = tt; writes = tt })
        (λ p some. record { failed = tt; writes = (tt, tt) })
    decided tx Aborted = record { failed = tt; writes = tt }
    decided tx Active = silent

    at : (to : ℕ) (message : Message) → Tells decl B to message → Promising (site_at decl s from number message)
    at to message here =
        site_cases decl s from number (λ m move. Tells decl B to m → Promising move) (λ m its. silent)
        (λ q its. request_cases Promising decl s from number q.tx q.epoch q.life q.want silent (λ fault is. still fault)
        (λ is. granted q.tx q.want its))
        (λ tx verdict its. decided tx verdict)
        (λ k its. close_cases Promising s from number k still
        (λ near later. record { failed = (tt, tt); writes = (tt, tt) }))
        (λ k clock lines its. install_cases Promising s from number k clock lines still
        (λ later fits. record { failed = (tt, tt); writes = (tt, tt) })) message here

  promising : (s : SiteState) (g : Input) → GivenTells decl B g → Promising (site_takes decl s g)
  promising s (inputs.Called command) here = record { failed = tt; writes = tt }
  promising s (inputs.Got e) here = at (passed s e.message) e.from e.number e.to e.message here
  promising s (inputs.Lost number) here = record { failed = tt; writes = tt }

  about : (to : ℕ) (message : Message) → SiteTells decl B to message → IsAbout to message
  about to m here =
      matched_by (MatchOption (answer_in m) ⊥ (λ (a : Answered). Unit {0})) (Unit {0})
      (λ (tx : TxId). (to ≡ client_actor decl tx.client) × B tx)
      (λ (tx : TxId). (to ≡ client_actor decl tx.client) × B tx) (inquiry_in m) (λ tx its. its) (λ none. tt) here

  -- one input
  pub takes_ask : (s : SiteState) (g : Input) → HeldFor decl B s.held → PreparedFor decl B s.prepared
      → GivenTells decl B g → SiteAsks (site_takes decl s g)
  takes_ask s g held prepared here =
      let a : Asks decl B (site_takes decl s g) = site_asks decl B s g held prepared here in
      let p : Promising (site_takes decl s g) = promising s g here in
      record {
        held = a.held;
        prepared = a.prepared;
        turn = record {
          sends = every-weaker (λ (q : Posting). SiteTells decl B q.to q.message)
              (λ (q : Posting). IsAbout q.to q.message) (λ q. about q.to q.message)
              (site_takes decl s g).turn.sends a.sends;
          failed = p.failed;
          writes = p.writes;
        };
      }

  -- a rise

  kept_for : (k : Kept) (rs : List Record) → PreparedFor decl B k.promises → Every PromisesFor rs
      → PreparedFor decl B (fold keeps k rs).promises
  kept_for k [] all puts = all
  kept_for k (records.Life ∷ rs) all puts = kept_for (keeps k records.Life) rs all puts.1
  kept_for k (records.Prepare p ∷ rs) all puts =
      kept_for (keeps k (records.Prepare p)) rs
      (every-append (λ (q : Prepared). B q.tx) (without_prepared k.promises p.tx) (p ∷ [])
      (prepared-left decl B k.promises p.tx all) (puts.0, tt)) puts.1
  kept_for k (records.Done tx clock ∷ rs) all puts =
      kept_for (keeps k (records.Done tx clock)) rs (prepared-left decl B k.promises tx all) puts.1
  kept_for k (records.Close epoch ∷ rs) all puts = kept_for (keeps k (records.Close epoch)) rs all puts.1
  kept_for k (records.Install start ∷ rs) all puts =
      kept_for (keeps k (records.Install start)) rs tt puts.1
  kept_for k (records.Commit commit ∷ rs) all puts = kept_for k rs all puts.1
  kept_for k (records.Decide start ∷ rs) all puts = kept_for k rs all puts.1

  asked_txs : (ps : List Prepared) → PreparedFor decl B ps → Every B (map (λ (p : Prepared). p.tx) ps)
  asked_txs [] all = tt
  asked_txs (p ∷ ps) all = (all.0, asked_txs ps all.1)

  asked_about : (txs : List TxId) → Every B txs → AreAbout (map (inquiry decl) txs)
  asked_about [] all = tt
  asked_about (tx ∷ txs) all = ((refl, all.0), asked_about txs all.1)

  pub rises_ask : (site : ℕ) (rs : List Record) → Every PromisesFor rs → SiteAsks (site_rises decl site rs)
  rises_ask site rs puts =
      let whole : PreparedFor decl B (kept_by (rs ++ records.Life ∷ [])).promises =
      kept_for nothing_kept (rs ++ records.Life ∷ []) tt
      (every-append PromisesFor rs (records.Life ∷ []) puts (tt, tt)) in
      record {
        held = held-promised decl B [] (kept_by (rs ++ records.Life ∷ [])).promises tt whole;
        prepared = whole;
        turn = record {
          sends = asked_about (take most_inquiries (in_order (map (λ (p : Prepared). p.tx) (kept_by rs).promises)))
              (first_every B most_inquiries (in_order (map (λ (p : Prepared). p.tx) (kept_by rs).promises))
              (every-in_order B [] (map (λ (p : Prepared). p.tx) (kept_by rs).promises) tt
              (asked_txs (kept_by rs).promises (kept_for nothing_kept rs tt puts))));
          failed = tt;
          writes = (tt, tt);
        };
      }
