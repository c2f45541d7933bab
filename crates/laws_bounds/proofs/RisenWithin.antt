-- What a site, a client and the administrator are by records within a bound, and what they do as they rise, is within
-- it.
use Rattle.std.proofs.Common.{ℕ, ◌≤◌, max, not, Bool, true, false, List, [], ◌∷◌, ◌++◌, fold, map, take}
use Rattle.std.proofs.Common.{Option, Some, None, arith}
use Rattle.std.specs.List.{AllByRecursion as Every}
use Rattle.std.specs.Option.{option_map_or}
use Rattle.qc_list.proofs.Members.{every-append, every-filter}
use Rattle.qc_core.specs.Vocabulary.{actor_rises}
use Rattle.qc_core.proofs.ByNumber.{rises_by}
use Rattle.qc_decl.specs.Vocabulary.{is_client, is_site}
use Rattle.qc_decl.specs.declared.declaration.Declaration.{Declaration}
use Rattle.qc_entry.specs.Vocabulary.{has_line, without}
use Rattle.qc_entry.specs.declared.line.Line.{Line}
use Rattle.qc_entry.specs.declared.line.OwnLine.{OwnLine}
use Rattle.qc_entry.specs.declared.record.Commit.{Commit}
use Rattle.qc_entry.specs.declared.record.Prepared.{Prepared}
use Rattle.qc_entry.proofs.Union.{every-union}
use Rattle.qc_msg.specs.declared.record.Record.{Record}
use Rattle.qc_msg.specs.declared.record.Record.TheVariants as records
use Rattle.qc_recover.specs.Clients as by_client_records
use Rattle.qc_recover.specs.Vocabulary.{Kept, done_lines, done_stamp, inquiry, keeps, kept_by, most_inquiries}
use Rattle.qc_recover.specs.Vocabulary.{nothing_kept}
use Rattle.qc_site.specs.Vocabulary.{in_order, latest, lines_of, prepared_of, stamped, with_stamped, without_prepared}
use Rattle.qc_recover.specs.Admins as admins
use Rattle.qc_stamp.specs.Vocabulary.{same_tx}
use Rattle.qc_stamp.specs.declared.stamp.Stamp.{Stamp}
use Rattle.qc_stamp.specs.declared.stamp.TxId.{TxId}
use Rattle.laws_turns.specs.Vocabulary.{LinesWithin, PromisesWithin, SendsWithin}
use Rattle.laws_bounds.specs.Vocabulary.{AreWithin, DecidedWithin, MoveWithin, RecordWithin}
use Rattle.qc_msg.specs.Vocabulary.{decide_in, commit_of, is_life}
use Rattle.qc_msg.specs.declared.payload.EpochStart.{EpochStart}
use Rattle.laws_bounds.proofs.Cases.{decide_cases, commit_cases}
use Rattle.laws_bounds.proofs.Options.{map_or}
use Rattle.std.specs.Prelude.{cond, ◌+◌}
use Rattle.laws_bounds.proofs.ClientsRisen.{with_record}

module _ (bound : ℕ) where
  latest_within : (clock : ℕ) (lines : List Line) → clock ≤ bound → LinesWithin bound lines → latest clock lines ≤ bound
  latest_within clock [] here within = here
  latest_within clock (l ∷ ls) here within =
      let first : l.stamp.clock ≤ bound = within.0 in
      latest_within (max clock l.stamp.clock) ls (omega arith) within.1

  pub stamped_within : (stamp : Stamp) (tx : TxId) (lines : List Line) (own : List OwnLine) → stamp.clock ≤ bound
      → LinesWithin bound lines → LinesWithin bound (fold (with_stamped stamp tx) lines own)
  stamped_within stamp tx lines [] here within = within
  stamped_within stamp tx lines (o ∷ os) here within =
      stamped_within stamp tx (with_stamped stamp tx lines o) os here
      (every-union (λ (l : Line). l.stamp.clock ≤ bound) lines (stamped stamp tx o ∷ []) within (here, tt))

  done_within : (prepares : List Prepared) (tx : TxId) (clock : ℕ) → clock ≤ bound
      → LinesWithin bound (done_lines prepares tx clock)
  done_within prepares tx clock here = by (prepared_of prepares tx)
    where
      by : (o : Option Prepared)
          → LinesWithin bound (option_map_or (λ (p : Prepared). lines_of (done_stamp tx clock) tx p.own) o [])
      by None = tt
      by (Some p) = stamped_within (done_stamp tx clock) tx [] p.own here tt

  -- a site

  record KeptWithin (k : Kept) : Type 0 where
    clock : k.clock ≤ bound
    began : LinesWithin bound k.began
    lines : LinesWithin bound k.lines
    promises : PromisesWithin bound k.promises

  site_keeps : (k : Kept) (r : Record) → RecordWithin bound r → KeptWithin k → KeptWithin (keeps k r)
  site_keeps k records.Life here w =
      record { clock = w.clock; began = w.began; lines = w.lines; promises = w.promises }
  site_keeps k (records.Prepare p) here w = record {
    clock = latest_within k.clock p.lines w.clock here;
    began = w.began;
    lines = every-union (λ (l : Line). l.stamp.clock ≤ bound) k.lines p.lines w.lines here;
    promises =
        every-append (λ (q : Prepared). LinesWithin bound q.lines) (without_prepared k.promises p.tx) (p ∷ [])
        (every-filter (λ (q : Prepared). LinesWithin bound q.lines) (λ (q : Prepared). not (same_tx q.tx p.tx))
        k.promises w.promises) (here, tt);
  }
  site_keeps k (records.Done tx clock) here w = record {
    clock = (let c : k.clock ≤ bound = w.clock in let d : clock ≤ bound = here in omega arith);
    began = w.began;
    lines =
        every-union (λ (l : Line). l.stamp.clock ≤ bound) k.lines (without (done_lines k.prepares tx clock) k.began)
        w.lines
        (every-filter (λ (l : Line). l.stamp.clock ≤ bound) (λ (l : Line). not (has_line k.began l))
        (done_lines k.prepares tx clock) (done_within k.prepares tx clock here));
    promises =
        every-filter (λ (q : Prepared). LinesWithin bound q.lines) (λ (q : Prepared). not (same_tx q.tx tx)) k.promises
        w.promises;
  }
  site_keeps k (records.Close epoch) here w =
      record { clock = w.clock; began = w.began; lines = w.lines; promises = w.promises }
  site_keeps k (records.Install start) here w = record {
    clock =
        (let c : latest k.clock start.lines ≤ bound = latest_within k.clock start.lines w.clock here.1 in
        let d : start.clock ≤ bound = here.0 in omega arith);
    began = here.1;
    lines = tt;
    promises = tt;
  }
  site_keeps k (records.Commit c) here w = w
  site_keeps k (records.Decide start) here w = w

  site_kept : (rs : List Record) (k : Kept) → AreWithin bound rs → KeptWithin k → KeptWithin (fold keeps k rs)
  site_kept [] k all w = w
  site_kept (r ∷ rs) k all w = site_kept rs (keeps k r) all.1 (site_keeps k r all.0 w)

  -- a client

  record CommitsWithin (k : by_client_records.Kept) : Type 0 where
    clock : k.clock ≤ bound
    commits : Every (λ (c : Commit). c.stamp.clock ≤ bound) k.commits

  client_keeps : (k : by_client_records.Kept) (r : Record) → RecordWithin bound r → CommitsWithin k
      → CommitsWithin (by_client_records.keeps k r)
  client_keeps k r here w =
      by (is_life r)
      (map_or CommitsWithin (λ (c : Commit). c.stamp.clock ≤ bound) (with_record k) k (commit_of r)
      (commit_cases (RecordWithin bound) (λ (c : Commit). c.stamp.clock ≤ bound) (λ c is. is) r here) w
      (λ commit is. record {
        clock = (let c : k.clock ≤ bound = w.clock in let d : commit.stamp.clock ≤ bound = is in omega arith);
        commits =
            every-append (λ (c : Commit). c.stamp.clock ≤ bound) _ (commit ∷ [])
            (every-filter (λ (c : Commit). c.stamp.clock ≤ bound)
            (λ (c : Commit). not (same_tx c.tx commit.tx)) k.commits w.commits)
            (is, tt);
      }))
    where
      by : (b : Bool) → CommitsWithin (option_map_or (with_record k) (commit_of r) k)
          → CommitsWithin (cond b (record k { life = k.life + 1 }) (option_map_or (with_record k) (commit_of r) k))
      by true kept = record { clock = w.clock; commits = w.commits }
      by false kept = kept

  client_kept : (rs : List Record) (k : by_client_records.Kept) → AreWithin bound rs → CommitsWithin k
      → CommitsWithin (fold by_client_records.keeps k rs)
  client_kept [] k all w = w
  client_kept (r ∷ rs) k all w = client_kept rs (by_client_records.keeps k r) all.1 (client_keeps k r all.0 w)

  -- the administrator

  abbrev StartWithin : EpochStart → Type 0
  StartWithin i = (i.clock ≤ bound) × LinesWithin bound i.lines

  decided_keeps : (k : Option EpochStart) (r : Record) → RecordWithin bound r → DecidedWithin bound k
      → DecidedWithin bound (admins.keeps k r)
  decided_keeps k r here w =
      map_or (DecidedWithin bound) StartWithin
      (λ (i : EpochStart). Some i) k (decide_in r)
      (decide_cases (RecordWithin bound) StartWithin (λ epoch clock lines is. is) r here) w
      (λ i is. record { epoch_is = tt; clock_is = is.0; lines_are = is.1 })

  decided_kept : (rs : List Record) (k : Option EpochStart) → AreWithin bound rs → DecidedWithin bound k
      → DecidedWithin bound (fold admins.keeps k rs)
  decided_kept [] k all w = w
  decided_kept (r ∷ rs) k all w = decided_kept rs (admins.keeps k r) all.1 (decided_keeps k r all.0 w)

  -- their turns

  inquiries_within : (decl : Declaration) (txs : List TxId) → SendsWithin bound (map (inquiry decl) txs)
  inquiries_within decl [] = tt
  inquiries_within decl (tx ∷ txs) = (tt, inquiries_within decl txs)

  risen : (rs : List Record) → AreWithin bound rs → AreWithin bound (rs ++ records.Life ∷ [])
  risen rs all = every-append (RecordWithin bound) rs (records.Life ∷ []) all (tt, tt)

  site_within : (number : ℕ) (rs : List Record) → AreWithin bound rs
      → KeptWithin (kept_by (rs ++ records.Life ∷ []))
  site_within number rs all =
      site_kept (rs ++ records.Life ∷ []) nothing_kept (risen rs all)
      (record { clock = omega arith; began = tt; lines = tt; promises = tt })

  client_within : (rs : List Record) → AreWithin bound rs
      → CommitsWithin (by_client_records.kept_by (rs ++ records.Life ∷ []))
  client_within rs all =
      client_kept (rs ++ records.Life ∷ []) by_client_records.nothing_kept (risen rs all)
      (record { clock = omega arith; commits = tt })

  pub rises_within : (decl : Declaration) (a : ℕ) (rs : List Record) → AreWithin bound rs
      → MoveWithin bound (actor_rises decl a rs)
  rises_within decl a rs all = by (is_site decl a) (is_client decl a)
    where
      by : (site client : Bool) → MoveWithin bound (rises_by decl a rs site client)
      by true client =
          let w : KeptWithin (kept_by (rs ++ records.Life ∷ [])) = site_within a rs all in
          record {
            state = record {
              clock = w.clock;
              began = w.began;
              log = w.lines;
              arrived = every-union (λ (l : Line). l.stamp.clock ≤ bound) _ _ w.began w.lines;
              prepared = w.promises;
            };
            turn = record {
              sends = inquiries_within decl (take most_inquiries
                  (in_order (map (λ (p : Prepared). p.tx) (kept_by rs).promises)));
              failed_sends = tt;
              write = (tt, tt);
            };
          }
      by false true =
          let w : CommitsWithin (by_client_records.kept_by (rs ++ records.Life ∷ [])) = client_within rs all in
          record {
            state = record {
              front = record { clock = w.clock; count = omega arith; views = tt };
              desk = record { clock = w.clock; commits = w.commits };
            };
            turn = record { sends = tt; failed_sends = tt; write = (tt, tt) };
          }
      by false false = record {
        state = record { decided = decided_kept (rs ++ records.Life ∷ []) None (risen rs all) tt; doing = tt };
        turn = record { sends = tt; failed_sends = tt; write = (tt, tt) };
      }
