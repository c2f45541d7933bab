-- What is committed stays, and operations are only added: so a closed log stays closed, whatever the clients do.
use Rattle.std.proofs.Common.{◌≡◌, ◌≢◌, ℕ, inl, List, [], ◌∷◌, ◌++◌, Option, Some, IsSome, sym, subst}
use Rattle.qc_stamp.specs.declared.stamp.TxId.{TxId}
use Rattle.qc_entry.specs.declared.line.Line.{Line}
use Rattle.qc_entry.specs.declared.line.OwnLine.{OwnLine}
use Rattle.qc_entry.specs.declared.record.Commit.{Commit as CommitRecord}
use Rattle.qc_decl.specs.declared.declaration.Declaration.{Declaration}
use Rattle.qc_decl.specs.Vocabulary.{append_need_of}
use Rattle.qc_list.specs.Vocabulary.{In}
use Rattle.theory_onecopy.specs.Vocabulary.{Executed, own_line}
use Rattle.theory_machine.specs.Vocabulary.{AreInOrder, Committed, Deed, Granted, HasQuorum, IsAnsweredFromQuorum}
use Rattle.theory_machine.specs.Vocabulary.{IsAppendClosed, IsClosedAt, IsExecutedOrChosen, IsNextOperation}
use Rattle.theory_machine.specs.Vocabulary.{IsOwnClosedAt, IsShown, IsSiteClosed, Item, LogLaws, NotBegun, Own, Site}
use Rattle.theory_machine.specs.Vocabulary.{State, Status, YesVote, empty_site, put, put_tx, site_after}
use Rattle.theory_machine.proofs.Names.{put_case, put_tx_case}
use Rattle.theory_machine.proofs.SiteOrder.{after_append}
use Rattle.theory_machine.proofs.Sound.{IsReady, deed_keeps_closed}

-- a history goes on: what is committed stays, and operations are only added
pub record Grows (status more : TxId → Status) (executed new_executed : TxId → List Executed)
    (chosen new_chosen : TxId → Option Executed) : Type 0 where
  pub committed : (tx : TxId) (c : CommitRecord) → status tx ≡ Committed c → more tx ≡ Committed c
  pub stays : (tx : TxId) (d : Executed) → In d (executed tx) → In d (new_executed tx)
  pub known : (tx : TxId) (d : Executed) → IsExecutedOrChosen (executed tx) (chosen tx) d
      → IsExecutedOrChosen (new_executed tx) (new_chosen tx) d

module _ (decl : Declaration) where
  module _ (status more : TxId → Status) (executed new_executed : TxId → List Executed)
      (chosen new_chosen : TxId → Option Executed) (g : Grows status more executed new_executed chosen new_chosen) where
    pub closed_at_more : (log : List Line) (l : Line) → IsClosedAt decl status executed log l
        → IsClosedAt decl more new_executed log l
    closed_at_more log l f = record {
      commit = f.commit;
      committed = g.committed l.tx f.commit f.committed;
      operation = f.operation;
      listed = g.stays l.tx f.operation f.listed;
      some = f.some;
      is = f.is;
      view = f.view;
      own = f.own;
    }

    pub own_closed_more : (tx : TxId) (log : List Line) (items : List Item) (o : OwnLine)
        → IsOwnClosedAt decl executed chosen tx log items o → IsOwnClosedAt decl new_executed new_chosen tx log items o
    own_closed_more tx log items o f = record {
      operation = f.operation;
      known = g.known tx f.operation f.known;
      some = f.some;
      is = f.is;
      view = f.view;
      own = f.own;
    }

    pub append_closed_more : (tx : TxId) (items : List Item) (view : List Line)
        → IsAppendClosed decl status executed chosen tx items view
        → IsAppendClosed decl more new_executed new_chosen tx items view
    append_closed_more tx items view s = record {
      closed_at = λ l h. closed_at_more view l (s.closed_at l h);
      own_closed = λ o h. own_closed_more tx view items o (s.own_closed o h);
    }

    pub site_more : (s : Site) → IsSiteClosed decl status executed chosen s
        → IsSiteClosed decl more new_executed new_chosen s
    site_more s w = record {
      less = w.less;
      volatile = λ l h. closed_at_more s.volatile l (w.volatile l h);
      stable = λ l h. closed_at_more s.stable l (w.stable l h);
      own_closed = λ tx o h. own_closed_more tx s.volatile _ o (w.own_closed tx o h);
      prepared = w.prepared;
      promised = λ p o h i. own_closed_more p.tx s.stable p.items o (w.promised p o h i);
    }

  -- more grants are counted
  shown_more : (counted more : List Granted) (tx : TxId) (l : Line) → ((g : Granted) → In g counted → In g more)
      → IsShown counted tx l → IsShown more tx l
  shown_more counted more tx l sub s = record
      { grant = s.grant; counts = sub s.grant s.counts; its = s.its; shows = s.shows }

  pub right_more : (e : ℕ) (counted more : List Granted) (tx : TxId) (d : Executed)
      → ((g : Granted) → In g counted → In g more) → IsAnsweredFromQuorum decl e counted tx d
      → IsAnsweredFromQuorum decl e more tx d
  right_more e counted more tx d sub r = record {
    answered = r.answered;
    known = r.known;
    shown = λ l h. ((r.shown l h).0, shown_more counted more tx l sub (r.shown l h).1);
    met = record {
      sites = r.met.sites;
      enough = r.met.enough;
      each = λ s t. (let a = r.met.each s t in
          record {
            grant = a.grant;
            counts = sub a.grant a.counts;
            its = a.its;
            from = a.from;
            has = a.has;
            seen = a.seen;
          });
    };
  }

  pub met_more : (e : ℕ) (counted more : List Granted) (tx : TxId) (x : Item) (need : ℕ)
      → ((g : Granted) → In g counted → In g more) → HasQuorum decl e counted tx x need
      → HasQuorum decl e more tx x need
  met_more e counted more tx x need sub m = record {
    sites = m.sites;
    enough = m.enough;
    each = λ s t. (let a = m.each s t in record
        { grant = a.grant; counts = sub a.grant a.counts; its = a.its; from = a.from; has = a.has });
  }

  pub carry : (w : State) (status : TxId → Status) (executed : TxId → List Executed) (chosen : TxId → Option Executed)
      (clock : ℕ → ℕ) (seen_by : ℕ → List Granted) (records : List CommitRecord) (counted : List Granted)
      (epoch : TxId → ℕ)
      → Grows w.status status w.executed executed w.chosen chosen
      → ((tx : TxId) → AreInOrder [] (executed tx))
      → ((tx : TxId) (d : Executed) → chosen tx ≡ Some d → IsNextOperation (executed tx) d × IsSome d.op.resp)
      → ((tx : TxId) (d : Executed) → IsExecutedOrChosen (executed tx) (chosen tx) d → status tx ≢ NotBegun)
      → ((tx : TxId) (d : Executed) → IsExecutedOrChosen (executed tx) (chosen tx) d
      → IsAnsweredFromQuorum decl (epoch tx) counted tx d)
      → ((tx : TxId) (d : Executed) → In d (executed tx) → IsSome d.op.resp
      → HasQuorum decl (epoch tx) counted tx (Own (own_line d))
      (append_need_of decl (epoch tx) d.op.object d.event))
      → ((tx : TxId) (d : Executed) (l : Line) → IsExecutedOrChosen (executed tx) (chosen tx) d → In l d.view
      → IsClosedAt decl status executed d.view l)
      → LogLaws decl w → LogLaws decl (record w {
        status = status;
        executed = executed;
        chosen = chosen;
        clock = clock;
        seen_by = seen_by;
        records = records;
        counted = counted;
        epoch = epoch;
      })
  carry w status executed chosen clock seen_by records counted epoch g order next begun right written views l = record {
    order = order;
    next = next;
    begun = begun;
    right = right;
    written = written;
    views = views;
    appends = λ s h. append_closed_more w.status status w.executed executed w.chosen chosen g s.tx s.items s.view
        (l.appends s h);
    sites = λ site. site_more w.status status w.executed executed w.chosen chosen g (site_after (w.deeds site))
        (l.sites site);
    granted = λ h i. site_more w.status status w.executed executed w.chosen chosen g (site_after h.before)
        (l.granted h i);
    snapshots = λ s h. site_more w.status status w.executed executed w.chosen chosen g (site_after s.before)
        (l.snapshots s h);
    decided = λ d m h i. closed_at_more w.status status w.executed executed w.chosen chosen g d.log m
        (l.decided d m h i);
  }

  -- a status moves
  pub restated : (w : State) (tx : TxId) (new : Status) (clock : ℕ → ℕ) (records : List CommitRecord) (epoch : TxId → ℕ)
      → ((c : CommitRecord) → w.status tx ≡ Committed c → new ≡ Committed c) → new ≢ NotBegun
      → ((u : TxId) → w.status u ≢ NotBegun → w.epoch u ≡ epoch u)
      → LogLaws decl w → LogLaws decl (record w
      { status = put_tx w.status tx new; clock = clock; records = records; epoch = epoch })
  restated w tx new clock records epoch final living same_epoch l =
      carry w (put_tx w.status tx new) w.executed w.chosen clock w.seen_by records w.counted epoch g l.order l.next
      (λ t d h. put_tx_case (λ (s : Status). s ≢ NotBegun) w.status tx new t (λ e. living) (λ ne. l.begun t d h))
      (λ t d h. subst (λ (e : ℕ). IsAnsweredFromQuorum decl e w.counted t d) (same_epoch t (l.begun t d h))
      (l.right t d h))
      (λ t d h s. subst (λ (e : ℕ). HasQuorum decl e w.counted t (Own (own_line d))
      (append_need_of decl e d.op.object d.event)) (same_epoch t (l.begun t d (inl h))) (l.written t d h s))
      (λ t d m k h. closed_at_more w.status (put_tx w.status tx new) w.executed w.executed w.chosen w.chosen g d.view m
      (l.views t d m k h)) l
    where
      g : Grows w.status (put_tx w.status tx new) w.executed w.executed w.chosen w.chosen
      g = record {
        committed = λ t c h. put_tx_case (λ (s : Status). s ≡ Committed c) w.status tx new t
            (λ e. final c (subst (λ (x : TxId). w.status x ≡ Committed c) e h)) (λ ne. h);
        stays = λ t d h. h;
        known = λ t d h. h;
      }

  pub same : (w : State) → Grows w.status w.status w.executed w.executed w.chosen w.chosen
  same w = record { committed = λ t c h. h; stays = λ t d h. h; known = λ t d h. h }

  -- a site does more
  pub at_site : (w : State) (site : ℕ) (d : Deed) (life : ℕ → ℕ) (granted : List Granted) (votes : List YesVote)
      → IsReady decl w.status w.executed w.chosen d
      → ((g : Granted) → In g granted → IsSiteClosed decl w.status w.executed w.chosen (site_after g.before))
      → LogLaws decl w → LogLaws decl (record w
      { deeds = put w.deeds site (w.deeds site ++ d ∷ []); life = life; granted = granted; votes = votes })
  at_site w site d life granted votes ready sound l = record {
    order = l.order;
    next = l.next;
    right = l.right;
    written = l.written;
    views = l.views;
    appends = l.appends;
    sites = λ s. put_case (λ (ds : List Deed). IsSiteClosed decl w.status w.executed w.chosen (site_after ds)) w.deeds
        site (w.deeds site ++ d ∷ []) s
        (λ e. subst (λ (x : Site). IsSiteClosed decl w.status w.executed w.chosen x)
        (sym (after_append (w.deeds site) (d ∷ []) empty_site))
        (deed_keeps_closed decl w.status w.executed w.chosen (site_after (w.deeds site)) d ready (l.sites site)))
        (λ ne. l.sites s);
    granted = sound;
    begun = l.begun;
    snapshots = l.snapshots;
    decided = l.decided;
  }
