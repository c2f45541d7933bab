-- Holders are of clients below the most, and so is who is in the way.
use Rattle.std.proofs.Common.{◌≡◌, inl, inr, ℕ, ◌<◌, ◌==◌, ◌&&◌, not, Bool, true, false, cond, List, [], ◌∷◌, ◌++◌}
use Rattle.std.proofs.Common.{fold, length, Some, sym, subst}
use Rattle.qc_decl.specs.Vocabulary.{most_clients}
use Rattle.qc_entry.specs.declared.line.OwnLine.{OwnLine}
use Rattle.qc_entry.specs.declared.line.ReadLock.{ReadLock}
use Rattle.qc_stamp.specs.declared.stamp.TxId.{TxId}
use Rattle.qc_lock.specs.declared.clash.Clash.{Clash}
use Rattle.qc_lock.specs.declared.held.Held.{Held}
use Rattle.qc_lock.specs.Vocabulary.{In, IsAppendConflict, IsReadConflict, IsSmallest, append_clash, held_of}
use Rattle.qc_lock.specs.Vocabulary.{read_clash, same_tx, with_entry, with_held, with_locks, with_owns, without_held}
use Rattle.qc_lock.proofs.Conflicts.{appends_are_refused_on_conflict, reads_are_refused_on_conflict}
use Rattle.qc_entry.specs.declared.record.Prepared.{Prepared}
use Rattle.qc_site.specs.Vocabulary.{AreByClients, AreOfClients, held_by, holds, without_prepared}

-- a holder among them is of a client
of_client : (h : Held) (held : List Held) → In h held → AreOfClients held → h.tx.client < most_clients
of_client h [] member clients = absurd member
of_client h (k ∷ ks) (inl is) clients = subst (λ (x : Held). x.tx.client < most_clients) (sym is) clients.0
of_client h (k ∷ ks) (inr later) clients = of_client h ks later clients.1

-- what is put, added or left out

clients-put : (held : List Held) (e : Held) → AreOfClients held → e.tx.client < most_clients
    → AreOfClients (with_entry held e)
clients-put [] e clients here = (here, tt)
clients-put (h ∷ hs) e clients here = by (same_tx h.tx e.tx) (clients-put hs e clients.1 here) where
  by : (t : Bool) → AreOfClients (with_entry hs e) → AreOfClients (cond t (e ∷ hs) (h ∷ with_entry hs e))
  by true rest = (here, clients.1)
  by false rest = (clients.0, rest)

pub clients-held : (held : List Held) (tx : TxId) (locks : List ReadLock) (own : List OwnLine) → AreOfClients held
    → tx.client < most_clients → AreOfClients (with_held held tx locks own)
clients-held held tx locks own clients here = by ((length locks == 0) && (length own == 0)) where
  entry : Held
  entry = record {
    tx = tx;
    locks = with_locks (held_of held tx).locks locks;
    own = with_owns (held_of held tx).own own;
  }

  by : (t : Bool) → AreOfClients (cond t held
      (with_entry held (record {
        tx = tx;
        locks = with_locks (held_of held tx).locks locks;
        own = with_owns (held_of held tx).own own;
      })))
  by true = clients
  by false = clients-put held (record {
    tx = tx;
    locks = with_locks (held_of held tx).locks locks;
    own = with_owns (held_of held tx).own own;
  }) clients here

pub clients-without : (held : List Held) (tx : TxId) → AreOfClients held → AreOfClients (without_held held tx)
clients-without [] tx clients = tt
clients-without (h ∷ hs) tx clients = by (not (same_tx h.tx tx)) (clients-without hs tx clients.1) where
  by : (t : Bool) → AreOfClients (without_held hs tx)
      → AreOfClients (cond t (h ∷ without_held hs tx) (without_held hs tx))
  by true rest = (clients.0, rest)
  by false rest = rest

-- what promised transactions hold

clients-from : (held : List Held) (ps : List Prepared) → AreOfClients held → AreByClients ps
    → AreOfClients (fold holds held ps)
clients-from held [] clients each = clients
clients-from held (p ∷ ps) clients each =
    clients-from (holds held p) ps (clients-held held p.tx p.locks p.own clients each.0) each.1

pub clients-promised : (ps : List Prepared) → AreByClients ps → AreOfClients (held_by ps)
clients-promised ps each = clients-from [] ps tt each

-- promises, one more and without those of a transaction

pub by_clients-push : (ps : List Prepared) (p : Prepared) → AreByClients ps → p.tx.client < most_clients
    → AreByClients (ps ++ p ∷ [])
by_clients-push [] p each here = (here, tt)
by_clients-push (q ∷ qs) p each here = (each.0, by_clients-push qs p each.1 here)

pub by_clients-without : (ps : List Prepared) (tx : TxId) → AreByClients ps → AreByClients (without_prepared ps tx)
by_clients-without [] tx each = tt
by_clients-without (p ∷ ps) tx each = by (not (same_tx p.tx tx)) (by_clients-without ps tx each.1) where
  by : (t : Bool) → AreByClients (without_prepared ps tx)
      → AreByClients (cond t (p ∷ without_prepared ps tx) (without_prepared ps tx))
  by true rest = (each.0, rest)
  by false rest = rest

-- who is in the way

told_client : (c : Clash) (held : List Held) (h : Held) (inv event : ℕ)
    → c ≡ record { holder = h.tx; inv = inv; event = event } → In h held → AreOfClients held
    → c.holder.client < most_clients
told_client c held h inv event told holds clients =
    subst (λ (d : Clash). d.holder.client < most_clients) (sym told) (of_client h held holds clients)

pub read_client : (relation : List ℕ) (held : List Held) (tx : TxId) (object inv : ℕ) (c : Clash) → AreOfClients held
    → read_clash relation held tx object inv ≡ Some c → c.holder.client < most_clients
read_client relation held tx object inv c clients is =
    let found : IsSmallest (IsReadConflict relation held tx object inv) (Some c) =
    subst (IsSmallest (IsReadConflict relation held tx object inv)) is
    (reads_are_refused_on_conflict relation held tx object inv) in
    let conflict : IsReadConflict relation held tx object inv c = found.0 in
    told_client c held conflict.holder inv conflict.line.event conflict.told conflict.holds clients

pub append_client : (relation : List ℕ) (held : List Held) (tx : TxId) (own : List OwnLine) (c : Clash)
    → AreOfClients held → append_clash relation held tx own ≡ Some c → c.holder.client < most_clients
append_client relation held tx own c clients is =
    let found : IsSmallest (IsAppendConflict relation held tx own) (Some c) =
    subst (IsSmallest (IsAppendConflict relation held tx own)) is (appends_are_refused_on_conflict relation held tx own)
    in
    let conflict : IsAppendConflict relation held tx own c = found.0 in
    told_client c held conflict.holder conflict.lock.inv conflict.line.event conflict.told conflict.holds clients
