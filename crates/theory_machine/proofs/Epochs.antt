-- Installs among the deeds of a site: its epoch only grows, and a site that closed with a transaction prepared tells
-- so, or its Done.
use Rattle.std.proofs.Common.{◌≡◌, ℕ, ◌<◌, ◌≤◌, Bool, true, false, ◌||◌, ◌⊎◌, inl, inr, List, [], ◌∷◌, ◌++◌, refl, sym}
use Rattle.std.proofs.Common.{ap, ◌∙◌, subst, arith}
use Rattle.std.proofs.lemmas.Bool.{cases_eq}
use Rattle.qc_stamp.specs.declared.stamp.TxId.{TxId}
use Rattle.qc_entry.specs.declared.line.Line.{Line}
use Rattle.qc_list.specs.Vocabulary.{In}
use Rattle.qc_stamp.specs.Vocabulary.{same_tx}
use Rattle.theory_machine.specs.Vocabulary.{Closes, Deed, Grants, HasDone, HasRisingEpochs, HaveNoInstall, Holds}
use Rattle.theory_machine.specs.Vocabulary.{Installs, IsPreparedOrDone, IsPreparedWith, Item, LearnsAbort, LearnsCommit}
use Rattle.theory_machine.specs.Vocabulary.{Prepares, Rises, Site, SiteLaws, Spares, SparesUntilDone, after_deed}
use Rattle.theory_machine.specs.Vocabulary.{epoch_from, is_prepared_after, shut_from, site_from}
use Rattle.theory_machine.proofs.SiteHolds.{held_after}
use Rattle.theory_machine.proofs.SiteOrder.{first_done, keeps, stays}

pub epoch-append : (a b : List Deed) (e : ℕ) → epoch_from e (a ++ b) ≡ epoch_from (epoch_from e a) b
epoch-append [] b e = refl
epoch-append (Grants t items view ∷ ds) b e = epoch-append ds b e
epoch-append (Prepares t ∷ ds) b e = epoch-append ds b e
epoch-append (LearnsCommit t stamp ∷ ds) b e = epoch-append ds b e
epoch-append (LearnsAbort t ∷ ds) b e = epoch-append ds b e
epoch-append (Closes ∷ ds) b e = epoch-append ds b e
epoch-append (Installs k c log ∷ ds) b e = epoch-append ds b k
epoch-append (Rises ∷ ds) b e = epoch-append ds b e

pub shut-append : (a b : List Deed) (t : Bool) → shut_from t (a ++ b) ≡ shut_from (shut_from t a) b
shut-append [] b t = refl
shut-append (Grants u items view ∷ ds) b t = shut-append ds b t
shut-append (Prepares u ∷ ds) b t = shut-append ds b t
shut-append (LearnsCommit u stamp ∷ ds) b t = shut-append ds b t
shut-append (LearnsAbort u ∷ ds) b t = shut-append ds b t
shut-append (Closes ∷ ds) b t = shut-append ds b true
shut-append (Installs k c log ∷ ds) b t = shut-append ds b false
shut-append (Rises ∷ ds) b t = shut-append ds b t

pub rising-right : (a b : List Deed) (e : ℕ) → HasRisingEpochs e (a ++ b) → HasRisingEpochs (epoch_from e a) b
rising-right [] b e r = r
rising-right (Grants t items view ∷ ds) b e r = rising-right ds b e r
rising-right (Prepares t ∷ ds) b e r = rising-right ds b e r
rising-right (LearnsCommit t stamp ∷ ds) b e r = rising-right ds b e r
rising-right (LearnsAbort t ∷ ds) b e r = rising-right ds b e r
rising-right (Closes ∷ ds) b e r = rising-right ds b e r
rising-right (Installs k c log ∷ ds) b e r = rising-right ds b k r.1
rising-right (Rises ∷ ds) b e r = rising-right ds b e r

pub rising-left : (a b : List Deed) (e : ℕ) → HasRisingEpochs e (a ++ b) → HasRisingEpochs e a
rising-left [] b e r = tt
rising-left (Grants t items view ∷ ds) b e r = rising-left ds b e r
rising-left (Prepares t ∷ ds) b e r = rising-left ds b e r
rising-left (LearnsCommit t stamp ∷ ds) b e r = rising-left ds b e r
rising-left (LearnsAbort t ∷ ds) b e r = rising-left ds b e r
rising-left (Closes ∷ ds) b e r = rising-left ds b e r
rising-left (Installs k c log ∷ ds) b e r = (r.0, rising-left ds b k r.1)
rising-left (Rises ∷ ds) b e r = rising-left ds b e r

pub upward : (ds : List Deed) (e : ℕ) → HasRisingEpochs e ds → e ≤ epoch_from e ds
upward [] e r = omega arith
upward (Grants t items view ∷ ds) e r = upward ds e r
upward (Prepares t ∷ ds) e r = upward ds e r
upward (LearnsCommit t stamp ∷ ds) e r = upward ds e r
upward (LearnsAbort t ∷ ds) e r = upward ds e r
upward (Closes ∷ ds) e r = upward ds e r
upward (Installs k c log ∷ ds) e r = let x : e < k = r.0 in let y : k ≤ epoch_from k ds = upward ds k r.1 in omega arith
upward (Rises ∷ ds) e r = upward ds e r

-- where the epoch is the same there was no Install
pub none_between : (ds : List Deed) (e : ℕ) → HasRisingEpochs e ds → epoch_from e ds ≡ e → HaveNoInstall ds
none_between [] e r same = tt
none_between (Grants t items view ∷ ds) e r same = none_between ds e r same
none_between (Prepares t ∷ ds) e r same = none_between ds e r same
none_between (LearnsCommit t stamp ∷ ds) e r same = none_between ds e r same
none_between (LearnsAbort t ∷ ds) e r same = none_between ds e r same
none_between (Closes ∷ ds) e r same = none_between ds e r same
none_between (Installs k c log ∷ ds) e r same = let x : e < k = r.0 in let y : k ≤ epoch_from k ds = upward ds k r.1 in
    absurd (omega arith)
none_between (Rises ∷ ds) e r same = none_between ds e r same

-- without an Install a shut site stays shut, and one that became so was closed
pub still_shut : (ds : List Deed) → HaveNoInstall ds → shut_from true ds ≡ true
still_shut [] n = refl
still_shut (Grants t items view ∷ ds) n = still_shut ds n
still_shut (Prepares t ∷ ds) n = still_shut ds n
still_shut (LearnsCommit t stamp ∷ ds) n = still_shut ds n
still_shut (LearnsAbort t ∷ ds) n = still_shut ds n
still_shut (Closes ∷ ds) n = still_shut ds n
still_shut (Installs k c log ∷ ds) n = absurd n
still_shut (Rises ∷ ds) n = still_shut ds n

-- a transaction that isn't harmed and was closed over is prepared, or its Done stands
pub prepared_or_done_closed : (tx : TxId) (ds : List Deed) (is : Bool) → HaveNoInstall ds → SparesUntilDone tx is ds
    → (is ≡ true) ⊎ (shut_from false ds ≡ true) → IsPreparedOrDone tx is ds
prepared_or_done_closed tx [] is n u (inl e) = e
prepared_or_done_closed tx [] is n u (inr e) = absurd (let never : ⊥ = cc in never)
prepared_or_done_closed tx (Grants t items view ∷ ds) is n u s = prepared_or_done_closed tx ds is n u s
prepared_or_done_closed tx (Prepares t ∷ ds) is n u (inl e) =
    prepared_or_done_closed tx ds (is || same_tx tx t) n u (inl (left is (same_tx tx t) e))
  where
    left : (x y : Bool) → x ≡ true → (x || y) ≡ true
    left true y e = refl
    left false y e = absurd (let never : ⊥ = cc in never)
prepared_or_done_closed tx (Prepares t ∷ ds) is n u (inr e) =
    prepared_or_done_closed tx ds (is || same_tx tx t) n u (inr e)
prepared_or_done_closed tx (LearnsCommit t stamp ∷ ds) true n u s =
    λ ne. prepared_or_done_closed tx ds true n (u ne) (inl refl)
prepared_or_done_closed tx (LearnsCommit t stamp ∷ ds) false n u s = prepared_or_done_closed tx ds false n u.1 s
prepared_or_done_closed tx (LearnsAbort t ∷ ds) is n u s = prepared_or_done_closed tx ds is n u.1 s
prepared_or_done_closed tx (Closes ∷ ds) true n u s = prepared_or_done_closed tx ds true n u (inl refl)
prepared_or_done_closed tx (Closes ∷ ds) false n u s = absurd u
prepared_or_done_closed tx (Installs k c log ∷ ds) is n u s = absurd n
prepared_or_done_closed tx (Rises ∷ ds) true n u s = prepared_or_done_closed tx ds true n u (inl refl)
prepared_or_done_closed tx (Rises ∷ ds) false n u s = absurd u

pub prepared_or_done_after : (tx : TxId) (ds : List Deed) (is : Bool) → Spares tx is ds → IsPreparedOrDone tx is ds
    → is_prepared_after tx is ds ≡ true
prepared_or_done_after tx [] is s b = b
prepared_or_done_after tx (Grants t items view ∷ ds) is s b = prepared_or_done_after tx ds is s b
prepared_or_done_after tx (Prepares t ∷ ds) is s b = prepared_or_done_after tx ds (is || same_tx tx t) s b
prepared_or_done_after tx (LearnsCommit t stamp ∷ ds) true s b = prepared_or_done_after tx ds true s.1 (b s.0)
prepared_or_done_after tx (LearnsCommit t stamp ∷ ds) false s b = prepared_or_done_after tx ds false s.1 b
prepared_or_done_after tx (LearnsAbort t ∷ ds) is s b = prepared_or_done_after tx ds is s.1 b
prepared_or_done_after tx (Closes ∷ ds) true s b = prepared_or_done_after tx ds true s b
prepared_or_done_after tx (Closes ∷ ds) false s b = absurd s
prepared_or_done_after tx (Installs k c log ∷ ds) is s b = absurd s
prepared_or_done_after tx (Rises ∷ ds) true s b = prepared_or_done_after tx ds true s b
prepared_or_done_after tx (Rises ∷ ds) false s b = absurd s

-- a shut site tells that a transaction is prepared with its item, or a Done of it stands
pub prepared_or_done : (ds : List Deed) (tx : TxId) (item : Item) (s : Site) → Holds false tx item s
    → SparesUntilDone tx false ds → HaveNoInstall ds → shut_from false ds ≡ true
    → IsPreparedWith tx item (site_from s ds) ⊎ HasDone tx false ds
prepared_or_done ds tx item s h u none shut = elim (first_done tx ds false none u) [
  | inl sp ↦
      let p : Holds true tx item (site_from s ds) =
      subst (λ (x : Bool). Holds x tx item (site_from s ds))
      (prepared_or_done_after tx ds false sp (prepared_or_done_closed tx ds false none u (inr shut)))
      (held_after ds false tx item s h sp) in
      inl (record {
        by = p.phase.by;
        stands = p.phase.stands;
        its = p.phase.its;
        has = p.phase.each p.phase.by p.phase.on_record p.phase.its;
      })
  | inr d ↦ inr d
]

-- the log of the epoch that is installed stands in what records give
pub record IsInstalled (ds : List Deed) (k : ℕ) (s : Site) : Type 0 where
  pub clock : ℕ
  pub log : List Line
  pub stands : In (Installs k clock log) ds
  pub log_stays : (l : Line) → In l log → In l s.stable

pub installed : (ds : List Deed) (s : Site) (e k : ℕ) → SiteLaws s → HasRisingEpochs e ds → epoch_from e ds ≡ k → e < k
    → IsInstalled ds k (site_from s ds)
installed [] s e k w r same less = absurd (omega arith)
installed (Grants t items view ∷ ds) s e k w r same less = let i =
    installed ds (after_deed s (Grants t items view)) e k (keeps s (Grants t items view) w) r same less in
    record { clock = i.clock; log = i.log; stands = inr i.stands; log_stays = i.log_stays }
installed (Prepares t ∷ ds) s e k w r same less = let i =
    installed ds (after_deed s (Prepares t)) e k (keeps s (Prepares t) w) r same less in
    record { clock = i.clock; log = i.log; stands = inr i.stands; log_stays = i.log_stays }
installed (LearnsCommit t stamp ∷ ds) s e k w r same less = let i =
    installed ds (after_deed s (LearnsCommit t stamp)) e k (keeps s (LearnsCommit t stamp) w) r same less in
    record { clock = i.clock; log = i.log; stands = inr i.stands; log_stays = i.log_stays }
installed (LearnsAbort t ∷ ds) s e k w r same less = let i =
    installed ds (after_deed s (LearnsAbort t)) e k (keeps s (LearnsAbort t) w) r same less in
    record { clock = i.clock; log = i.log; stands = inr i.stands; log_stays = i.log_stays }
installed (Closes ∷ ds) s e k w r same less = let i =
    installed ds (after_deed s Closes) e k (keeps s Closes w) r same less in
    record { clock = i.clock; log = i.log; stands = inr i.stands; log_stays = i.log_stays }
installed (Installs j c log ∷ ds) s e k w r same less =
    elim (order j k (subst (λ (x : ℕ). j ≤ x) same (upward ds j r.1))) [
      | inl below ↦ let i = installed ds (after_deed s (Installs j c log)) j k
          (keeps s (Installs j c log) w) r.1 same below in
          record { clock = i.clock; log = i.log; stands = inr i.stands; log_stays = i.log_stays }
      | inr is ↦ record {
        clock = c;
        log = log;
        stands = inl (ap (λ (x : ℕ). Installs x c log) (sym is));
        log_stays = λ l h. stays ds (after_deed s (Installs j c log)) l (keeps s (Installs j c log) w)
            (none_between ds j r.1 (same ∙ sym is)) h;
      }
    ]
  where
    order : (a b : ℕ) → a ≤ b → (a < b) ⊎ (a ≡ b)
    order a b l = elim (cases_eq a b) [ inl e ↦ inr e | inr ne ↦ inl (let n = ne in omega arith) ]
installed (Rises ∷ ds) s e k w r same less = let i =
    installed ds (after_deed s Rises) e k (keeps s Rises w) r same less in
    record { clock = i.clock; log = i.log; stands = inr i.stands; log_stays = i.log_stays }
