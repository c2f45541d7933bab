-- What a site's deeds show that it holds is what those of its present life show: the last cut is a rise, or one since.
use Rattle.std.proofs.Common.{◌≡◌, Bool, true, false, cond, List, [], ◌∷◌, ◌++◌, None, refl, sym, ap, subst, ◌∙◌}
use Rattle.std.proofs.Common.{append_assoc}
use Rattle.std.specs.Prelude.{fold}
use Rattle.std.proofs.lemmas.List.Sums.{fold-append}
use Rattle.qc_msg.specs.declared.record.Record.{Record}
use Rattle.qc_msg.specs.Vocabulary.{Deed, Falls, Rises, Sends, Takes, Tells, Writes, risen_in}
use Rattle.qc_promise.specs.Vocabulary.{Holding, Lifetime, begun_with, cuts, held_shown, last_cut, lifetime, with_cut}
use Rattle.qc_promise.specs.Vocabulary.{with_deed}
use Rattle.qc_promise.proofs.Lifetimes.{AreNoRises, life_begins, lived, lives_on, no_rises}
use Rattle.qc_text.specs.Vocabulary.{held_by, held_in}
use Rattle.qc_text.proofs.Cuts.{anew, nothing, on}

-- a life with these records whose deeds are parted as c, within deeds that are parted as h
record Ends (kept : List Record) (c h : Holding) : Type 0 where
  pub before : lifetime h.before ≡ record { kept = kept; since = c.before }
  pub since : h.since ≡ c.since
  pub none : AreNoRises h.since

-- a deed more that is no rise
ends_on : (kept : List Record) (c h : Holding) (d : Deed) → risen_in d ≡ None → Ends kept c h
    → Ends kept (with_cut c d) (with_cut h d)
ends_on kept c h d stays ends = by (cuts d)
  where
    more : AreNoRises (h.since ++ d ∷ [])
    more = no_rises h.since (d ∷ []) ends.none (stays, tt)

    by : (b : Bool) → Ends kept (cond b (anew c d) (on c d)) (cond b (anew h d) (on h d))
    by true = record {
      before =
          ap lifetime (append_assoc h.before h.since (d ∷ []))
          ∙ lives_on h.before (h.since ++ d ∷ []) more
          ∙ ap (λ (l : Lifetime). lived l (h.since ++ d ∷ [])) ends.before
          ∙ ap (λ (v : List Deed). record { kept = kept; since = c.before ++ (v ++ d ∷ []) }) ends.since
          ∙ ap (λ (v : List Deed). record { kept = kept; since = v }) (sym (append_assoc c.before c.since (d ∷ [])));
      since = refl;
      none = tt;
    }
    by false = record { before = ends.before; since = ap (λ (v : List Deed). v ++ d ∷ []) ends.since; none = more }

-- a rise
ends_anew : (rs : List Record) (h : Holding) → Ends rs nothing (anew h (Rises rs))
ends_anew rs h = record {
  before = life_begins (h.before ++ h.since) rs;
  since = refl;
  none = tt;
}

ends_all : (l : Lifetime) (h : Holding) (ds : List Deed) → Ends l.kept (last_cut l.since) h
    → Ends (fold with_deed l ds).kept (last_cut (fold with_deed l ds).since) (fold with_cut h ds)
ends_all l h [] ends = ends
ends_all l h (d ∷ ds) ends = by d (λ (m : Lifetime) (i : Holding). ends_all m i ds)
  where
    All : Type 0
    All = (m : Lifetime) (i : Holding) → Ends m.kept (last_cut m.since) i
        → Ends (fold with_deed m ds).kept (last_cut (fold with_deed m ds).since) (fold with_cut i ds)

    more : (e : Deed) → risen_in e ≡ None → Ends l.kept (last_cut (l.since ++ e ∷ [])) (with_cut h e)
    more e stays =
        subst (λ (c : Holding). Ends l.kept c (with_cut h e)) (sym (fold-append with_cut nothing l.since (e ∷ [])))
        (ends_on l.kept (last_cut l.since) h e stays ends)

    by : (e : Deed) → All → Ends (fold with_deed l (e ∷ ds)).kept (last_cut (fold with_deed l (e ∷ ds)).since)
        (fold with_cut h (e ∷ ds))
    by (Takes given) rest = rest (lived l (Takes given ∷ [])) (with_cut h (Takes given)) (more (Takes given) refl)
    by (Writes written) rest = rest (lived l (Writes written ∷ [])) (with_cut h (Writes written))
        (more (Writes written) refl)
    by (Sends number to message) rest = rest (lived l (Sends number to message ∷ []))
        (with_cut h (Sends number to message)) (more (Sends number to message) refl)
    by (Tells reply) rest = rest (lived l (Tells reply ∷ [])) (with_cut h (Tells reply)) (more (Tells reply) refl)
    by (Falls cause pending) rest = rest (lived l (Falls cause pending ∷ [])) (with_cut h (Falls cause pending))
        (more (Falls cause pending) refl)
    by (Rises records) rest = rest (begun_with records) (with_cut h (Rises records)) (ends_anew records h)

pub held_present : (ds : List Deed) → held_shown ds ≡ held_in (lifetime ds)
held_present ds =
    ap (λ (l : Lifetime). held_by l.kept (record { before = l.since; since = (last_cut ds).since })) ends.before
    ∙ ap (λ (v : List Deed). held_by (lifetime ds).kept
    (record { before = (last_cut (lifetime ds).since).before; since = v })) ends.since
  where
    ends : Ends (lifetime ds).kept (last_cut (lifetime ds).since) (last_cut ds)
    ends = ends_all (begun_with []) nothing ds (record { before = refl; since = refl; none = tt })
