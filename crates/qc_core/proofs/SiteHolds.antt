-- What is held at a site once it has taken one more input and posted a turn: where its record closes an epoch or begins
-- one, what is promised then; and else what was held, but for what ended, with what is granted.
use Rattle.std.proofs.Common.{◌≡◌, ℕ, ◌+◌, ◌||◌, not, Bool, true, false, cond, List, [], ◌∷◌, ◌++◌, Option, Some, None}
use Rattle.std.proofs.Common.{is_some, refl, sym, ap, ◌∙◌, append_assoc}
use Rattle.std.specs.Prelude.{filter, fold}
use Rattle.std.specs.Option.{option_map_or}
use Rattle.std.proofs.lemmas.List.{append-nil}
use Rattle.std.proofs.lemmas.List.Folds.{list_any-append}
use Rattle.std.proofs.lemmas.List.Sums.{fold-append}
use Rattle.qc_stamp.specs.declared.stamp.TxId.{TxId}
use Rattle.qc_entry.specs.declared.record.Prepared.{Prepared}
use Rattle.qc_lock.specs.declared.held.Held.{Held}
use Rattle.qc_msg.specs.declared.record.Record.{Record}
use Rattle.qc_msg.specs.declared.reply.Reply.{Reply}
use Rattle.qc_msg.specs.declared.step.Input.{Input}
use Rattle.qc_msg.specs.declared.turn.Posting.{Posting}
use Rattle.qc_msg.specs.declared.turn.Turn.{Turn}
use Rattle.qc_msg.specs.Vocabulary.{Deed, Takes, Writes, close_in, heard_in, install_in, turn_deeds, writes_of}
use Rattle.qc_promise.specs.Vocabulary.{Grant, Holding, cuts, frees, held_shown, holding, is_decision, is_ended}
use Rattle.qc_promise.specs.Vocabulary.{is_final, last_cut, prepared_shown, standing, standing_by, with_cut}
use Rattle.qc_promise.specs.Vocabulary.{with_promise}
use Rattle.qc_core.proofs.SiteGrowth.{lasts, standing-more, stays}
use Rattle.qc_core.proofs.SitePosts.{post_frees, post_stands, promises_by, talk, talk_ends, talk_stands}
use Rattle.qc_core.proofs.SitePrepares.{filter_same}
use Rattle.qc_core.proofs.SiteRecorded.{more_prepared, posted, prepared_then}

abbrev pub hold : List Held → Grant → List Held
hold held g = holding held g.tx g.want

-- a request that stands, of an input
abbrev pub standing_given : Input → List Deed → List Grant
standing_given g after = option_map_or (standing_by after) (heard_in g) []

-- the promises whose transactions didn't end since: they hold what they name

abbrev pub remains : List Deed → Prepared → Bool
remains since p = not (is_ended p.tx since)

abbrev pub remaining : Holding → List Prepared
remaining h = filter (remains h.since) (prepared_shown h.before)

-- what is held, by the deeds up to the last cut and those since
abbrev pub held_in : Holding → List Held
held_in h = fold hold (fold with_promise [] (remaining h)) (standing h.since)

-- those that remain, as more is done
remains-more : (xs ys : List Deed) (ps : List Prepared)
    → filter (remains (xs ++ ys)) ps ≡ filter (remains ys) (filter (remains xs) ps)
remains-more xs ys [] = refl
remains-more xs ys (p ∷ ps) =
    ap (λ (b : Bool). cond (not b) (p ∷ filter (remains (xs ++ ys)) ps) (filter (remains (xs ++ ys)) ps))
    (list_any-append (is_decision is_final p.tx) xs ys)
    ∙ by (is_ended p.tx xs) (is_ended p.tx ys) refl (remains-more xs ys ps)
  where
    by : (b c : Bool) → is_ended p.tx ys ≡ c
        → filter (remains (xs ++ ys)) ps ≡ filter (remains ys) (filter (remains xs) ps)
        → cond (not (b || c)) (p ∷ filter (remains (xs ++ ys)) ps) (filter (remains (xs ++ ys)) ps) ≡ filter
        (remains ys) (cond (not b) (p ∷ filter (remains xs) ps) (filter (remains xs) ps))
    by true c is rest = rest
    by false true is rest = rw is rest
    by false false is rest = rw is (ap (λ (v : List Prepared). p ∷ v) rest)

pub none_ended : (ds : List Deed) → ((tx : TxId) → is_ended tx ds ≡ false) → (ps : List Prepared)
    → filter (remains ds) ps ≡ ps
none_ended ds none [] = refl
none_ended ds none (p ∷ ps) = ap (λ (b : Bool). cond (not b) (p ∷ filter (remains ds) ps) (filter (remains ds) ps))
    (none p.tx) ∙ ap (λ (v : List Prepared). p ∷ v) (none_ended ds none ps)

-- cuts

abbrev pub AreNoCuts : List Deed → Type 0
AreNoCuts [] = Unit {0}
AreNoCuts (d ∷ ds) = (cuts d ≡ false) × AreNoCuts ds

pub uncut : (h : Holding) (ds : List Deed) → AreNoCuts ds → fold with_cut h ds ≡ record h { since = h.since ++ ds }
uncut h [] none = ap (λ (v : List Deed). record h { since = v }) (sym (append-nil h.since))
uncut h (d ∷ ds) none =
    ap (λ (b : Bool). fold with_cut (cond b (record { before = h.before ++ h.since ++ d ∷ []; since = [] })
    (record h { since = h.since ++ d ∷ [] })) ds) none.0
    ∙ uncut (record h { since = h.since ++ d ∷ [] }) ds none.1
    ∙ ap (λ (v : List Deed). record h { since = v }) (append_assoc h.since (d ∷ []) ds)

pub talk_uncut : (n : ℕ) (ps : List Posting) (told : Option Reply) → AreNoCuts (talk n ps told)
talk_uncut n [] None = tt
talk_uncut n [] (Some r) = (refl, tt)
talk_uncut n (p ∷ ps) told = (refl, talk_uncut (n + 1) ps told)

-- the deeds up to the last cut, and those since, are all deeds

whole_from : (h : Holding) (ds : List Deed)
    → (fold with_cut h ds).before ++ (fold with_cut h ds).since ≡ (h.before ++ h.since) ++ ds
whole_from h [] = sym (append-nil (h.before ++ h.since))
whole_from h (d ∷ ds) = by (cuts d) (λ (v : Holding). whole_from v ds)
  where
    by : (b : Bool) → ((v : Holding) → (fold with_cut v ds).before ++ (fold with_cut v ds).since ≡ (v.before ++ v.since)
        ++ ds)
        → (fold with_cut (cond b (record { before = h.before ++ h.since ++ d ∷ []; since = [] })
        (record h { since = h.since ++ d ∷ [] })) ds).before
        ++ (fold with_cut (cond b (record { before = h.before ++ h.since ++ d ∷ []; since = [] })
        (record h { since = h.since ++ d ∷ [] })) ds).since
        ≡ (h.before ++ h.since) ++ d ∷ ds
    by true rest =
        rest (record { before = h.before ++ h.since ++ d ∷ []; since = [] })
        ∙ ap (λ (v : List Deed). v ++ ds) (append-nil (h.before ++ h.since ++ d ∷ []))
        ∙ append_assoc (h.before ++ h.since) (d ∷ []) ds
    by false rest =
        rest (record h { since = h.since ++ d ∷ [] })
        ∙ ap (λ (v : List Deed). v ++ ds) (sym (append_assoc h.before h.since (d ∷ [])))
        ∙ append_assoc (h.before ++ h.since) (d ∷ []) ds

pub whole : (ds : List Deed) → (last_cut ds).before ++ (last_cut ds).since ≡ ds
whole ds = whole_from (record { before = []; since = [] }) ds

-- whether a record closes an epoch or begins one

abbrev pub cut_by : Record → Bool
cut_by w = is_some (close_in w) || is_some (install_in w)

abbrev pub cuts_by : Option Record → Bool
cuts_by w = option_map_or cut_by w false

module _ (ds : List Deed) (g : Input) (n : ℕ) (turn : Turn) where
  abbrev last : Holding
  last = last_cut ds

  abbrev said : List Deed
  said = talk n turn.sends turn.told

  abbrev anew : Option Record → Holding
  anew w = record { before = last.before ++ (last.since ++ Takes g ∷ []) ++ (writes_of w ++ []); since = said }

  abbrev on : Option Record → Holding
  on w = record { before = last.before; since = last.since ++ Takes g ∷ (writes_of w ++ said) }

  cut_then : (w : Option Record) → fold with_cut last (Takes g ∷ (writes_of w ++ said)) ≡ cond (cuts_by w) (anew w)
      (on w)
  cut_then None = uncut last (Takes g ∷ said) (refl, talk_uncut n turn.sends turn.told)
  cut_then (Some w) = by (cut_by w) refl
    where
      by : (b : Bool) → cut_by w ≡ b → fold with_cut last (Takes g ∷ Writes w ∷ said) ≡ cond b (anew (Some w))
          (on (Some w))
      by true is =
          ap (λ (b : Bool). fold with_cut (cond b (record
          { before = last.before ++ (last.since ++ Takes g ∷ []) ++ Writes w ∷ []; since = [] })
          (record last { since = (last.since ++ Takes g ∷ []) ++ Writes w ∷ [] })) said) is
          ∙ uncut (record { before = last.before ++ (last.since ++ Takes g ∷ []) ++ Writes w ∷ []; since = [] }) said
          (talk_uncut n turn.sends turn.told)
      by false is = uncut last (Takes g ∷ Writes w ∷ said) (refl, (is, talk_uncut n turn.sends turn.told))

  -- no cut: what was held, but for what ended, with what is granted

  abbrev pub held_on : List Held
  held_on = fold hold (fold hold (fold with_promise [] (filter (remains (posted ds g n turn)) (remaining last)))
      (filter (stays (posted ds g n turn)) (standing last.since))) (standing_given g (turn_deeds n turn))

  goes_on : held_in (on turn.write) ≡ held_on
  goes_on =
      ap (λ (v : List Prepared). fold hold (fold with_promise [] v) (standing (last.since ++ posted ds g n turn)))
      (remains-more last.since (posted ds g n turn) (prepared_shown last.before))
      ∙ ap (λ (v : List Grant). fold hold kept v) (standing-more (posted ds g n turn) refl last.since)
      ∙ fold-append hold kept (filter (stays (posted ds g n turn)) (standing last.since))
      (standing (posted ds g n turn))
      ∙ ap (λ (v : List Grant). fold hold (fold hold kept (filter (stays (posted ds g n turn)) (standing last.since)))
      (standing_given g (turn_deeds n turn) ++ v)) (post_stands n turn)
      ∙ ap (λ (v : List Grant). fold hold (fold hold kept (filter (stays (posted ds g n turn)) (standing last.since)))
      v) (append-nil (standing_given g (turn_deeds n turn)))
    where
      kept : List Held
      kept = fold with_promise [] (filter (remains (posted ds g n turn)) (remaining last))

  -- a cut: what is promised then

  abbrev wrote : Turn
  wrote = record turn { sends = []; told = None }

  promised_anew : prepared_shown (ds ++ posted ds g n wrote) ≡ prepared_then ds g n turn
  promised_anew = more_prepared ds g n wrote
      ∙ ap (λ (v : List Prepared). v ++ promises_by turn.write)
      (filter_same (lasts (posted ds g n wrote)) (lasts (posted ds g n turn)) same (prepared_shown ds))
    where
      same : (p : Prepared) → lasts (posted ds g n wrote) p ≡ lasts (posted ds g n turn) p
      same p = ap (λ (b : Bool). not (frees p.tx (Takes g) || b))
          (post_frees n wrote p.tx ∙ sym (post_frees n turn p.tx))

  begins_anew : held_in (anew turn.write) ≡ fold with_promise [] (prepared_then ds g n turn)
  begins_anew =
      ap (λ (v : List Grant). fold hold (fold with_promise [] (remaining (anew turn.write))) v)
      (talk_stands n turn.sends turn.told)
      ∙ ap (λ (v : List Prepared). fold with_promise [] v)
      (none_ended said (λ tx. talk_ends tx n turn.sends turn.told) (prepared_shown (anew turn.write).before))
      ∙ ap (λ (v : List Deed). fold with_promise [] (prepared_shown v)) deeds_so_far
      ∙ ap (λ (v : List Prepared). fold with_promise [] v) promised_anew
    where
      deeds_so_far : (anew turn.write).before ≡ ds ++ posted ds g n wrote
      deeds_so_far =
          ap (λ (v : List Deed). v ++ (writes_of turn.write ++ []))
          (sym (append_assoc last.before last.since (Takes g ∷ [])))
          ∙ append_assoc (last.before ++ last.since) (Takes g ∷ []) (writes_of turn.write ++ [])
          ∙ ap (λ (v : List Deed). v ++ Takes g ∷ (writes_of turn.write ++ [])) (whole ds)

  abbrev pub held_then : List Held
  held_then = cond (cuts_by turn.write) (fold with_promise [] (prepared_then ds g n turn)) held_on

  pub more_held : held_shown (ds ++ posted ds g n turn) ≡ held_then
  more_held = ap held_in (fold-append with_cut (record { before = []; since = [] }) ds (posted ds g n turn)
      ∙ cut_then turn.write) ∙ by (cuts_by turn.write)
    where
      by : (b : Bool) → held_in (cond b (anew turn.write) (on turn.write)) ≡ cond b
          (fold with_promise [] (prepared_then ds g n turn)) held_on
      by true = begins_anew
      by false = goes_on
