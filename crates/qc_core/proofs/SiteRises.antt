-- A site that rose, once its rising turn is posted: what its deeds show is what its records give, with that of the
-- rise. And that turn is due.
use Rattle.std.proofs.Common.{◌≡◌, ℕ, ◌+◌, max, Bool, false, cond, List, [], ◌∷◌, ◌++◌, Option, Some, None, refl, sym}
use Rattle.std.proofs.Common.{ap, ◌∙◌, subst}
use Rattle.std.specs.Prelude.{fold, option_to_list}
use Rattle.std.specs.List.{filter_map, flat_map}
use Rattle.std.specs.Option.{option_map_or}
use Rattle.std.proofs.lemmas.List.{append-nil}
use Rattle.std.proofs.lemmas.List.Sums.{fold-append}
use Rattle.qc_stamp.specs.declared.stamp.TxId.{TxId}
use Rattle.qc_stamp.specs.Vocabulary.{first_life}
use Rattle.qc_entry.specs.declared.record.Prepared.{Prepared}
use Rattle.qc_decl.specs.declared.declaration.Declaration.{Declaration}
use Rattle.qc_msg.specs.declared.record.Record.{Record}
use Rattle.qc_msg.specs.declared.record.Record.TheVariants as journals
use Rattle.qc_msg.specs.declared.turn.Turn.{Turn}
use Rattle.qc_msg.specs.Vocabulary.{Deed, Rises, first_epoch, turn_deeds, writes_of, written_in}
use Rattle.qc_promise.specs.Vocabulary.{Grant, Holding, Lifetime, Lines, clock_shown, clocks_at, clocks_in_record}
use Rattle.qc_promise.specs.Vocabulary.{closed_by, epoch_by, held_shown, is_over, last_cut, left_of, life_by, lifetime}
use Rattle.qc_promise.specs.Vocabulary.{lines_from, lines_shown, no_lines, prepared_shown, promises_of, promises_since}
use Rattle.qc_promise.specs.Vocabulary.{all_arrived, arrived_from, recorded_by, records_in, redeems, risen_with}
use Rattle.qc_promise.specs.Vocabulary.{with_cut, with_promise}
use Rattle.qc_entry.specs.Vocabulary.{union}
use Rattle.qc_promise.specs.SiteDue.{rising_turn}
use Rattle.qc_promise.proofs.Lifetimes.{life_after, life_begins}
use Rattle.qc_site.specs.Vocabulary.{held_by}
use Rattle.qc_recover.specs.Vocabulary.{inquiries, keeps, kept_by, nothing_kept, site_by, site_of, site_rises}
use Rattle.qc_core.proofs.SiteFits.{Does}
use Rattle.qc_core.proofs.SiteGrowth.{recorded-more}
use Rattle.qc_core.proofs.SiteKept.{clock_by_records, closed_by_records, epoch_by_records, life_by_records}
use Rattle.qc_core.proofs.SiteKept.{lines_by_records, promises_by_records}
use Rattle.qc_core.proofs.SiteHolds.{AreNoCuts, held_in, hold, none_ended, remaining, talk_uncut, uncut, whole}
use Rattle.qc_core.proofs.SitePosts.{arrived_written, post_arrived}
use Rattle.qc_core.proofs.SitePosts.{clocks_by, lines_written, post_clocks, post_ends, post_frees, post_lines}
use Rattle.qc_core.proofs.SitePosts.{post_prepares, post_records, post_rises, post_stands, promises_by, talk}
use Rattle.qc_core.proofs.SiteShown.{same_state, shown}
use Rattle.qc_promise.proofs.Posts.{learning-nil}

none_over : (ds : List Deed) → ((tx : TxId) → is_over tx ds ≡ false) → (ps : List Prepared) → left_of ds ps ≡ ps
none_over ds none [] = refl
none_over ds none (p ∷ ps) = ap (λ (b : Bool). cond b [] (p ∷ []) ++ left_of ds ps) (none p.tx)
    ∙ ap (λ (v : List Prepared). p ∷ v) (none_over ds none ps)

rise_promises : (before : List Deed) (rs : List Record)
    → prepared_shown (before ++ Rises rs ∷ []) ≡ (kept_by rs).promises
rise_promises before rs =
    ap (λ (l : Lifetime). left_of l.since (promises_of l.kept) ++ promises_since l.since) (life_begins before rs)
    ∙ append-nil (left_of [] (promises_of rs))
    ∙ none_over [] (λ tx. refl) (promises_of rs)
    ∙ promises_by_records rs

-- the turn of a rise, whose record is Life
module _ (site : ℕ) (before : List Deed) (rs : List Record) (n : ℕ) (turn : Turn)
    (life : turn.write ≡ Some journals.Life) where
  abbrev post : List Deed
  post = turn_deeds n turn

  abbrev now : Lifetime
  now = record { kept = rs; since = post }

  life_now : lifetime (before ++ Rises rs ∷ post) ≡ now
  life_now = life_after before rs post (post_rises n turn)

  records_now : records_in (before ++ Rises rs ∷ post) ≡ rs ++ journals.Life ∷ []
  records_now =
      ap (λ (l : Lifetime). l.kept ++ filter_map written_in l.since) life_now
      ∙ ap (λ (v : List Record). rs ++ v) (post_records n turn ∙ ap option_to_list life)

  by_records : {A : Type 0} (f : A → Record → A) (a : A)
      → fold f a (records_in (before ++ Rises rs ∷ post)) ≡ f (fold f a rs) journals.Life
  by_records f a = ap (λ (v : List Record). fold f a v) records_now ∙ fold-append f a rs (journals.Life ∷ [])

  recorded_after : recorded_by (records_in (before ++ Rises rs ∷ post))
      ≡ record { began = (kept_by rs).began; since = (kept_by rs).lines }
  recorded_after =
      ap recorded_by records_now
      ∙ recorded-more no_lines [] rs (journals.Life ∷ [])
      ∙ learning-nil (recorded_by rs)
      ∙ lines_by_records rs

  lines_after : lines_shown (before ++ Rises rs ∷ post)
      ≡ record { began = (kept_by rs).began; since = (kept_by rs).lines }
  lines_after =
      ap (λ (l : Lifetime). lines_from (recorded_by l.kept) l.kept l.since) life_now
      ∙ post_lines n turn (recorded_by rs) rs
      ∙ ap (λ (w : Option Record). option_map_or (lines_written (recorded_by rs) rs) w (recorded_by rs)) life
      ∙ learning-nil (recorded_by rs)
      ∙ lines_by_records rs

  arrived_after : all_arrived (before ++ Rises rs ∷ post) ≡ union (kept_by rs).began (kept_by rs).lines
  arrived_after =
      ap (λ (l : Lifetime). arrived_from (risen_with (recorded_by l.kept)) (recorded_by l.kept) l.kept l.since) life_now
      ∙ post_arrived n turn (risen_with (recorded_by rs)) (recorded_by rs) rs
      ∙ ap (λ (w : Option Record). option_map_or (arrived_written (risen_with (recorded_by rs)) (recorded_by rs) rs) w
      (risen_with (recorded_by rs))) life
      ∙ append-nil (risen_with (recorded_by rs))
      ∙ ap risen_with (lines_by_records rs)

  post_uncut : AreNoCuts post
  post_uncut = subst (λ (w : Option Record). AreNoCuts (writes_of w ++ talk n turn.sends turn.told)) (sym life)
      (refl, talk_uncut n turn.sends turn.told)

  held_after : held_shown (before ++ Rises rs ∷ post) ≡ held_by (kept_by rs).promises
  held_after =
      ap held_in (fold-append with_cut (record { before = []; since = [] }) before (Rises rs ∷ post)
      ∙ uncut cut post post_uncut)
      ∙ ap (λ (v : List Grant). fold hold (fold with_promise []
      (remaining (record { before = cut.before; since = post }))) v) (post_stands n turn)
      ∙ ap (λ (v : List Prepared). fold with_promise [] v)
      (none_ended post (post_ends n turn) (prepared_shown cut.before))
      ∙ ap (λ (v : List Deed). fold with_promise [] (prepared_shown v))
      (ap (λ (v : List Deed). v ++ Rises rs ∷ []) (whole before))
      ∙ ap (λ (v : List Prepared). fold with_promise [] v) (rise_promises before rs)
    where
      cut : Holding
      cut = record { before = (last_cut before).before ++ (last_cut before).since ++ Rises rs ∷ []; since = [] }

  none_freed : (tx : TxId) → is_over tx post ≡ false
  none_freed tx = post_frees n turn tx ∙ ap (λ (w : Option Record). option_map_or (redeems tx) w false) life

  prepared_after : prepared_shown (before ++ Rises rs ∷ post) ≡ (kept_by rs).promises
  prepared_after =
      ap (λ (l : Lifetime). left_of l.since (promises_of l.kept) ++ promises_since l.since) life_now
      ∙ ap (λ (v : List Prepared). left_of post (promises_of rs) ++ v) (post_prepares n turn ∙ ap promises_by life)
      ∙ append-nil (left_of post (promises_of rs))
      ∙ none_over post none_freed (promises_of rs)
      ∙ promises_by_records rs

  clock_after : clock_shown (before ++ Rises rs ∷ post) ≡ (kept_by rs).clock
  clock_after =
      ap (λ (l : Lifetime). fold max 0 (flat_map clocks_in_record l.kept ++ flat_map clocks_at l.since)) life_now
      ∙ ap (λ (v : List ℕ). fold max 0 (flat_map clocks_in_record rs ++ v)) (post_clocks n turn ∙ ap clocks_by life)
      ∙ ap (fold max 0) (append-nil (flat_map clocks_in_record rs))
      ∙ clock_by_records rs

  pub risen_shown : shown site (before ++ Rises rs ∷ post) ≡ site_of site (rs ++ journals.Life ∷ [])
  risen_shown =
      same_state (shown site (before ++ Rises rs ∷ post)) (site_by site (keeps (kept_by rs) journals.Life)) refl
      (by_records life_by first_life ∙ ap (λ (k : ℕ). k + 1) (life_by_records rs))
      (by_records epoch_by first_epoch ∙ epoch_by_records rs)
      (by_records closed_by None ∙ closed_by_records rs)
      (ap (λ (l : Lines). l.began) lines_after)
      (ap (λ (l : Lines). l.since) lines_after)
      (ap (λ (l : Lines). l.since) recorded_after)
      arrived_after
      held_after prepared_after clock_after
      ∙ ap (site_by site) (sym (fold-append keeps nothing_kept rs (journals.Life ∷ [])))

pub rising_does : (decl : Declaration) (site : ℕ) (before : List Deed) (rs : List Record)
    → Does (site_rises decl site rs).turn (rising_turn decl (before ++ Rises rs ∷ []))
rising_does decl site before rs =
    record {
      same = ap (λ (ps : List Prepared). record
          { write = Some journals.Life; sends = inquiries decl ps; failed_sends = [] }) (sym (rise_promises before rs));
      untold = refl;
      failed_untold = refl;
    }
